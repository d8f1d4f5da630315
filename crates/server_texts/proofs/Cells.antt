-- Which hosts make a cell, and which stand in it.
use Rattle.std.proofs.Common.{◌≡◌, ◌≢◌, ℕ, zero, suc, ◌+◌, ◌<◌, ◌≤◌, ◌==◌, cond, Bool, true, false, Option, Some, None, Result, Ok, Err, List, [], ◌∷◌, length, slice_get, refl, ap, sym, ◌∙◌, subst, IsPermutation, map, arith}
use Rattle.std.specs.Prelude.{◌&&◌, nat_le, if◌then◌else◌}
use Rattle.std.specs.List.{list_all}
use Rattle.std.proofs.lemmas.List.Sorted.{sum_by-IsPermutation, length_permutation}
use Rattle.std.proofs.lemmas.List.Sums.{sum_by-cons}
use Rattle.std.proofs.lemmas.Bool.Decides.{nat_tests}
use Rattle.ubik_types.specs.declared.hosts.Host.{Host}
use Rattle.ubik_types.specs.declared.hosts.CellFault.{CellFault}
use Rattle.ubik_types.specs.declared.hosts.CellFault.TheVariants as fault
use Rattle.ubik_types.specs.Hosts.{IsAscending, IsCell, times}
use Rattle.ubik_types.specs.Refusals.{Refuses}
use Rattle.server_texts.specs.declared.words.Database.{Database}
use Rattle.server_texts.specs.declared.words.ServerWords.{ServerWords}
use Rattle.server_texts.specs.declared.words.WordsFault.{WordsFault}
use Rattle.server_texts.specs.declared.words.WordsFault.TheVariants.{Word, NoMemory}
use Rattle.host_words.specs.Hosts.{is_address, named_hosts, parts_of}
use Rattle.server_texts.specs.Words.{Means, MeansCell, Named, are_distinct, behind_hosts, cell_hosts, fault_of, hosts_of, make_cell, no_more, refused}

stands_first : (host a : Host) (hosts : List Host) → times host (a ∷ hosts) ≡ cond (a.0 == host.0) 1 0 + times host hosts
stands_first host a hosts = sum_by-cons (λ (other : Host). cond (other.0 == host.0) 1 0) a hosts

-- a host that is not above the first stands nowhere behind it
none_behind : (a : Host) (hosts : List Host) → IsAscending (a ∷ hosts) → (host : Host) → host.0 ≤ a.0 → times host hosts ≡ 0
none_behind a [] up host low = refl
none_behind a (b ∷ hosts) up host low =
    let first = stands_first host b hosts in
    let rest = none_behind b hosts up.1 host (omega (arith, up.0)) in
    let apart : host.0 < b.0 = omega (arith, up.0) in
    grind (arith, nat_tests)

behind_first : (a : Host) (hosts : List Host) → IsAscending (a ∷ hosts) → IsAscending hosts
behind_first a [] up = tt
behind_first a (b ∷ hosts) up = up.1

once_in_cell : (hosts : List Host) → IsAscending hosts → (host : Host) → times host hosts ≤ 1
once_in_cell [] up host = omega arith
once_in_cell (a ∷ hosts) up host =
    let first = stands_first host a hosts in
    let rest = once_in_cell hosts (behind_first a hosts up) host in
    let none : host.0 ≤ a.0 → times host hosts ≡ 0 = none_behind a hosts up host in
    grind (arith, nat_tests)

as_often : (hosts cell : List Host) → IsPermutation hosts cell → (host : Host) → times host cell ≡ times host hosts
as_often hosts cell same host = sum_by-IsPermutation (λ (other : Host). cond (other.0 == host.0) 1 0) hosts cell same

each_passes : (p : Host → Bool) (hosts : List Host) → ((host : Host) → p host ≡ true) → list_all p hosts ≡ true
each_passes p [] all = refl
each_passes p (a ∷ hosts) all = let here = all a in let rest = each_passes p hosts all in cc

same_host : (a b : Host) → a.0 ≡ b.0 → a ≡ b
same_host a b e = ap (λ (n : ℕ). let host : Host = record { 0 = n } in host) e

-- a host that stands in the list fails
one_fails : (p : Host → Bool) (host : Host) → p host ≡ false → (hosts : List Host) → 1 ≤ times host hosts → list_all p hosts ≡ false
one_fails p host fails [] some = absurd (omega arith)
one_fails p host fails (a ∷ hosts) some =
    let first = stands_first host a hosts in
    let here : a.0 ≡ host.0 → p a ≡ false = λ e. ap p (same_host a host e) ∙ fails in
    let rest : 1 ≤ times host hosts → list_all p hosts ≡ false = one_fails p host fails hosts in
    grind (arith, nat_tests)

is_within : (n : ℕ) → n ≤ 1 → nat_le n 1 ≡ true
is_within n small = grind (arith, nat_tests)

is_past : (n : ℕ) → 2 ≤ n → nat_le n 1 ≡ false
is_past n large = grind (arith, nat_tests)

three : (a b c : Bool) → a ≡ true → b ≡ true → c ≡ true → (a && (b && c)) ≡ true
three a b c first second third = cc

last_fails : (a b c : Bool) → c ≡ false → (a && (b && c)) ≡ false
last_fails true true c fails = fails
last_fails true false c fails = refl
last_fails false b c fails = refl

-- what makes a cell are 1 to 20 distinct hosts
cell_is_made : (hosts cell : List Host) → IsCell cell → IsPermutation hosts cell → make_cell hosts ≡ true
cell_is_made hosts cell is same =
    let long = length_permutation hosts cell same in
    let few : length cell ≤ 20 = is.not_more in
    let some = is.some in
    three _ _ _ (grind (arith, nat_tests)) (grind (arith, nat_tests))
    (each_passes (λ host. nat_le (times host hosts) 1) hosts
    (λ host. is_within (times host hosts) (omega (arith, once_in_cell cell is.ascending host, as_often hosts cell same host))))

-- hosts that are refused are none, too many, or not distinct
cell_is_refused : (hosts : List Host) (why : CellFault) → Refuses hosts why → why ≢ fault.NoMemory → make_cell hosts ≡ false
cell_is_refused hosts fault.Empty refuses other = ap make_cell refuses
cell_is_refused hosts (fault.TooMany count) refuses other =
    let many : 20 < length hosts = refuses.0 in grind (arith, nat_tests)
cell_is_refused hosts (fault.Repeated host) refuses other =
    let twice = refuses.1.repeated in
    let fails : are_distinct hosts ≡ false = one_fails (λ host. nat_le (times host hosts) 1) host (is_past (times host hosts) twice) hosts (omega (arith, twice)) in
    last_fails _ _ _ fails
cell_is_refused hosts fault.NoMemory refuses other = absurd (other refl)

-- hosts of which a cell was made
pub cell_made : (hosts cell : List Host) → IsCell cell → IsPermutation hosts cell → MeansCell (cell_hosts hosts) (Ok cell)
cell_made hosts cell is same =
    let P : Bool → Type 0 = λ b. MeansCell (if b then Some hosts else None) (Ok cell) in
    subst P (sym (cell_is_made hosts cell is same)) (is, same)

short_cell : (o : Option (List Host)) → MeansCell o (Err NoMemory)
short_cell None = λ other. absurd (other refl)
short_cell (Some hosts) = refl

no_cell : (hosts : List Host) → make_cell hosts ≡ false → MeansCell (cell_hosts hosts) (Err (Word 4))
no_cell hosts fails =
    let P : Bool → Type 0 = λ b. MeansCell (if b then Some hosts else None) (Err (Word 4)) in subst P (sym fails) (λ other. refl)

refused_as : (hosts : List Host) (why : CellFault) → Refuses hosts why → MeansCell (cell_hosts hosts) (Err (fault_of why))
refused_as hosts fault.Empty refuses = no_cell hosts (cell_is_refused hosts fault.Empty refuses (λ e. cc))
refused_as hosts (fault.TooMany count) refuses = no_cell hosts (cell_is_refused hosts (fault.TooMany count) refuses (λ e. cc))
refused_as hosts (fault.Repeated host) refuses = no_cell hosts (cell_is_refused hosts (fault.Repeated host) refuses (λ e. cc))
refused_as hosts fault.NoMemory refuses = short_cell (cell_hosts hosts)

-- hosts of which none was made
pub cell_not_made : (hosts : List Host) (why : CellFault) (given : WordsFault) → given ≡ fault_of why → Refuses hosts why
    → MeansCell (cell_hosts hosts) (Err given)
cell_not_made hosts why given is refuses =
    let P : WordsFault → Type 0 = λ f. MeansCell (cell_hosts hosts) (Err f) in subst P (sym is) (refused_as hosts why refuses)

-- a text whose parts are addresses
pub all_addresses : (text : List ℕ) (list seen : List Host) (r : Result (List Host) WordsFault) → list_all is_address (parts_of text) ≡ true
    → list ≡ named_hosts text → seen ≡ list → MeansCell (cell_hosts seen) r → MeansCell (hosts_of text) r
unfolding hosts_of
all_addresses text list seen r all named same means =
    let P : List Host → Type 0 = λ xs. MeansCell (cell_hosts xs) r in
    let Q : Bool → Type 0 = λ b. MeansCell (if b then cell_hosts (named_hosts text) else None) r in
    subst Q (sym all) (subst P (same ∙ named) means)

-- a text one of whose parts is no address
pub no_addresses : (text : List ℕ) → list_all is_address (parts_of text) ≡ false → MeansCell (hosts_of text) (Err (Word 4))
unfolding hosts_of
no_addresses text none =
    let Q : Bool → Type 0 = λ b. MeansCell (if b then cell_hosts (named_hosts text) else None) (Err (Word 4)) in
    subst Q (sym none) (λ other. refl)

-- whether a host stands in a cell
stands : (cell : List Host) (i : ℕ) (own : Host) → slice_get cell i ≡ Some own → 1 ≤ times own cell
stands [] i own at = cc
stands (a ∷ cell) zero own at =
    let same : a ≡ own = cc in let first = stands_first own a cell in let number = ap (λ (h : Host). h.0) same in grind (arith, nat_tests)
stands (a ∷ cell) (suc i) own at =
    let first = stands_first own a cell in let rest = stands cell i own at in omega arith

absent : (cell : List Host) (own : Host) → ((i : ℕ) → slice_get cell i ≡ Some own → ⊥) → times own cell ≡ 0
absent [] own nowhere = refl
absent (a ∷ cell) own nowhere =
    let first = stands_first own a cell in
    let rest : times own cell ≡ 0 = absent cell own (λ i at. nowhere (suc i) at) in
    let apart : a.0 ≡ own.0 → ⊥ = λ e. nowhere 0 (ap (λ (h : Host). Some h) (same_host a own e)) in
    grind (arith, nat_tests)

is_some : (n : ℕ) → 1 ≤ n → nat_le 1 n ≡ true
is_some n some = grind (arith, nat_tests)

is_none : (n : ℕ) → n ≡ 0 → nat_le 1 n ≡ false
is_none n none = grind (arith, nat_tests)

-- an own host that is not listed
pub not_listed : (database : Database) (own : Host) (hosts cell : List Host) (words : List (List ℕ)) → IsPermutation hosts cell
    → ((i : ℕ) → slice_get cell i ≡ Some own → ⊥) → Means (behind_hosts database own words (Some hosts)) (Err (Word 3))
not_listed database own hosts cell words same nowhere =
    let test : nat_le 1 (times own hosts) ≡ false =
    is_none (times own hosts) (sym (as_often hosts cell same own) ∙ absent cell own nowhere) in
    let P : Bool → Type 0 =
    λ b. Means (if b then no_more (record { database = database; hosts = hosts; own = own }) words else refused 3) (Err (Word 3)) in
    subst P (sym test) (λ other. refl)

-- an own host that is listed
listed : (database : Database) (own : Host) (hosts cell : List Host) (words : List (List ℕ)) (i : ℕ) (r : Result ServerWords WordsFault)
    → IsPermutation hosts cell → slice_get cell i ≡ Some own
    → Means (no_more (record { database = database; hosts = hosts; own = own }) words) r → Means (behind_hosts database own words (Some hosts)) r
listed database own hosts cell words i r same at means =
    let test : nat_le 1 (times own hosts) ≡ true =
    is_some (times own hosts) (omega (arith, as_often hosts cell same own, stands cell i own at)) in
    let P : Bool → Type 0 =
    λ b. Means (if b then no_more (record { database = database; hosts = hosts; own = own }) words else refused 3) r in
    subst P (sym test) means

-- want of memory is free
short : (m : Result Named WordsFault) → Means m (Err NoMemory)
short (Ok named) = refl
short (Err fault) = λ other. absurd (other refl)

-- a fault of HOSTS is one of the words
pub hosts_refused : (database : Database) (own : Host) (words : List (List ℕ)) (o : Option (List Host)) (fault : WordsFault)
    → MeansCell o (Err fault) → Means (behind_hosts database own words o) (Err fault)
hosts_refused database own words None fault means = means
hosts_refused database own words (Some hosts) fault means =
    let P : WordsFault → Type 0 = λ f. Means (behind_hosts database own words (Some hosts)) (Err f) in
    subst P (sym means) (short (behind_hosts database own words (Some hosts)))

-- hosts that were read are those of the words
pub hosts_named : (database : Database) (own : Host) (words : List (List ℕ)) (o : Option (List Host)) (cell : List Host) (r : Result ServerWords WordsFault)
    → MeansCell o (Ok cell) → ((hosts : List Host) → IsPermutation hosts cell → Means (behind_hosts database own words (Some hosts)) r)
    → Means (behind_hosts database own words o) r
hosts_named database own words None cell r means all = absurd means
hosts_named database own words (Some hosts) cell r means all = all hosts means.1

-- no word stands behind the hosts
pub read_whole : {X : Type 0} (f : X → List ℕ) (database : Database) (own : Host) (hosts cell : List Host) (words : List X) (i : ℕ)
    → length words < 1 → IsCell cell → IsPermutation hosts cell → slice_get cell i ≡ Some own
    → Means (behind_hosts database own (map f words) (Some hosts)) (Ok (record { database = database; cell = cell; me = i }))
read_whole f database own hosts cell [] i few is same at =
    listed database own hosts cell [] i _ same at (record { database = refl; cell = is; hosts = same; me = at })
read_whole f database own hosts cell (word ∷ words) i few is same at = absurd (omega arith)

pub one_more : {X : Type 0} (f : X → List ℕ) (database : Database) (own : Host) (hosts cell : List Host) (words : List X) (i : ℕ)
    → 1 ≤ length words → IsPermutation hosts cell → slice_get cell i ≡ Some own
    → Means (behind_hosts database own (map f words) (Some hosts)) (Err (Word 5))
one_more f database own hosts cell [] i some same at = absurd (omega arith)
one_more f database own hosts cell (word ∷ words) i some same at =
    listed database own hosts cell (f word ∷ map f words) i _ same at (λ other. refl)
