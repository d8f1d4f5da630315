-- What is found along the chain of an id is the list of its pairs.
use Rattle.std.proofs.Common.{◌≡◌, true, false, Bool, ℕ, ℤ, ◌+◌, ◌*◌, ◌<◌, ◌≤◌, List, [], length, Option, Some, None, IfSome, IsSome, refl, sym, ap, subst, ◌∙◌, ⊎_elim, arith}
use Rattle.std.specs.Prelude.{◌<ℤ◌, pos}
use Rattle.std.specs.List.{Contains}
use Rattle.std.proofs.lemmas.Bool.{cases_Bool}
use Rattle.std.proofs.lemmas.Int.{ints}
use Rattle.db_image.specs.Asked.{AsksAtMost}
use Rattle.db_image.specs.declared.faults.RecordFault.{RecordFault}
use Rattle.db_image.proofs.ReadSteps.{asks_none, asks_then}
use Rattle.db_blocks.specs.Ends.{HasCause}
use Rattle.db_blocks.specs.declared.scans.Found.{Found}
use Rattle.db_chains.specs.Chains.{HasChain}
use Rattle.prdb_layout.specs.Records.{IsLaidOut, whole as entries_whole}
use Rattle.prdb_layout.specs.Registry.{Registry}
use Rattle.prdb_layout.specs.State.{PrEntry}
use Rattle.prdb_layout.proofs.LaidOut.{whole_same as entries_same}
use Rattle.entry_scans.specs.Lists.{IsListOf}
use Rattle.prdb_lists.specs.Changes.{blocks_for}
use Rattle.prdb_lists.specs.Found.{IsFound}
use Rattle.prdb_lists.specs.Layout.{AreLists, HoldsPairs, IsListed, PairList}
use Rattle.prdb_lists.specs.Members.{Members, are_paired}
use Rattle.prdb_lists.specs.declared.listed.Listed.{Listed}
use Rattle.prdb_lists.proofs.ListFound.{first_has_none, has_of, is_first_or, no_list, none_or, none_paired, same_truth, whole_none}
use Rattle.prdb_lists.proofs.ListRead.{Lists, ListCosts as PairCosts, cause_so}
use Rattle.prdb_finds.specs.Ends.{HasItsCause, HoldsSome}
use Rattle.prdb_finds.specs.Keys.{id_chain}
use Rattle.prdb_finds.specs.Places.{id_links}
use Rattle.prdb_finds.specs.Records.{Holds, whole}
use Rattle.prdb_members.specs.Found.{IsBlockOf}
use Rattle.prdb_finds.specs.Unchained.{unchained}
use Rattle.prdb_finds.proofs.FirstChains.{first_unchained}
use Rattle.prdb_finds.proofs.Told.{empty_is}
use Rattle.prdb_finds.proofs.Without.{unchained_len}
use Rattle.prdb_members.proofs.Listed.{absent, found_listed, found_stands, lists_here, more_length, own_list, stands_there}

-- ---- what is found

pub found_some : (bytes : Option (List ℕ)) (len : ℕ) (id : ℤ) (f : Found) (l : Listed) → IfSome bytes (λ image. length image ≡ len)
    → 0 < len → IfSome bytes (λ image. IsBlockOf id image (Some f))
    → IfSome bytes (λ image. (p : PairList) → IsListed image id f.block p → (l.ids ≡ p.ids) × (l.more.items ≡ p.more))
    → IfSome bytes (λ image. (r : Registry) (m : Members) → Holds image r m → IsFound m id (Some l))
found_some None len id f l told some is read = tt
found_some (Some image) len id f l told some is read = λ r m h.
    let has = lists_here image r m h (omega arith) in
    let there = stands_there image r h.pairs.lists id f.number has (found_stands image id f is) in
    let listed = found_listed image r h.pairs.lists id f has is in
    let same : l.ids ≡ (h.pairs.lists id).ids = (read (h.pairs.lists id) listed).0 in
    subst (IsListOf (λ other. are_paired m id other ≡ true)) (sym same) record {
      ascending = listed.ascending;
      each = h.pairs.each id there;
      all = h.pairs.all id there;
    }

none_if : (o : Option PrEntry) → (IsSome o → ⊥) → o ≡ None
none_if None not = refl
none_if (Some e) not = absurd (not refl)

pub found_none : (bytes : Option (List ℕ)) (len : ℕ) (id : ℤ) → IfSome bytes (λ image. length image ≡ len) → 0 < len
    → IfSome bytes (λ image. IsBlockOf id image None)
    → IfSome bytes (λ image. (r : Registry) (m : Members) → Holds image r m → IsFound m id None)
found_none None len id told some is = tt
found_none (Some image) len id told some is = λ r m h.
    none_paired (unchained (whole image)) r m id h.pairs
    (none_if (r.entry id) (absent image r h.pairs.lists id (lists_here image r m h (omega arith)) is))

-- the pairs are held by bytes that are read alike
same_pairs : (a b : List ℕ) (r : Registry) (m : Members) → entries_whole a ≡ entries_whole b → HoldsPairs a r m → HoldsPairs b r m
same_pairs a b r m same h = record {
  holds = record { valid = h.holds.valid; laid = subst (λ (i : List ℕ). IsLaidOut i r) same h.holds.laid };
  valid = h.valid;
  lists = h.lists;
  are = subst (λ (i : List ℕ). AreLists i r h.lists) same h.are;
  each = h.each;
  all = h.all;
}

pub first_pairs : (r : Registry) (m : Members) → Holds [] r m → HoldsPairs [] r m
first_pairs r m h =
    let u = unchained (whole []) in
    same_pairs u [] r m (entries_same u (omega (arith, unchained_len (whole []) h.size)) ∙ first_unchained ∙ sym whole_none) h.pairs

pub found_empty : (bytes : Option (List ℕ)) (len : ℕ) (id : ℤ) → IfSome bytes (λ image. length image ≡ len) → len ≡ 0
    → IfSome bytes (λ image. (r : Registry) (m : Members) → Holds image r m → IsFound m id None)
found_empty None len id told none = tt
found_empty (Some image) len id told none = λ r m h other.
    let first = first_pairs r m (subst (λ (i : List ℕ). Holds i r m) (empty_is image (told ∙ none)) h) in
    none_or (m.has id other) (m.has other id) (first_has_none r m first id other) (first_has_none r m first other id)

-- ---- a fault

lists_so : (bytes : Option (List ℕ)) (len : ℕ) (id : ℤ) (f : Found) → IfSome bytes (λ image. length image ≡ len) → 0 < len
    → IfSome bytes (λ image. IsBlockOf id image (Some f)) → IfSome bytes (λ image. HoldsSome image → Lists id f.block image)
lists_so None len id f told some is = tt
lists_so (Some image) len id f told some is = λ q.
    let has = lists_here image q.0 q.1 q.2 (omega arith) in
    (has.size, (q.2.pairs.lists id, found_listed image q.0 q.2.pairs.lists id f has is))

pub list_fault : (bytes : Option (List ℕ)) (len : ℕ) (id : ℤ) (f : Found) (fault : RecordFault) → IfSome bytes (λ image. length image ≡ len)
    → 0 < len → IfSome bytes (λ image. IsBlockOf id image (Some f)) → HasCause bytes (Lists id f.block) fault → HasItsCause bytes fault
list_fault bytes len id f fault told some is cause =
    cause_so bytes (Lists id f.block) HoldsSome fault cause (lists_so bytes len id f told some is)

-- ---- what it costs

abbrev pub Costs : Option (List ℕ) → (id : ℤ) → (before after : Option ℕ) → Type 0
Costs bytes id before after =
    IfSome bytes
    (λ image. (r : Registry) (m : Members) (ws : List ℕ) (ids : List ℤ) → Holds image r m → HasChain id_links image (id_chain id) ws
    → IsListOf (λ other. are_paired m id other ≡ true) ids
    → AsksAtMost (4 + 192 * (length ws + blocks_for (length ids))) before after)

abbrev pub ChainCosts : Option (List ℕ) → (id : ℤ) → (before after : Option ℕ) → Type 0
ChainCosts bytes id before after =
    IfSome bytes (λ image. (ws : List ℕ) → HasChain id_links image (id_chain id) ws → AsksAtMost (4 + 192 * length ws) before after)

pub free_costs : (bytes : Option (List ℕ)) (id : ℤ) (asked : Option ℕ) → Costs bytes id asked asked
free_costs None id asked = tt
free_costs (Some image) id asked = λ r m ws ids h chain list. asks_none (4 + 192 * (length ws + blocks_for (length ids))) asked

walk_fits : (w n : ℕ) → 4 + 192 * w + 0 ≤ 4 + 192 * (w + n)
walk_fits w n = omega arith

pub chain_costs : (bytes : Option (List ℕ)) (id : ℤ) (a b : Option ℕ) → ChainCosts bytes id a b → Costs bytes id a b
chain_costs None id a b walk = tt
chain_costs (Some image) id a b walk = λ r m ws ids h chain list.
    asks_then (4 + 192 * length ws) 0 (4 + 192 * (length ws + blocks_for (length ids))) a b b (walk ws chain) (asks_none 0 b)
    (walk_fits (length ws) (blocks_for (length ids)))

list_fits : (w m n : ℕ) → m ≡ n → 4 + 192 * w + 192 * m ≤ 4 + 192 * (w + n)
list_fits w m n same = omega arith

pub list_costs : (bytes : Option (List ℕ)) (len : ℕ) (id : ℤ) (f : Found) (a b c : Option ℕ) → IfSome bytes (λ image. length image ≡ len)
    → 0 < len → IfSome bytes (λ image. IsBlockOf id image (Some f)) → ChainCosts bytes id a b → PairCosts bytes id f.block b c
    → Costs bytes id a c
list_costs None len id f a b c told some is walk read = tt
list_costs (Some image) len id f a b c told some is walk read = λ r m ws ids h chain list.
    let has = lists_here image r m h (omega arith) in
    let at = found_stands image id f is in
    let count : length (h.pairs.lists id).more ≡ blocks_for (length ids) =
    more_length image r h.pairs.lists id f.number has at
    ∙ ap (λ (l : List ℤ). blocks_for (length l)) (own_list image image r m id f.number ids h has at list) in
    asks_then (4 + 192 * length ws) (192 * length (h.pairs.lists id).more) (4 + 192 * (length ws + blocks_for (length ids))) a b c
    (walk ws chain) (read (h.pairs.lists id) (found_listed image r h.pairs.lists id f has is))
    (list_fits (length ws) (length (h.pairs.lists id).more) (blocks_for (length ids)) count)

-- ---- what the list says

pub list_of_none : (bytes : Option (List ℕ)) (id : ℤ) (ids : List ℤ) → ids ≡ []
    → IfSome bytes (λ image. (r : Registry) (m : Members) → Holds image r m → IsFound m id None)
    → IfSome bytes (λ image. (r : Registry) (m : Members) → Holds image r m → IsListOf (λ other. are_paired m id other ≡ true) ids)
list_of_none None id ids is found = tt
list_of_none (Some image) id ids is found =
    λ r m h. subst (IsListOf (λ other. are_paired m id other ≡ true)) (sym is) (no_list m id (found r m h))

pub has_no_user : (bytes : Option (List ℕ)) (a b : ℤ) (there : Bool) → a <ℤ pos 0 → there ≡ false
    → IfSome bytes (λ image. (r : Registry) (m : Members) → Holds image r m → there ≡ m.has a b)
has_no_user None a b there low is = tt
has_no_user (Some image) a b there low is = λ r m h.
    is ∙ sym (⊎_elim (λ (yes : m.has a b ≡ true). let high = (h.pairs.valid a b yes).0 in absurd (omega (arith, ints)))
    (λ (no : m.has a b ≡ false). no) (cases_Bool (m.has a b)))

pub has_of_none : (bytes : Option (List ℕ)) (a b : ℤ) (there : Bool) → there ≡ false
    → IfSome bytes (λ image. (r : Registry) (m : Members) → Holds image r m → IsFound m a None)
    → IfSome bytes (λ image. (r : Registry) (m : Members) → Holds image r m → there ≡ m.has a b)
has_of_none None a b there is found = tt
has_of_none (Some image) a b there is found = λ r m h.
    is ∙ sym (⊎_elim
    (λ (yes : m.has a b ≡ true). let no = found r m h b in let both = is_first_or (m.has a b) (m.has b a) yes in absurd cc)
    (λ (no : m.has a b ≡ false). no)
    (cases_Bool (m.has a b)))

pub has_of_list : (bytes : Option (List ℕ)) (a b : ℤ) (there : Bool) (l : Listed) → (a <ℤ pos 0 → ⊥) → (there ≡ true → Contains l.ids b)
    → (Contains l.ids b → there ≡ true)
    → IfSome bytes (λ image. (r : Registry) (m : Members) → Holds image r m → IsFound m a (Some l))
    → IfSome bytes (λ image. (r : Registry) (m : Members) → Holds image r m → there ≡ m.has a b)
has_of_list None a b there l user to from found = tt
has_of_list (Some image) a b there l user to from found = λ r m h.
    let has = has_of (unchained (whole image)) r m a b l.ids h.pairs user (found r m h) in
    same_truth there (m.has a b) (λ yes. has.0 (to yes)) (λ yes. from (has.1 yes))
