-- The numbers of a line are within their bounds.
use Rattle.std.proofs.Common.{Bool, true, false, cond, nat_le, ◌&&◌, ◌≡◌, ◌≤◌, ℕ, List, [], ◌∷◌, Option, Some, None, IfSome, Result, Ok, Err, IfOk, refl, arith}
use Rattle.std.proofs.lemmas.Bool.Decides.{nat_tests}
use Rattle.std.specs.Prelude.{codes, option_map, option_and_then}
use Rattle.std.specs.Option.{option_or}
use Rattle.std.specs.Str.{bytes_eq}
use Rattle.ubik_types.specs.declared.limits.TheConstants.{MAXSERVERS}
use Rattle.disk_base.specs.declared.disks.Fill.{Fill}
use Rattle.script_words.specs.Numbers.{number_of, number_within}
use Rattle.cell_script.specs.Meaning.{HasBounds, kind_of, server_of, fill_of, or_number, numbered_cell, cell_in, numbered_tick, numbered_stop, line_of_server, line_of_packet, with_number, or_syntax, line_of_one, line_of_two, line_of_three, ask_line, line_of_counted, whole_line}
use Rattle.cell_script.specs.declared.lines.TheConstants.{MAX_CLOCK, MAX_TICK, MAX_STOP}
use Rattle.cell_script.specs.declared.lines.Kind.{Kind}
use Rattle.cell_script.specs.declared.lines.Line.{Line}
use Rattle.cell_script.specs.declared.lines.Line.TheVariants as line
use Rattle.cell_script.specs.declared.lines.Why.{Why}
use Rattle.cell_script.specs.declared.lines.Why.TheVariants as why

-- what holds of both branches holds of the one that is taken
if_ok : {Y E : Type 0} (Q : Y → Type 0) (b : Bool) (x y : Result Y E) → IfOk x Q → IfOk y Q → IfOk (cond b x y) Q
if_ok Q true x y first second = first
if_ok Q false x y first second = second

if_some : {Y : Type 0} (Q : Y → Type 0) (b : Bool) (x y : Option Y) → IfSome x Q → IfSome y Q → IfSome (cond b x y) Q
if_some Q true x y first second = first
if_some Q false x y first second = second

IsWithin : ℕ → ℕ → ℕ → Type 0
IsWithin low high n = (low ≤ n) × (n ≤ high)

chosen : (low high n : ℕ) (b c : Bool) → nat_le low n ≡ b → nat_le n high ≡ c → IfSome (cond (b && c) (Some n) None) (IsWithin low high)
unfolding IsWithin
chosen low high n true true lo hi = (grind (arith, nat_tests), grind (arith, nat_tests))
chosen low high n true false lo hi = tt
chosen low high n false c lo hi = tt

chosen_of : (low high : ℕ) (o : Option ℕ) →
    IfSome (option_and_then (λ (n : ℕ). cond (nat_le low n && nat_le n high) (Some n) None) o) (IsWithin low high)
chosen_of low high None = tt
chosen_of low high (Some n) = chosen low high n (nat_le low n) (nat_le n high) refl refl

within : (low high : ℕ) (digits : List ℕ) → IfSome (number_within low high digits) (IsWithin low high)
within low high digits = chosen_of low high (number_of digits)

-- a line with its numbers
or_number_bounds : (o : Option Line) → IfSome o HasBounds → IfOk (or_number o) HasBounds
or_number_bounds None some = tt
or_number_bounds (Some l) some = some

-- any number will do
IsFree : (ℕ → Line) → Type 0
IsFree f = (n : ℕ) → HasBounds (f n)

cell_bounds : (k : Kind) (servers clock : Option ℕ) → IfSome servers (IsWithin 1 MAXSERVERS) → IfSome clock (IsWithin 1 MAX_CLOCK) →
    IfSome (numbered_cell k servers clock) HasBounds
unfolding IsWithin
cell_bounds k None clock few early = tt
cell_bounds k (Some servers) None few early = tt
cell_bounds k (Some servers) (Some clock) few early =
    (few.0, few.1, record { some = omega (arith, early.0); fits = omega (arith, early.1) }, early.1)

cell_in_bounds : (servers clock : List ℕ) (kind : Option Kind) → IfOk (cell_in servers clock kind) HasBounds
cell_in_bounds servers clock None = tt
cell_in_bounds servers clock (Some k) =
    or_number_bounds (numbered_cell k (number_within 1 MAXSERVERS servers) (number_within 1 MAX_CLOCK clock))
    (cell_bounds k (number_within 1 MAXSERVERS servers) (number_within 1 MAX_CLOCK clock) (within 1 MAXSERVERS servers) (within 1 MAX_CLOCK clock))

tick_bounds : (server seconds : Option ℕ) → IfSome seconds (IsWithin 1 MAX_TICK) → IfSome (numbered_tick server seconds) HasBounds
unfolding IsWithin
tick_bounds None seconds few = tt
tick_bounds (Some server) None few = tt
tick_bounds (Some server) (Some seconds) few = few

tick_all_bounds : (seconds : Option ℕ) → IfSome seconds (IsWithin 1 MAX_TICK) → IfSome (option_map line.TickAll seconds) HasBounds
unfolding IsWithin
tick_all_bounds None few = tt
tick_all_bounds (Some seconds) few = few

stop_bounds : (server calls : Option ℕ) (fill : Option Fill) → IfSome calls (IsWithin 0 MAX_STOP) → IfSome (numbered_stop server calls fill) HasBounds
unfolding IsWithin
stop_bounds None calls fill few = tt
stop_bounds (Some server) None fill few = tt
stop_bounds (Some server) (Some calls) None few = tt
stop_bounds (Some server) (Some calls) (Some f) few = few.1

-- lines that name a server or a packet
server_free : (first : List ℕ) → IfSome (line_of_server first) IsFree
unfolding IsFree
server_free first =
    if_some IsFree (bytes_eq first (codes "beacon")) _ _ (λ n. tt)
    (if_some IsFree (bytes_eq first (codes "recover")) _ _ (λ n. tt)
    (if_some IsFree (bytes_eq first (codes "dropall")) _ _ (λ n. tt)
    (if_some IsFree (bytes_eq first (codes "crash")) _ _ (λ n. tt)
    (if_some IsFree (bytes_eq first (codes "restart")) _ _ (λ n. tt)
    (if_some IsFree (bytes_eq first (codes "show")) _ _ (λ n. tt) tt)))))

packet_free : (first : List ℕ) → IfSome (line_of_packet first) IsFree
unfolding IsFree
packet_free first =
    if_some IsFree (bytes_eq first (codes "deliver")) _ _ (λ n. tt)
    (if_some IsFree (bytes_eq first (codes "drop")) _ _ (λ n. tt) tt)

IsBounded : Result Line Why → Type 0
IsBounded r = IfOk r HasBounds

number_bounds : (f : Option (ℕ → Line)) (n : Option ℕ) → IfSome f IsFree → IfSome (with_number f n) IsBounded
unfolding IsFree IsBounded
number_bounds None n free = tt
number_bounds (Some f) None free = tt
number_bounds (Some f) (Some n) free = free n

either_bounds : (a b : Option (Result Line Why)) → IfSome a IsBounded → IfSome b IsBounded → IfOk (or_syntax (option_or a b)) HasBounds
unfolding IsBounded
either_bounds (Some r) b first second = first
either_bounds None (Some r) first second = second
either_bounds None None first second = tt

-- lines by how many words stand behind the first
one_bounds : (first a : List ℕ) → IfOk (line_of_one first a) HasBounds
one_bounds first a =
    if_ok HasBounds (bytes_eq first (codes "tickall")) _ _
    (or_number_bounds (option_map line.TickAll (number_within 1 MAX_TICK a)) (tick_all_bounds (number_within 1 MAX_TICK a) (within 1 MAX_TICK a)))
    (either_bounds (with_number (line_of_server first) (server_of a)) (with_number (line_of_packet first) (number_of a))
    (number_bounds (line_of_server first) (server_of a) (server_free first))
    (number_bounds (line_of_packet first) (number_of a) (packet_free first)))

two_bounds : (first a b : List ℕ) → IfOk (line_of_two first a b) HasBounds
two_bounds first a b =
    if_ok HasBounds (bytes_eq first (codes "tick")) _ _
    (or_number_bounds (numbered_tick (server_of a) (number_within 1 MAX_TICK b))
    (tick_bounds (server_of a) (number_within 1 MAX_TICK b) (within 1 MAX_TICK b)))
    tt

three_bounds : (first a b c : List ℕ) → IfOk (line_of_three first a b c) HasBounds
three_bounds first a b c =
    if_ok HasBounds (bytes_eq first (codes "cell")) _ _ (cell_in_bounds a b (kind_of c))
    (if_ok HasBounds (bytes_eq first (codes "stop")) _ _
    (or_number_bounds (numbered_stop (server_of a) (number_within 0 MAX_STOP b) (fill_of c))
    (stop_bounds (server_of a) (number_within 0 MAX_STOP b) (fill_of c) (within 0 MAX_STOP b)))
    tt)

ask_bounds : (arguments : List (List ℕ)) → IfOk (ask_line arguments) HasBounds
ask_bounds [] = tt
ask_bounds (a ∷ []) = tt
ask_bounds (server ∷ word ∷ words) = tt

counted_bounds : (first : List ℕ) (arguments : List (List ℕ)) → IfOk (line_of_counted first arguments) HasBounds
counted_bounds first [] = if_ok HasBounds (bytes_eq first (codes "deliverall")) _ _ tt tt
counted_bounds first (a ∷ []) = one_bounds first a
counted_bounds first (a ∷ b ∷ []) = two_bounds first a b
counted_bounds first (a ∷ b ∷ c ∷ []) = three_bounds first a b c
counted_bounds first (a ∷ b ∷ c ∷ d ∷ more) = tt

-- the line of these words
pub whole_bounds : (words : List (List ℕ)) → IfOk (whole_line words) HasBounds
whole_bounds [] = tt
whole_bounds (first ∷ arguments) =
    if_ok HasBounds (bytes_eq first (codes "ask")) _ _ (ask_bounds arguments) (counted_bounds first arguments)
