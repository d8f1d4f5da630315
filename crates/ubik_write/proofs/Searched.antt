-- Patches that a search leaves out have no byte of what is read.
use Rattle.std.proofs.Common.{◌≡◌, ℕ, ◌+◌, ◌-◌, ◌<◌, ◌≤◌, false, List, [], ◌∷◌, ◌++◌, length, take, drop, get_or, refl, ap, sym, ◌∙◌, subst, suc, ⊎_elim, arith}
use Rattle.std.specs.List.Sorted.{IsNonDecreasingBy}
use Rattle.std.proofs.lemmas.Bool.{cases_lt}
use Rattle.std.proofs.lemmas.Bool.Decides.{nat_tests}
use Rattle.std.proofs.lemmas.List.{take-append-drop, take_more, get_or_default, length-take, length-take-le, length-drop, get_or-take, get_or-drop}
use Rattle.std.proofs.lemmas.List.Sorted.{IsNonDecreasingBy-push}
use Rattle.ubik_write.specs.declared.undo.Patch.{Patch}
use Rattle.ubik_write.specs.Undo.{covers, byte_before, byte_under}

byte_before-append : (front back : List Patch) (at byte : ℕ) → byte_before (front ++ back) at byte ≡ byte_before back at (byte_before front at byte)
byte_before-append [] back at byte = refl
byte_before-append (patch ∷ front) back at byte = byte_before-append front back at (byte_under patch at byte)

-- no patch covers a position
abbrev Misses : List Patch → ℕ → Type 0
Misses undo at = (k : ℕ) (d : Patch) → k < length undo → covers (get_or undo k d).at (get_or undo k d).bytes at ≡ false

missed : (undo : List Patch) (at byte : ℕ) → Misses undo at → byte_before undo at byte ≡ byte
missed [] at byte none = refl
missed (patch ∷ undo) at byte none =
    let outside : covers patch.at patch.bytes at ≡ false = none 0 patch (omega arith) in
    let same : byte_under patch at byte ≡ byte = rw outside refl in
    ap (λ (b : ℕ). byte_before undo at b) same ∙ missed undo at byte (λ k d inside. none (suc k) d (omega (arith, inside)))

-- of patches the first so many end before a position, and those from another place on begin behind it
pub searched : (undo : List Patch) (first behind at byte : ℕ) → first ≤ behind → behind ≤ length undo
    → ((k : ℕ) (d : Patch) → k < first → (get_or undo k d).at + length (get_or undo k d).bytes ≤ at)
    → ((k : ℕ) (d : Patch) → behind ≤ k → k < length undo → at < (get_or undo k d).at)
    → byte_before (take (behind - first) (drop first undo)) at byte ≡ byte_before undo at byte
searched undo first behind at byte low high before after =
    let mid = take (behind - first) (drop first undo) in
    let rest = drop (behind - first) (drop first undo) in
    let front_misses : Misses (take first undo) at = λ k d inside.
    let below : k < first = omega (arith, length-take first undo, inside) in
    let ends = before k d below in
    let outside : covers (get_or undo k d).at (get_or undo k d).bytes at ≡ false = grind (arith, nat_tests) in
    ap (λ (patch : Patch). covers patch.at patch.bytes at) (get_or-take first undo k d below) ∙ outside in
    let rest_misses : Misses rest at = λ k d inside.
    let size = length-drop (behind - first) (drop first undo) in
    let more = length-drop first undo in
    let there : first + (behind - first + k) < length undo = omega (arith, size, more, inside) in
    let begins = after (first + (behind - first + k)) d (omega arith) there in
    let outside : covers (get_or undo (first + (behind - first + k)) d).at (get_or undo (first + (behind - first + k)) d).bytes at ≡ false = grind (arith, nat_tests) in
    ap (λ (patch : Patch). covers patch.at patch.bytes at) (get_or-drop (behind - first) (drop first undo) k d ∙ get_or-drop first undo (behind - first + k) d) ∙ outside in
    sym (
    ap (λ (those : List Patch). byte_before those at byte) (sym (take-append-drop first undo))
    ∙ byte_before-append (take first undo) (drop first undo) at byte
    ∙ ap (λ (b : ℕ). byte_before (drop first undo) at b) (missed (take first undo) at byte front_misses)
    ∙ ap (λ (those : List Patch). byte_before those at byte) (sym (take-append-drop (behind - first) (drop first undo)))
    ∙ byte_before-append mid rest at byte
    ∙ missed rest at (byte_before mid at byte) rest_misses)

-- a list of patches ascends by a number of each up to some place, as it did up to the one before
pub ascends-more : (n : Patch → ℕ) (undo : List Patch) (patch : Patch) (i last : ℕ) → i < length undo → patch ≡ get_or undo i patch
    → IsNonDecreasingBy n (take i undo) → ((d : Patch) → 0 < i → last ≡ n (get_or undo (i - 1) d)) → last ≤ n patch
    → IsNonDecreasingBy n (take (i + 1) undo)
ascends-more n undo patch i last inside is up so_far rises =
    let more : take (i + 1) undo ≡ take i undo ++ patch ∷ [] = take_more undo i patch inside ∙ ap (λ (one : Patch). take i undo ++ one ∷ []) (sym is) in
    let size : length (take i undo) ≡ i = length-take-le i undo (omega (arith, inside)) in
    subst (λ (those : List Patch). IsNonDecreasingBy n those) (sym more) (IsNonDecreasingBy-push n (take i undo) patch up (λ d some.
    let place : length (take i undo) - 1 ≡ i - 1 = omega (arith, size) in
    let last_is = ap n (ap (λ (k : ℕ). get_or (take i undo) k d) place ∙ get_or-take i undo (i - 1) d (omega (arith, size, some))) in
    omega (arith, last_is, so_far d (omega (arith, size, some)), rises)))

-- the patch at a place is the last one of those up to it
pub last-is : (undo : List Patch) (patch d : Patch) (i : ℕ) → i < length undo → patch ≡ get_or undo i patch → patch ≡ get_or undo (i + 1 - 1) d
last-is undo patch d i inside is =
    let place : i ≡ i + 1 - 1 = omega arith in
    is ∙ get_or_default undo i patch d inside ∙ ap (λ (k : ℕ). get_or undo k d) place

-- and it does not where that number falls
pub falls : (n : Patch → ℕ) (undo : List Patch) (patch : Patch) (i last : ℕ) → i < length undo → patch ≡ get_or undo i patch
    → (i ≡ 0 → last ≡ 0) → ((d : Patch) → 0 < i → last ≡ n (get_or undo (i - 1) d)) → n patch < last → ¬ IsNonDecreasingBy n undo
falls n undo patch i last inside is first so_far less up =
    ⊎_elim
    (λ (some : 0 < i). omega (arith, so_far patch some, up (i - 1) i patch (omega arith) inside, ap n is, less))
    (λ (none : i ≤ 0). omega (arith, first (omega arith), less))
    (cases_lt 0 i)
