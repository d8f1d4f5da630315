-- The changes of all blocks are those of the ones that were put, ascending, and of the new ones.
use Rattle.std.proofs.Common.{◌≡◌, ℕ, zero, suc, ◌+◌, ◌-◌, ◌*◌, ◌<◌, ◌≤◌, true, false, cond, Less, Some, None, List, [], ◌∷◌, ◌++◌, length, refl, sym, ap, ◌∙◌, append_assoc, inl, inr, arith}
use Rattle.std.specs.BTreeMap.{is_at}
use Rattle.std.specs.BTreeMap.Range.{IsEntryInRange, IsRangeOf, entries_between, range_contains}
use Rattle.std.specs.List.{All, AllByRecursion}
use Rattle.std.specs.List.Sorted.{IsStrictlySortedBy}
use Rattle.std.specs.Map.{keys_of, lookup}
use Rattle.std.specs.Ordering.{nat_cmp}
use Rattle.std.specs.declared.ops.Bound.TheVariants.{Excluded, Unbounded}
use Rattle.std.proofs.Math.Nat.{mul-le-mul_right, mul-suc}
use Rattle.std.proofs.lemmas.Bool.{cases_lt}
use Rattle.std.proofs.lemmas.Bool.Decides.{nat_tests}
use Rattle.std.proofs.lemmas.List.{append-nil}
use Rattle.std.proofs.lemmas.List.Elements.{All-weaker}
use Rattle.std.proofs.lemmas.Map.Keys.{sorted_head, sorted_tail}
use Rattle.ubik_types.specs.declared.images.Change.{Change}
use Rattle.db_image.specs.declared.overlays.ChangedBlock.{ChangedBlock}
use Rattle.db_image.specs.declared.overlays.Overlay.{Overlay}
use Rattle.db_image.specs.declared.services.Layout.{Layout}
use Rattle.db_image.specs.Blocks.{block_change, block_changes, changes_between}
use Rattle.db_image.specs.Draft.{IsLaid, bytes_over, changed_at, changes_below}
use Rattle.db_image.specs.Places.{block_size, block_start}
use Rattle.db_image.proofs.Covering.{bytes_len}
use Rattle.db_image.proofs.Differing.{change_none, change_same}
use Rattle.db_image.proofs.Steps.{block_change_past}

-- the puts of the blocks of these entries
abbrev pub changes_at : Layout → (old new : List ℕ) → List (ℕ × ChangedBlock) → List Change
changes_at l old new [] = []
changes_at l old new (e ∷ es) = block_change old new (block_start l e.0) (block_size l e.0) ++ changes_at l old new es

-- a block of this number is none that is put
abbrev pub IsSame : Layout → (old new : List ℕ) → (number : ℕ) → Type 0
IsSame l old new k = block_change old new (block_start l k) (block_size l k) ≡ []

same_more : (l : Layout) (old new : List ℕ) (from more : ℕ) → ((j : ℕ) → from ≤ j → j < from + more → IsSame l old new j)
    → changes_below l old new (from + more) ≡ changes_below l old new from
same_more l old new from zero same = let e : from + 0 ≡ from = omega arith in ap (changes_below l old new) e
same_more l old new from (suc more) same =
    let e : from + suc more ≡ suc (from + more) = omega arith in
    ap (changes_below l old new) e
    ∙ ap (λ (xs : List Change). changes_below l old new (from + more) ++ xs) (same (from + more) (omega arith) (omega arith))
    ∙ append-nil (changes_below l old new (from + more))
    ∙ same_more l old new from more (λ j least below. same j least (omega (arith, below)))

-- blocks of which none is put add nothing
same_below : (l : Layout) (old new : List ℕ) (from to : ℕ) → from ≤ to → ((j : ℕ) → from ≤ j → j < to → IsSame l old new j)
    → changes_below l old new from ≡ changes_below l old new to
same_below l old new from to rises same =
    let e : from + (to - from) ≡ to = omega arith in
    sym (same_more l old new from (to - from) (λ j least below. same j least (omega (arith, below, e)))) ∙ ap (changes_below l old new) e

-- which numbers a look-up tells apart, and which ones a range has
at_below : (j k : ℕ) → j < k → is_at (nat_cmp j) k ≡ false
at_below j k below = grind (arith, nat_tests)

at_above : (j k : ℕ) → k < j → is_at (nat_cmp j) k ≡ false
at_above j k above = grind (arith, nat_tests)

within_range : (to k : ℕ) → k < to → range_contains nat_cmp Unbounded (Excluded to) k ≡ true
within_range to k below = grind (arith, nat_tests)

past_range : (to k : ℕ) → to ≤ k → range_contains nat_cmp Unbounded (Excluded to) k ≡ false
past_range to k past = grind (arith, nat_tests)

below_of : (j k : ℕ) → nat_cmp j k ≡ Less → j < k
below_of j k less = grind (arith, nat_tests)

-- each number that a range has is below its end
pub range_below : (o : Overlay) (count : ℕ) (es : List (ℕ × ChangedBlock)) → IsRangeOf nat_cmp Unbounded (Excluded count) o.blocks es
    → All (λ (e : ℕ × ChangedBlock). e.0 < count) es
range_below o count es found =
    All-weaker (IsEntryInRange nat_cmp Unbounded (Excluded count) o.blocks) (λ (e : ℕ × ChangedBlock). e.0 < count)
    (λ e within. below_of e.0 count within.0.1) es found.0

all_so : (P Q : ℕ → Type 0) (xs : List ℕ) → ((x : ℕ) → P x → Q x) → AllByRecursion P xs → AllByRecursion Q xs
all_so P Q [] so all = tt
all_so P Q (x ∷ xs) so all = (so x all.0, all_so P Q xs so all.1)

all_least : (xs : List ℕ) → AllByRecursion (λ x. 0 ≤ x) xs
all_least [] = tt
all_least (x ∷ xs) = (omega arith, all_least xs)

-- no number below all keys is found
none_below : (j : ℕ) (es : List (ℕ × ChangedBlock)) → AllByRecursion (λ k. j < k) (keys_of es) → lookup (is_at (nat_cmp j)) es ≡ None
none_below j [] above = refl
none_below j (e ∷ es) above =
    ap (λ b. cond b (Some e.1) (lookup (is_at (nat_cmp j)) es)) (at_below j e.0 above.0) ∙ none_below j es above.1

-- a look-up past the first key
looked_on : (j : ℕ) (e : ℕ × ChangedBlock) (es : List (ℕ × ChangedBlock)) → is_at (nat_cmp j) e.0 ≡ false → lookup (is_at (nat_cmp j)) es ≡ None
    → lookup (is_at (nat_cmp j)) (e ∷ es) ≡ None
looked_on j e es other none = ap (λ b. cond b (Some e.1) (lookup (is_at (nat_cmp j)) es)) other ∙ none

-- where each block that is put is found, the blocks that are found make all the puts
walked : (l : Layout) (old new : List ℕ) (from to : ℕ) (es : List (ℕ × ChangedBlock)) → from ≤ to → IsStrictlySortedBy nat_cmp (keys_of es)
    → AllByRecursion (λ k. from ≤ k) (keys_of es)
    → ((j : ℕ) → from ≤ j → j < to → lookup (is_at (nat_cmp j)) es ≡ None → IsSame l old new j)
    → changes_below l old new from ++ changes_at l old new (entries_between nat_cmp Unbounded (Excluded to) es) ≡ changes_below l old new to
walked l old new from to [] rises sorted least same =
    append-nil (changes_below l old new from) ∙ same_below l old new from to rises (λ j f b. same j f b refl)
walked l old new from to (e ∷ es) rises sorted least same =
    let k : ℕ = e.0 in
    let rest : List (ℕ × ChangedBlock) = entries_between nat_cmp Unbounded (Excluded to) es in
    let first : List Change = changes_below l old new from in
    let here : List Change = block_change old new (block_start l k) (block_size l k) in
    let behind : AllByRecursion (λ (q : ℕ). k < q) (keys_of es) =
    all_so (λ (q : ℕ). nat_cmp k q ≡ Less) (λ (q : ℕ). k < q) (keys_of es) (below_of k) (sorted_head nat_cmp k (keys_of es) sorted) in
    let tail = sorted_tail nat_cmp k (keys_of es) sorted in
    elim (cases_lt k to) [
      | inl within ↦
          ap (λ b. first ++ changes_at l old new (cond b (e ∷ rest) rest)) (within_range to k within)
          ∙ ap (λ (xs : List Change). xs ++ (here ++ changes_at l old new rest))
          (same_below l old new from k least.0 (λ j f b. same j f (omega (arith, b, within))
          (looked_on j e es (at_below j k b) (none_below j es (all_so (λ (q : ℕ). k < q) (λ (q : ℕ). j < q) (keys_of es) (λ q a. omega (arith, a, b)) behind)))))
          ∙ sym (append_assoc (changes_below l old new k) here (changes_at l old new rest))
          ∙ walked l old new (suc k) to es (omega (arith, within)) tail
          (all_so (λ (q : ℕ). k < q) (λ (q : ℕ). suc k ≤ q) (keys_of es) (λ q a. omega (arith, a)) behind)
          (λ j f b none. same j (omega (arith, f, least.0)) b (looked_on j e es (at_above j k (omega (arith, f))) none))
      | inr past ↦
          ap (λ b. first ++ changes_at l old new (cond b (e ∷ rest) rest)) (past_range to k past)
          ∙ walked l old new from to es rises tail least.1 (λ j f b none. same j f b (looked_on j e es (at_below j k (omega (arith, b, past))) none))
    ]

-- a block that was not put, and that begins in the image beneath, is the same
unput_same : (o : Overlay) (size number : ℕ) (beneath : List ℕ) → IsLaid o size (Some beneath) → changed_at o number ≡ None
    → block_start o.layout number < size → IsSame o.layout beneath (bytes_over o beneath) number
unput_same o size number beneath laid none begins =
    change_same beneath (bytes_over o beneath) (block_start o.layout number) (block_size o.layout number)
    (change_none o size number (block_start o.layout number) beneath laid refl none begins)

-- so the puts of the first blocks are those of the ones that were put
pub first_walked : (o : Overlay) (size count : ℕ) (beneath : List ℕ) → IsLaid o size (Some beneath) → IsStrictlySortedBy nat_cmp (keys_of o.blocks.entries)
    → ((k : ℕ) → k < count → block_start o.layout k < size)
    → changes_at o.layout beneath (bytes_over o beneath) (entries_between nat_cmp Unbounded (Excluded count) o.blocks.entries)
    ≡ changes_below o.layout beneath (bytes_over o beneath) count
first_walked o size count beneath laid sorted begin =
    walked o.layout beneath (bytes_over o beneath) 0 count o.blocks.entries (omega arith) sorted (all_least (keys_of o.blocks.entries))
    (λ j least below none. unput_same o size j beneath laid none (begin j below))

-- one more block at the end of the blocks of one length
one_more : (old new : List ℕ) (at size count : ℕ)
    → block_changes old new at size (suc count) ≡ block_changes old new at size count ++ block_change old new (at + size * count) size
one_more old new at size zero =
    let e : at ≡ at + size * 0 = omega arith in
    append-nil (block_change old new at size) ∙ ap (λ (n : ℕ). block_change old new n size) e
one_more old new at size (suc count) =
    let e : at + size + size * count ≡ at + size * suc count = omega (arith, mul-suc size count) in
    ap (λ (xs : List Change). block_change old new at size ++ xs) (one_more old new (at + size) size count)
    ∙ sym (append_assoc (block_change old new at size) (block_changes old new (at + size) size count) (block_change old new (at + size + size * count) size))
    ∙ ap (λ (n : ℕ). block_changes old new at size (suc count) ++ block_change old new n size) e

below_blocks : (l : Layout) (old new : List ℕ) (count : ℕ)
    → changes_below l old new (suc count) ≡ block_change old new 0 l.head ++ block_changes old new l.head l.block count
below_blocks l old new zero = sym (append-nil (block_change old new 0 l.head))
below_blocks l old new (suc count) =
    let last : List Change = block_change old new (l.head + l.block * count) l.block in
    ap (λ (xs : List Change). xs ++ last) (below_blocks l old new count)
    ∙ append_assoc (block_change old new 0 l.head) (block_changes old new l.head l.block count) last
    ∙ ap (λ (xs : List Change). block_change old new 0 l.head ++ xs) (sym (one_more old new l.head l.block count))

past_same : (l : Layout) (old new : List ℕ) (k : ℕ) → length old ≤ length new → length new ≤ block_start l k → IsSame l old new k
past_same l old new k grows past = block_change_past old new (block_start l k) (block_size l k) (omega arith) past

-- no image has more blocks behind its head than bytes
starts_past : (l : Layout) (len k : ℕ) → 0 < l.block → suc len ≤ k → len ≤ block_start l k
starts_past l len zero some past = absurd (omega (arith, past))
starts_past l len (suc k) some past =
    let far : 1 * k ≤ l.block * k = mul-le-mul_right k (omega (arith, some)) in
    omega (arith, far, past)

-- the puts of the blocks up to the end of the new image are all of them
pub all_below : (o : Overlay) (size number : ℕ) (beneath : List ℕ) → IsLaid o size (Some beneath) → ((k : ℕ) → number ≤ k → o.len ≤ block_start o.layout k)
    → changes_below o.layout beneath (bytes_over o beneath) number
    ≡ changes_between o.layout.head o.layout.block beneath (bytes_over o beneath)
all_below o size number beneath laid past =
    let l : Layout = o.layout in
    let new : List ℕ = bytes_over o beneath in
    let long : length new ≡ o.len = bytes_len o beneath in
    let grows : length beneath ≤ length new = omega (arith, laid.told beneath refl, laid.longer, long) in
    let same : changes_below l beneath new number ≡ changes_below l beneath new (suc (length new)) =
    elim (cases_lt (suc (length new)) number) [
      | inl more ↦
          sym (same_below l beneath new (suc (length new)) number (omega (arith, more))
          (λ j f b. past_same l beneath new j grows (starts_past l (length new) j laid.block f)))
      | inr fewer ↦
          same_below l beneath new number (suc (length new)) fewer (λ j f b. past_same l beneath new j grows (omega (arith, past j f, long)))
    ] in
    same ∙ below_blocks l beneath new (length new)

-- a block is added
pub pushed_below : (l : Layout) (old new : List ℕ) (k next : ℕ) (done after : List Change) → done ≡ changes_below l old new k
    → after ≡ done ++ block_change old new (block_start l k) (block_size l k) → next ≡ 1 + k → after ≡ changes_below l old new next
pushed_below l old new k next done after so pushed more =
    let e : suc k ≡ next = omega (arith, more) in
    pushed ∙ ap (λ (xs : List Change). xs ++ block_change old new (block_start l k) (block_size l k)) so ∙ ap (changes_below l old new) e

-- the put of the first of the entries that are left is added
pub pushed_at : (l : Layout) (old new : List ℕ) (e : ℕ × ChangedBlock) (left rest : List (ℕ × ChangedBlock)) (done after all : List Change)
    → done ++ changes_at l old new left ≡ all → left ≡ e ∷ rest
    → after ≡ done ++ block_change old new (block_start l e.0) (block_size l e.0) → after ++ changes_at l old new rest ≡ all
pushed_at l old new e left rest done after all so first pushed =
    ap (λ (xs : List Change). xs ++ changes_at l old new rest) pushed
    ∙ append_assoc done (block_change old new (block_start l e.0) (block_size l e.0)) (changes_at l old new rest)
    ∙ ap (λ (es : List (ℕ × ChangedBlock)). done ++ changes_at l old new es) (sym first)
    ∙ so

-- no entry is left
pub none_left : (l : Layout) (old new : List ℕ) (left : List (ℕ × ChangedBlock)) (done all : List Change)
    → done ++ changes_at l old new left ≡ all → left ≡ [] → done ≡ all
none_left l old new left done all so none =
    sym (append-nil done) ∙ ap (λ (es : List (ℕ × ChangedBlock)). done ++ changes_at l old new es) (sym none) ∙ so
