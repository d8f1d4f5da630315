-- Blocks of another image, laid one after the other over an image that is no longer, make that image.
use Rattle.std.proofs.Common.{◌≡◌, ◌≢◌, ℕ, suc, zero, ◌+◌, ◌-◌, ◌*◌, ◌≤◌, min, Bool, true, false, cond, List, [], ◌∷◌, ◌++◌, length, take, drop, replicate, refl, sym, ap, ◌∙◌, append_assoc, zero-add, inl, inr, arith}
use Rattle.std.specs.Str.{bytes_eq}
use Rattle.std.proofs.Math.Nat.{mul-le-mul_left}
use Rattle.std.proofs.lemmas.Bool.{cases_lt}
use Rattle.std.proofs.lemmas.List.{append-nil, places, length-append, length-take, length-take-le, length-drop, take_all, drop_all, take-append-drop, take-take, take-append-le, take_at, drop_at, drop-drop, drop-take}
use Rattle.std.proofs.lemmas.Slice.Eq.{bytes_eq-Decides}
use Rattle.ubik_types.specs.declared.images.Change.{Change}
use Rattle.ubik_types.specs.declared.images.Change.TheVariants.{Put, Cut}
use Rattle.ubik_types.specs.Image.{extended, changed, effect}
use Rattle.db_image.specs.Blocks.{LeadSome, block_at, block_change, block_changes, changes_between}
use Rattle.db_image.proofs.Steps.{block_at_past}

-- the old image with the new bytes before a place
abbrev laid : (old new : List ℕ) (at : ℕ) → List ℕ
laid old new at = take at new ++ drop at old

effect_append : (image : List ℕ) (a b : List Change) → effect image (a ++ b) ≡ effect (effect image a) b
effect_append image [] b = refl
effect_append image (change ∷ a) b = effect_append (changed image change) a b

take_add : (image : List ℕ) (at size : ℕ) → take (at + size) image ≡ take at image ++ block_at image at size
take_add image at size =
    sym (take-append-drop at (take (at + size) image))
    ∙ ap (λ (front : List ℕ). front ++ drop at (take (at + size) image)) (take-take at (at + size) image (omega arith))
    ∙ ap (λ (rest : List ℕ). take at image ++ rest) (drop-take at size image)

-- a block that is the same in both
kept : (old new : List ℕ) (at size : ℕ) → block_at new at size ≡ block_at old at size → laid old new at ≡ laid old new (at + size)
kept old new at size same =
    let rest : List ℕ = drop at old in
    ap (λ (r : List ℕ). take at new ++ r) (sym (take-append-drop size rest) ∙ ap (λ (o : List ℕ). o ++ drop size rest) (sym same))
    ∙ sym (append_assoc (take at new) (block_at new at size) (drop size rest))
    ∙ ap (λ (front : List ℕ). front ++ drop size rest) (sym (take_add new at size))
    ∙ ap (λ (r : List ℕ). take (at + size) new ++ r) (drop-drop size at old)

-- no old byte is left behind the last block
dropped : (old new : List ℕ) (at size : ℕ) → length old ≤ length new → at ≤ length new
    → drop (at + length (block_at new at size)) old ≡ drop (at + size) old
dropped old new at size grows within =
    let len : length (block_at new at size) ≡ min size (length new - at) = length-take size (drop at new) ∙ ap (min size) (length-drop at new) in
    elim (cases_lt (length new) (at + size)) [
      | inl w ↦ drop_all (at + length (block_at new at size)) old (omega (arith, len)) ∙ sym (drop_all (at + size) old (omega arith))
      | inr w ↦ ap (λ (n : ℕ). drop (at + n) old) (omega (arith, len))
    ]

-- a block that is put
put : (old new : List ℕ) (at size : ℕ) → length old ≤ length new → at ≤ length new
    → changed (laid old new at) (Put at (block_at new at size)) ≡ laid old new (at + size)
put old new at size grows within =
    let front : List ℕ = take at new in
    let rest : List ℕ = drop at old in
    let block : List ℕ = block_at new at size in
    let len : length front ≡ at = length-take-le at new within in
    let before : take at (extended (front ++ rest) at) ≡ front =
    take-append-le at (front ++ rest) (replicate (at - length (front ++ rest)) 0) (omega (arith, length-append front rest, len)) ∙ take_at front rest at len in
    let behind : drop (at + length block) (front ++ rest) ≡ drop (at + size) old =
    sym (drop-drop (length block) at (front ++ rest)) ∙ ap (drop (length block)) (drop_at front rest at len) ∙ drop-drop (length block) at old ∙ dropped old new at size grows within in
    ap (λ (f : List ℕ). (f ++ block) ++ drop (at + length block) (front ++ rest)) before
    ∙ ap (λ (b : List ℕ). (front ++ block) ++ b) behind
    ∙ ap (λ (f : List ℕ). f ++ drop (at + size) old) (sym (take_add new at size))

-- one block, of which a test tells whether it is the same
one_laid : (old new : List ℕ) (at size : ℕ) (same : Bool) → length old ≤ length new → same ≡ bytes_eq (block_at new at size) (block_at old at size)
    → effect (laid old new at) (cond same [] (Put at (block_at new at size) ∷ [])) ≡ laid old new (at + size)
one_laid old new at size true grows test = kept old new at size ((bytes_eq-Decides (block_at new at size) (block_at old at size)).0 (sym test))
one_laid old new at size false grows test = elim (cases_lt (length new) at) [
  | inr w ↦ put old new at size grows w
  | inl w ↦
      let empty : block_at new at size ≡ block_at old at size = block_at_past new at size (omega arith) ∙ sym (block_at_past old at size (omega arith)) in
      let found : bytes_eq (block_at new at size) (block_at old at size) ≡ true = (bytes_eq-Decides (block_at new at size) (block_at old at size)).1 empty in
      absurd (cc (test, found))
]

block_laid : (old new : List ℕ) (at size : ℕ) → length old ≤ length new → effect (laid old new at) (block_change old new at size) ≡ laid old new (at + size)
block_laid old new at size grows = one_laid old new at size (bytes_eq (block_at new at size) (block_at old at size)) grows refl

blocks_laid : (old new : List ℕ) (at size count : ℕ) → length old ≤ length new
    → effect (laid old new at) (block_changes old new at size count) ≡ laid old new (at + count * size)
blocks_laid old new at size zero grows = ap (laid old new) (omega arith)
blocks_laid old new at size (suc count) grows =
    effect_append (laid old new at) (block_change old new at size) (block_changes old new (at + size) size count)
    ∙ ap (λ (image : List ℕ). effect image (block_changes old new (at + size) size count)) (block_laid old new at size grows)
    ∙ blocks_laid old new (at + size) size count grows
    ∙ ap (laid old new) (omega arith)

-- the whole image
all_laid : (old new : List ℕ) (at : ℕ) → length old ≤ length new → length new ≤ at → laid old new at ≡ new
all_laid old new at grows past =
    ap (λ (front : List ℕ). front ++ drop at old) (take_all at new past)
    ∙ ap (λ (rest : List ℕ). new ++ rest) (drop_all at old (omega arith))
    ∙ append-nil new

pub changes_lead : (head block : ℕ) (old new : List ℕ) → block ≢ 0 → length old ≤ length new → effect old (changes_between head block old new) ≡ new
changes_lead head block old new some grows =
    let behind : List Change = block_changes old new head block (length new) in
    let far : length new * 1 ≤ length new * block = mul-le-mul_left (length new) (omega (arith, some)) in
    effect_append old (block_change old new 0 head) behind
    ∙ ap (λ (image : List ℕ). effect image behind) (block_laid old new 0 head grows ∙ ap (laid old new) (zero-add head))
    ∙ blocks_laid old new head block (length new) grows
    ∙ all_laid old new (head + length new * block) grows (omega (arith, far))

-- without changes the images are equal
pub changes_none : (head block : ℕ) (old new : List ℕ) → block ≢ 0 → length old ≤ length new → changes_between head block old new ≡ [] → old ≡ new
changes_none head block old new some grows none =
    ap (effect old) (sym none) ∙ changes_lead head block old new some grows

-- how long an image is after changes follows from how long it was
effect_length : (old other : List ℕ) (changes : List Change) → length old ≡ length other → length (effect old changes) ≡ length (effect other changes)
effect_length old other [] same = same
effect_length old other (change ∷ changes) same = effect_length (changed old change) (changed other change) changes (changed_length old other change same)
  where
    changed_length : (old other : List ℕ) (change : Change) → length old ≡ length other → length (changed old change) ≡ length (changed other change)
    changed_length old other (Put at bytes) same = grind (arith, places)
    changed_length old other (Cut len) same = grind (arith, places)

pub some_length : (head block size len : ℕ) (changes : List Change) → block ≢ 0 → LeadSome head block size len changes
    → (image : List ℕ) → length image ≡ size → length (effect image changes) ≡ len
some_length head block size len changes some lead image same =
    effect_length image lead.old changes (same ∙ sym lead.before)
    ∙ ap (λ (these : List Change). length (effect lead.old these)) lead.between
    ∙ ap length (changes_lead head block lead.old lead.new some (omega (arith, lead.before, lead.after, lead.longer)))
    ∙ lead.after
