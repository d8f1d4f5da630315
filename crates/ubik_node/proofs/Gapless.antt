-- The changes from an image to one that is no shorter leave no gap, so a store keeps them as they are.
use Rattle.std.proofs.Common.{◌≡◌, ◌≤◌, ◌+◌, ◌-◌, max, min, ℕ, zero, suc, Bool, true, false, cond, List, [], ◌∷◌, ◌++◌, length, take, drop, refl, sym, ap, ◌∙◌, inl, inr, arith, length-take, length-drop}
use Rattle.std.proofs.lemmas.Bool.{cases_lt}
use Rattle.std.proofs.lemmas.Bool.Decides.{nat_tests}
use Rattle.std.proofs.lemmas.List.{drop_all}
use Rattle.std.proofs.lemmas.Slice.Eq.{bytes_eq-Decides}
use Rattle.std.specs.Str.{bytes_eq}
use Rattle.ubik_types.specs.declared.images.Change.{Change}
use Rattle.ubik_types.specs.declared.images.Change.TheVariants.{Put}
use Rattle.ubik_types.specs.Logged.{gap_before, logged}
use Rattle.ubik_store.specs.Gaps.{CutNothingBefore, CutsNoPut}
use Rattle.db_image.specs.Blocks.{block_at, block_change, block_changes, changes_between}

no_gap : (len at : ℕ) → at ≤ len → gap_before len at ≡ []
no_gap len at inside = grind (arith, nat_tests)

kept_put : (len at : ℕ) (bytes : List ℕ) (rest : List Change) → at ≤ len → logged (max len (at + length bytes)) rest ≡ rest → logged len (Put at bytes ∷ rest) ≡ Put at bytes ∷ rest
kept_put len at bytes rest inside same =
    ap (λ (gap : List Change). gap ++ Put at bytes ∷ logged (max len (at + length bytes)) rest) (no_gap len at inside)
    ∙ ap (λ (more : List Change). Put at bytes ∷ more) same

block_length : (image : List ℕ) (at size : ℕ) → length (block_at image at size) ≡ min size (length image - at)
block_length image at size = length-take size (drop at image) ∙ ap (min size) (length-drop at image)

-- behind the end of both images the blocks are alike
alike_behind : (old new : List ℕ) (at size : ℕ) → length old ≤ length new → length new ≤ at → block_at new at size ≡ block_at old at size
alike_behind old new at size grows behind =
    ap (take size) (drop_all at new behind) ∙ sym (ap (take size) (drop_all at old (omega arith)))

-- the change of one block, by whether the block stays
abbrev one_block : (old new : List ℕ) → Bool → (at size : ℕ) → List Change
one_block old new b at size = cond b [] (Put at (block_at new at size) ∷ [])

module _ (old new : List ℕ) (grows : length old ≤ length new) where
  -- changes that are kept as they are over each image that reaches to their first block
  abbrev IsKept : (at : ℕ) → List Change → Type 0
  IsKept at rest = (len : ℕ) → length old ≤ len → min at (length new) ≤ len → logged len rest ≡ rest

  kept_so : (at size : ℕ) (rest : List Change) → IsKept (at + size) rest → (len : ℕ) → length old ≤ len → min at (length new) ≤ len
      → (b : Bool) → bytes_eq (block_at new at size) (block_at old at size) ≡ b → logged len (one_block old new b at size ++ rest) ≡ one_block old new b at size ++ rest
  kept_so at size rest kept len long reach true is =
      let same : block_at new at size ≡ block_at old at size = (bytes_eq-Decides (block_at new at size) (block_at old at size)).0 is in
      let lengths : min size (length new - at) ≡ min size (length old - at) = sym (block_length new at size) ∙ ap length same ∙ block_length old at size in
      kept len long (omega (arith, lengths))
  kept_so at size rest kept len long reach false is =
      let lengths = block_length new at size in
      elim (cases_lt at (length new)) [
        | inl inside ↦
            kept_put len at (block_at new at size) rest (omega arith)
            (kept (max len (at + length (block_at new at size))) (omega arith) (omega (arith, lengths)))
        | inr behind ↦
            let same = (bytes_eq-Decides (block_at new at size) (block_at old at size)).1 (alike_behind old new at size grows behind) in
            absurd (cc (is, same))
      ]

  kept_block : (at size : ℕ) (rest : List Change) → IsKept (at + size) rest → IsKept at (block_change old new at size ++ rest)
  kept_block at size rest kept len long reach = kept_so at size rest kept len long reach (bytes_eq (block_at new at size) (block_at old at size)) refl

  kept_blocks : (at size count : ℕ) → IsKept at (block_changes old new at size count)
  kept_blocks at size zero len long reach = refl
  kept_blocks at size (suc count) len long reach = kept_block at size (block_changes old new (at + size) size count) (kept_blocks (at + size) size count) len long reach

  pub kept_between : (head block : ℕ) → logged (length old) (changes_between head block old new) ≡ changes_between head block old new
  kept_between head block = kept_block 0 head (block_changes old new head block (length new)) (λ len long reach. kept_blocks head block (length new) len long (omega (arith, reach))) (length old) (omega arith) (omega arith)

-- None of them is a cut.
module _ (old new : List ℕ) where
  nothing_cut : (p at size : ℕ) (rest : List Change) (b : Bool) → CutNothingBefore p rest → CutNothingBefore p (one_block old new b at size ++ rest)
  nothing_cut p at size rest true none = none
  nothing_cut p at size rest false none = none

  cut_nothing : (p at size count : ℕ) → CutNothingBefore p (block_changes old new at size count)
  cut_nothing p at size zero = tt
  cut_nothing p at size (suc count) =
      nothing_cut p at size (block_changes old new (at + size) size count) (bytes_eq (block_at new at size) (block_at old at size)) (cut_nothing p (at + size) size count)

  one_uncut : (at size : ℕ) (rest : List Change) (b : Bool) → ((p : ℕ) → CutNothingBefore p rest) → CutsNoPut rest → CutsNoPut (one_block old new b at size ++ rest)
  one_uncut at size rest true none plain = plain
  one_uncut at size rest false none plain = (none at, plain)

  uncut : (at size count : ℕ) → CutsNoPut (block_changes old new at size count)
  uncut at size zero = tt
  uncut at size (suc count) =
      one_uncut at size (block_changes old new (at + size) size count) (bytes_eq (block_at new at size) (block_at old at size))
      (λ p. cut_nothing p (at + size) size count) (uncut (at + size) size count)

  pub uncut_between : (head block : ℕ) → CutsNoPut (changes_between head block old new)
  uncut_between head block =
      one_uncut 0 head (block_changes old new head block (length new)) (bytes_eq (block_at new 0 head) (block_at old 0 head))
      (λ p. cut_nothing p head block (length new)) (uncut head block (length new))
