-- Where no block of an image differs, and the image did not become shorter, it is the same.
use Rattle.std.proofs.Common.{◌≡◌, ℕ, zero, suc, ◌+◌, ◌<◌, ◌≤◌, List, [], ◌∷◌, ◌++◌, length, take, drop, refl, sym, ap, ◌∙◌, arith, length-drop}
use Rattle.std.proofs.lemmas.Bool.{cond_both}
use Rattle.std.proofs.lemmas.List.{drop-drop, take-append-drop}
use Rattle.std.proofs.lemmas.Slice.Eq.{bytes_eq-Decides}
use Rattle.std.specs.Str.{bytes_eq}
use Rattle.ubik_types.specs.declared.images.Change.{Change}
use Rattle.db_image.specs.Blocks.{block_at, block_change, block_changes, changes_between}

front_none : (a b : List Change) → a ++ b ≡ [] → a ≡ []
front_none [] b is = refl
front_none (x ∷ a) b is = absurd (cc)

back_none : (a b : List Change) → a ++ b ≡ [] → b ≡ []
back_none [] b is = is
back_none (x ∷ a) b is = absurd (cc)

none_long : (xs ys : List ℕ) → length xs ≤ 0 → length ys ≤ 0 → xs ≡ ys
none_long [] [] a b = refl
none_long [] (y ∷ ys) a b = absurd (omega arith)
none_long (x ∷ xs) ys a b = absurd (omega arith)

same_block : (old new : List ℕ) (at size : ℕ) → block_change old new at size ≡ [] → block_at new at size ≡ block_at old at size
same_block old new at size =
    cond_both (bytes_eq (block_at new at size) (block_at old at size)) _ _ (λ (changes : List Change). changes ≡ [] → block_at new at size ≡ block_at old at size)
    (λ same none. (bytes_eq-Decides (block_at new at size) (block_at old at size)).0 same) (λ other none. absurd (cc))

-- a block and what is behind it
parts : (image : List ℕ) (at size : ℕ) → drop at image ≡ block_at image at size ++ drop (at + size) image
parts image at size =
    sym (take-append-drop size (drop at image)) ∙ ap (λ (rest : List ℕ). take size (drop at image) ++ rest) (drop-drop size at image)

same_behind : (old new : List ℕ) (at size count : ℕ) → 0 < size → length (drop at new) ≤ count → length (drop at old) ≤ count → block_changes old new at size count ≡ [] → drop at new ≡ drop at old
same_behind old new at size zero some long_new long_old none = none_long (drop at new) (drop at old) long_new long_old
same_behind old new at size (suc count) some long_new long_old none =
    let first : block_at new at size ≡ block_at old at size = same_block old new at size (front_none (block_change old new at size) _ none) in
    let rest : drop (at + size) new ≡ drop (at + size) old =
    same_behind old new (at + size) size count some (omega (arith, length-drop (at + size) new, length-drop at new)) (omega (arith, length-drop (at + size) old, length-drop at old))
    (back_none (block_change old new at size) _ none) in
    parts new at size ∙ ap (λ (block : List ℕ). block ++ drop (at + size) new) first ∙ ap (λ (behind : List ℕ). block_at old at size ++ behind) rest ∙ sym (parts old at size)

pub same_image : (head block : ℕ) (old new : List ℕ) → changes_between head block old new ≡ [] → 0 < block → length old ≤ length new → new ≡ old
same_image head block old new none some longer =
    let first : take head new ≡ take head old = same_block old new 0 head (front_none (block_change old new 0 head) _ none) in
    let rest : drop head new ≡ drop head old =
    same_behind old new head block (length new) some (omega (arith, length-drop head new)) (omega (arith, length-drop head old)) (back_none (block_change old new 0 head) _ none) in
    sym (take-append-drop head new) ∙ ap (λ (front : List ℕ). front ++ drop head new) first ∙ ap (λ (behind : List ℕ). take head old ++ behind) rest ∙ take-append-drop head old
