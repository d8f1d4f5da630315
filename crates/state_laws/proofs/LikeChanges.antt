-- Changes of the places and lengths of others, to an image of other bytes.
use Rattle.std.proofs.Common.{◌≡◌, ◌+◌, ◌-◌, ◌==◌, ℕ, zero, suc, Bool, true, false, cond, max, List, [], ◌∷◌, ◌++◌, length, take, drop, refl, sym, ap, subst, ◌∙◌, eq-eqb, arith, min, length-drop, length-take}
use Rattle.std.proofs.lemmas.Bool.Decides.{nat_tests}
use Rattle.std.specs.Str.{bytes_eq}
use Rattle.ubik_types.specs.declared.images.Change.{Change}
use Rattle.ubik_types.specs.declared.images.Change.TheVariants.{Put, Cut}
use Rattle.ubik_types.specs.Logged.{too_large}
use Rattle.db_image.specs.Blocks.{block_at, block_change, block_changes, changes_between}
use Rattle.state_laws.specs.Over.{IsLikeChanges}

-- an image that differs from another one just where a new image differs from an old one
abbrev apart : (old new other : List ℕ) → List ℕ
apart (o ∷ old) (x ∷ new) (r ∷ other) = cond (x == o) r (suc r) ∷ apart old new other
apart old new other = new

long : (old new other : List ℕ) → length (apart old new other) ≡ length new
long (o ∷ old) (x ∷ new) (r ∷ other) = ap suc (long old new other)
long old new other = refl

drop_none : (xs : List ℕ) → drop 0 xs ≡ xs
drop_none [] = refl
drop_none (x ∷ xs) = refl

no_more : (old other : List ℕ) → apart old [] other ≡ []
no_more [] other = refl
no_more (o ∷ old) other = refl

drop_apart : (at : ℕ) (old new other : List ℕ) → length other ≡ length old → drop at (apart old new other) ≡ apart (drop at old) (drop at new) (drop at other)
drop_apart zero old new other same = rw (drop_none old, drop_none new, drop_none other, drop_none (apart old new other)) refl
drop_apart (suc at) (o ∷ old) (x ∷ new) (r ∷ other) same = drop_apart at old new other (omega (arith, same))
drop_apart (suc at) (o ∷ old) [] (r ∷ other) same = sym (no_more (drop at old) (drop at other))
drop_apart (suc at) [] new [] same = refl
drop_apart (suc at) [] new (r ∷ other) same = absurd (omega (arith, same))
drop_apart (suc at) (o ∷ old) new [] same = absurd (omega (arith, same))

take_apart : (count : ℕ) (old new other : List ℕ) → length other ≡ length old → take count (apart old new other) ≡ apart (take count old) (take count new) (take count other)
take_apart zero old new other same = refl
take_apart (suc count) (o ∷ old) (x ∷ new) (r ∷ other) same = ap (λ (rest : List ℕ). cond (x == o) r (suc r) ∷ rest) (take_apart count old new other (omega (arith, same)))
take_apart (suc count) (o ∷ old) [] (r ∷ other) same = refl
take_apart (suc count) [] new [] same = refl
take_apart (suc count) [] new (r ∷ other) same = absurd (omega (arith, same))
take_apart (suc count) (o ∷ old) new [] same = absurd (omega (arith, same))

byte_test : (b : Bool) (r : ℕ) → (cond b r (suc r) == r) ≡ b
byte_test true r = eq-eqb r r refl
byte_test false r = grind (arith, nat_tests)

-- it differs just there
test : (old new other : List ℕ) → length other ≡ length old → bytes_eq (apart old new other) other ≡ bytes_eq new old
test (o ∷ old) (x ∷ new) (r ∷ other) same = rw (byte_test (x == o) r, test old new other (omega (arith, same))) refl
test (o ∷ old) [] (r ∷ other) same = refl
test [] [] [] same = refl
test [] (x ∷ new) [] same = refl
test [] new (r ∷ other) same = absurd (omega (arith, same))
test (o ∷ old) new [] same = absurd (omega (arith, same))

-- puts at the same places, of the same lengths
abbrev AreLike : List Change → List Change → Type 0
AreLike [] [] = Unit {0}
AreLike (Put a bytes ∷ xs) (Put b others ∷ ys) = (a ≡ b) × (length bytes ≡ length others) × AreLike xs ys
AreLike xs ys = ⊥

like_large : (xs ys : List Change) → AreLike xs ys → (sum size : ℕ) → too_large sum size xs ≡ too_large sum size ys
like_large [] [] like sum size = refl
like_large (Put a bytes ∷ xs) (Put b others ∷ ys) like sum size =
    rw (like.0, like.1, like_large xs ys like.2 (sum + (b - size) + length others) (max size (b + length others))) refl
like_large xs ys like sum size = absurd like

like_none : (xs ys : List Change) → AreLike xs ys → ys ≡ [] → xs ≡ []
like_none [] ys like none = refl
like_none (Put a bytes ∷ xs) [] like none = absurd like
like_none (Cut to ∷ xs) ys like none = absurd like
like_none (Put a bytes ∷ xs) (Put b others ∷ ys) like none = absurd cc
like_none (Put a bytes ∷ xs) (Cut to ∷ ys) like none = absurd like

like_one : (b : Bool) (at : ℕ) (bytes others : List ℕ) (xs ys : List Change) → length bytes ≡ length others → AreLike xs ys
    → AreLike (cond b [] (Put at bytes ∷ []) ++ xs) (cond b [] (Put at others ∷ []) ++ ys)
like_one true at bytes others xs ys same like = like
like_one false at bytes others xs ys same like = (refl, same, like)

module _ (old new other : List ℕ) (same : length other ≡ length old) where
  block_apart : (at size : ℕ) → block_at (apart old new other) at size ≡ apart (block_at old at size) (block_at new at size) (block_at other at size)
  block_apart at size =
      ap (take size) (drop_apart at old new other same)
      ∙ take_apart size (drop at old) (drop at new) (drop at other) (omega (arith, length-drop at old, length-drop at other, same))

  block_same : (at size : ℕ) → length (block_at other at size) ≡ length (block_at old at size)
  block_same at size =
      length-take size (drop at other) ∙ ap (λ (n : ℕ). min size n) (length-drop at other ∙ ap (λ (n : ℕ). n - at) same ∙ sym (length-drop at old)) ∙ sym (length-take size (drop at old))

  like_block : (at size : ℕ) (xs ys : List Change) → AreLike xs ys → AreLike (block_change other (apart old new other) at size ++ xs) (block_change old new at size ++ ys)
  like_block at size xs ys like =
      let here = block_apart at size in
      let is = ap (λ (x : List ℕ). bytes_eq x (block_at other at size)) here ∙ test (block_at old at size) (block_at new at size) (block_at other at size) (block_same at size) in
      subst (λ (b : Bool). AreLike (cond b [] (Put at (block_at (apart old new other) at size) ∷ []) ++ xs) (block_change old new at size ++ ys)) (sym is)
      (like_one (bytes_eq (block_at new at size) (block_at old at size)) at (block_at (apart old new other) at size) (block_at new at size) xs ys
      (ap length here ∙ long (block_at old at size) (block_at new at size) (block_at other at size)) like)

  like_blocks : (at size count : ℕ) → AreLike (block_changes other (apart old new other) at size count) (block_changes old new at size count)
  like_blocks at size zero = tt
  like_blocks at size (suc count) =
      like_block at size (block_changes other (apart old new other) (at + size) size count) (block_changes old new (at + size) size count) (like_blocks (at + size) size count)

  like_between : (head block : ℕ) → AreLike (changes_between head block other (apart old new other)) (changes_between head block old new)
  like_between head block =
      like_block 0 head (block_changes other (apart old new other) head block (length (apart old new other))) (block_changes old new head block (length new))
      (subst (λ (n : ℕ). AreLike (block_changes other (apart old new other) head block n) (block_changes old new head block (length new))) (sym (long old new other))
      (like_blocks head block (length new)))

pub like_changes : (head block : ℕ) (old new other : List ℕ) → length other ≡ length old → IsLikeChanges head block old new other
like_changes head block old new other same =
    let like = like_between old new other same head block in
    record {
      image = apart old new other;
      len = long old new other;
      large = like_large (changes_between head block other (apart old new other)) (changes_between head block old new) like;
      none = like_none (changes_between head block other (apart old new other)) (changes_between head block old new) like;
    }
