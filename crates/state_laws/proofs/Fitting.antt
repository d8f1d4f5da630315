-- Changes that pass no limit lead to no image that is too long, and have a short text.
use Rattle.std.proofs.Common.{◌≡◌, ◌<◌, ◌≤◌, ◌+◌, ◌-◌, ◌*◌, ◌^◌, max, min, ℕ, None, List, [], ◌∷◌, length, replicate, refl, ap, ◌∙◌, inl, inr, arith, length-append}
use Rattle.std.specs.Prelude.{Option, Some}
use Rattle.std.proofs.lemmas.Bool.{cases_lt}
use Rattle.std.proofs.lemmas.Grind.{common_steps}
use Rattle.std.proofs.lemmas.Bool.Decides.{nat_tests}
use Rattle.std.proofs.lemmas.List.{length-replicate}
use Rattle.std.proofs.lemmas.List.Elements.{All-head, All-tail}
use Rattle.ubik_types.specs.declared.images.Change.{Change}
use Rattle.ubik_types.specs.declared.images.Change.TheVariants.{Put, Cut}
use Rattle.ubik_types.specs.Image.{changed, effect}
use Rattle.ubik_types.specs.Logged.{passed_limit, first_of_two, too_large}
use Rattle.db_image.specs.Blocks.{PutSome, PutsSome, changes_between}
use Rattle.db_image.proofs.Laid.{changes_lead}
use Rattle.xdr_base.specs.ChangeText.{change_spelling, text_of}
use Rattle.xdr_base.specs.Spelling.{padding}

-- changes that pass no limit
none_of_two : (a b : Option ℕ) → first_of_two a b ≡ None → (a ≡ None) × (b ≡ None)
none_of_two None b is = (refl, is)
none_of_two (Some a) b is = absurd cc

-- a limit that is not passed
within : (sum end : ℕ) → passed_limit sum end ≡ None → end ≤ 16777216
within sum end none = grind (arith, nat_tests)

put_length : (image : List ℕ) (at : ℕ) (bytes : List ℕ) → length (changed image (Put at bytes)) ≡ max (length image) (at + length bytes)
put_length image at bytes = grind (arith, common_steps)

cut_length : (image : List ℕ) (to : ℕ) → length (changed image (Cut to)) ≡ min to (length image)
cut_length image to = grind (arith, common_steps)

-- changes that are not too large lead to no image that is too long
effect_within : (changes : List Change) (image : List ℕ) (sum len : ℕ) → length image ≡ len → len ≤ 16777216 → too_large sum len changes ≡ None → length (effect image changes) ≤ 16777216
effect_within [] image sum len is fits none = omega arith
effect_within (Put at bytes ∷ changes) image sum len is fits none =
    let gap = sum + (at - len) in
    let end = max len (at + length bytes) in
    let first = none_of_two (passed_limit gap (max len at)) (first_of_two (passed_limit (gap + length bytes) end) (too_large (gap + length bytes) end changes)) none in
    let second = none_of_two (passed_limit (gap + length bytes) end) (too_large (gap + length bytes) end changes) first.1 in
    effect_within changes (changed image (Put at bytes)) (gap + length bytes) end (put_length image at bytes ∙ ap (λ (n : ℕ). max n (at + length bytes)) is) (within (gap + length bytes) end second.0) second.1
effect_within (Cut to ∷ changes) image sum len is fits none =
    effect_within changes (changed image (Cut to)) sum (min to len) (cut_length image to ∙ ap (min to) is) (omega arith) none

-- an image after a call, the changes to which are not too large
pub image_within : (head block : ℕ) (old new : List ℕ) → 0 < block → length old ≤ 16777216 → too_large 0 (length old) (changes_between head block old new) ≡ None → length new ≤ 16777216
image_within head block old new some fits none =
    elim (cases_lt (length new) (length old)) [
      | inl shorter ↦ omega arith
      | inr longer ↦
          let lead : effect old (changes_between head block old new) ≡ new = changes_lead head block old new (λ zero. (omega arith)) longer in
          let bound = effect_within (changes_between head block old new) old 0 (length old) refl fits none in
          omega (arith, bound, ap length lead)
    ]

-- ---- the text of those that put some bytes each

few : (sum end : ℕ) → passed_limit sum end ≡ None → sum ≤ 1048576
few sum end none = grind (arith, nat_tests)

padding_small : (n : ℕ) → padding n ≤ 3
padding_small n = omega arith

-- a put of some bytes takes at most sixteen bytes for each of them
put_cost : (at : ℕ) (bytes : List ℕ) → 0 < length bytes → length (change_spelling (Put at bytes)) ≤ 16 * length bytes
put_cost at bytes some =
    let pad = padding_small (length bytes) in
    let both = length-append bytes (replicate (padding (length bytes)) 0) in
    let zeros = length-replicate {A = ℕ} (padding (length bytes)) 0 in
    omega (arith, pad, both, zeros)

-- the text of the changes that are left, and sixteen bytes for each that was put before
cost : (sum len : ℕ) (changes : List Change) → sum ≤ 1048576 → PutSome changes → too_large sum len changes ≡ None → length (text_of changes) + 16 * sum ≤ 16777216
cost sum len [] few_were puts none = omega arith
cost sum len (Put at bytes ∷ changes) few_were puts none =
    let gap = sum + (at - len) in
    let end = max len (at + length bytes) in
    let first = none_of_two (passed_limit gap (max len at)) (first_of_two (passed_limit (gap + length bytes) end) (too_large (gap + length bytes) end changes)) none in
    let second = none_of_two (passed_limit (gap + length bytes) end) (too_large (gap + length bytes) end changes) first.1 in
    let rest = cost (gap + length bytes) end changes (few (gap + length bytes) end second.0) (All-tail PutsSome (Put at bytes) changes puts) second.1 in
    let here = put_cost at bytes (All-head PutsSome (Put at bytes) changes puts) in
    let both = length-append (change_spelling (Put at bytes)) (text_of changes) in
    omega (arith, rest, here, both)
cost sum len (Cut to ∷ changes) few_were puts none = absurd (All-head PutsSome (Cut to) changes puts)

pub short_text : (len : ℕ) (changes : List Change) → PutSome changes → too_large 0 len changes ≡ None → length (text_of changes) < 2 ^ 32
short_text len changes puts none = let bound = cost 0 len changes (omega arith) puts none in omega (arith, bound)
