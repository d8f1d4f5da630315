-- Changes as a store keeps them have the same effect; and the changes of a database are puts within their limits.
use Rattle.std.proofs.Common.{Bool, true, false, cond, ◌≡◌, ℕ, zero, suc, ◌+◌, ◌-◌, ◌<◌, ◌≤◌, List, [], ◌∷◌, ◌++◌}
use Rattle.std.proofs.Common.{length, take, drop, replicate, refl, sym, ap, ◌∙◌, arith}
use Rattle.std.proofs.lemmas.Bool.{cond_both}
use Rattle.std.proofs.lemmas.List.{length-append, length-replicate, length-take, length-drop, take_all, drop_all, append-nil, take_min}
use Rattle.std.specs.Prelude.{Option, Some, None, nat_lt, max, min}
use Rattle.std.specs.List.{AllByRecursion}
use Rattle.std.specs.Str.{bytes_eq}
use Rattle.ubik_types.specs.declared.images.Change.{Change}
use Rattle.ubik_types.specs.declared.images.Change.TheVariants.{Put, Cut}
use Rattle.ubik_types.specs.declared.limits.TheConstants.{MAX_CHANGES, MAX_IMAGE}
use Rattle.ubik_types.specs.Image.{extended, changed, effect}
use Rattle.ubik_types.specs.Logged.{gap_before, logged, passed_limit, first_of_two, too_large}
use Rattle.xdr_base.specs.ChangeText.{HasSpelling}
use Rattle.db_image.specs.Blocks.{block_at, block_change, block_changes, changes_between}
use Rattle.cell_laws.proofs.Parts.{lt_true, lt_false}

-- ---- puts alone

abbrev IsPut : Change → Type 0
IsPut (Put at bytes) = Unit {0}
IsPut (Cut len) = ⊥

abbrev ArePuts : List Change → Type 0
ArePuts [] = Unit {0}
ArePuts (c ∷ changes) = IsPut c × ArePuts changes

puts_append : (changes more : List Change) → ArePuts changes → ArePuts more → ArePuts (changes ++ more)
puts_append [] more first second = second
puts_append (c ∷ changes) more first second = (first.0, puts_append changes more first.1 second)

block_puts : (old new : List ℕ) (at size : ℕ) → ArePuts (block_change old new at size)
block_puts old new at size =
    cond_both (bytes_eq (block_at new at size) (block_at old at size)) [] (Put at (block_at new at size) ∷ []) ArePuts (λ _. tt)
    (λ _. (tt, tt))

blocks_puts : (old new : List ℕ) (at size count : ℕ) → ArePuts (block_changes old new at size count)
blocks_puts old new at size zero = tt
blocks_puts old new at size (suc count) =
    puts_append (block_change old new at size) (block_changes old new (at + size) size count) (block_puts old new at size)
    (blocks_puts old new (at + size) size count)

between_puts : (head block : ℕ) (old new : List ℕ) → ArePuts (changes_between head block old new)
between_puts head block old new =
    puts_append (block_change old new 0 head) (block_changes old new head block (length new)) (block_puts old new 0 head)
    (blocks_puts old new head block (length new))

-- ---- limits

two_none : (a b : Option ℕ) → first_of_two a b ≡ None → (a ≡ None) × (b ≡ None)
two_none None b is = (refl, is)
two_none (Some n) b is = absurd (cc)

within_limits : (sum end : ℕ) → passed_limit sum end ≡ None → (sum ≤ MAX_CHANGES) × (end ≤ MAX_IMAGE)
within_limits sum end is = by (nat_lt MAX_CHANGES sum) (nat_lt MAX_IMAGE end) refl refl is
  where
    by : (a b : Bool) → nat_lt MAX_CHANGES sum ≡ a → nat_lt MAX_IMAGE end ≡ b → cond a (Some sum) (cond b (Some end) None) ≡ None →
        (sum ≤ MAX_CHANGES) × (end ≤ MAX_IMAGE)
    by true b x y is = absurd (cc)
    by false true x y is = absurd (cc)
    by false false x y is = (lt_false MAX_CHANGES sum x, lt_false MAX_IMAGE end y)

puts_spelled : (sum len : ℕ) (changes : List Change) → ArePuts changes → too_large sum len changes ≡ None →
    AllByRecursion HasSpelling changes
puts_spelled sum len [] puts is = tt
puts_spelled sum len (Put at bytes ∷ changes) puts is =
    let first = two_none (passed_limit (sum + (at - len)) (max len at)) _ is in
    let second = two_none (passed_limit (sum + (at - len) + length bytes) (max len (at + length bytes))) _ first.1 in
    let gap = within_limits (sum + (at - len)) (max len at) first.0 in
    let put = within_limits (sum + (at - len) + length bytes) (max len (at + length bytes)) second.0 in
    let position : max len at ≤ MAX_IMAGE = gap.1 in
    let bytes_sum : sum + (at - len) + length bytes ≤ MAX_CHANGES = put.0 in (
      (omega arith, omega arith),
      puts_spelled (sum + (at - len) + length bytes) (max len (at + length bytes)) changes puts.1 second.1,
    )
puts_spelled sum len (Cut to ∷ changes) puts is = absurd puts.0

-- changes of a database that are not too many have a spelling
pub changes_spelled : (head block : ℕ) (old new : List ℕ) → too_large 0 (length old) (changes_between head block old new) ≡ None →
    AllByRecursion HasSpelling (changes_between head block old new)
changes_spelled head block old new is =
    puts_spelled 0 (length old) (changes_between head block old new) (between_puts head block old new) is

-- ---- as a store keeps them

pub effect_append : (image : List ℕ) (a b : List Change) → effect image (a ++ b) ≡ effect (effect image a) b
effect_append image [] b = refl
effect_append image (c ∷ a) b = effect_append (changed image c) a b

filled : (image : List ℕ) (at : ℕ) → length (extended image at) ≡ max (length image) at
filled image at =
    length-append image (replicate (at - length image) 0)
    ∙ ap (λ (n : ℕ). length image + n) (length-replicate {A = ℕ} (at - length image) 0) ∙ most (length image) at
  where
    most : (n at : ℕ) → n + (at - n) ≡ max n at
    most n at = omega arith

put_length : (image : List ℕ) (at : ℕ) (bytes : List ℕ) → length (changed image (Put at bytes)) ≡ max (length image) (at + length bytes)
put_length image at bytes =
    length-append (take at (extended image at) ++ bytes) (drop (at + length bytes) image)
    ∙ ap (λ (n : ℕ). n + length (drop (at + length bytes) image))
    (length-append (take at (extended image at)) bytes
    ∙ ap (λ (n : ℕ). n + length bytes) (length-take at (extended image at) ∙ ap (λ (n : ℕ). min at n) (filled image at)))
    ∙ ap (λ (n : ℕ). min at (max (length image) at) + length bytes + n) (length-drop (at + length bytes) image)
    ∙ sum (length image) (length bytes)
  where
    sum : (n b : ℕ) → min at (max n at) + b + (n - (at + b)) ≡ max n (at + b)
    sum n b = omega arith

cut_length : (image : List ℕ) (to : ℕ) → length (changed image (Cut to)) ≡ min to (length image)
cut_length image to = length-take to image

-- the zero bytes of a gap, where there is one
gap_fills : (image : List ℕ) (at : ℕ) → effect image (gap_before (length image) at) ≡ extended image at
gap_fills image at =
    cond_both (nat_lt (length image) at) (Put (length image) (replicate (at - length image) 0) ∷ []) []
    (λ (changes : List Change). effect image changes ≡ extended image at) (λ _. put) (λ within. sym (none within))
  where
    none : nat_lt (length image) at ≡ false → extended image at ≡ image
    none within =
        let no_more : at - length image ≡ 0 = (let h : at ≤ length image = lt_false (length image) at within in omega arith) in
        ap (λ (n : ℕ). image ++ replicate n 0) no_more ∙ append-nil image

    put : changed image (Put (length image) (replicate (at - length image) 0)) ≡ extended image at
    put =
        let zeros : List ℕ = replicate (at - length image) 0 in
        let none : length image - length image ≡ 0 = omega arith in
        let front : take (length image) (extended image (length image)) ≡ image =
        ap (λ (n : ℕ). take (length image) (image ++ replicate n 0)) none
        ∙ ap (take (length image)) (append-nil image) ∙ take_all (length image) image (omega arith) in
        let rest : drop (length image + length zeros) image ≡ [] = drop_all (length image + length zeros) image (omega arith) in
        ap (λ (f : List ℕ). f ++ zeros ++ drop (length image + length zeros) image) front
        ∙ ap (λ (r : List ℕ). image ++ zeros ++ r) rest ∙ append-nil (image ++ zeros)

-- a put behind a filled gap
put_filled : (image : List ℕ) (at : ℕ) (bytes : List ℕ) → changed (extended image at) (Put at bytes) ≡ changed image (Put at bytes)
put_filled image at bytes =
    ap (λ (f : List ℕ). f ++ bytes ++ drop (at + length bytes) (extended image at)) front
    ∙ ap (λ (r : List ℕ). take at (extended image at) ++ bytes ++ r) (rest (nat_lt (length image) at) refl)
  where
    -- filled twice is filled once
    twice : extended (extended image at) at ≡ extended image at
    twice =
        let enough : at - length (extended image at) ≡ 0 =
        (let h : length (extended image at) ≡ max (length image) at = filled image at in omega arith) in
        ap (λ (n : ℕ). extended image at ++ replicate n 0) enough ∙ append-nil (extended image at)

    front : take at (extended (extended image at) at) ≡ take at (extended image at)
    front = ap (take at) twice

    rest : (t : Bool) → nat_lt (length image) at ≡ t → drop (at + length bytes) (extended image at) ≡ drop (at + length bytes) image
    rest true less =
        let h : length (extended image at) ≡ max (length image) at = filled image at in
        let short : length image < at = lt_true (length image) at less in
        drop_all (at + length bytes) (extended image at) (omega arith) ∙ sym (drop_all (at + length bytes) image (omega arith))
    rest false not_less =
        let h : at ≤ length image = lt_false (length image) at not_less in
        let no_more : at - length image ≡ 0 = omega arith in
        ap (λ (n : ℕ). drop (at + length bytes) (image ++ replicate n 0)) no_more
        ∙ ap (drop (at + length bytes)) (append-nil image)

pub logged_effect : (image : List ℕ) (len : ℕ) (changes : List Change) → length image ≡ len →
    effect image (logged len changes) ≡ effect image changes
logged_effect image len [] same = refl
logged_effect image len (Put at bytes ∷ changes) same =
    effect_append image (gap_before len at) (Put at bytes ∷ logged (max len (at + length bytes)) changes)
    ∙ ap (λ (i : List ℕ). effect (changed i (Put at bytes)) (logged (max len (at + length bytes)) changes))
    (ap (λ (n : ℕ). effect image (gap_before n at)) (sym same) ∙ gap_fills image at)
    ∙ ap (λ (i : List ℕ). effect i (logged (max len (at + length bytes)) changes)) (put_filled image at bytes)
    ∙ logged_effect (changed image (Put at bytes)) (max len (at + length bytes)) changes
    (put_length image at bytes ∙ ap (λ (n : ℕ). max n (at + length bytes)) same)
logged_effect image len (Cut to ∷ changes) same =
    ap (λ (i : List ℕ). effect i (logged (min to len) changes))
    (ap (λ (n : ℕ). take (min to n) image) (sym same) ∙ take_min to image)
    ∙ logged_effect (changed image (Cut to)) (min to len) changes (cut_length image to ∙ ap (λ (n : ℕ). min to n) same)
