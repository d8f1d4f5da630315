-- The undo bytes lead from the image after changes back to the one before.
use Rattle.std.proofs.Common.{◌≡◌, ℕ, ◌+◌, ◌-◌, ◌<◌, ◌≤◌, Bool, true, false, cond, List, [], ◌∷◌, ◌++◌, length, map, take, drop, get_or, replicate, nat_le, nat_lt, min, ⊎_elim, refl, ap, sym, ◌∙◌, arith}
use Rattle.std.proofs.lemmas.Bool.Decides.{nat_tests}
use Rattle.std.proofs.lemmas.Bool.{cases_lt}
use Rattle.std.proofs.lemmas.List.{length-take, length-take-le, length-drop, length-append, length-replicate, get_or-take, get_or-drop, get_or_append_left, get_or-append_right}
use Rattle.std.proofs.lemmas.Grind.{same_number_lists}
use Rattle.ubik_types.specs.declared.images.Change.{Change}
use Rattle.ubik_types.specs.declared.images.Change.TheVariants.{Put, Cut}
use Rattle.ubik_types.specs.Image.{extended, changed, effect}
use Rattle.ubik_write.specs.declared.undo.Patch.{Patch}
use Rattle.ubik_write.specs.Undo.{undo_of, covers, byte_before, ShowsWithin, IsUndone}
use Rattle.ubik_write.specs.Flight.{FlightRecord, Undoes}

-- an image has this byte at a position
record HasByte (image : List ℕ) (at byte : ℕ) : Type 0 where
  inside : at < length image
  is : get_or image at 0 ≡ byte

-- a part of an image has its bytes
part-byte : (image : List ℕ) (from len at : ℕ) → from ≤ at → at < from + length (take len (drop from image)) → get_or (take len (drop from image)) (at - from) 0 ≡ get_or image at 0
part-byte image from len at low high =
    let size : length (take len (drop from image)) ≡ min len (length image - from) = length-take len (drop from image) ∙ ap (λ (n : ℕ). min len n) (length-drop from image) in
    let place : from + (at - from) ≡ at = omega arith in
    get_or-take len (drop from image) (at - from) 0 (omega (arith, size))
    ∙ get_or-drop from image (at - from) 0
    ∙ ap (λ (i : ℕ). get_or image i 0) place

rest-byte : (image : List ℕ) (from at : ℕ) → from ≤ at → get_or (drop from image) (at - from) 0 ≡ get_or image at 0
rest-byte image from at low =
    let place : from + (at - from) ≡ at = omega arith in
    get_or-drop from image (at - from) 0 ∙ ap (λ (i : ℕ). get_or image i 0) place

-- a patch that covers a position has the byte of the image there
covered-byte : (image : List ℕ) (change : Change) (at : ℕ) → covers (undo_of image change).at (undo_of image change).bytes at ≡ true → get_or (undo_of image change).bytes (at - (undo_of image change).at) 0 ≡ get_or image at 0
covered-byte image (Put from bytes) at test =
    part-byte image from (length bytes) at (grind (arith, nat_tests)) (grind (arith, nat_tests))
covered-byte image (Cut len) at test = rest-byte image len at (grind (arith, nat_tests))

front-len : (now : List ℕ) (from : ℕ) → length (take from (extended now from)) ≡ from
front-len now from =
    let size : length (extended now from) ≡ length now + (from - length now) = length-append now (replicate (from - length now) 0) ∙ ap (λ (n : ℕ). length now + n) (length-replicate (from - length now) 0) in
    length-take-le from (extended now from) (omega (arith, size))

-- before a put an image keeps its bytes
before-put : (now bytes : List ℕ) (from at : ℕ) → at < from → at < length now → get_or (changed now (Put from bytes)) at 0 ≡ get_or now at 0
before-put now bytes from at below inside =
    let front = front-len now from in
    let two : length (take from (extended now from) ++ bytes) ≡ from + length bytes = length-append (take from (extended now from)) bytes ∙ ap (λ (n : ℕ). n + length bytes) front in
    get_or_append_left (take from (extended now from) ++ bytes) (drop (from + length bytes) now) 0 at (omega (arith, two))
    ∙ get_or_append_left (take from (extended now from)) bytes 0 at (omega (arith, front))
    ∙ get_or-take from (extended now from) at 0 below
    ∙ get_or_append_left now (replicate (from - length now) 0) 0 at inside

-- behind a put too
behind-put : (now bytes : List ℕ) (from at : ℕ) → from + length bytes ≤ at → get_or (changed now (Put from bytes)) at 0 ≡ get_or now at 0
behind-put now bytes from at past =
    let front = front-len now from in
    let two : length (take from (extended now from) ++ bytes) ≡ from + length bytes = length-append (take from (extended now from)) bytes ∙ ap (λ (n : ℕ). n + length bytes) front in
    get_or-append_right (take from (extended now from) ++ bytes) (drop (from + length bytes) now) (from + length bytes) at 0 two past
    ∙ rest-byte now (from + length bytes) at past

-- no put makes an image shorter
put-len : (now bytes : List ℕ) (from at : ℕ) → at < length now → at < length (changed now (Put from bytes))
put-len now bytes from at inside =
    let front = front-len now from in
    let two : length (take from (extended now from) ++ bytes) ≡ from + length bytes = length-append (take from (extended now from)) bytes ∙ ap (λ (n : ℕ). n + length bytes) front in
    omega (arith, two, length-append (take from (extended now from) ++ bytes) (drop (from + length bytes) now), length-drop (from + length bytes) now)

-- a change leaves a byte that its patch does not cover
left-byte : (image now : List ℕ) (change : Change) (at byte : ℕ) → at < length image → covers (undo_of image change).at (undo_of image change).bytes at ≡ false → HasByte now at byte → HasByte (changed now change) at byte
left-byte image now (Put from bytes) at byte inside test has =
    ⊎_elim
    (λ (below : at < from). record { inside = put-len now bytes from at has.inside; is = before-put now bytes from at below has.inside ∙ has.is })
    (λ (past : from ≤ at).
    (let size : length (take (length bytes) (drop from image)) ≡ min (length bytes) (length image - from) = length-take (length bytes) (drop from image) ∙ ap (λ (n : ℕ). min (length bytes) n) (length-drop from image) in
    let low : nat_le from at ≡ true = grind (arith, nat_tests) in
    let high : nat_lt at (from + length (take (length bytes) (drop from image))) ≡ false = rw low at test in
    let behind : from + length (take (length bytes) (drop from image)) ≤ at = grind (arith, nat_tests) in
    record {
      inside = put-len now bytes from at has.inside;
      is = behind-put now bytes from at (omega (arith, size, behind)) ∙ has.is;
    }))
    (cases_lt at from)
left-byte image now (Cut len) at byte inside test has =
    ⊎_elim
    (λ (below : at < len).
    record {
      inside = omega (arith, length-take len now, has.inside);
      is = get_or-take len now at 0 below ∙ has.is;
    })
    (λ (past : len ≤ at).
    (let low : nat_le len at ≡ true = grind (arith, nat_tests) in
    let high : nat_lt at (len + length (drop len image)) ≡ false = rw low at test in
    let behind : len + length (drop len image) ≤ at = grind (arith, nat_tests) in
    absurd (omega (arith, length-drop len image, behind))))
    (cases_lt at len)

-- no patch covers a position
abbrev NoneCovers : List ℕ → List Change → ℕ → Type 0
NoneCovers image [] at = Unit {0}
NoneCovers image (change ∷ changes) at = (covers (undo_of image change).at (undo_of image change).bytes at ≡ false) × NoneCovers image changes at

left-bytes : (image now : List ℕ) (changes : List Change) (at byte : ℕ) → at < length image → NoneCovers image changes at → HasByte now at byte → HasByte (effect now changes) at byte
left-bytes image now [] at byte inside none has = has
left-bytes image now (change ∷ changes) at byte inside none has =
    left-bytes image (changed now change) changes at byte inside none.1 (left-byte image now change at byte inside none.0 has)

-- Under the patches stands the byte of the image, where it stood already, or stands where no patch covers it.
under-patches : (image : List ℕ) (changes : List Change) (at byte : ℕ) → (NoneCovers image changes at → byte ≡ get_or image at 0) → byte_before (map (undo_of image) changes) at byte ≡ get_or image at 0
under-patches image [] at byte beneath = beneath tt
under-patches image (change ∷ changes) at byte beneath =
    by_test (covers (undo_of image change).at (undo_of image change).bytes at) refl
    (under-patches image changes at (get_or (undo_of image change).bytes (at - (undo_of image change).at) 0))
    (under-patches image changes at byte)
  where
    by_test : (test : Bool) → covers (undo_of image change).at (undo_of image change).bytes at ≡ test
        → ((NoneCovers image changes at → get_or (undo_of image change).bytes (at - (undo_of image change).at) 0 ≡ get_or image at 0) → byte_before (map (undo_of image) changes) at (get_or (undo_of image change).bytes (at - (undo_of image change).at) 0) ≡ get_or image at 0)
        → ((NoneCovers image changes at → byte ≡ get_or image at 0) → byte_before (map (undo_of image) changes) at byte ≡ get_or image at 0)
        → byte_before (map (undo_of image) changes) at (cond test (get_or (undo_of image change).bytes (at - (undo_of image change).at) 0) byte) ≡ get_or image at 0
    by_test true e covered left = covered (λ none. covered-byte image change at e)
    by_test false e covered left = left (λ none. beneath (e, none))

-- the byte of a read of the image after the changes, under the patches, is that of the image before them
pub byte-back : (image : List ℕ) (changes : List Change) (at byte : ℕ) → at < length image → (at < length (effect image changes) → byte ≡ get_or (effect image changes) at 0) → byte_before (map (undo_of image) changes) at byte ≡ get_or image at 0
byte-back image changes at byte inside shows =
    under-patches image changes at byte
    (λ none.
    (let left = left-bytes image image changes at (get_or image at 0) inside none (record { inside = inside; is = refl }) in
    shows left.inside ∙ left.is))

-- a read of the image after the changes, undone, is a read of the image before them
pub read-back : (f : FlightRecord) (image : List ℕ) (changes : List Change) (at : ℕ) (before after : List ℕ) → Undoes f image changes → at + length before ≤ f.old_len → length after ≡ length before → IsUndone f.undo at before after → ShowsWithin at (effect image changes) before → after ≡ take (length before) (drop at image)
read-back f image changes at before after undoes within size undone shows =
    let len = undoes.len in
    let part : length (take (length before) (drop at image)) ≡ length before = length-take-le (length before) (drop at image) (omega (arith, length-drop at image, len)) in
    let byte : (k : ℕ) → k < length before → get_or after k 0 ≡ get_or image (at + k) 0 = λ (k : ℕ) (inside : k < length before).
    (undone k inside
    ∙ ap (λ (undo : List Patch). byte_before undo (at + k) (get_or before k 0)) undoes.undo
    ∙ byte-back image changes (at + k) (get_or before k 0) (omega (arith, len)) (λ reaches. shows k inside reaches)) in
    same_number_lists after (take (length before) (drop at image)) (size ∙ sym part)
    (λ k inside.
    (let k_inside : k < length before = omega (arith, size) in
    byte k k_inside ∙ sym (get_or-take (length before) (drop at image) k 0 k_inside ∙ get_or-drop at image k 0)))
