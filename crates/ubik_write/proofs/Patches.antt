-- What patches have of an image, and what they leave of a buffer.
use Rattle.std.proofs.Common.{◌≡◌, ℕ, ◌+◌, ◌-◌, ◌<◌, ◌≤◌, true, false, min, max, ◌⊎◌, List, [], ◌∷◌, ◌++◌, length, take, drop, get_or, refl, ap, sym, ◌∙◌, ⊎_elim, inl, inr, arith}
use Rattle.std.proofs.lemmas.Bool.{cases_lt}
use Rattle.std.proofs.lemmas.Bool.Decides.{nat_tests}
use Rattle.std.proofs.lemmas.List.{take_more, length-drop, get_or-take, get_or-drop, get_or_append_left, get_or-append_right, length-take-le}
use borrow.Rule.Slice.PartMut.{put_mid}
use Rattle.ubik_write.specs.declared.undo.Patch.{Patch}
use Rattle.ubik_write.specs.Undo.{covers, byte_laid, byte_before}

-- the byte under one more patch
pub byte_before-more : (undo : List Patch) (patch : Patch) (at byte : ℕ) → byte_before (undo ++ patch ∷ []) at byte ≡ byte_laid patch.at patch.bytes at (byte_before undo at byte)
byte_before-more [] patch at byte = refl
byte_before-more (first ∷ undo) patch at byte = byte_before-more undo patch at (byte_laid first.at first.bytes at byte)

-- the byte under the patches so far, and then under the next one
pub undone-more : (undo : List Patch) (patch : Patch) (n at before mid after : ℕ) → n < length undo → patch ≡ get_or undo n patch → mid ≡ byte_before (take n undo) at before → after ≡ byte_laid patch.at patch.bytes at mid → after ≡ byte_before (take (n + 1) undo) at before
undone-more undo patch n at before mid after inside is so_far next =
    let more : take (n + 1) undo ≡ take n undo ++ patch ∷ [] = take_more undo n patch inside ∙ ap (λ (one : Patch). take n undo ++ one ∷ []) (sym is) in
    next
    ∙ ap (λ (byte : ℕ). byte_laid patch.at patch.bytes at byte) so_far
    ∙ sym (byte_before-more (take n undo) patch at before)
    ∙ sym (ap (λ (those : List Patch). byte_before those at before) more)

-- a part of a list is laid over a part of another one
pub record IsLaidAt (start len : ℕ) (part before after : List ℕ) : Type 0 where
  pub size : length part ≡ len
  pub room : start + len ≤ length before
  pub is : after ≡ take start before ++ (part ++ drop len (drop start before))

-- a byte in front of the part, in it, and behind it
front-of_part : (start len : ℕ) (part before after : List ℕ) (i : ℕ) → IsLaidAt start len part before after → i < start → get_or after i 0 ≡ get_or before i 0
front-of_part start len part before after i laid below =
    let front : length (take start before) ≡ start = length-take-le start before (omega (arith, laid.room)) in
    ap (λ (those : List ℕ). get_or those i 0) laid.is
    ∙ get_or_append_left (take start before) (part ++ drop len (drop start before)) 0 i (omega (arith, front))
    ∙ get_or-take start before i 0 below

in-part : (start len : ℕ) (part before after : List ℕ) (i : ℕ) → IsLaidAt start len part before after → start ≤ i → i < start + len → get_or after i 0 ≡ get_or part (i - start) 0
in-part start len part before after i laid past below =
    let front : length (take start before) ≡ start = length-take-le start before (omega (arith, laid.room)) in
    ap (λ (those : List ℕ). get_or those i 0) laid.is
    ∙ get_or-append_right (take start before) (part ++ drop len (drop start before)) start i 0 front past
    ∙ get_or_append_left part (drop len (drop start before)) 0 (i - start) (omega (arith, laid.size))

behind-part : (start len : ℕ) (part before after : List ℕ) (i : ℕ) → IsLaidAt start len part before after → start + len ≤ i → get_or after i 0 ≡ get_or before i 0
behind-part start len part before after i laid past =
    let front : length (take start before) ≡ start = length-take-le start before (omega (arith, laid.room)) in
    let place : start + (len + (i - start - len)) ≡ i = omega arith in
    ap (λ (those : List ℕ). get_or those i 0) laid.is
    ∙ get_or-append_right (take start before) (part ++ drop len (drop start before)) start i 0 front (omega arith)
    ∙ get_or-append_right part (drop len (drop start before)) len (i - start) 0 laid.size (omega arith)
    ∙ get_or-drop len (drop start before) (i - start - len) 0
    ∙ get_or-drop start before (len + (i - start - len)) 0
    ∙ ap (λ (n : ℕ). get_or before n 0) place

-- the bytes of a part are those of the patch
pub laid-part : (bytes : List ℕ) (from at : ℕ) (before after : List ℕ) (start end : ℕ) → at ≤ start → from ≤ start → start < end → end ≤ from + length bytes → end ≤ at + length before → (start ≡ from) ⊎ (start ≡ at) → (end ≡ from + length bytes) ⊎ (end ≡ at + length before) → IsLaidAt (start - at) (end - start) (take (end - start) (drop (start - from) bytes)) before after → (i : ℕ) → i < length before → get_or after i 0 ≡ byte_laid from bytes (at + i) (get_or before i 0)
laid-part bytes from at before after start end low_at low_from some high_bytes high_buf starts ends laid i inside =
    ⊎_elim
    (λ (front : i < start - at).
    (let low : at + i < from = ⊎_elim (λ (e : start ≡ from). omega arith) (λ (e : start ≡ at). omega arith) starts in
    let outside : covers from bytes (at + i) ≡ false = grind (arith, nat_tests) in
    front-of_part (start - at) (end - start) (take (end - start) (drop (start - from) bytes)) before after i laid front ∙ rw outside))
    (λ (past : start - at ≤ i).
    ⊎_elim
    (λ (below : i < (start - at) + (end - start)).
    (let low : from ≤ at + i = omega arith in
    let high : at + i < from + length bytes = omega arith in
    let within : covers from bytes (at + i) ≡ true = grind (arith, nat_tests) in
    let place : (start - from) + (i - (start - at)) ≡ at + i - from = omega arith in
    let byte : get_or (take (end - start) (drop (start - from) bytes)) (i - (start - at)) 0 ≡ get_or bytes (at + i - from) 0 = get_or-take (end - start) (drop (start - from) bytes) (i - (start - at)) 0 (omega arith) ∙ get_or-drop (start - from) bytes (i - (start - at)) 0 ∙ ap (λ (n : ℕ). get_or bytes n 0) place in
    in-part (start - at) (end - start) (take (end - start) (drop (start - from) bytes)) before after i laid past below ∙ byte ∙ rw within))
    (λ (behind : (start - at) + (end - start) ≤ i).
    (let high : from + length bytes ≤ at + i = ⊎_elim (λ (e : end ≡ from + length bytes). omega arith) (λ (e : end ≡ at + length before). omega arith) ends in
    let outside : covers from bytes (at + i) ≡ false = grind (arith, nat_tests) in
    behind-part (start - at) (end - start) (take (end - start) (drop (start - from) bytes)) before after i laid behind ∙ rw outside))
    (cases_lt i ((start - at) + (end - start))))
    (cases_lt i (start - at))

-- the part that is written where the bytes and the buffer meet
pub laid-over : (bytes : List ℕ) (from at : ℕ) (before part : List ℕ) (start end : ℕ) → start ≡ max from at → end ≡ min (from + length bytes) (at + length before) → start < end → part ≡ take (end - from - (start - from)) (drop (start - from) bytes) → (i : ℕ) → i < length before → get_or (put_mid (start - at) (end - at - (start - at)) before part) i 0 ≡ byte_laid from bytes (at + i) (get_or before i 0)
laid-over bytes from at before part start end start_is end_is some part_is i inside =
    let size : end - at - (start - at) ≡ end - start = omega arith in
    let read : end - from - (start - from) ≡ end - start = omega arith in
    let whole : take (end - from - (start - from)) (drop (start - from) bytes) ≡ take (end - start) (drop (start - from) bytes) = ap (λ (n : ℕ). take n (drop (start - from) bytes)) read in
    let starts : (start ≡ from) ⊎ (start ≡ at) = ⊎_elim (λ (below : from < at). inr (omega arith)) (λ (past : at ≤ from). inl (omega arith)) (cases_lt from at) in
    let ends : (end ≡ from + length bytes) ⊎ (end ≡ at + length before) = ⊎_elim (λ (below : from + length bytes < at + length before). inl (omega arith)) (λ (past : at + length before ≤ from + length bytes). inr (omega arith)) (cases_lt (from + length bytes) (at + length before)) in
    let laid : IsLaidAt (start - at) (end - start) (take (end - start) (drop (start - from) bytes)) before (put_mid (start - at) (end - at - (start - at)) before part) = record {
      size = length-take-le (end - start) (drop (start - from) bytes) (omega (arith, length-drop (start - from) bytes));
      room = omega arith;
      is = ap (λ (n : ℕ). put_mid (start - at) n before part) size ∙ ap (λ (those : List ℕ). put_mid (start - at) (end - start) before those) (part_is ∙ whole);
    } in
    laid-part bytes from at before (put_mid (start - at) (end - at - (start - at)) before part) start end (omega arith) (omega arith) some (omega arith) (omega arith) starts ends laid i inside
