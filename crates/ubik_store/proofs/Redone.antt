-- The changes of a log have one effect on all images that a crash may leave while they are made.
use Rattle.std.proofs.Common.{◌≡◌, ◌<◌, ◌≤◌, ◌⊎◌, inl, inr, ℕ, zero, suc, ◌+◌, ◌-◌, max, min, List, [], ◌∷◌, ◌++◌, length, take, drop, get_or, refl, sym, ap, subst, ◌∙◌, arith, length-take, append_assoc, get_or-take, get_or-drop}
use Rattle.std.proofs.lemmas.Grind.{common_steps}
use Rattle.std.proofs.lemmas.Bool.{cases_lt}
use Rattle.std.proofs.lemmas.List.{ext_get_or, get_or-append_right, get_or_append_left}
use Rattle.ubik_types.specs.declared.images.Change.{Change}
use Rattle.ubik_types.specs.declared.images.Change.TheVariants.{Put, Cut}
use Rattle.ubik_types.specs.Image.{extended, changed, effect}
use Rattle.disk_base.specs.Crash.{Torn, CutShort}
use Rattle.ubik_store.specs.Redo.{changed_len, len_after, Leaves, AllLeave, Reaches, Redoes}
use Rattle.ubik_store.specs.Redo.Reaches.{begins, goes_on}

-- how long an image is after a change
pub length-changed : (image : List ℕ) (change : Change) → length (changed image change) ≡ changed_len (length image) change
length-changed image (Put at bytes) = grind (arith, common_steps)
length-changed image (Cut to) = length-take to image

pub length-effect : (image : List ℕ) (changes : List Change) → length (effect image changes) ≡ len_after (length image) changes
length-effect image [] = refl
length-effect image (change ∷ changes) =
    length-effect (changed image change) changes ∙ ap (λ (n : ℕ). len_after n changes) (length-changed image change)

extended_at : (image : List ℕ) (at p : ℕ) → p < at → get_or (take at (extended image at)) p 0 ≡ get_or image p 0
extended_at image at p before = grind (arith, common_steps)

put_before : (image bytes : List ℕ) (at p : ℕ) → p < at → get_or (changed image (Put at bytes)) p 0 ≡ get_or image p 0
put_before image bytes at p before = grind (arith, common_steps, extended_at)

length-front : (image : List ℕ) (at : ℕ) → length (take at (extended image at)) ≡ at
length-front image at = grind (arith, common_steps)

put_behind : (image bytes : List ℕ) (at p : ℕ) → at + length bytes ≤ p → get_or (changed image (Put at bytes)) p 0 ≡ get_or image p 0
put_behind image bytes at p behind =
    let same : at + length bytes + (p - at - length bytes) ≡ p = omega arith in
    ap (λ (xs : List ℕ). get_or xs p 0) (append_assoc (take at (extended image at)) bytes (drop (at + length bytes) image))
    ∙ get_or-append_right (take at (extended image at)) (bytes ++ drop (at + length bytes) image) at p 0 (length-front image at)
    (omega arith)
    ∙ get_or-append_right bytes (drop (at + length bytes) image) (length bytes) (p - at) 0 refl (omega arith)
    ∙ get_or-drop (at + length bytes) image (p - at - length bytes) 0
    ∙ ap (λ (k : ℕ). get_or image k 0) same

put_there : (image bytes : List ℕ) (at p : ℕ) → at ≤ p → p < at + length bytes
    → get_or (changed image (Put at bytes)) p 0 ≡ get_or bytes (p - at) 0
put_there image bytes at p from below =
    ap (λ (xs : List ℕ). get_or xs p 0) (append_assoc (take at (extended image at)) bytes (drop (at + length bytes) image))
    ∙ get_or-append_right (take at (extended image at)) (bytes ++ drop (at + length bytes) image) at p 0 (length-front image at) from
    ∙ get_or_append_left bytes (drop (at + length bytes) image) 0 (p - at) (omega arith)

cut_before : (image : List ℕ) (to p : ℕ) → p < to → get_or (changed image (Cut to)) p 0 ≡ get_or image p 0
cut_before image to p before = get_or-take to image p 0 before

cut_behind : (image : List ℕ) (to p : ℕ) → to ≤ p → get_or (changed image (Cut to)) p 0 ≡ 0
cut_behind image to p behind = grind (arith, common_steps)

-- a position that the change leaves has the byte that it had
pub byte_left : (image : List ℕ) (change : Change) (p : ℕ) → Leaves change p → get_or (changed image change) p 0 ≡ get_or image p 0
byte_left image (Put at bytes) p (inl before) = put_before image bytes at p before
byte_left image (Put at bytes) p (inr behind) = put_behind image bytes at p behind
byte_left image (Cut to) p before = cut_before image to p before

-- any other has the same byte on all images
abbrev IsMade : Change → ℕ → Type 0
IsMade (Put at bytes) p = (at ≤ p) × (p < at + length bytes)
IsMade (Cut to) p = to ≤ p

byte_made : (a b : List ℕ) (change : Change) (p : ℕ) → IsMade change p → get_or (changed a change) p 0 ≡ get_or (changed b change) p 0
byte_made a b (Put at bytes) p made = put_there a bytes at p made.0 made.1 ∙ sym (put_there b bytes at p made.0 made.1)
byte_made a b (Cut to) p made = cut_behind a to p made ∙ sym (cut_behind b to p made)

left_or_made : (change : Change) (p : ℕ) → Leaves change p ⊎ IsMade change p
left_or_made (Put at bytes) p = elim (cases_lt p at) [
  | inl before ↦ inl (inl before)
  | inr from ↦ elim (cases_lt p (at + length bytes)) [
    | inl below ↦ inr (from, below)
    | inr behind ↦ inl (inr behind)
  ]
]
left_or_made (Cut to) p = cases_lt p to

-- a longer image is one too
reaches_more : {changes : List Change} {len x : ℕ} (y : ℕ) → x ≤ y → Reaches len changes x → Reaches len changes y
reaches_more y le (begins len changes x low) = begins len changes y (omega arith)
reaches_more y le (goes_on len change changes x rest) = goes_on len change changes y (reaches_more y le rest)

-- an image that is longer before the first change is longer after it, or stays
change_keeps : (len x : ℕ) (change : Change) → (changed_len len change ≤ changed_len x change) ⊎ (x ≤ changed_len x change)
change_keeps len x (Put at bytes) = inr (omega arith)
change_keeps len x (Cut to) = elim (cases_lt to x) [
  | inl above ↦ inl (omega arith)
  | inr within ↦ inr (omega arith)
]

change-le : (x y : ℕ) (change : Change) → x ≤ y → changed_len x change ≤ changed_len y change
change-le x y (Put at bytes) le = omega arith
change-le x y (Cut to) le = omega arith

-- a length that is reached is so still after the first change, by those behind it
pub reaches_tail : {change : Change} {changes : List Change} {len x : ℕ} → Reaches len (change ∷ changes) x
    → Reaches (changed_len len change) changes (changed_len x change)
reaches_tail {change} {changes} (begins len all x low) = begins (changed_len len change) changes (changed_len x change)
    (change-le len x change low)
reaches_tail (goes_on len change changes x rest) = elim (change_keeps len x change) [
  | inl low ↦ begins (changed_len len change) changes (changed_len x change) low
  | inr more ↦ reaches_more (changed_len x change) more rest
]

-- after the first change the others lead to one image still
redoes_tail : (change : Change) (changes : List Change) (base image : List ℕ) → Redoes (change ∷ changes) base image
    → Redoes changes (changed base change) (changed image change)
redoes_tail change changes base image same = record {
  reaches =
      let P : ℕ → ℕ → Type 0 = λ m n. Reaches m changes n in
      let tail = reaches_tail same.reaches in
      subst (λ (n : ℕ). P (length (changed base change)) n) (sym (length-changed image change))
      (subst (λ (m : ℕ). P m (changed_len (length image) change)) (sym (length-changed base change)) tail);
  len =
      ap (λ (n : ℕ). len_after n changes) (length-changed image change) ∙ same.len
      ∙ ap (λ (n : ℕ). len_after n changes) (sym (length-changed base change));
  bytes = λ p rest. elim (left_or_made change p) [
    | inl left ↦ byte_left image change p left ∙ same.bytes p (left, rest) ∙ sym (byte_left base change p left)
    | inr made ↦ byte_made image base change p made
  ];
}

pub redone : (changes : List Change) (base image : List ℕ) → Redoes changes base image → effect image changes ≡ effect base changes
redone [] base image same = ext_get_or 0 image base same.len (λ p within. same.bytes p tt)
redone (change ∷ changes) base image same =
    redone changes (changed base change) (changed image change) (redoes_tail change changes base image same)

pub redoes_itself : (changes : List Change) (base : List ℕ) → Redoes changes base base
redoes_itself changes base =
    record { reaches = begins (length base) changes (length base) (omega arith); len = refl; bytes = λ p left. refl }

-- one of these changes
pub IsOne : List Change → Change → Type 0
IsOne [] change = ⊥
IsOne (first ∷ changes) change = (first ≡ change) ⊎ IsOne changes change

left_by_one : (changes : List Change) (change : Change) (p : ℕ) → IsOne changes change → AllLeave changes p → Leaves change p
unfolding IsOne
left_by_one [] change p one left = absurd one
left_by_one (first ∷ changes) change p (inl same) left = subst (λ (c : Change). Leaves c p) same left.0
left_by_one (first ∷ changes) change p (inr one) left = left_by_one changes change p one left.1

-- the longer of two images ends no shorter
pub len_after-le : (changes : List Change) (x y : ℕ) → x ≤ y → len_after x changes ≤ len_after y changes
len_after-le [] x y le = le
len_after-le (Put at bytes ∷ changes) x y le = len_after-le changes (max x (at + length bytes)) (max y (at + length bytes)) (omega arith)
len_after-le (Cut to ∷ changes) x y le = len_after-le changes (min to x) (min to y) (omega arith)

-- a length that a torn put leaves ends as the length before it
len_put : (changes : List Change) (at x y : ℕ) (bytes : List ℕ) → IsOne changes (Put at bytes) → x ≤ y → y ≤ max x (at + length bytes)
    → len_after y changes ≡ len_after x changes
unfolding IsOne
len_put [] at x y bytes one low high = absurd one
len_put (first ∷ changes) at x y bytes (inl same) low high =
    let equal : changed_len y (Put at bytes) ≡ changed_len x (Put at bytes) = omega arith in
    ap (λ (c : Change). len_after (changed_len y c) changes) same ∙ ap (λ (n : ℕ). len_after n changes) equal
    ∙ ap (λ (c : Change). len_after (changed_len x c) changes) (sym same)
len_put (Put from laid ∷ changes) at x y bytes (inr one) low high =
    len_put changes at (max x (from + length laid)) (max y (from + length laid)) bytes one (omega arith) (omega arith)
len_put (Cut to ∷ changes) at x y bytes (inr one) low high = len_put changes at (min to x) (min to y) bytes one (omega arith) (omega arith)

-- and so does one that a cut leaves, done in part
len_cut : (changes : List Change) (to x y : ℕ) → IsOne changes (Cut to) → min to x ≤ y → y ≤ x → len_after y changes ≡ len_after x changes
unfolding IsOne
len_cut [] to x y one low high = absurd one
len_cut (first ∷ changes) to x y (inl same) low high =
    let equal : changed_len y (Cut to) ≡ changed_len x (Cut to) = omega arith in
    ap (λ (c : Change). len_after (changed_len y c) changes) same ∙ ap (λ (n : ℕ). len_after n changes) equal
    ∙ ap (λ (c : Change). len_after (changed_len x c) changes) (sym same)
len_cut (Put from laid ∷ changes) to x y (inr one) low high =
    len_cut changes to (max x (from + length laid)) (max y (from + length laid)) one (omega arith) (omega arith)
len_cut (Cut other ∷ changes) to x y (inr one) low high = len_cut changes to (min other x) (min other y) one (omega arith) (omega arith)

-- a byte beside the range of a torn write
torn_before : (at n p : ℕ) (old new : List ℕ) → Torn at n old new → p < at → get_or new p 0 ≡ get_or old p 0
torn_before at n p old new torn before =
    sym (get_or-take at new p 0 before) ∙ ap (λ (xs : List ℕ). get_or xs p 0) torn.before ∙ get_or-take at old p 0 before

torn_behind : (at n p : ℕ) (old new : List ℕ) → Torn at n old new → at + n ≤ p → get_or new p 0 ≡ get_or old p 0
torn_behind at n p old new torn behind =
    let same : at + n + (p - (at + n)) ≡ p = omega arith in
    let read : (xs : List ℕ) → get_or (drop (at + n) xs) (p - (at + n)) 0 ≡ get_or xs p 0 =
    λ xs. get_or-drop (at + n) xs (p - (at + n)) 0 ∙ ap (λ (k : ℕ). get_or xs k 0) same in
    sym (read new) ∙ ap (λ (xs : List ℕ). get_or xs (p - (at + n)) 0) torn.after ∙ read old

torn_byte : (at p : ℕ) (bytes old new : List ℕ) → Torn at (length bytes) old new → Leaves (Put at bytes) p → get_or new p 0 ≡ get_or old p 0
torn_byte at p bytes old new torn (inl before) = torn_before at (length bytes) p old new torn before
torn_byte at p bytes old new torn (inr behind) = torn_behind at (length bytes) p old new torn behind

-- a torn put leaves an image on which the changes have the same effect
pub redoes_torn : (changes : List Change) (base old new : List ℕ) (at : ℕ) (bytes : List ℕ) → IsOne changes (Put at bytes)
    → Torn at (length bytes) old new → Redoes changes base old → Redoes changes base new
redoes_torn changes base old new at bytes one torn same = record {
  reaches = reaches_more (length new) torn.no_shorter same.reaches;
  len = len_put changes at (length old) (length new) bytes one torn.no_shorter torn.no_longer ∙ same.len;
  bytes = λ p left. torn_byte at p bytes old new torn (left_by_one changes (Put at bytes) p one left) ∙ same.bytes p left;
}

cut_bytes : (to p : ℕ) (old new : List ℕ) → CutShort to old new → p < to → get_or new p 0 ≡ get_or old p 0
cut_bytes to p old new (inl same) before = ap (λ (xs : List ℕ). get_or xs p 0) same
cut_bytes to p old new (inr short) before =
    ap (λ (xs : List ℕ). get_or xs p 0) short.1 ∙ get_or-take (length new) old p 0 (omega (arith, short.0))

cut_low : (to : ℕ) (old new : List ℕ) → CutShort to old new → min to (length old) ≤ length new
cut_low to old new (inl same) = omega (arith, ap length same)
cut_low to old new (inr short) = omega (arith, short.0)

cut_high : (to : ℕ) (old new : List ℕ) → CutShort to old new → length new ≤ length old
cut_high to old new (inl same) = omega (arith, ap length same)
cut_high to old new (inr short) = omega (arith, ap length short.1, length-take (length new) old)

-- where one of these changes cuts an image, each length from there on is reached
reaches_cut : (changes : List Change) (to len x : ℕ) → IsOne changes (Cut to) → to ≤ x → Reaches len changes x
unfolding IsOne
reaches_cut [] to len x one above = absurd one
reaches_cut (first ∷ changes) to len x (inl same) above =
    let low : changed_len len (Cut to) ≤ x = omega arith in
    goes_on len first changes x (begins (changed_len len first) changes x (subst (λ (c : Change). changed_len len c ≤ x) (sym same) low))
reaches_cut (first ∷ changes) to len x (inr one) above =
    goes_on len first changes x (reaches_cut changes to (changed_len len first) x one above)

cut_reaches : (changes : List Change) (to len : ℕ) (old new : List ℕ) → IsOne changes (Cut to) → CutShort to old new
    → Reaches len changes (length old) → Reaches len changes (length new)
cut_reaches changes to len old new one (inl same) reaches = reaches_more (length new) (omega (arith, ap length same)) reaches
cut_reaches changes to len old new one (inr short) reaches = reaches_cut changes to len (length new) one short.0

-- and so does a cut that happened in part
pub redoes_cut : (changes : List Change) (base old new : List ℕ) (to : ℕ) → IsOne changes (Cut to) → CutShort to old new
    → Redoes changes base old → Redoes changes base new
redoes_cut changes base old new to one cut same = record {
  reaches = cut_reaches changes to (length base) old new one cut same.reaches;
  len = len_cut changes to (length old) (length new) one (cut_low to old new cut) (cut_high to old new cut) ∙ same.len;
  bytes = λ p left. cut_bytes to p old new cut (left_by_one changes (Cut to) p one left) ∙ same.bytes p left;
}

pub one_at : (changes : List Change) (k : ℕ) (d : Change) → k < length changes → IsOne changes (get_or changes k d)
unfolding IsOne
one_at [] k d below = absurd (omega arith)
one_at (change ∷ changes) zero d below = inl refl
one_at (change ∷ changes) (suc k) d below = inr (one_at changes k d (omega arith))
