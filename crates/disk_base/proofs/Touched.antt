-- What one more changing call does to what may be left of a file.
use Rattle.std.proofs.Common.{◌≡◌, ℕ, ◌+◌, ◌-◌, ◌<◌, ◌≤◌, min, max, Bool, true, false, cond, ◌||◌, ◌⊎◌, inl, inr, List, [], ◌∷◌, ◌++◌, length, take, get_or, subst, sym, ap, ◌∙◌, refl, arith, length-take, get_or-take}
use Rattle.std.proofs.lemmas.Bool.{cases_lt}
use Rattle.std.proofs.lemmas.Bool.Decides.{nat_tests}
use Rattle.std.proofs.lemmas.Grind.{common_steps}
use Rattle.std.proofs.lemmas.List.{places}
use Rattle.std.proofs.lemmas.List.Folds.{list_any-append}
use Rattle.disk_base.specs.declared.touches.Touch.{Touch}
use Rattle.disk_base.specs.declared.touches.Touch.TheVariants.{Wrote, Cut}
use Rattle.disk_base.specs.Files.{laid}
use Rattle.disk_base.specs.Touches.{MayBe, IsFilled, covers, was_written, least, greatest}

pub least-push : (n : ℕ) (touches : List Touch) (touch : Touch) → least n (touches ++ touch ∷ []) ≡ least n (touch ∷ touches)
least-push n [] touch = refl
least-push n (Wrote at len ∷ touches) (Wrote at' len') = least-push n touches (Wrote at' len')
least-push n (Wrote at len ∷ touches) (Cut len') = least-push n touches (Cut len')
least-push n (Cut len ∷ touches) (Wrote at' len') = ap (min len) (least-push n touches (Wrote at' len'))
least-push n (Cut len ∷ touches) (Cut len') = omega (arith, least-push n touches (Cut len'))

pub greatest-push : (n : ℕ) (touches : List Touch) (touch : Touch) → greatest n (touches ++ touch ∷ []) ≡ greatest n (touch ∷ touches)
greatest-push n [] touch = refl
greatest-push n (Wrote at len ∷ touches) (Wrote at' len') = omega (arith, greatest-push n touches (Wrote at' len'))
greatest-push n (Wrote at len ∷ touches) (Cut len') = ap (max (at + len)) (greatest-push n touches (Cut len'))
greatest-push n (Cut len ∷ touches) (Wrote at' len') = greatest-push n touches (Wrote at' len')
greatest-push n (Cut len ∷ touches) (Cut len') = greatest-push n touches (Cut len')

or-false : (a b : Bool) → (a || b) ≡ false → (a ≡ false) × (b ≡ false)
or-false false false h = (refl, refl)
or-false true b h = absurd (cc)
or-false false true h = absurd (cc)

or-false-false : (b : Bool) → (b || false) ≡ b
or-false-false true = refl
or-false-false false = refl

pub was_written-push : (touches : List Touch) (touch : Touch) (at : ℕ) → was_written (touches ++ touch ∷ []) at ≡ (was_written touches at || covers touch at)
was_written-push touches touch at =
    list_any-append (λ t. covers t at) touches (touch ∷ []) ∙ ap (λ b. was_written touches at || b) (or-false-false (covers touch at))

-- a position that is not written was not written before the last call, nor in it
pub unwritten : (touches : List Touch) (touch : Touch) (at : ℕ) → was_written (touches ++ touch ∷ []) at ≡ false
    → (was_written touches at ≡ false) × (covers touch at ≡ false)
unwritten touches touch at un = or-false _ _ (sym (was_written-push touches touch at) ∙ un)

-- a file that was cut
pub MayBe-cut : (synced : List ℕ) (touches : List Touch) (bytes : List ℕ) (len : ℕ) → MayBe synced touches bytes
    → MayBe synced (touches ++ Cut len ∷ []) (take len bytes)
MayBe-cut synced touches bytes len was = record {
  no_shorter = omega (arith, least-push (length synced) touches (Cut len), length-take len bytes, was.no_shorter);
  no_longer = omega (arith, greatest-push (length synced) touches (Cut len), length-take len bytes, was.no_longer);
  untouched = λ at h un.
      let n = length-take len bytes in
      let within : at < len = omega arith in
      get_or-take len bytes at 0 within ∙ was.untouched at (omega arith) (unwritten touches (Cut len) at un).0;
}

pub length-laid : (file bytes : List ℕ) (at : ℕ) → at ≤ length file → length (laid file at bytes) ≡ max (length file) (at + length bytes)
length-laid file bytes at begins = grind (arith, common_steps)

-- a position that a write does not cover lies before it or past it
pub uncovered : (at len k : ℕ) → covers (Wrote at len) k ≡ false → (k < at) ⊎ (at + len ≤ k)
uncovered at len k out = elim (cases_lt k at) [ inl before ↦ inl before | inr from ↦ inr (grind (arith, nat_tests)) ]

pub laid-before : (file bytes : List ℕ) (at k : ℕ) → at ≤ length file → k < at → get_or (laid file at bytes) k 0 ≡ get_or file k 0
laid-before file bytes at k begins before = grind (arith, places)

pub laid-after : (file bytes : List ℕ) (at k : ℕ) → at ≤ length file → at + length bytes ≤ k → get_or (laid file at bytes) k 0 ≡ get_or file k 0
laid-after file bytes at k begins after = grind (arith, places)

pub laid-inside : (file bytes : List ℕ) (at k : ℕ) → at ≤ length file → at ≤ k → k < at + length bytes → get_or (laid file at bytes) k 0 ≡ get_or bytes (k - at) 0
laid-inside file bytes at k begins from within = grind (arith, places)

laid-outside : (file bytes : List ℕ) (at k : ℕ) → at ≤ length file → covers (Wrote at (length bytes)) k ≡ false → k < length (laid file at bytes)
    → (k < length file) × (get_or (laid file at bytes) k 0 ≡ get_or file k 0)
laid-outside file bytes at k begins out within = elim (uncovered at (length bytes) k out) [
  | inl before ↦ (omega arith, laid-before file bytes at k begins before)
  | inr after ↦ (omega (arith, length-laid file bytes at begins), laid-after file bytes at k begins after)
]

-- a file that was written
pub MayBe-wrote : (synced : List ℕ) (touches : List Touch) (file bytes : List ℕ) (at : ℕ) → MayBe synced touches file → at ≤ length file
    → MayBe synced (touches ++ Wrote at (length bytes) ∷ []) (laid file at bytes)
MayBe-wrote synced touches file bytes at was begins =
    let n = length-laid file bytes at begins in record {
      no_shorter = omega (arith, least-push (length synced) touches (Wrote at (length bytes)), was.no_shorter);
      no_longer = omega (arith, greatest-push (length synced) touches (Wrote at (length bytes)), was.no_longer);
      untouched = λ k h un.
          let was_un = unwritten touches (Wrote at (length bytes)) k un in
          let out = laid-outside file bytes at k begins was_un.1 h in
          out.1 ∙ was.untouched k out.0 was_un.0;
    }

pub least-le : (n : ℕ) (touches : List Touch) → least n touches ≤ n
least-le n [] = omega arith
least-le n (Wrote at len ∷ touches) = least-le n touches
least-le n (Cut len ∷ touches) = omega (arith, least-le n touches)

pub le-greatest : (n : ℕ) (touches : List Touch) → n ≤ greatest n touches
le-greatest n [] = omega arith
le-greatest n (Wrote at len ∷ touches) = omega (arith, le-greatest n touches)
le-greatest n (Cut len ∷ touches) = le-greatest n touches

-- what was last synced may be left: each call may have done nothing
pub MayBe-synced : (synced : List ℕ) (touches : List Touch) → MayBe synced touches synced
MayBe-synced synced touches = record {
  no_shorter = least-le (length synced) touches;
  no_longer = le-greatest (length synced) touches;
  untouched = λ at h un. refl;
}

-- with a byte in each position that was written
pub MayBe-filled : (byte : ℕ) (synced : List ℕ) (touches : List Touch) (before after : List ℕ) → MayBe synced touches before
    → IsFilled byte touches before after → MayBe synced touches after
MayBe-filled byte synced touches before after was filled = record {
  no_shorter = subst (λ (n : ℕ). least (length synced) touches ≤ n) (sym filled.same_length) was.no_shorter;
  no_longer = subst (λ (n : ℕ). n ≤ greatest (length synced) touches) (sym filled.same_length) was.no_longer;
  untouched = λ at h un.
      let within : at < length before = omega (arith, filled.same_length) in
      filled.filled at within ∙ ap (λ b. cond b byte (get_or before at 0)) un ∙ was.untouched at within un;
}
