-- What a changing call does to what a crash may leave of three files.
use Rattle.std.proofs.Common.{◌≡◌, inl, inr, ℕ, ◌+◌, ◌-◌, ◌<◌, ◌≤◌, min, Bool, true, false, cond, ◌||◌, List, [], ◌∷◌, ◌++◌, length, take, drop, get_or, map, sym, ap, ◌∙◌, refl, arith, length-take, length-drop, get_or-take, get_or-drop}
use Rattle.std.proofs.lemmas.Bool.{cases_lt}
use Rattle.std.proofs.lemmas.Bool.Decides.{nat_tests}
use Rattle.std.proofs.lemmas.List.{ext_get_or, take_all}
use Rattle.std.proofs.lemmas.List.FromFn.{length-map-range_with_len, get_or-map-range_with_len}
use Rattle.std.specs.List.{range_with_len}
use Rattle.disk_base.specs.declared.touches.Touch.{Touch}
use Rattle.disk_base.specs.declared.touches.Touch.TheVariants.{Wrote, Cut}
use Rattle.disk_base.specs.Crash.{Torn, CutShort}
use Rattle.disk_base.specs.Touches.{MayBe, covers, was_written, least, greatest}
use Rattle.disk_base.proofs.Touched.{least-push, greatest-push, was_written-push, least-le, le-greatest}

-- what was synced, with other bytes where it was written, and another end
before_it : List ℕ → List Touch → List ℕ → ℕ → List ℕ
before_it synced touches bytes n =
    map (λ at. cond (was_written touches at) (get_or bytes at 0) (get_or synced at 0)) (range_with_len 0 n)

module _ (synced : List ℕ) (touches : List Touch) (bytes : List ℕ) (n : ℕ) where
  before_length : length (before_it synced touches bytes n) ≡ n
  unfolding before_it
  before_length = length-map-range_with_len _ 0 n

  before_at : (at : ℕ) → at < n → get_or (before_it synced touches bytes n) at 0
      ≡ cond (was_written touches at) (get_or bytes at 0) (get_or synced at 0)
  unfolding before_it
  before_at at within = get_or-map-range_with_len _ 0 n at at 0 within (omega arith)

  -- it might have been left before
  MayBe-before : least (length synced) touches ≤ n → n ≤ greatest (length synced) touches → MayBe synced touches (before_it synced touches bytes n)
  MayBe-before low high = record {
    no_shorter = omega (arith, before_length);
    no_longer = omega (arith, before_length);
    untouched = λ at h un. before_at at (omega (arith, before_length)) ∙ ap (λ b. cond b (get_or bytes at 0) (get_or synced at 0)) un;
  }

  by_case : (touch : Touch) (at : ℕ) (b : Bool) → was_written touches at ≡ b → MayBe synced (touches ++ touch ∷ []) bytes → at < n → at < length bytes
      → covers touch at ≡ false → get_or bytes at 0 ≡ get_or (before_it synced touches bytes n) at 0
  by_case touch at true is left within inside out =
      sym (before_at at within ∙ ap (λ b. cond b (get_or bytes at 0) (get_or synced at 0)) is)
  by_case touch at false is left within inside out =
      left.untouched at inside (was_written-push touches touch at ∙ ap (λ b. b || covers touch at) is ∙ out)
      ∙ sym (before_at at within ∙ ap (λ b. cond b (get_or bytes at 0) (get_or synced at 0)) is)

  -- it has the bytes that the last call did not write
  same_as_left : (touch : Touch) (at : ℕ) → MayBe synced (touches ++ touch ∷ []) bytes → at < n → at < length bytes → covers touch at ≡ false
      → get_or bytes at 0 ≡ get_or (before_it synced touches bytes n) at 0
  same_as_left touch at = by_case touch at (was_written touches at) refl

uncovered_before : (at len k : ℕ) → k < at → covers (Wrote at len) k ≡ false
uncovered_before at len k before = grind (arith, nat_tests)

uncovered_after : (at len k : ℕ) → at + len ≤ k → covers (Wrote at len) k ≡ false
uncovered_after at len k after = grind (arith, nat_tests)

-- the same bytes before a position
same_front : (at : ℕ) (xs ys : List ℕ) → min at (length xs) ≡ min at (length ys) → ((k : ℕ) → k < at → k < length xs → get_or xs k 0 ≡ get_or ys k 0)
    → take at xs ≡ take at ys
same_front at xs ys lengths same =
    ext_get_or 0 (take at xs) (take at ys) (length-take at xs ∙ lengths ∙ sym (length-take at ys))
    (λ k h. let l = length-take at xs in
    get_or-take at xs k 0 (omega arith) ∙ same k (omega arith) (omega arith) ∙ sym (get_or-take at ys k 0 (omega arith)))

-- the same bytes from a position on
same_back : (at : ℕ) (xs ys : List ℕ) → length xs - at ≡ length ys - at → ((k : ℕ) → at ≤ k → k < length xs → get_or xs k 0 ≡ get_or ys k 0)
    → drop at xs ≡ drop at ys
same_back at xs ys lengths same =
    ext_get_or 0 (drop at xs) (drop at ys) (length-drop at xs ∙ lengths ∙ sym (length-drop at ys))
    (λ k h. let l = length-drop at xs in
    get_or-drop at xs k 0 ∙ same (at + k) (omega arith) (omega arith) ∙ sym (get_or-drop at ys k 0))

-- what may be left after a write was left before it, and then torn
pub torn-left : (synced : List ℕ) (touches : List Touch) (at len : ℕ) (c : List ℕ) → at ≤ greatest (length synced) touches
    → MayBe synced (touches ++ Wrote at len ∷ []) c → (d : List ℕ) × MayBe synced touches d × Torn at len d c
torn-left synced touches at len c begins left =
    let n : ℕ = min (length c) (greatest (length synced) touches) in
    let d = before_it synced touches c n in
    let long : length d ≡ n = before_length synced touches c n in
    let low = least-push (length synced) touches (Wrote at len) in
    let high = greatest-push (length synced) touches (Wrote at len) in
    let shorter = left.no_shorter in
    let longer = left.no_longer in
    let bounds : least (length synced) touches ≤ greatest (length synced) touches =
    omega (arith, least-le (length synced) touches, le-greatest (length synced) touches) in (
      d,
      MayBe-before synced touches c n (omega arith) (omega arith),
      record {
        before = same_front at c d (omega arith) (λ k h within. same_as_left synced touches c n (Wrote at len) k left (omega arith) within (uncovered_before at len k h));
        after = same_back (at + len) c d (omega arith) (λ k h within. same_as_left synced touches c n (Wrote at len) k left (omega arith) within (uncovered_after at len k h));
        no_shorter = omega arith;
        no_longer = omega arith;
      },
    )

-- what may be left after a cut was left before it, and then cut in part
pub cut-left : (synced : List ℕ) (touches : List Touch) (len : ℕ) (c : List ℕ)
    → MayBe synced (touches ++ Cut len ∷ []) c → (d : List ℕ) × MayBe synced touches d × CutShort len d c
cut-left synced touches len c left =
    let n = least (length synced) touches in
    let low = least-push (length synced) touches (Cut len) in
    let high = greatest-push (length synced) touches (Cut len) in
    let shorter = left.no_shorter in
    let longer = left.no_longer in
    let bounds : least (length synced) touches ≤ greatest (length synced) touches =
    omega (arith, least-le (length synced) touches, le-greatest (length synced) touches) in
    elim (cases_lt (length c) n) [
      | inl short ↦
          let d = before_it synced touches c n in
          let long : length d ≡ n = before_length synced touches c n in (
            d,
            MayBe-before synced touches c n (omega arith) (omega arith),
            inr (
              omega arith,
              sym (take_all (length c) c (omega arith)) ∙ same_front (length c) c d (omega arith)
                  (λ k h within. same_as_left synced touches c n (Cut len) k left (omega arith) within refl),
            ),
          )
      | inr enough ↦ (
        c,
        record {
          no_shorter = enough;
          no_longer = omega arith;
          untouched = λ at h un. left.untouched at h (was_written-push touches (Cut len) at ∙ ap (λ b. b || false) un);
        },
        inl refl,
      )
    ]
