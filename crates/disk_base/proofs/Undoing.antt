-- One more changing call, and what undoes it.
use Rattle.std.proofs.Common.{◌≡◌, ◌∙◌, sym, ap, subst, refl, inl, inr, ℕ, suc, ◌+◌, ◌-◌, ◌<◌, ◌≤◌, min, max, List, [], ◌∷◌, ◌++◌, length, take, drop, All, get_or, arith, length-take, length-drop, get_or-take, get_or-drop}
use Rattle.std.proofs.lemmas.Grind.{common_steps}
use Rattle.std.proofs.lemmas.Bool.{cases_lt}
use Rattle.std.proofs.lemmas.List.{ext_get_or, map-append}
use Rattle.std.proofs.lemmas.List.Elements.{All-append}
use Rattle.std.proofs.Math.Seq.{take-suc}
use Rattle.disk_base.specs.declared.undos.Undo.{Undo}
use Rattle.disk_base.specs.declared.touches.Touch.TheVariants.{Wrote, Cut}
use Rattle.disk_base.specs.Files.{laid}
use Rattle.disk_base.specs.Touches.{MayBe}
use Rattle.disk_base.proofs.Touched.{length-laid, laid-before, laid-inside, laid-after}
use Rattle.disk_base.specs.Undos.{undone, all_undone, touches_in, lost_to}

-- the newest is undone first
pub all_undone-push : (undos : List Undo) (undo : Undo) (bytes : List ℕ) → all_undone (undos ++ undo ∷ []) bytes ≡ all_undone undos (undone undo bytes)
all_undone-push [] undo bytes = refl
all_undone-push (first ∷ undos) undo bytes = ap (undone first) (all_undone-push undos undo bytes)

pub touches_in-push : (undos : List Undo) (undo : Undo) → touches_in (undos ++ undo ∷ []) ≡ touches_in undos ++ undo.touch ∷ []
touches_in-push undos undo = map-append (λ (u : Undo). u.touch) undos (undo ∷ [])

-- the bytes that a write took, laid over what it made
module _ (file bytes : List ℕ) (at : ℕ) (begins : at ≤ length file) where
  abbrev made : List ℕ
  made = laid file at bytes

  abbrev lost : List ℕ
  lost = take (length bytes) (drop at file)

  long : length made ≡ max (length file) (at + length bytes)
  long = length-laid file bytes at begins

  lost-long : length lost ≡ min (length bytes) (length file - at)
  lost-long = omega (arith, length-take (length bytes) (drop at file), length-drop at file)

  relaid-long : length (laid made at lost) ≡ max (length made) (at + length lost)
  relaid-long = length-laid made lost at (omega (arith, long))

  place : (k : ℕ) → k < length file → get_or (laid made at lost) k 0 ≡ get_or file k 0
  place k h = elim (cases_lt k at) [
    | inl before ↦ laid-before made lost at k (omega (arith, long)) before ∙ laid-before file bytes at k begins before
    | inr from ↦ elim (cases_lt k (at + length bytes)) [
      | inl inside ↦
          let same : at + (k - at) ≡ k = omega arith in
          laid-inside made lost at k (omega (arith, long)) from (omega (arith, lost-long))
          ∙ get_or-take (length bytes) (drop at file) (k - at) 0 (omega arith)
          ∙ get_or-drop at file (k - at) 0
          ∙ ap (λ n. get_or file n 0) same
      | inr after ↦ laid-after made lost at k (omega (arith, long)) (omega (arith, lost-long)) ∙ laid-after file bytes at k begins after
    ]
  ]

  pub unwritten_back : take (length file) (laid made at lost) ≡ file
  unwritten_back =
      ext_get_or 0 (take (length file) (laid made at lost)) file
      (omega (arith, length-take (length file) (laid made at lost), relaid-long, long))
      (λ k h. let n = length-take (length file) (laid made at lost) in
      let within : k < length file = omega arith in
      get_or-take (length file) (laid made at lost) k 0 within ∙ place k within)

-- and those that a cut took
pub uncut_back : (file : List ℕ) (len : ℕ) → len ≤ length file
    → take (length file) (laid (take len file) len (drop len file)) ≡ file
uncut_back file len within = grind (arith, common_steps)

-- one more of them, from the last on
pub all_undone-step : (undos : List Undo) (at : ℕ) (undo : Undo) (bytes : List ℕ) → 0 < at → at ≤ length undos → get_or undos (at - 1) undo ≡ undo
    → all_undone (take (at - 1) undos) (undone undo bytes) ≡ all_undone (take at undos) bytes
all_undone-step undos at undo bytes some within is =
    let one_more : suc (at - 1) ≡ at = omega arith in
    let front : take at undos ≡ take (at - 1) undos ++ undo ∷ [] =
    ap (λ n. take n undos) (sym one_more) ∙ take-suc undos (at - 1) undo (omega arith) ∙ ap (λ u. take (at - 1) undos ++ u ∷ []) is in
    sym (ap (λ us. all_undone us bytes) front ∙ all_undone-push (take (at - 1) undos) undo bytes)

-- a changing call from which the file it was can be had
module _ (undos : List Undo) (undo : Undo) (old new : List ℕ) where
  pub all_undone-pushed : undone undo new ≡ old → all_undone (undos ++ undo ∷ []) new ≡ all_undone undos old
  all_undone-pushed back = all_undone-push undos undo new ∙ ap (all_undone undos) back

  pub MayBe-pushed : undone undo new ≡ old → MayBe (all_undone undos old) (touches_in undos ++ undo.touch ∷ []) new
      → MayBe (all_undone (undos ++ undo ∷ []) new) (touches_in (undos ++ undo ∷ [])) new
  MayBe-pushed back may_be = rw (all_undone-pushed back, touches_in-push undos undo) may_be

module _ (undo : Undo) (file : List ℕ) where
  pub undone-write : (bytes : List ℕ) (at : ℕ) → at ≤ length file → undo.touch ≡ Wrote at (length bytes) → undo.was ≡ length file
      → undo.lost.items ≡ take (length bytes) (drop at file) → undone undo (laid file at bytes) ≡ file
  undone-write bytes at begins touch was lost = rw (touch, was, lost) (unwritten_back file bytes at begins)

  pub undone-cut : (len : ℕ) → len ≤ length file → undo.touch ≡ Cut len → undo.was ≡ length file
      → undo.lost.items ≡ drop len file → undone undo (take len file) ≡ file
  undone-cut len within touch was lost = rw (touch, was, lost) (uncut_back file len within)

-- what undoes each call lies within the room
pub fits-pushed : (undos : List Undo) (undo : Undo) (room : ℕ) → All (λ u. lost_to u ≤ room) undos → lost_to undo ≤ room
    → All (λ u. lost_to u ≤ room) (undos ++ undo ∷ [])
fits-pushed undos undo room all one = All-append (λ u. lost_to u ≤ room) undos (undo ∷ []) all (λ k d h. let first : 0 ≡ k = omega arith in subst (λ (n : ℕ). lost_to (get_or (undo ∷ []) n d) ≤ room) first one)

module _ (undo : Undo) (file : List ℕ) (room : ℕ) where
  pub fits-write : (len at : ℕ) → at + len ≤ room → undo.touch ≡ Wrote at len → undo.lost.items ≡ take len (drop at file) → lost_to undo ≤ room
  fits-write len at fits touch lost = rw (touch, lost) (omega (arith, length-take len (drop at file)))

  pub fits-cut : (len : ℕ) → len ≤ length file → length file ≤ room → undo.touch ≡ Cut len → undo.lost.items ≡ drop len file → lost_to undo ≤ room
  fits-cut len within fits touch lost = rw (touch, lost) (omega (arith, length-drop len file))
