-- The changes of a log as they are made over an image: each gap is filled by a put of zero bytes, and no cut goes past the end.
use Rattle.std.proofs.Common.{◌≡◌, ◌<◌, ◌≤◌, inl, inr, ℕ, ◌+◌, ◌-◌, max, min, Bool, true, false, cond, ltb, List, [], ◌∷◌, ◌++◌, length, take, drop, get_or, replicate, refl, sym, ap, subst, ◌∙◌, append_assoc, arith, length-append}
use Rattle.std.specs.List.{All}
use Rattle.std.proofs.lemmas.Bool.{cases_lt}
use Rattle.std.proofs.lemmas.Bool.Decides.{nat_tests}
use Rattle.std.proofs.lemmas.Grind.{common_steps}
use Rattle.std.proofs.lemmas.List.{length-replicate, take_at, drop_all, append-nil}
use Rattle.std.proofs.lemmas.List.Elements.{All-cons, All-nil, All-head, All-tail}
use Rattle.ubik_types.specs.declared.images.Change.{Change}
use Rattle.ubik_types.specs.declared.images.Change.TheVariants.{Put, Cut}
use Rattle.ubik_types.specs.Image.{extended, changed, effect}
use Rattle.ubik_types.specs.Logged.{gap_before, logged}
use Rattle.page_file.specs.declared.label.TheConstants.{MAX_DATABASE_LEN}
use Rattle.ubik_log.specs.LogGrammar.{IsWithinImage}
use Rattle.ubik_store.specs.Redo.{changed_len, Ends, IsSeamless}
use Rattle.ubik_store.specs.Redo.Reaches.{begins}
use Rattle.ubik_store.proofs.Redone.{length-changed, redone}

gap_none : (len at : ℕ) → at ≤ len → gap_before len at ≡ []
gap_none len at within =
    let is : ltb len at ≡ false = grind (arith, nat_tests) in ap (λ (b : Bool). cond b (Put len (replicate (at - len) 0) ∷ []) []) is

gap_some : (len at : ℕ) → len < at → gap_before len at ≡ Put len (replicate (at - len) 0) ∷ []
gap_some len at gap =
    let is : ltb len at ≡ true = grind (arith, nat_tests) in ap (λ (b : Bool). cond b (Put len (replicate (at - len) 0) ∷ []) []) is

-- a put that leaves no gap is made as it stands
pub logged_put : (len at : ℕ) (bytes : List ℕ) (changes : List Change) → at ≤ len
    → logged len (Put at bytes ∷ changes) ≡ Put at bytes ∷ logged (max len (at + length bytes)) changes
logged_put len at bytes changes within =
    ap (λ (gap : List Change). gap ++ Put at bytes ∷ logged (max len (at + length bytes)) changes) (gap_none len at within)

-- and behind one of zero bytes where it leaves one
pub logged_gap : (len at : ℕ) (bytes : List ℕ) (changes : List Change) → len < at
    → logged len (Put at bytes ∷ changes) ≡ Put len (replicate (at - len) 0) ∷ Put at bytes ∷ logged (max len (at + length bytes)) changes
logged_gap len at bytes changes gap =
    ap (λ (gap : List Change). gap ++ Put at bytes ∷ logged (max len (at + length bytes)) changes) (gap_some len at gap)

len_filled : (len at : ℕ) → len < at → changed_len len (Put len (replicate (at - len) 0)) ≡ at
len_filled len at gap = let long : length (replicate {A = ℕ} (at - len) 0) ≡ at - len = length-replicate (at - len) 0 in omega arith

pub logged_is_seamless : (changes : List Change) (len : ℕ) → IsSeamless len (logged len changes)
logged_is_seamless [] len = tt
logged_is_seamless (Put at bytes ∷ changes) len =
    let rest = logged_is_seamless changes (max len (at + length bytes)) in
    elim (cases_lt len at) [
      | inl gap ↦
          let filled = len_filled len at gap in
          let same : max len (at + length bytes) ≡ max at (at + length bytes) = omega arith in
          let behind : IsSeamless at (Put at bytes ∷ logged (max len (at + length bytes)) changes) =
          (omega arith, subst (λ (n : ℕ). IsSeamless n (logged (max len (at + length bytes)) changes)) same rest) in
          subst (IsSeamless len) (sym (logged_gap len at bytes changes gap))
          (omega arith, subst (λ (n : ℕ). IsSeamless n (Put at bytes ∷ logged (max len (at + length bytes)) changes)) (sym filled) behind)
      | inr within ↦ subst (IsSeamless len) (sym (logged_put len at bytes changes within)) (within, rest)
    ]
logged_is_seamless (Cut to ∷ changes) len =
    let same : min to len ≡ min (min to len) len = omega arith in
    (omega arith, subst (λ (n : ℕ). IsSeamless n (logged (min to len) changes)) same (logged_is_seamless changes (min to len)))

pub logged_is_within : (changes : List Change) (len : ℕ) → len ≤ 16777216 → All IsWithinImage changes
    → All IsWithinImage (logged len changes)
logged_is_within [] len short within = All-nil IsWithinImage
logged_is_within (Put at bytes ∷ changes) len short within =
    let here : at + length bytes ≤ 16777216 = All-head IsWithinImage (Put at bytes) changes within in
    let rest = logged_is_within changes (max len (at + length bytes)) (omega arith)
    (All-tail IsWithinImage (Put at bytes) changes within) in
    let put = All-cons IsWithinImage (Put at bytes) (logged (max len (at + length bytes)) changes) here rest in
    elim (cases_lt len at) [
      | inl gap ↦
          let long : length (replicate {A = ℕ} (at - len) 0) ≡ at - len = length-replicate (at - len) 0 in
          subst (All IsWithinImage) (sym (logged_gap len at bytes changes gap))
          (All-cons IsWithinImage (Put len (replicate (at - len) 0)) (Put at bytes ∷ logged (max len (at + length bytes)) changes)
          (omega arith) put)
      | inr close ↦ subst (All IsWithinImage) (sym (logged_put len at bytes changes close)) put
    ]
logged_is_within (Cut to ∷ changes) len short within =
    let here : to ≤ 16777216 = All-head IsWithinImage (Cut to) changes within in
    All-cons IsWithinImage (Cut (min to len)) (logged (min to len) changes) (omega arith)
    (logged_is_within changes (min to len) (omega arith) (All-tail IsWithinImage (Cut to) changes within))

-- a change within the longest image ends within the longest database file
pub within_ends : (change : Change) → IsWithinImage change → Ends change MAX_DATABASE_LEN
within_ends (Put at bytes) within = omega (arith, within)
within_ends (Cut to) within = tt

-- an image with a gap filled
fills : (image : List ℕ) (at : ℕ) → changed image (Put (length image) (replicate (at - length image) 0)) ≡ extended image at
fills image at =
    let zeros : List ℕ = replicate (at - length image) 0 in
    ap (λ (xs : List ℕ). xs ++ zeros ++ drop (length image + length zeros) image)
    (take_at image (replicate (length image - length image) 0) (length image) refl)
    ∙ ap (λ (xs : List ℕ). image ++ zeros ++ xs) (drop_all (length image + length zeros) image (omega arith))
    ∙ append-nil (image ++ zeros)

extended_byte : (image : List ℕ) (at p : ℕ) → get_or (extended image at) p 0 ≡ get_or image p 0
extended_byte image at p = grind (arith, common_steps)

length-extended : (image : List ℕ) (at : ℕ) → length image < at → length (extended image at) ≡ at
length-extended image at gap =
    let zeros : List ℕ = replicate (at - length image) 0 in
    let long : length zeros ≡ at - length image = length-replicate (at - length image) 0 in
    omega (arith, length-append image zeros)

-- a put behind a gap makes the same of it
put_over_gap : (image bytes : List ℕ) (at : ℕ) → length image < at
    → changed (extended image at) (Put at bytes) ≡ changed image (Put at bytes)
put_over_gap image bytes at gap =
    let long = length-extended image at gap in
    redone (Put at bytes ∷ []) image (extended image at) (record {
      reaches = begins (length image) (Put at bytes ∷ []) (length (extended image at)) (omega arith);
      len = omega arith;
      bytes = λ p left. extended_byte image at p;
    })

pub effect_logged : (changes : List Change) (image : List ℕ) → effect image (logged (length image) changes) ≡ effect image changes
effect_logged [] image = refl
effect_logged (Put at bytes ∷ changes) image =
    let after : List ℕ = changed image (Put at bytes) in
    let rest : effect after (logged (max (length image) (at + length bytes)) changes) ≡ effect after changes =
    ap (λ (n : ℕ). effect after (logged n changes)) (sym (length-changed image (Put at bytes))) ∙ effect_logged changes after in
    elim (cases_lt (length image) at) [
      | inl gap ↦
          ap (effect image) (logged_gap (length image) at bytes changes gap)
          ∙ ap (λ (xs : List ℕ). effect (changed xs (Put at bytes)) (logged (max (length image) (at + length bytes)) changes))
          (fills image at)
          ∙ ap (λ (xs : List ℕ). effect xs (logged (max (length image) (at + length bytes)) changes)) (put_over_gap image bytes at gap)
          ∙ rest
      | inr within ↦ ap (effect image) (logged_put (length image) at bytes changes within) ∙ rest
    ]
effect_logged (Cut to ∷ changes) image =
    let cut : take (min to (length image)) image ≡ take to image = grind (arith, common_steps) in
    ap (λ (xs : List ℕ). effect xs (logged (min to (length image)) changes)) cut
    ∙ ap (λ (n : ℕ). effect (take to image) (logged n changes)) (sym (length-changed image (Cut to)))
    ∙ effect_logged changes (take to image)

-- the first of more changes as it is made, and then the others
pub logged_more : (change : Change) (len : ℕ) (changes : List Change) → logged len (change ∷ changes) ≡ logged len (change ∷ [])
    ++ logged (changed_len len change) changes
logged_more (Put at bytes) len changes =
    sym (append_assoc (gap_before len at) (Put at bytes ∷ []) (logged (max len (at + length bytes)) changes))
logged_more (Cut to) len changes = refl
