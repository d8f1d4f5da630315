-- Where the changes of a log leave no gap, those that are made in their place lead where they lead, also from what a crash in the midst of one leaves.
use Rattle.std.proofs.Common.{◌≡◌, ◌<◌, ◌≤◌, inl, inr, ℕ, ◌+◌, max, min, List, [], ◌∷◌, ◌++◌, length, take, get_or, Option, Some, None, refl, sym, ap, subst, ◌∙◌, append_assoc, arith, length-append, length-take, get_or-take}
use Rattle.std.specs.List.{All}
use Rattle.std.proofs.Math.Seq.{get_or-append_seam}
use Rattle.std.proofs.lemmas.Bool.{cases_lt}
use Rattle.std.proofs.lemmas.Grind.{common_steps}
use Rattle.std.proofs.lemmas.List.Elements.{All-cons, All-nil}
use Rattle.ubik_types.specs.declared.images.Change.{Change}
use Rattle.ubik_types.specs.declared.images.Change.TheVariants.{Put, Cut}
use Rattle.ubik_types.specs.declared.versions.Version.{Version}
use Rattle.ubik_types.specs.Logged.{logged}
use Rattle.disk_base.specs.Files.{Files}
use Rattle.page_file.specs.Pages.{image_of}
use Rattle.ubik_store.specs.Files.{IsLogged}
use Rattle.ubik_store.specs.Gaps.{LeaveNoGap}
use Rattle.ubik_store.specs.Moments.{LeadsTo}
use Rattle.ubik_store.specs.Redo.{changed_len, len_after, AllLeave, Reaches, Redoes, IsCovered}
use Rattle.ubik_store.specs.Redo.Reaches.{begins, goes_on}
use Rattle.ubik_store.proofs.AsMade.{logged_put, effect_logged}
use Rattle.ubik_store.proofs.Redone.{IsOne, one_at, len_after-le}
use Rattle.ubik_store.proofs.Redoing.{one_covered}

-- a length between two others, of which there may be no upper one
abbrev clamped : ℕ → Option ℕ → ℕ → ℕ
clamped low None x = max low x
clamped low (Some high) x = max low (min high x)

abbrev lowered : Option ℕ → ℕ → ℕ
lowered None n = n
lowered (Some high) n = min high n

after_put : (low : ℕ) (high : Option ℕ) (end x : ℕ) → clamped low high (max x end) ≡ clamped (max low (lowered high end)) high x
after_put low None end x = omega arith
after_put low (Some high) end x = omega arith

after_cut : (low : ℕ) (high : Option ℕ) (to x : ℕ) → clamped low high (min to x) ≡ clamped low (Some (lowered high to)) x
after_cut low None to x = omega arith
after_cut low (Some high) to x = omega arith

clamped_again : (low : ℕ) (high : Option ℕ) (x : ℕ) → clamped low high (clamped low high x) ≡ clamped low high x
clamped_again low None x = omega arith
clamped_again low (Some high) x = omega arith

-- changes bring a length between two others
clamps : (changes : List Change) → (low : ℕ) × (high : Option ℕ) × ((x : ℕ) → len_after x changes ≡ clamped low high x)
clamps [] = (0, None, λ x. omega arith)
clamps (Put at bytes ∷ changes) =
    let rest = clamps changes in
    let end : ℕ = at + length bytes in
    (max rest.0 (lowered rest.1 end), rest.1, λ x. rest.2 (max x end) ∙ after_put rest.0 rest.1 end x)
clamps (Cut to ∷ changes) =
    let rest = clamps changes in (rest.0, Some (lowered rest.1 to), λ x. rest.2 (min to x) ∙ after_cut rest.0 rest.1 to x)

-- so the length that they leave they leave again
len_again : (changes : List Change) (x : ℕ) → len_after (len_after x changes) changes ≡ len_after x changes
len_again changes x =
    let c = clamps changes in
    c.2 (len_after x changes) ∙ ap (clamped c.0 c.1) (c.2 x) ∙ clamped_again c.0 c.1 x ∙ sym (c.2 x)

len_both : (done rest : List Change) (x : ℕ) → len_after x (done ++ rest) ≡ len_after (len_after x done) rest
len_both [] rest x = refl
len_both (change ∷ done) rest x = len_both done rest (changed_len x change)

-- from the length after some of them on they end at the same length
len_from : (done rest : List Change) (x : ℕ) → len_after (len_after x done) (done ++ rest) ≡ len_after x (done ++ rest)
len_from done rest x =
    len_both done rest (len_after x done) ∙ ap (λ (n : ℕ). len_after n rest) (len_again done x) ∙ sym (len_both done rest x)

reaches_after : (done rest : List Change) (x y : ℕ) → len_after x done ≤ y → Reaches x (done ++ rest) y
reaches_after [] rest x y low = begins x rest y low
reaches_after (change ∷ done) rest x y low = goes_on x change (done ++ rest) y (reaches_after done rest (changed_len x change) y low)

-- a position that they all leave is not cut
stays_within : (done rest : List Change) (x p : ℕ) → p < x → AllLeave (done ++ rest) p → p < len_after x done
stays_within [] rest x p within left = within
stays_within (Put at bytes ∷ done) rest x p within left = stays_within done rest (max x (at + length bytes)) p (omega arith) left.1
stays_within (Cut to ∷ done) rest x p within left = stays_within done rest (min to x) p (omega (arith, left.0, within)) left.1

past_end : (xs : List ℕ) (p : ℕ) → length xs ≤ p → get_or xs p 0 ≡ 0
past_end xs p past = grind (arith, common_steps)

-- a cut to the length that stands there leaves what had been cut before
shorter : (done rest : List Change) (base old new : List ℕ) → len_after (length base) done ≤ length new → new ≡ take (length new) old
    → Redoes (done ++ rest) base old → Redoes (done ++ rest) base new
shorter done rest base old new low is same =
    let told : List Change = done ++ rest in
    let here : ℕ = len_after (length base) done in
    let high : length new ≤ length old = omega (arith, ap length is, length-take (length new) old) in
    let below = len_after-le told here (length new) low in
    let above = len_after-le told (length new) (length old) high in
    record {
      reaches = reaches_after done rest (length base) (length new) low;
      len = omega (arith, below, above, len_from done rest (length base), same.len);
      bytes = λ p left. elim (cases_lt p (length new)) [
        | inl inside ↦ ap (λ (xs : List ℕ). get_or xs p 0) is ∙ get_or-take (length new) old p 0 inside ∙ same.bytes p left
        | inr outside ↦ elim (cases_lt p (length base)) [
          | inl there ↦ let kept = stays_within done rest (length base) p there left in absurd (omega (arith, kept, low, outside))
          | inr gone ↦ past_end new p outside ∙ sym (past_end base p gone)
        ]
      ];
    }

cut_covered : (done rest : List Change) (base : List ℕ) → IsCovered (done ++ rest) base (Cut (len_after (length base) done))
cut_covered done rest base = λ old new cut same. elim cut [
  | inl is ↦ subst (Redoes (done ++ rest) base) (sym is) same
  | inr short ↦ shorter done rest base old new short.0 short.1 same
]

one_there : (done rest : List Change) (change : Change) → IsOne (done ++ change ∷ rest) change
one_there done rest change =
    subst (IsOne (done ++ change ∷ rest)) (get_or-append_seam done change rest change)
    (one_at (done ++ change ∷ rest) (length done) change (omega (arith, length-append done (change ∷ rest))))

-- a cut that is made in place of one of theirs
clamped_cut : (done rest : List Change) (base : List ℕ) (to : ℕ)
    → IsCovered (done ++ Cut to ∷ rest) base (Cut (min to (len_after (length base) done)))
clamped_cut done rest base to = elim (cases_lt to (len_after (length base) done)) [
  | inl within ↦
      let is : to ≡ min to (len_after (length base) done) = omega arith in
      subst (λ (n : ℕ). IsCovered (done ++ Cut to ∷ rest) base (Cut n)) is
      (one_covered (done ++ Cut to ∷ rest) base (Cut to) (one_there done rest (Cut to)))
  | inr past ↦
      let is : len_after (length base) done ≡ min to (len_after (length base) done) = omega arith in
      subst (λ (n : ℕ). IsCovered (done ++ Cut to ∷ rest) base (Cut n)) is (cut_covered done (Cut to ∷ rest) base)
]

len_more : (done : List Change) (change : Change) (x : ℕ) → len_after x (done ++ change ∷ []) ≡ changed_len (len_after x done) change
len_more done change x = len_both done (change ∷ []) x

-- one more of them is done
one_more : (done rest : List Change) (change : Change) (base : List ℕ)
    → All (IsCovered ((done ++ change ∷ []) ++ rest) base) (logged (len_after (length base) (done ++ change ∷ [])) rest)
    → All (IsCovered (done ++ change ∷ rest) base) (logged (changed_len (len_after (length base) done) change) rest)
one_more done rest change base all =
    subst (λ (told : List Change). All (IsCovered told base) (logged (changed_len (len_after (length base) done) change) rest))
    (append_assoc done (change ∷ []) rest)
    (subst (λ (n : ℕ). All (IsCovered ((done ++ change ∷ []) ++ rest) base) (logged n rest)) (len_more done change (length base)) all)

logged_covered : (done rest : List Change) (base : List ℕ) → LeaveNoGap (len_after (length base) done) rest
    → All (IsCovered (done ++ rest) base) (logged (len_after (length base) done) rest)
logged_covered done [] base gapless = All-nil (IsCovered (done ++ []) base)
logged_covered done (Put at bytes ∷ rest) base gapless =
    let put = Put at bytes in
    let told : List Change = done ++ put ∷ rest in
    let here : ℕ = len_after (length base) done in
    let more = one_more done rest put base
    (logged_covered (done ++ put ∷ []) rest base
    (subst (λ (n : ℕ). LeaveNoGap n rest) (sym (len_more done put (length base))) gapless.1)) in
    subst (All (IsCovered told base)) (sym (logged_put here at bytes rest gapless.0))
    (All-cons (IsCovered told base) put (logged (changed_len here put) rest) (one_covered told base put (one_there done rest put)) more)
logged_covered done (Cut to ∷ rest) base gapless =
    let cut = Cut to in
    let told : List Change = done ++ cut ∷ rest in
    let here : ℕ = len_after (length base) done in
    let more = one_more done rest cut base
    (logged_covered (done ++ cut ∷ []) rest base
    (subst (λ (n : ℕ). LeaveNoGap n rest) (sym (len_more done cut (length base))) gapless.1)) in
    All-cons (IsCovered told base) (Cut (min to here)) (logged (changed_len here cut) rest) (clamped_cut done rest base to) more

-- the changes that are made lead where those of the log lead
pub leads_logged : (fs : Files) (told : List Change) (v : Version) → IsLogged fs told v → LeaveNoGap (length (image_of fs.database)) told
    → LeadsTo fs told v (logged (length (image_of fs.database)) told)
leads_logged fs told v is gapless = record {
  logged = is;
  covered = logged_covered [] told (image_of fs.database) gapless;
  same = effect_logged told (image_of fs.database);
}
