-- Versions are ordered, and the text with a piece is of the version of that piece.
use Rattle.std.proofs.Common.{◌+◌, Bool, true, false, cond, ◌==◌, ◌≡◌, ◌⊎◌, inl, inr, ℕ, ◌<◌, ◌≤◌, List, ◌++◌, refl, sym, ap, subst, ◌∙◌}
use Rattle.std.proofs.Common.{arith}
use Rattle.std.proofs.lemmas.Bool.Decides.{nat_tests}
use Rattle.std.specs.Prelude.{Option, Some, None, ◌&&◌, ◌||◌, nat_lt}
use Rattle.ubik_types.specs.declared.versions.Version.{Version}
use Rattle.ubik_types.specs.Version.{version_lt, version_eq}
use Rattle.cell_model.specs.Node.{ReceivedText}
use Rattle.cell_model.specs.Recovery.{piece_fits, text_begun, continues, text_continued, text_with}
use Rattle.cell_laws.proofs.Parts.{lt_true, eq_true, and_both, and_three}
use Rattle.cell_pages.specs.Parts.{AtMost}

same_version : (a b : Version) → a.epoch ≡ b.epoch → a.counter ≡ b.counter → a ≡ b
same_version a b epoch counter =
    ap (λ (e : ℕ). record { epoch = e; counter = a.counter }) epoch ∙ ap (λ (c : ℕ). record { epoch = b.epoch; counter = c }) counter

pub same_of_eq : (a b : Version) → version_eq a b ≡ true → a ≡ b
same_of_eq a b is =
    let both = and_both (a.epoch == b.epoch) (a.counter == b.counter) is in
    same_version a b (eq_true a.epoch b.epoch both.0) (eq_true a.counter b.counter both.1)

pub differ_of_eq : (a b : Version) → version_eq a b ≡ false → a ≡ b → ⊥
differ_of_eq a b is same = by (subst (λ (c : Version). version_eq a c ≡ false) (sym same) is)
  where
    itself : (n : ℕ) → (n == n) ≡ true
    itself n = grind (arith, nat_tests)

    by : version_eq a a ≡ false → ⊥
    by not =
        let whole : (true && true) ≡ false =
        ap (λ (x : Bool). x && true) (sym (itself a.epoch)) ∙ ap (λ (x : Bool). (a.epoch == a.epoch) && x) (sym (itself a.counter)) ∙ not in
        absurd (cc)

-- of two versions that differ one is below the other
pub not_below : (a b : Version) → version_eq a b ≡ false → version_lt b a ≡ false → version_lt a b ≡ true
not_below a b differ above = grind (arith, nat_tests)

-- the text with a piece is of the version of that piece
pub text_is_of : (may_begin : Bool) (k : ℕ) (version : Version) (total at : ℕ) (bytes : List ℕ) (held : Option ReceivedText)
    (one : ReceivedText) → text_with may_begin k version total at bytes held ≡ Some one → one.version ≡ version
text_is_of may_begin k version total at bytes held one is = fits (piece_fits total at bytes) is
  where
    continued : (held : Option ReceivedText) → text_continued k version total at bytes held ≡ Some one → one.version ≡ version
    continued None is = absurd (cc)
    continued (Some text) is = by (continues k version total at text) refl is
      where
        by : (t : Bool) → continues k version total at text ≡ t →
            cond t (Some (record text { bytes = text.bytes ++ bytes })) None ≡ Some one → one.version ≡ version
        by true goes is =
            let same : record text { bytes = text.bytes ++ bytes } ≡ one = cc in
            let version_is : text.version ≡ version =
            same_of_eq text.version version
            (and_three (text.server == k) (version_eq text.version version) (text.total == total) (and_both _ _ goes).0).1 in
            ap (λ (z : ReceivedText). z.version) (sym same) ∙ version_is
        by false goes is = absurd (cc)

    begun : (t : Bool) → cond t (Some (text_begun k version total bytes)) None ≡ Some one → one.version ≡ version
    begun true is = let same : text_begun k version total bytes ≡ one = cc in ap (λ (z : ReceivedText). z.version) (sym same)
    begun false is = absurd (cc)

    starts : (t : Bool) →
        cond t (cond may_begin (Some (text_begun k version total bytes)) None) (text_continued k version total at bytes held) ≡ Some one →
        one.version ≡ version
    starts true is = begun may_begin is
    starts false is = continued held is

    fits : (t : Bool) →
        cond t
        (cond (at == 0) (cond may_begin (Some (text_begun k version total bytes)) None) (text_continued k version total at bytes held)) None
        ≡ Some one → one.version ≡ version
    fits true is = starts (at == 0) is
    fits false is = absurd (cc)

-- ---- at most

pub less_of_lt : (a b : Version) → version_lt a b ≡ true → (a.epoch < b.epoch) ⊎ ((a.epoch ≡ b.epoch) × (a.counter < b.counter))
less_of_lt a b is = by (nat_lt a.epoch b.epoch) refl is
  where
    by : (t : Bool) → nat_lt a.epoch b.epoch ≡ t → (t || ((a.epoch == b.epoch) && nat_lt a.counter b.counter)) ≡ true →
        (a.epoch < b.epoch) ⊎ ((a.epoch ≡ b.epoch) × (a.counter < b.counter))
    by true less is = inl (lt_true _ _ less)
    by false less is =
        let both = and_both (a.epoch == b.epoch) (nat_lt a.counter b.counter) is in
        inr (eq_true _ _ both.0, lt_true _ _ both.1)

pub at_most_less : (a b c : Version) → AtMost a b → (b.epoch < c.epoch) ⊎ ((b.epoch ≡ c.epoch) × (b.counter < c.counter)) → AtMost a c
at_most_less a b c (inl x) (inl y) = inl (omega arith)
at_most_less a b c (inl x) (inr y) = let e : b.epoch ≡ c.epoch = y.0 in inl (omega arith)
at_most_less a b c (inr x) (inl y) = let e : a.epoch ≡ b.epoch = x.0 in inl (omega arith)
at_most_less a b c (inr x) (inr y) =
    let first : a.counter ≤ b.counter = x.1 in
    let second : b.counter < c.counter = y.1 in
    inr (x.0 ∙ y.0, omega arith)

pub at_most_same : (a : Version) → AtMost a a
at_most_same a = inr (refl, omega arith)

-- ---- below

pub lt_of_epoch : (a b : Version) → a.epoch < b.epoch → version_lt a b ≡ true
lt_of_epoch a b less = grind (arith, nat_tests)

pub lt_of_next : (a b : Version) → AtMost a b → version_lt a (record b { counter = b.counter + 1 }) ≡ true
lt_of_next a b (inl less) = lt_of_epoch a (record b { counter = b.counter + 1 }) less
lt_of_next a b (inr same) =
    let epoch : a.epoch ≡ b.epoch = same.0 in
    let counter : a.counter < b.counter + 1 = (let h : a.counter ≤ b.counter = same.1 in omega arith) in
    grind (arith, nat_tests)
