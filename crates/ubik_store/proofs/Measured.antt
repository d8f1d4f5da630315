-- Changes that pass no limit: where they are made, and that they are made as they stand where they are seamless.
use Rattle.std.proofs.Common.{◌≡◌, ◌≤◌, inl, inr, ℕ, ◌+◌, ◌-◌, max, min, true, false, List, [], ◌∷◌, length, replicate, Option, Some, None, refl, sym, ap, subst, ◌∙◌, arith}
use Rattle.std.specs.Prelude.{IsTrue, ◌↔◌, ◌&&◌, Bool}
use Rattle.std.specs.List.{All}
use Rattle.std.proofs.lemmas.Bool.{cases_lt}
use Rattle.std.proofs.lemmas.List.{length-replicate}
use Rattle.std.proofs.lemmas.List.Elements.{All-cons, All-nil}
use Rattle.ubik_types.specs.declared.images.Change.{Change}
use Rattle.ubik_types.specs.declared.images.Change.TheVariants.{Put, Cut}
use Rattle.ubik_types.specs.declared.limits.TheConstants.{MAX_CHANGES, MAX_IMAGE}
use Rattle.ubik_types.specs.Logged.{logged, passed_limit, first_of_two, too_large}
use Rattle.page_file.specs.declared.label.TheConstants.{MAX_DATABASE_LEN}
use Rattle.ubik_log.specs.LogGrammar.{IsWithinImage}
use Rattle.ubik_store.specs.Measures.{sum_after}
use Rattle.ubik_store.specs.Redo.{changed_len, len_after, IsSeam, IsSeamless, Ends}
use Rattle.ubik_store.proofs.AsMade.{logged_put, logged_gap}
use Rattle.ubik_store.proofs.Begun.{within_limits}
use Rattle.ubik_store.proofs.Resting.{len_after_within}

none_first : (a b : Option ℕ) → first_of_two a b ≡ None → (a ≡ None) × (b ≡ None)
none_first None b none = (refl, none)
none_first (Some n) b none = absurd cc

regrouped : (a b rest : Option ℕ) → first_of_two a (first_of_two b rest) ≡ first_of_two (first_of_two a (first_of_two b None)) rest
regrouped None None rest = refl
regrouped None (Some n) rest = refl
regrouped (Some n) b rest = refl

-- what makes changes too large: the first of them, or else the others
pub too_large_first : (sum len : ℕ) (change : Change) (rest : List Change)
    → too_large sum len (change ∷ rest)
    ≡ first_of_two (too_large sum len (change ∷ [])) (too_large (sum_after sum len change) (changed_len len change) rest)
too_large_first sum len (Put at bytes) rest =
    regrouped (passed_limit (sum + (at - len)) (max len at)) (passed_limit (sum + (at - len) + length bytes) (max len (at + length bytes)))
    (too_large (sum + (at - len) + length bytes) (max len (at + length bytes)) rest)
too_large_first sum len (Cut to) rest = refl

-- where it is none of the first, it is what it is of the others
pub too_large_rest : (sum len : ℕ) (change : Change) (rest : List Change) → too_large sum len (change ∷ []) ≡ None
    → too_large sum len (change ∷ rest) ≡ too_large (sum_after sum len change) (changed_len len change) rest
too_large_rest sum len change rest none =
    too_large_first sum len change rest
    ∙ ap (λ (o : Option ℕ). first_of_two o (too_large (sum_after sum len change) (changed_len len change) rest)) none

-- a put that passes no limit
pub record IsPutWithin (sum len at : ℕ) (bytes : List ℕ) : Type 0 where
  pub few : sum + (at - len) + length bytes ≤ MAX_CHANGES
  pub gap : max len at ≤ MAX_IMAGE
  pub whole : max len (at + length bytes) ≤ MAX_IMAGE

pub put_within : (sum len at : ℕ) (bytes : List ℕ) (rest : List Change) → too_large sum len (Put at bytes ∷ rest) ≡ None
    → IsPutWithin sum len at bytes
put_within sum len at bytes rest none =
    let a = passed_limit (sum + (at - len)) (max len at) in
    let b = passed_limit (sum + (at - len) + length bytes) (max len (at + length bytes)) in
    let r = too_large (sum + (at - len) + length bytes) (max len (at + length bytes)) rest in
    let first = none_first a (first_of_two b r) none in
    let second = none_first b r first.1 in
    record {
      few = (within_limits (sum + (at - len) + length bytes) (max len (at + length bytes)) second.0).0;
      gap = (within_limits (sum + (at - len)) (max len at) first.0).1;
      whole = (within_limits (sum + (at - len) + length bytes) (max len (at + length bytes)) second.0).1;
    }

fits_rest : (sum len : ℕ) (change : Change) (rest : List Change) → too_large sum len (change ∷ rest) ≡ None
    → too_large (sum_after sum len change) (changed_len len change) rest ≡ None
fits_rest sum len change rest none =
    (none_first (too_large sum len (change ∷ [])) (too_large (sum_after sum len change) (changed_len len change) rest)
    (sym (too_large_first sum len change rest) ∙ none)).1

ends_first : (sum len : ℕ) (change : Change) (rest : List Change) → too_large sum len (change ∷ rest) ≡ None → Ends change MAX_DATABASE_LEN
ends_first sum len (Put at bytes) rest none = let put = put_within sum len at bytes rest none in omega (arith, put.whole)
ends_first sum len (Cut to) rest none = tt

-- each of them ends within the longest database file
pub fitting_end : (changes : List Change) (sum len : ℕ) → too_large sum len changes ≡ None
    → All (λ change. Ends change MAX_DATABASE_LEN) changes
fitting_end [] sum len none = All-nil (λ change. Ends change MAX_DATABASE_LEN)
fitting_end (change ∷ changes) sum len none =
    All-cons (λ change. Ends change MAX_DATABASE_LEN) change changes (ends_first sum len change changes none)
    (fitting_end changes (sum_after sum len change) (changed_len len change) (fits_rest sum len change changes none))

len_within : (sum len : ℕ) (change : Change) (rest : List Change) → len ≤ MAX_IMAGE → too_large sum len (change ∷ rest) ≡ None
    → changed_len len change ≤ MAX_IMAGE
len_within sum len (Put at bytes) rest short none = (put_within sum len at bytes rest none).whole
len_within sum len (Cut to) rest short none = omega (arith, short)

-- they are made within the longest image
pub fitting_within : (changes : List Change) (sum len : ℕ) → len ≤ MAX_IMAGE → too_large sum len changes ≡ None
    → All IsWithinImage (logged len changes)
fitting_within [] sum len short none = All-nil IsWithinImage
fitting_within (Put at bytes ∷ changes) sum len short none =
    let put = put_within sum len at bytes changes none in
    let more = logged (max len (at + length bytes)) changes in
    let none_more = fits_rest sum len (Put at bytes) changes none in
    let rest = fitting_within changes (sum_after sum len (Put at bytes)) (max len (at + length bytes)) put.whole none_more in
    let all = All-cons IsWithinImage (Put at bytes) more (omega (arith, put.whole)) rest in
    elim (cases_lt len at) [
      | inl gap ↦
          let long : length (replicate {A = ℕ} (at - len) 0) ≡ at - len = length-replicate (at - len) 0 in
          subst (All IsWithinImage) (sym (logged_gap len at bytes changes gap))
          (All-cons IsWithinImage (Put len (replicate (at - len) 0)) (Put at bytes ∷ more) (omega (arith, long, put.gap, gap)) all)
      | inr close ↦ subst (All IsWithinImage) (sym (logged_put len at bytes changes close)) all
    ]
fitting_within (Cut to ∷ changes) sum len short none =
    All-cons IsWithinImage (Cut (min to len)) (logged (min to len) changes) (omega (arith, short))
    (fitting_within changes sum (min to len) (omega (arith, short)) none)

-- and leave an image that is not too long
pub fitting_len : (changes : List Change) (sum len : ℕ) → len ≤ MAX_IMAGE → too_large sum len changes ≡ None
    → len_after len (logged len changes) ≤ MAX_IMAGE
fitting_len changes sum len short none = len_after_within (logged len changes) len (fitting_within changes sum len short none) short

-- seamless changes are made as they stand
pub seamless_stays : (changes : List Change) (len : ℕ) → IsSeamless len changes → logged len changes ≡ changes
seamless_stays [] len seamless = refl
seamless_stays (Put at bytes ∷ changes) len seamless =
    logged_put len at bytes changes seamless.0
    ∙ ap (λ (rest : List Change). Put at bytes ∷ rest) (seamless_stays changes (max len (at + length bytes)) seamless.1)
seamless_stays (Cut to ∷ changes) len seamless =
    let same : min to len ≡ to = omega (arith, seamless.0) in
    ap (λ (rest : List Change). Cut (min to len) ∷ rest) (seamless_stays changes (min to len) seamless.1)
    ∙ ap (λ (n : ℕ). Cut n ∷ changes) same

-- all changes so far are seamless, and the others are: so are all
abbrev pub AreSeamlessFrom : Bool → ℕ → List Change → Type 0
AreSeamlessFrom seamless len rest = IsTrue seamless × IsSeamless len rest

both : (a b : Bool) → IsTrue (a && b) → IsTrue a × IsTrue b
both true b is = (refl, is)
both false b is = absurd cc

one : (a b : Bool) → IsTrue a → IsTrue b → IsTrue (a && b)
one true b first second = second
one false b first second = absurd cc

pub seamless_more : (seamless seam : Bool) (len after : ℕ) (change : Change) (rest : List Change) → IsTrue seam ↔ IsSeam len change
    → after ≡ changed_len len change
    → AreSeamlessFrom (seamless && seam) after rest ↔ AreSeamlessFrom seamless len (change ∷ rest)
seamless_more seamless seam len after change rest is same = (
  λ all.
      let here = both seamless seam all.0 in
      (here.0, (is.0 here.1, subst (λ (n : ℕ). IsSeamless n rest) same all.1)),
  λ all. (one seamless seam all.0 (is.1 all.1.0), subst (λ (n : ℕ). IsSeamless n rest) (sym same) all.1.1),
)

pub too_large_more : (sum len sum_then len_then : ℕ) (change : Change) (rest : List Change) → too_large sum len (change ∷ []) ≡ None
    → sum_then ≡ sum_after sum len change → len_then ≡ changed_len len change
    → too_large sum_then len_then rest ≡ too_large sum len (change ∷ rest)
too_large_more sum len sum_then len_then change rest none sum_is len_is =
    ap (λ (n : ℕ). too_large n len_then rest) sum_is
    ∙ ap (λ (n : ℕ). too_large (sum_after sum len change) n rest) len_is
    ∙ sym (too_large_rest sum len change rest none)
