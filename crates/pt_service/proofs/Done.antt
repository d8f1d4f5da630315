-- What a call did is what was decided of it.
use Rattle.std.proofs.Common.{◌≡◌, ℕ, List, Option, Some, None, refl, sym, ap, ◌∙◌}
use Rattle.std.specs.Prelude.{option_and_then}
use Rattle.db_image.specs.Ends.{end_of}
use Rattle.db_image.specs.declared.draft_services.CallEnd.{CallEnd}
use Rattle.prdb_layout.specs.Registry.{Registry}
use Rattle.pt_calls.specs.declared.answers.PtAnswer.{PtAnswer}
use Rattle.pt_service.specs.Meaning.{Answers, Change, Makes, Refuses, Verdict, reply_by}
use Rattle.pt_service.specs.Standing.{image_after, image_by}
use Rattle.pt_service.specs.Told.{IsMeant, Told}

left_by : (bytes after : Option (List ℕ)) (v : Registry → Verdict) (w : Verdict) (ended : CallEnd)
    → ((image : List ℕ) → image_by w image ≡ Some image)
    → Told bytes (λ r. v r ≡ w) → ended ≡ end_of (reply_by w) → after ≡ bytes → IsMeant bytes v ended after
left_by None after v w ended left is told same = tt
left_by (Some image) after v w ended left is told same = λ r m holds. record {
  reply = told ∙ ap (λ (x : Verdict). end_of (reply_by x)) (sym (is r m holds));
  leaves = same ∙ sym (left image) ∙ ap (λ (x : Verdict). image_by x image) (sym (is r m holds));
}

pub refused : (bytes after : Option (List ℕ)) (v : Registry → Verdict) (number : ℕ) (ended : CallEnd)
    → Told bytes (λ r. v r ≡ Refuses number)
    → ended ≡ end_of (reply_by (Refuses number)) → after ≡ bytes → IsMeant bytes v ended after
refused bytes after v number ended is told same = left_by bytes after v (Refuses number) ended (λ image. refl) is told same

-- what is told of the registry
pub answered_by : (bytes after : Option (List ℕ)) (f : Registry → PtAnswer) (a : PtAnswer) (ended : CallEnd) → Told bytes (λ r. a ≡ f r)
    → ended ≡ end_of (reply_by (Answers a)) → after ≡ bytes → IsMeant bytes (λ r. Answers (f r)) ended after
answered_by None after f a ended is told same = tt
answered_by (Some image) after f a ended is told same = λ r m holds. record {
  reply = told ∙ ap (λ (x : PtAnswer). end_of (reply_by (Answers x))) (is r m holds);
  leaves = same;
}

pub changed : (bytes after : Option (List ℕ)) (v : Registry → Verdict) (a : PtAnswer) (change : Change) (ended : CallEnd)
    → Told bytes (λ r. v r ≡ Makes a change) → ended ≡ end_of (reply_by (Answers a)) → after ≡ option_and_then (image_after change) bytes
    → IsMeant bytes v ended after
changed None after v a change ended is told made = tt
changed (Some image) after v a change ended is told made = λ r m holds. record {
  reply = told ∙ ap (λ (x : Verdict). end_of (reply_by x)) (sym (is r m holds));
  leaves = made ∙ ap (λ (x : Verdict). image_by x image) (sym (is r m holds));
}

-- ---- what is said of the registry

pub told_all : (bytes : Option (List ℕ)) (P : Registry → Type 0) → ((r : Registry) → P r) → Told bytes P
told_all None P all = tt
told_all (Some image) P all = λ r m holds. all r

pub told_map : (bytes : Option (List ℕ)) (P Q : Registry → Type 0) → ((r : Registry) → P r → Q r) → Told bytes P → Told bytes Q
told_map None P Q step told = tt
told_map (Some image) P Q step told = λ r m holds. step r (told r m holds)

pub told_both : (bytes : Option (List ℕ)) (P Q R : Registry → Type 0) → ((r : Registry) → P r → Q r → R r) → Told bytes P → Told bytes Q
    → Told bytes R
told_both None P Q R step first second = tt
told_both (Some image) P Q R step first second = λ r m holds. step r (first r m holds) (second r m holds)
