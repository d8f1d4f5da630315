-- How a call ends that is refused, or that makes a change.
use Rattle.std.proofs.Common.{◌≡◌, ℕ, List, Option, Some, None, IfSome, sym, subst}
use Rattle.db_image.specs.Ends.{end_of}
use Rattle.db_image.specs.declared.draft_services.CallEnd.{CallEnd}
use Rattle.pt_calls.specs.declared.answers.PtAnswer.TheVariants as answer
use Rattle.pt_service.specs.Meaning.{Answers, Change, Makes, Refuses, Verdict, reply_by}
use Rattle.pt_service.specs.State.{State}
use Rattle.pt_looks.specs.States.{HoldsRecords, OfStates}
use Rattle.pt_changes.specs.Standing.{IsDone, IsMeantOf, image_after}

done_refused : (v : Verdict) (s : State) (image : List ℕ) (after : Option (List ℕ)) (rule : ℕ) (ended : CallEnd)
    → ended ≡ end_of (reply_by (Refuses rule))
    → after ≡ Some image → v ≡ Refuses rule → IsDone v s image ended after
done_refused v s image after rule ended told same is =
    let done : IsDone (Refuses rule) s image ended after = record { reply = told; leaves = same } in
    subst (λ (w : Verdict). IsDone w s image ended after) (sym is) done

pub refused_so : (bytes after : Option (List ℕ)) (v : State → Verdict) (rule : ℕ) (ended : CallEnd)
    → ended ≡ end_of (reply_by (Refuses rule)) → after ≡ bytes
    → OfStates bytes (λ s. v s ≡ Refuses rule) → IsMeantOf bytes v ended after
refused_so None after v rule ended told same is = tt
refused_so (Some image) after v rule ended told same is = λ s holds. done_refused (v s) s image after rule ended told same (is s holds)

pub done_made : (v : Verdict) (s : State) (image : List ℕ) (after : Option (List ℕ)) (change : Change) (ended : CallEnd)
    → ended ≡ end_of (reply_by (Answers answer.Done)) → after ≡ Some (image_after change s image) → v ≡ Makes answer.Done change
    → IsDone v s image ended after
done_made v s image after change ended told leaves is =
    let done : IsDone (Makes answer.Done change) s image ended after = record { reply = told; leaves = leaves } in
    subst (λ (w : Verdict). IsDone w s image ended after) (sym is) done

-- the bytes are of this image, and it holds this state
abbrev pub OfImages : Option (List ℕ) → (List ℕ → State → Type 0) → Type 0
OfImages bytes P = IfSome bytes (λ image. (s : State) → HoldsRecords image s → P image s)

pub made_so : (bytes after : Option (List ℕ)) (v : State → Verdict) (change : Change) (ended : CallEnd)
    → ended ≡ end_of (reply_by (Answers answer.Done))
    → OfStates bytes (λ s. v s ≡ Makes answer.Done change) → OfImages bytes (λ image s. after ≡ Some (image_after change s image))
    → IsMeantOf bytes v ended after
made_so None after v change ended told is leaves = tt
made_so (Some image) after v change ended told is leaves = λ s holds. done_made (v s) s image after change ended told (leaves s holds)
    (is s holds)
