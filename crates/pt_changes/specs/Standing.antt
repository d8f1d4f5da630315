-- The protection database over images (layout of format 1): the image after each change of the state that it holds.
use Rattle.std.specs.Prelude.{ℕ, ◌≡◌, List, Option, Some, IfSome}
use Rattle.db_image.specs.Ends.{end_of}
use Rattle.db_image.specs.declared.draft_services.CallEnd.{CallEnd}
use Rattle.prdb_finds.specs.Changes.{after_set_maxima}
use Rattle.prdb_entries.specs.Changes.{after_insert, after_replace}
use Rattle.prdb_members.specs.Changes.{after_join, after_part}
use Rattle.pt_service.specs.Meaning.{Change, Maxima, Enter, Refit, Leave, Turn, Join, Part, Verdict, Makes, reply_by}
use Rattle.pt_service.specs.State.{State}
use Rattle.pt_looks.specs.States.{HoldsRecords}
use Rattle.pt_changes.specs.Leaving.{after_leave}
use Rattle.pt_changes.specs.Turning.{after_turn}

abbrev pub image_after : Change → State → List ℕ → List ℕ
image_after (Maxima user group) s image = after_set_maxima user group image
image_after (Enter e user group) s image = after_set_maxima user group (after_insert e image)
image_after (Refit e) s image = after_replace e.id e image
image_after (Leave id) s image = after_leave id s image
image_after (Turn e name owner id user group) s image = after_set_maxima user group (after_turn e name owner id s image)
image_after (Join user group) s image = after_join user group image
image_after (Part user group) s image = after_part user group image

-- a refusal and an answer leave the image
abbrev pub image_by : Verdict → State → List ℕ → List ℕ
image_by (Makes a change) s image = image_after change s image
image_by _ s image = image

-- a call over an image ended as was decided of it, and left these bytes
pub record IsDone (v : Verdict) (s : State) (image : List ℕ) (ended : CallEnd) (after : Option (List ℕ)) : Type 0 where
  pub reply : ended ≡ end_of (reply_by v)
  pub leaves : after ≡ Some (image_by v s image)

-- a call over these bytes ended as this says of the state that they hold, and left those behind
abbrev pub IsMeantOf : Option (List ℕ) → (State → Verdict) → CallEnd → Option (List ℕ) → Type 0
IsMeantOf bytes v ended after = IfSome bytes (λ image. (s : State) → HoldsRecords image s → IsDone (v s) s image ended after)
