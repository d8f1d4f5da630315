-- The image after a call that touches no pair (layout of format 1).
use Rattle.std.specs.Prelude.{ℕ, ◌≡◌, List, Option, Some, None}
use Rattle.db_image.specs.Ends.{end_of}
use Rattle.db_image.specs.declared.draft_services.CallEnd.{CallEnd}
use Rattle.prdb_finds.specs.Changes.{after_set_maxima}
use Rattle.prdb_entries.specs.Changes.{after_insert, after_replace}
use Rattle.pt_service.specs.Meaning.{Change, Maxima, Enter, Refit, Verdict, Makes, reply_by}

-- the image after a change, of those that touch no pair
abbrev pub image_after : Change → List ℕ → Option (List ℕ)
image_after (Maxima user group) image = Some (after_set_maxima user group image)
image_after (Enter e user group) image = Some (after_set_maxima user group (after_insert e image))
image_after (Refit e) image = Some (after_replace e.id e image)
image_after _ image = None

abbrev pub image_by : Verdict → List ℕ → Option (List ℕ)
image_by (Makes a change) image = image_after change image
image_by _ image = Some image

-- a call over an image ended as was decided of it, and left these bytes
pub record IsDone (v : Verdict) (image : List ℕ) (ended : CallEnd) (after : Option (List ℕ)) : Type 0 where
  pub reply : ended ≡ end_of (reply_by v)
  pub leaves : after ≡ image_by v image
