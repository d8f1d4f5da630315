-- The location database over images (layout of format 1).
use Rattle.std.specs.Prelude.{ℕ, ◌≡◌, ◌==◌, List, Option, Some, if◌then◌else◌}
use Rattle.std.specs.Str.{bytes_eq}
use Rattle.db_image.specs.Ends.{end_of}
use Rattle.db_image.specs.declared.draft_services.CallEnd.{CallEnd}
use Rattle.vldb_entries.specs.Location.{Location}
use Rattle.vldb_records.specs.Changes.{after_insert, after_remove, after_replace, after_set_next, after_set_places}
use Rattle.vl_service.specs.Meaning.{Change, NextVolume, Enter, Leave, Move, Verdict, Makes, reply_by, with_place_of}

-- with these addresses; an image that has them stays as it is
abbrev pub readdressed : List ℕ → Location → List ℕ → List ℕ
readdressed addresses s image = if bytes_eq addresses s.addresses then image else after_set_places addresses image

-- the image after a change of the state that it holds
abbrev pub image_after : Change → Location → List ℕ → List ℕ
image_after (NextVolume id) s image = after_set_next id image
image_after (Enter own e addresses) s image =
    if own == 0 then after_insert e (readdressed addresses s image) else after_replace own e (readdressed addresses s image)
image_after (Leave rw) s image = after_remove rw image
image_after (Move old new) s image = after_set_places (with_place_of old new s.addresses) image

abbrev pub image_by : Verdict → Location → List ℕ → List ℕ
image_by (Makes a change) s image = image_after change s image
image_by _ s image = image

-- a call over an image ended as was decided of it, and left these bytes
pub record IsDone (v : Verdict) (s : Location) (image : List ℕ) (ended : CallEnd) (after : Option (List ℕ)) : Type 0 where
  pub reply : ended ≡ end_of (reply_by v)
  pub leaves : after ≡ Some (image_by v s image)
