-- Laws of the protection database over each image: it answers bytes that are no call as malformed, and no call so, and a call that only
-- reads leaves the image.
use Rattle.std.proofs.Common.{◌≡◌, ◌≢◌, ℕ, Bool, true, List, Option, Some, None, refl}
use Rattle.std.specs.Option.{option_map}
use Rattle.db_image.specs.Ends.{KeepsGrammar, end_of}
use Rattle.db_image.proofs.Decided.{no_writer}
use Rattle.prdb_finds.specs.Records.{whole}
use Rattle.pt_calls.specs.declared.calls.PtCall.{PtCall}
use Rattle.pt_calls.specs.Calls.{call_kind}
use Rattle.pt_calls.specs.Writes.{is_write}
use Rattle.pt_service.specs.Meaning.{Answers, Makes, NoCall, Refuses, Verdict, asked, reply_by, verdict}
use Rattle.pt_service.specs.State.{State}
use Rattle.pt_changes.specs.Standing.{image_by}
use Rattle.pt_laws.specs.Told.{state_in}
use Rattle.pt_laws.proofs.Answered.{IsAnswer, call_answers}
use Rattle.pt_laws.proofs.Changing.{image_same, reads_look}
use Rattle.pt_database.specs.Service.{protection_database}

-- whether the call writes
abbrev writes_of : Option PtCall → Option Bool
writes_of o = option_map is_write (option_map call_kind o)

answer_keeps : (v : Verdict) (writes : Bool) → IsAnswer v → KeepsGrammar (Some writes) (end_of (reply_by v))
answer_keeps NoCall writes is = absurd is
answer_keeps (Refuses rule) writes is = refl
answer_keeps (Answers a) writes is = refl
answer_keeps (Makes a change) writes is = refl

keeps : (s : State) (o : Option PtCall) → KeepsGrammar (writes_of o) (end_of (reply_by (verdict s o)))
unfolding verdict
keeps s None = refl
keeps s (Some c) = answer_keeps (verdict s (Some c)) (is_write (call_kind c)) (call_answers s c)

pub database_keeps_grammar : (image : List ℕ) (now : ℕ) (bytes : List ℕ)
    → KeepsGrammar (protection_database.writes bytes) (end_of (protection_database.call image now bytes).reply)
database_keeps_grammar image now bytes = keeps (state_in (whole image)) (asked bytes)

rests : (s : State) (o : Option PtCall) (image : List ℕ) → writes_of o ≢ Some true → image_by (verdict s o) s image ≡ image
unfolding verdict
rests s None image is = refl
rests s (Some c) image is = image_same (verdict s (Some c)) s image (reads_look s c (no_writer (is_write (call_kind c)) is))

pub database_rests : (image : List ℕ) (now : ℕ) (bytes : List ℕ) → protection_database.writes bytes ≢ Some true
    → (protection_database.call image now bytes).image ≡ image
database_rests image now bytes is = rests (state_in (whole image)) (asked bytes) image is
