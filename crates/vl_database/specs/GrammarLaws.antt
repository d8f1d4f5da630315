-- Laws of the location database over each image: it answers bytes that are no call as malformed, and no call so, and a call that only
-- reads leaves the image.
use Rattle.std.proofs.Common.{◌≡◌, ◌≢◌, ℕ, Bool, true, List, Option, Some, None, refl, sym, subst}
use Rattle.std.specs.Option.{option_map}
use Rattle.db_image.specs.Ends.{KeepsGrammar, end_of}
use Rattle.db_image.proofs.Decided.{no_writer}
use Rattle.vldb_entries.specs.Location.{Location}
use Rattle.vldb_entries.specs.Forms.{whole}
use Rattle.vl_calls.specs.declared.calls.VlCall.{VlCall}
use Rattle.vl_calls.specs.Calls.{call_kind}
use Rattle.vl_calls.specs.Writes.{is_write}
use Rattle.vl_service.specs.Meaning.{Answers, Makes, NoCall, Refuses, Verdict, reply_by, verdict}
use Rattle.vl_service.specs.Standing.{image_by}
use Rattle.vl_service.specs.Told.{location_in}
use Rattle.vl_database.specs.Judged.{IsAnswer, call_answers, image_same, reads_look, same_call}
use Rattle.vl_database.specs.Service.{moment_word, spelled_call, vl_database}

-- whether the call writes
abbrev writes_of : Option VlCall → Option Bool
writes_of o = option_map is_write (option_map call_kind o)

answer_keeps : (v : Verdict) (writes : Bool) → IsAnswer v → KeepsGrammar (Some writes) (end_of (reply_by v))
answer_keeps NoCall writes is = absurd is
answer_keeps (Refuses fault) writes is = refl
answer_keeps (Answers a) writes is = refl
answer_keeps (Makes a change) writes is = refl

keeps : (s : Location) (now : ℕ) (o : Option VlCall) → KeepsGrammar (writes_of o) (end_of (reply_by (verdict s now o)))
unfolding verdict
keeps s now None = refl
keeps s now (Some c) = answer_keeps (verdict s now (Some c)) (is_write (call_kind c)) (call_answers s now c)

pub database_keeps_grammar : (image : List ℕ) (now : ℕ) (bytes : List ℕ)
    → KeepsGrammar (vl_database.writes bytes) (end_of (vl_database.call image now bytes).reply)
database_keeps_grammar image now bytes =
    let s : Location = location_in (whole image) in
    subst (λ (o : Option VlCall). KeepsGrammar (vl_database.writes bytes) (end_of (reply_by (verdict s (moment_word now) o))))
    (sym (same_call now bytes)) (keeps s (moment_word now) (spelled_call bytes))

rests : (s : Location) (now : ℕ) (o : Option VlCall) (image : List ℕ) → writes_of o ≢ Some true → image_by (verdict s now o) s image ≡ image
unfolding verdict
rests s now None image is = refl
rests s now (Some c) image is = image_same (verdict s now (Some c)) s image (reads_look s now c (no_writer (is_write (call_kind c)) is))

pub database_rests : (image : List ℕ) (now : ℕ) (bytes : List ℕ) → vl_database.writes bytes ≢ Some true
    → (vl_database.call image now bytes).image ≡ image
database_rests image now bytes is =
    let s : Location = location_in (whole image) in
    subst (λ (o : Option VlCall). image_by (verdict s (moment_word now) o) s image ≡ image) (sym (same_call now bytes))
    (rests s (moment_word now) (spelled_call bytes) image is)
