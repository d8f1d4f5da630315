-- The laws of the location database.
use Rattle.std.proofs.Common.{◌≡◌, ◌≢◌, ℕ, Bool, true, false, cond, List, Option, Some, None, IsSome, refl, sym, ap, subst, ◌∙◌}
use Rattle.std.specs.Prelude.{nat_lt, is_some}
use Rattle.std.specs.List.{list_all}
use Rattle.std.specs.Option.{option_map}
use Rattle.db_image.specs.declared.services.CallReply.TheVariants as reply
use Rattle.vldb_entries.specs.Location.{Location}
use Rattle.vldb_entries.specs.Forms.{whole}
use Rattle.vldb_records.specs.Records.{Holds}
use Rattle.vl_calls.specs.declared.calls.VlCall.{VlCall}
use Rattle.vl_calls.specs.Calls.{call_kind, spelling}
use Rattle.vl_calls.specs.Reading.{call_of}
use Rattle.vl_calls.specs.Words.{call_in_words}
use Rattle.vl_calls.proofs.Again.{spelling_again}
use Rattle.vl_calls.proofs.WordCalls.{named_is_call}
use Rattle.vl_service.specs.Meaning.{Answers, Makes, NoCall, Refuses, Verdict, reply_by, verdict}
use Rattle.vl_service.specs.Told.{location_in}
use Rattle.vl_service.proofs.ToldLocations.{location_told}
use Rattle.vl_database.specs.Judged.{IsAnswer, call_answers, same_call}
use Rattle.vl_database.specs.Laws.{AnswersCalls, HoldsOne, LeavesStates, NamesCalls}
use Rattle.vl_calls.specs.Writes.{is_write}
use Rattle.vl_database.specs.Service.{location_meaning, moment_word, spelled_call, vl_database}
use Rattle.vl_database.specs.ServiceLaws.{database_is_meant}
use Rattle.call_grammar.specs.Shown.{only_bytes}

-- ---- images and states

pub holds_one : HoldsOne
holds_one image r s first second = location_told image r first ∙ sym (location_told image s second)

pub leaves_states : LeavesStates
leaves_states image s now bytes holds same =
    let after = (location_meaning.call s now bytes).state in
    holds_one image after s (subst (λ (i : List ℕ). Holds i after) same (database_is_meant image s now bytes holds).stands) holds

-- ---- a call is answered as one

not_malformed : (v : Verdict) → IsAnswer v → reply_by v ≢ reply.Malformed
not_malformed NoCall is = λ e. is
not_malformed (Refuses rule) is = λ e. cc
not_malformed (Answers a) is = λ e. cc
not_malformed (Makes a change) is = λ e. cc

answered : (s : Location) (now : ℕ) (o : Option VlCall) → IsSome (option_map is_write (option_map call_kind o))
    → reply_by (verdict s now o) ≢ reply.Malformed
answered s now None is = absurd cc
answered s now (Some c) is = not_malformed (verdict s now (Some c)) (call_answers s now c)

pub answers_calls : AnswersCalls
answers_calls image now bytes is =
    let s : Location = location_in (whole image) in
    subst (λ (o : Option VlCall). reply_by (verdict s (moment_word now) o) ≢ reply.Malformed) (sym (same_call now bytes))
    (answered s (moment_word now) (spelled_call bytes) is)

-- ---- words name calls

fit_bytes : (bytes : List ℕ) (c : VlCall) (b : Bool) → list_all (λ x. nat_lt x 256) bytes ≡ b → call_of bytes ≡ Some c
    → (named : List ℕ) → cond b (Some bytes) None ≡ Some named → IsSome (vl_database.writes named)
fit_bytes bytes c true fit read named e =
    let same : bytes ≡ named = cc in
    let there : spelled_call bytes ≡ Some c = ap (λ (b : Bool). cond b (call_of bytes) None) fit ∙ read in
    subst (λ (l : List ℕ). IsSome (vl_database.writes l)) same
    (ap is_some (ap (λ (o : Option VlCall). option_map is_write (option_map call_kind o)) there))
fit_bytes bytes c false fit read named e = absurd cc

named_by : (words : List (List ℕ)) (read : Option VlCall) (bytes : List ℕ) → call_in_words words ≡ read
    → only_bytes (option_map spelling read) ≡ Some bytes → IsSome (vl_database.writes bytes)
named_by words None bytes is e = absurd cc
named_by words (Some c) bytes is e =
    fit_bytes (spelling c) c (list_all (λ x. nat_lt x 256) (spelling c)) refl (spelling_again c (named_is_call words c is)) bytes e

pub names_calls : NamesCalls
names_calls words bytes e = named_by words (call_in_words words) bytes refl e
