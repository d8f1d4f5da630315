-- The laws of the protection database.
use Rattle.std.proofs.Common.{◌≡◌, ◌≢◌, ℕ, Bool, true, false, cond, List, Option, Some, None, IsSome, refl, ap, subst, ◌∙◌}
use Rattle.std.specs.Prelude.{is_some, nat_lt}
use Rattle.std.specs.List.{list_all}
use Rattle.std.specs.Option.{option_map}
use Rattle.db_image.specs.declared.services.CallReply.TheVariants as reply
use Rattle.prdb_finds.specs.Records.{whole}
use Rattle.pt_calls.specs.declared.calls.PtCall.{PtCall}
use Rattle.pt_calls.specs.Calls.{call_kind, spelling}
use Rattle.pt_calls.specs.Reading.{call_of}
use Rattle.pt_calls.specs.Words.{call_in_words}
use Rattle.pt_calls.proofs.Again.{spelling_again}
use Rattle.pt_calls.proofs.WordCalls.{named_is_call}
use Rattle.pt_service.specs.Meaning.{Answers, Makes, NoCall, Refuses, Verdict, asked, reply_by, state_by, verdict}
use Rattle.pt_service.specs.State.{State}
use Rattle.pt_looks.specs.States.{HoldsRecords}
use Rattle.pt_changes.specs.Standing.{image_by}
use Rattle.pt_database.specs.Laws.{AnswersCalls, HoldsOne, LeavesStates, NamesCalls}
use Rattle.pt_calls.specs.Writes.{is_write}
use Rattle.pt_database.specs.Service.{protection_database}
use Rattle.pt_laws.specs.Told.{state_in}
use Rattle.call_grammar.specs.Shown.{only_bytes}
use Rattle.pt_laws.proofs.Answered.{IsAnswer, call_answers}
use Rattle.pt_laws.proofs.Made.{holds_after}
use Rattle.pt_laws.proofs.ToldStates.{holds_one as one_state, state_told}

-- ---- images and states

pub holds_one : HoldsOne
holds_one = one_state

pub leaves_states : LeavesStates
leaves_states image s now bytes holds same =
    let after = state_by (verdict s (asked bytes)) s in
    let told = state_told image s holds in
    let here : image_by (verdict s (asked bytes)) s image ≡ image =
    ap (λ (t : State). image_by (verdict t (asked bytes)) t image) told ∙ same in
    holds_one image after s (subst (λ (i : List ℕ). HoldsRecords i after) here (holds_after image s bytes holds)) holds

-- ---- a call is answered as one

not_malformed : (v : Verdict) → IsAnswer v → reply_by v ≢ reply.Malformed
not_malformed NoCall is = λ e. is
not_malformed (Refuses rule) is = λ e. cc
not_malformed (Answers a) is = λ e. cc
not_malformed (Makes a change) is = λ e. cc

answered : (s : State) (o : Option PtCall) → IsSome (option_map is_write (option_map call_kind o))
    → reply_by (verdict s o) ≢ reply.Malformed
answered s None is = absurd cc
answered s (Some c) is = not_malformed (verdict s (Some c)) (call_answers s c)

pub answers_calls : AnswersCalls
answers_calls image now bytes is = answered (state_in (whole image)) (asked bytes) is

-- ---- words name calls

fit_bytes : (bytes : List ℕ) (c : PtCall) (b : Bool) → list_all (λ x. nat_lt x 256) bytes ≡ b → call_of bytes ≡ Some c
    → (named : List ℕ) → cond b (Some bytes) None ≡ Some named → IsSome (protection_database.writes named)
fit_bytes bytes c true fit read named e =
    let same : bytes ≡ named = cc in
    let there : asked bytes ≡ Some c = ap (λ (b : Bool). cond b (call_of bytes) None) fit ∙ read in
    subst (λ (l : List ℕ). IsSome (protection_database.writes l)) same
    (ap is_some (ap (λ (o : Option PtCall). option_map is_write (option_map call_kind o)) there))
fit_bytes bytes c false fit read named e = absurd cc

named_by : (words : List (List ℕ)) (read : Option PtCall) (bytes : List ℕ) → call_in_words words ≡ read
    → only_bytes (option_map spelling read) ≡ Some bytes → IsSome (protection_database.writes bytes)
named_by words None bytes is e = absurd cc
named_by words (Some c) bytes is e =
    fit_bytes (spelling c) c (list_all (λ x. nat_lt x 256) (spelling c)) refl (spelling_again c (named_is_call words c is)) bytes e

pub names_calls : NamesCalls
names_calls words bytes e = named_by words (call_in_words words) bytes refl e
