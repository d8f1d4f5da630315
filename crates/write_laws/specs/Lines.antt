-- The calls that a server has not answered yet, in their order, and what a step makes of them (own).
use Rattle.std.specs.Prelude.{ℕ, ◌≡◌, ◌+◌, ◌==◌, ◌⊎◌, Option, Some, None, IsSomeAnd, Contains, List, [], ◌∷◌, ◌++◌, count_by, filter_map}
use Rattle.ubik_calls.specs.declared.replies.Reply.{Reply}
use Rattle.ubik_calls.specs.declared.replies.Reply.TheVariants as reply
use Rattle.db_image.specs.declared.services.CallReply.TheVariants as call_reply
use Rattle.db_image.specs.Database.{Database}
use Rattle.cell_model.specs.declared.events.NodeEvent.{NodeEvent}
use Rattle.cell_model.specs.declared.events.NodeEvent.TheVariants as event
use Rattle.cell_model.specs.declared.events.Output.{Output}
use Rattle.cell_model.specs.declared.events.Output.TheVariants as output
use Rattle.cell_model.specs.Node.{Server, Flight, Waiting}
use Rattle.cell_model.specs.Step.{Evaluation, Shown}
use Rattle.cell_model.specs.Voters.{IsOkOf}

-- ---- calls

-- the call of the write in flight
abbrev pub call_in_flight : Option Flight → List Waiting
call_in_flight None = []
call_in_flight (Some f) = record { id = f.id; call = f.call } ∷ []

-- the calls that have no answer yet: first that of the write in flight, then those that wait
abbrev pub unanswered : Server → List Waiting
unanswered s = call_in_flight s.flight ++ s.waiting

-- the call that an event asks
abbrev pub asked_in : NodeEvent → List Waiting
asked_in (event.Ask id call) = record { id = id; call = call } ∷ []
asked_in _ = []

-- ---- replies

pub record Answer : Type 0 where
  pub id : ℕ
  pub reply : Reply
  pub evaluation : Option Evaluation

abbrev pub answer_in : Output → Option Evaluation → Option Answer
answer_in (output.Reply id r) evaluation = Some (record { id = id; reply = r; evaluation = evaluation })
answer_in _ evaluation = None

-- the replies among what is shown, in their order
abbrev pub answers_of : List Shown → List Answer
answers_of shown = filter_map (λ (one : Shown). answer_in one.output one.evaluation) shown

-- what the database replies to the call that was evaluated, on some image
abbrev pub IsGiven : Database → Reply → Option Evaluation → Type 0
IsGiven db (reply.Ok answer) evaluation =
    IsSomeAnd evaluation (λ e. (image : List ℕ) × ((db.call image e.moment e.call).reply ≡ call_reply.Done answer))
IsGiven db (reply.Rule number) evaluation =
    IsSomeAnd evaluation (λ e. (image : List ℕ) × ((db.call image e.moment e.call).reply ≡ call_reply.Rule number))
IsGiven db _ evaluation = Unit {0}

-- A reply goes to a call under its id. An Ok tells of the evaluation of that call, and it and a broken rule are what the database
-- replies: an answer is as short as that of the database.
pub record IsAnswerTo (db : Database) (w : Waiting) (a : Answer) : Type 0 where
  pub id : a.id ≡ w.id
  pub call : IsOkOf w.call (output.Reply a.id a.reply) a.evaluation
  pub given : IsGiven db a.reply a.evaluation

-- so one after the other: as many replies as calls
abbrev pub AreAnswersTo : Database → List Waiting → List Answer → Type 0
AreAnswersTo db [] [] = Unit {0}
AreAnswersTo db (w ∷ calls) (a ∷ answers) = IsAnswerTo db w a × AreAnswersTo db calls answers
AreAnswersTo db _ _ = ⊥

-- ---- steps

-- A step answers calls from the front of the line, each once. The call that it asks goes behind the others, and has its answer in its
-- turn; or it has its answer at once, as the last of the step, and the others wait on.
abbrev pub GoOn : (before asked answered after : List Waiting) → Type 0
GoOn before asked answered after =
    (before ++ asked ≡ answered ++ after)
    ⊎ ((front : List Waiting) × (answered ≡ front ++ asked) × (before ≡ front ++ after))

-- These calls have no answer before a step, and this one is asked in it. Its replies are the answers to some of them, and after it
-- the others have none.
pub record IsLine (db : Database) (before asked : List Waiting) (answers : List Answer) (after : List Waiting) : Type 0 where
  pub answered : List Waiting
  pub told : AreAnswersTo db answered answers
  pub rest : GoOn before asked answered after

-- ---- what lines come to

-- how many of these calls have an id, and how many of these replies
abbrev pub calls_with : ℕ → List Waiting → ℕ
calls_with id calls = count_by (λ (w : Waiting). w.id == id) calls

abbrev pub answers_with : ℕ → List Answer → ℕ
answers_with id answers = count_by (λ (a : Answer). a.id == id) answers

-- As many calls under an id as had no answer, or are asked, have one now or still have none; so no reply has another id. Each that has one
-- now, and each that has none, is one of those.
pub record Counts (before asked answered : List Waiting) (answers : List Answer) (after : List Waiting) : Type 0 where
  pub each : (id : ℕ) → calls_with id before + calls_with id asked ≡ answers_with id answers + calls_with id after
  pub answered_stood : (w : Waiting) → Contains answered w → Contains (before ++ asked) w
  pub left_stood : (w : Waiting) → Contains after w → Contains (before ++ asked) w

abbrev pub LinesCount : Type 0
LinesCount =
    (db : Database) (before asked : List Waiting) (answers : List Answer) (after : List Waiting) (line : IsLine db before asked answers after) →
    Counts before asked line.answered answers after
