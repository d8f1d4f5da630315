-- What a database makes of a call over the image that a disk tells.
use Rattle.std.specs.Prelude.{◌≡◌, ℕ, Bool, false, not, ◌&&◌, ◌||◌, if◌then◌else◌, List, Option, Some, None, is_none, IfSome}
use Rattle.db_image.specs.Database.{Outcome, changes_of}
use Rattle.db_image.specs.Standing.{Standing}
use Rattle.db_image.specs.declared.services.CallReply.{CallReply}
use Rattle.db_image.specs.declared.services.CallReply.TheVariants as reply
use Rattle.cell_model.specs.Asks.{allows_reads}
use Rattle.cell_model.specs.Evaluating.{MayCome}
use Rattle.cell_model.specs.Node.{Server}
use Rattle.cell_model.specs.Step.{Member, is_ready, leased}
use Rattle.server_state.specs.Plain.{IsAnswer}
use Rattle.ubik_node.specs.declared.evaluations.Evaluation.{Evaluation}

-- the reply of an outcome, and the changes from the image before it
pub record IsOutcome (d : Standing) (image : List ℕ) (o : Outcome) (e : Evaluation) : Type 0 where
  pub reply : e.reply ≡ o.reply
  pub changes : e.changes ≡ changes_of d.database image o.image

-- it is an outcome that may come of the call over this image
pub record IsMadeOver (d : Standing) (now : ℕ) (call : List ℕ) (e : Evaluation) (image : List ℕ) : Type 0 where
  pub outcome : Outcome
  pub may : MayCome d (record { image = image; moment = now; call = call; outcome = outcome })
  pub is : IsOutcome d image outcome e

abbrev pub IsMadeOf : Standing → Option (List ℕ) → (now : ℕ) → List ℕ → Evaluation → Type 0
IsMadeOf d told now call e = IfSome told (IsMadeOver d now call e)

-- whether a call is evaluated at a server, which writes or not, or is no call; else it is refused, or waits
abbrev pub is_evaluated : Member → Server → ℕ → Option Bool → Bool
is_evaluated m s now None = false
is_evaluated m s now (Some writes) =
    if leased m s now then is_ready s.phase && (not writes || is_none s.flight)
    else not writes && allows_reads s.version now s.beacon

-- an answer is no longer than one may be, whatever the image holds
abbrev pub IsShortReply : CallReply → Type 0
IsShortReply (reply.Done answer) = IsAnswer answer
IsShortReply other = Unit {0}
