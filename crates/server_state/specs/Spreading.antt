-- A database that goes to the other servers.
use Rattle.std.specs.Prelude.{ℕ, ◌==◌, if◌then◌else◌, Option, Some, None, List, [], ◌∷◌}
use Rattle.ubik_types.specs.declared.phases.Phase.{Phase}
use Rattle.ubik_types.specs.declared.phases.Phase.TheVariants as phase
use Rattle.ubik_types.specs.declared.versions.Version.{Version}
use Rattle.ubik_types.specs.Version.{IsVersion, version_eq}
use Rattle.ubik_calls.specs.declared.packets.Body.{Body}
use Rattle.ubik_calls.specs.declared.packets.Body.TheVariants as body
use Rattle.ubik_types.specs.Phase.{Polled}
use Rattle.cell_model.specs.Node.{Server}
use Rattle.cell_model.specs.Polls.{with_answer}
use Rattle.cell_model.specs.Recovery.{polled}
use Rattle.cell_model.specs.Step.{Member, Stepped, quiet}
use Rattle.server_state.specs.declared.spreading.Given.{Given}
use Rattle.server_state.specs.Plain.{IsPiece}

-- the own database goes to the others, and those that have it are counted
abbrev pub IsSpreading : Phase → Type 0
IsSpreading phase.Send = Unit {0}
IsSpreading phase.Ready = Unit {0}
IsSpreading _ = ⊥

-- what goes has a spelling
pub record IsPlainGiven (given : Given) : Type 0 where
  pub old : IsVersion given.old
  pub new : IsVersion given.new
  pub piece : IsPiece given.piece

-- what a server gets that answered a version: the new version alone, where it has the old one, else the first piece
abbrev pub given_body : Given → Version → Body
given_body given answer =
    if version_eq answer given.old then body.SetVersion given.poll given.old given.new
    else body.SendPiece given.poll given.new given.total 0 given.piece

abbrev pub given_bodies : Given → Option Version → List Body
given_bodies given None = []
given_bodies given (Some answer) = given_body given answer ∷ []

-- a version that is told in a poll: it counts where it is for that one
abbrev pub answer_heard : Member → Server → ℕ → Polled → (k number : ℕ) → Version → Stepped
answer_heard m s now poll k number version = if number == poll.number then polled m s (with_answer poll k version) now else quiet s
