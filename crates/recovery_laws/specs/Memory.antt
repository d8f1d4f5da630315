-- Memory that is not found in a step is told, or was not needed (own).
use Rattle.std.specs.Prelude.{ℕ, ◌≡◌, ◌⊎◌, Bool, None, List, [], ◌∷◌}
use Rattle.ubik_calls.specs.declared.replies.Reply.TheVariants as reply
use Rattle.db_image.specs.Database.{Database}
use Rattle.cell_model.specs.declared.events.NodeEvent.{NodeEvent}
use Rattle.cell_model.specs.declared.events.Output.TheVariants as output
use Rattle.cell_model.specs.Node.{Server}
use Rattle.cell_model.specs.NodeRule.{step_of}
use Rattle.cell_model.specs.Step.{Member, Stepped, outputs_of}

-- a step that kept the database, and told that memory was not found, and nothing else
pub record CameShort (s : Server) (t : Stepped) : Type 0 where
  pub version : t.server.version ≡ s.version
  pub image_is : t.server.image ≡ s.image
  pub calls : t.calls ≡ []
  pub id : ℕ
  pub told : outputs_of t.shown ≡ output.Reply id reply.NoMemory ∷ []

-- a step is the one for which all memory was found, or it came short
abbrev pub IsEither : Server → Stepped → Stepped → Type 0
IsEither s t u = (t ≡ u) ⊎ CameShort s t

-- So it is at each server that has no write in flight, and at which no call waits, whatever the event.
abbrev pub MemoryIsTold : Type 0
MemoryIsTold =
    (db : Database) (m : Member) (s : Server) (now : ℕ) (e : NodeEvent) (short : List Bool) →
    s.flight ≡ None → s.waiting ≡ [] → IsEither s (step_of db m s now e short) (step_of db m s now e [])
