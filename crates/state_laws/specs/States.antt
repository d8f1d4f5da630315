-- That images stand for states of a database, before a step and after it (own).
use Rattle.std.specs.Prelude.{ℕ, Bool, List, [], ◌∷◌}
use Rattle.ubik_calls.specs.declared.packets.Body.{Body}
use Rattle.ubik_calls.specs.declared.packets.Body.TheVariants as body
use Rattle.db_image.specs.Standing.{Standing}
use Rattle.cell_model.specs.declared.events.NodeEvent.{NodeEvent}
use Rattle.cell_model.specs.declared.events.NodeEvent.TheVariants as event
use Rattle.cell_model.specs.Durable.{Commit, DurableCall, Install, Made, Reason, Received}
use Rattle.cell_model.specs.Node.{Server}
use Rattle.cell_model.specs.NodeRule.{step_of}
use Rattle.cell_model.specs.Step.{Member}
use Rattle.cell_model.specs.Writes.{announced_image}

-- the image stands for a state of the database
abbrev pub HasState : Standing → List ℕ → Type 0
HasState d image = (x : d.State) × d.StandsFor image x

-- so does that of a server, and the announced one, which during a write in flight is the one before it
abbrev pub HasStates : Standing → Server → Type 0
HasStates d s = HasState d s.image × HasState d (announced_image s)

-- what a durable call takes over from another server leads to an image that stands for a state
abbrev pub BringsState : Standing → Reason → DurableCall → Type 0
BringsState d Received (Commit version changes image) = HasState d image
BringsState d Received (Install version image) = HasState d image
BringsState d _ _ = Unit {0}

-- so does each of these
abbrev pub BringStates : Standing → List Made → Type 0
BringStates d [] = Unit {0}
BringStates d (made ∷ calls) = BringsState d made.reason made.call × BringStates d calls

-- only with such a packet an image or changes may be taken over from another server
abbrev pub TakesOnly : Body → (brought : Type 0) → Type 0
TakesOnly (body.Piece poll version total offset bytes) brought = brought
TakesOnly (body.SendPiece poll version total offset bytes) brought = brought
TakesOnly (body.Commit old new) brought = brought
TakesOnly _ brought = Unit {0}

-- What a step takes over from another server leads to an image that stands for a state. It is so of each event but a packet of the kinds above.
abbrev pub TakesStates : Standing → Member → Server → NodeEvent → ℕ → Type 0
TakesStates d m s (event.Packet p) now =
    TakesOnly p.body ((short : List Bool) → BringStates d (step_of d.database m s now (event.Packet p) short).calls)
TakesStates d m s event.BeaconTurn now = Unit {0}
TakesStates d m s event.RecoverTurn now = Unit {0}
TakesStates d m s (event.Ask id call) now = Unit {0}

-- A step over images that stand for states leaves such images.
abbrev pub StepsKeepStates : Standing → Type 0
StepsKeepStates d =
    (m : Member) (s : Server) (now : ℕ) (e : NodeEvent) (short : List Bool) →
    HasStates d s → TakesStates d m s e now → HasStates d (step_of d.database m s now e short).server
