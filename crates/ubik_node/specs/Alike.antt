-- Steps as they are over any disk, also one that tells nothing: over some image of the server's length, and but for the bytes of images; what comes of
-- an evaluation is free (own).
use Rattle.std.specs.Prelude.{◌≡◌, ◌≤◌, ◌<◌, ◌⊎◌, ◌++◌, ℕ, Bool, false, IfSome, Option, Some, None, List, [], ◌∷◌, length, map, replicate}
use Rattle.db_image.specs.Database.{Database}
use Rattle.db_image.specs.Ends.{IsShort, KeepsGrammar, end_of}
use Rattle.ubik_calls.specs.declared.packets.Body.{Body}
use Rattle.ubik_calls.specs.declared.packets.Body.TheVariants as body
use Rattle.cell_model.specs.declared.events.NodeEvent.{NodeEvent}
use Rattle.cell_model.specs.declared.events.Output.{Output}
use Rattle.cell_model.specs.declared.events.Output.TheVariants as output
use Rattle.cell_model.specs.Evaluating.{Databases, Evaluated, Told, told_by}
use Rattle.cell_model.specs.Node as model
use Rattle.cell_model.specs.Node.{Flight, Server}
use Rattle.cell_model.specs.NodeRule.{step_by, refusals}
use Rattle.cell_model.specs.Asks.{read}
use Rattle.cell_model.specs.Step.{Basis, Member, Stepped, cell_size, is_short, outputs_of}
use Rattle.cell_model.specs.Writes.{is_free, settled_with_turns, write_turn}
use Rattle.state_laws.specs.Over.{over}
use Rattle.server_state.specs.State.{ShowsBehind}
use Rattle.server_rules.specs.declared.acts.Act.{Act}
use Rattle.server_rules.specs.declared.acts.Act.TheVariants as act
use Rattle.server_rules.specs.Acts.{stepped_by}
use Rattle.ubik_node.specs.declared.nodes.StepEnd.{StepEnd}
use Rattle.ubik_node.specs.declared.nodes.StepEnd.TheVariants.{Done, Halted, NoMemory}

-- ---- what is left of a server and of its packets without the bytes of images

-- so many zero bytes
abbrev pub blanked : List ℕ → List ℕ
blanked bytes = replicate (length bytes) 0

abbrev pub blank_flight : Option Flight → Option Flight
blank_flight None = None
blank_flight (Some f) = Some (record f { old_image = blanked f.old_image })

-- the server but for the bytes of its image and of the one before its write in flight; all else is there
abbrev pub blank : Server → Server
blank s = record s { image = blanked s.image; flight = blank_flight s.flight }

-- a packet but for the bytes of a piece of an image
abbrev pub blank_body : Body → Body
blank_body (body.Piece poll version total offset bytes) = body.Piece poll version total offset (blanked bytes)
blank_body (body.SendPiece poll version total offset bytes) = body.SendPiece poll version total offset (blanked bytes)
blank_body other = other

-- replies and announcements are there whole
abbrev pub blank_output : Output → Output
blank_output (output.Send packet) = output.Send (record packet { body = blank_body packet.body })
blank_output other = other

abbrev pub blank_outputs : List Output → List Output
blank_outputs outputs = map blank_output outputs

-- a step that led to this server, and put this out behind what stood there, but for the bytes of images
pub record IsAlike (t : Stepped) (after : Server) (before out : List Output) : Type 0 where
  pub server : blank t.server ≡ blank after
  pub outputs : blank_outputs out ≡ blank_outputs (before ++ outputs_of t.shown)

-- ---- what comes of evaluations

-- What may come of a call, whatever the image holds: anything within the sizes that keeps the grammar. None makes the image shorter, and the rules
-- take another image from the turn of a writing call alone.
pub record MayBe (db : Database) (e : Evaluated) : Type 0 where
  pub grammar : KeepsGrammar (db.writes e.call) (end_of e.outcome.reply)
  pub short : IsShort (end_of e.outcome.reply)
  pub longer : length e.image ≤ length e.outcome.image

-- each outcome that is told may be
abbrev pub MayAllBe : Database → Told → Type 0
MayAllBe db [] = Unit {0}
MayAllBe db (one ∷ told) = IfSome one (MayBe db) × MayAllBe db told

-- which of its replies are for want of memory, and what comes of its evaluations
pub record Frees (db : Database) : Type 0 where
  pub short : List Bool
  pub told : Told
  pub may : MayAllBe db told

-- the databases by which the calls of a step are evaluated so, in their order
abbrev pub free_dbs : (db : Database) → Frees db → Databases
free_dbs db free = told_by db free.told

-- A rule was made at the server, but over some image of its length: that from which the changes of a write lead. Whatever came of its evaluations.
abbrev pub AlikeSo : (db : Database) → Server → (Server → Frees db → Stepped) → (after : Server) → (before out : List Output) → Type 0
AlikeSo db s t after before out =
    (image : List ℕ) × (length image ≡ length s.image) × (free : Frees db) × IsAlike (t (over s image) free) after before out

-- A step that ended so: where it was made, it is one of the rules. One that was not made left the server as it was, or halted it.
abbrev pub StepsAlike : Database → Member → StepEnd → NodeEvent → ℕ → (before after : model.Node) → List Output → Type 0
StepsAlike db m Done event now (model.Up s) after outputs =
    (new : Server) × (after ≡ model.Up new) × AlikeSo db s (λ at free. step_by (free_dbs db free) m at now event free.short) new [] outputs
StepsAlike db m Done event now _ after outputs = ⊥
StepsAlike db m Halted event now (model.Up s) after outputs =
    (after ≡ model.Halted (model.halted_from s)) × (outputs ≡ outputs_of (refusals event))
StepsAlike db m Halted event now (model.Halted h) after outputs = (after ≡ model.Halted h) × (outputs ≡ outputs_of (refusals event))
StepsAlike db m Halted event now model.Down after outputs = ⊥
StepsAlike db m NoMemory event now (model.Up s) after outputs = (after ≡ model.Up s) × (outputs ≡ [])
StepsAlike db m NoMemory event now _ after outputs = ⊥

-- ---- parts of a step

-- a call that reads an image was answered so, whatever came of it
abbrev pub ReadsAlike : Database → Server → (now id : ℕ) → (call image : List ℕ) → (after : Server) → (before out : List Output) → Type 0
ReadsAlike db s now id call image after before out =
    (free : Frees db)
    × ((basis : Basis) → IsAlike (read (free_dbs db free 0) s now id call image basis (is_short free.short)) after before out)

-- The turn of a writing call. Where others may have theirs behind it, it was only replied to, and would be so over each image of the length.
abbrev pub TurnsAlike : Database → Member → Server → (now id : ℕ) → List ℕ → (after : Server) → (before out : List Output) → Type 0
TurnsAlike db m s now id call after before out =
    (let turn : Server → Frees db → Stepped = λ at free. write_turn (free_dbs db free 0) m at now id call (is_short free.short) in
    ((after ≡ s) × ((image : List ℕ) → length image ≡ length s.image → (free : Frees db) × ShowsBehind (turn (over s image) free) (over s image) before out))
    ⊎ ((1 < cell_size m → is_free after ≡ false) × AlikeSo db s turn after before out))

-- what an act comes to: an image is free only in turns
abbrev pub ActsAlike : Database → Member → ℕ → Act → Server → (after : Server) → (before out : List Output) → Type 0
ActsAlike db m now act.Settle s after before out = AlikeSo db s (λ at free. settled_with_turns (free_dbs db free) m at now free.short) after before out
ActsAlike db m now other s after before out =
    (dbs : Databases) (short : List Bool) → IsAlike (stepped_by dbs m now short s other) after before out
