-- What a node stands for, and what a step of it is.
use Rattle.std.specs.Prelude.{◌≡◌, ◌≢◌, ◌<◌, ◌++◌, ℕ, Bool, true, false, if◌then◌else◌, IsSome, Option, List, [], Result, Ok, Err, OnOk, IfErr, IsErrOf}
use Rattle.disk_base.specs.declared.disks.Disk.{Ghosts}
use Rattle.disk_base.specs.Files.{Files}
use Rattle.disk_base.specs.Runs.{OnlyReads}
use Rattle.db_image.specs.Database.{Database}
use Rattle.db_image.specs.Standing.{Standing}
use Rattle.ubik_calls.specs.declared.packets.Body.{Body}
use Rattle.ubik_calls.specs.declared.packets.Body.TheVariants as body
use Rattle.ubik_store.specs.declared.faults.StoreFault.{StoreFault}
use Rattle.ubik_store.specs.declared.faults.StoreFault.TheVariants as fault
use Rattle.ubik_store.specs.Calls.{CallsAtMost}
use Rattle.ubik_store.specs.declared.stores.Store.{Store}
use Rattle.cell_model.specs.declared.events.NodeEvent.{NodeEvent}
use Rattle.cell_model.specs.declared.events.NodeEvent.TheVariants as events
use Rattle.cell_model.specs.declared.events.Output.{Output}
use Rattle.cell_model.specs.Durable.{Durable, Made, durable}
use Rattle.cell_model.specs.Lapse.{lapsed}
use Rattle.cell_model.specs.Node as model
use Rattle.cell_model.specs.NodeRule.{step_by, step_of, refusals}
use Rattle.cell_model.specs.Step.{Member, Stepped, cell_size, outputs_of}
use Rattle.ubik_node.specs.declared.nodes.Node.{Node}
use Rattle.ubik_node.specs.declared.nodes.StepEnd.{StepEnd}
use Rattle.ubik_node.specs.declared.nodes.StepEnd.TheVariants.{Done, Halted, NoMemory}
use Rattle.ubik_node.specs.Choices.{Choices, dbs_of}
use Rattle.ubik_node.specs.Disk.{FailsIn, Serves}
use Rattle.ubik_node.specs.Evaluation.{is_evaluated}
use Rattle.state_laws.specs.States.{HasStates, TakesStates}
use Rattle.ubik_node.specs.Stored.{IsStoredAs}
use Rattle.server_state.specs.State.{server_of, member_of}

-- the server of a node that is not halted
abbrev pub up_server : {D V : Type 0} {g : Ghosts D} → Node D V g → model.Server
up_server n = server_of n.state

-- the hosts of the node's cell, and its own place among them
abbrev pub own_member : {D V : Type 0} {g : Ghosts D} → Node D V g → Member
own_member n = member_of n.state

-- the abstract server
abbrev pub node_of : {D V : Type 0} {g : Ghosts D} → Node D V g → model.Node
node_of n = if n.store.failed then model.Halted (model.halted_from (up_server n)) else model.Up (up_server n)

-- a run of calls of a disk, however many: a stop in it makes it fail, and a failure has its cause
abbrev pub CallsSo : {D : Type 0} → Ghosts D → (old new : D) → Type 0 → Type 0
CallsSo g old new failed = (most : ℕ) × CallsAtMost g most old new failed

-- so of a step that ended so: it fails where it halts a node that was not halted
abbrev pub Calls : {D V : Type 0} (g : Ghosts D) → (old new : Node D V g) → StepEnd → Type 0
Calls g old new end = CallsSo g old.store.disk new.store.disk ((end ≡ Halted) × (old.store.failed ≡ false))

-- the durable state of a server that is up
abbrev pub durable_in : model.Server → Durable
durable_in s = durable s.version s.image

-- a step that was made: the server after it, what it put out, and what the disk did for its durable calls
pub record Makes (t : Stepped) (after : model.Node) (out : List Output) (Did : List Made → Type 0) : Type 0 where
  pub server : after ≡ model.Up t.server
  pub outputs : out ≡ outputs_of t.shown
  pub disk : Did t.calls

-- A step that ended so, from one server and its disk to others, with these outputs. Where it was made, it was so by one of the choices. A
-- server that is halted, now or before, puts out refusals alone; what ended for want of memory changed nothing.
abbrev pub StepsBy : {D Choice : Type 0} → Ghosts D → (model.Server → Choice → Stepped) → StepEnd → NodeEvent → (before after : model.Node) → List Output
    → (old new : D) → Type 0
StepsBy {D} {Choice} g made Done event (model.Up s) after outputs old new =
    (choice : Choice) × Makes (made s choice) after outputs (Serves g (durable_in s) old new)
StepsBy g made Done event _ after outputs old new = ⊥
StepsBy {D} {Choice} g made Halted event (model.Up s) after outputs old new =
    (after ≡ model.Halted (model.halted_from s)) × (outputs ≡ outputs_of (refusals event))
    × (choice : Choice) × FailsIn g (durable_in s) old new (made s choice).calls
StepsBy g made Halted event (model.Halted h) after outputs old new =
    (after ≡ model.Halted h) × (outputs ≡ outputs_of (refusals event)) × (new ≡ old)
StepsBy g made Halted event model.Down after outputs old new = ⊥
StepsBy g made NoMemory event (model.Up s) after outputs old new = (after ≡ model.Up s) × (outputs ≡ []) × OnlyReads g old new ⊥
StepsBy g made NoMemory event _ after outputs old new = ⊥

-- A step of the rules at a moment, over any image. Which calls found no memory is free, and so is what came of a call over an image that
-- holds no state of the database.
abbrev pub StepsFreely : {D : Type 0} → Ghosts D → Standing → Member → StepEnd → NodeEvent → ℕ → (before after : model.Node) → List Output
    → (old new : D) → Type 0
StepsFreely g d m end event now before after outputs old new =
    StepsBy g (λ s (o : Choices d). step_by (dbs_of o) m s now event o.short) end event before after outputs old new

-- A step of the world: each call is evaluated as the database has it. Which calls found no memory is free.
abbrev pub Steps : {D : Type 0} → Ghosts D → Database → Member → StepEnd → NodeEvent → ℕ → (before after : model.Node) → List Output
    → (old new : D) → Type 0
Steps g db m end event now before after outputs old new =
    StepsBy g (λ s (short : List Bool). step_of db m s now event short) end event before after outputs old new

-- the image stands for a state of the database, and so does the one before the write in flight
abbrev pub HoldsStates : Standing → model.Node → Type 0
HoldsStates d (model.Up s) = HasStates d s
HoldsStates d _ = Unit {0}

-- what a step takes over from another server leads to an image that stands for a state
abbrev pub BringsStates : Standing → Member → model.Node → NodeEvent → ℕ → Type 0
BringsStates d m (model.Up s) event now = TakesStates d m s event now
BringsStates d m _ event now = Unit {0}

-- a packet that may be answered from the image, or changes it, needs a disk that tells its files
abbrev pub NeedsFiles : Body → (tells : Type 0) → Type 0
NeedsFiles (body.Beacon start claim ready version) tells = Unit {0}
NeedsFiles (body.Vote start granted) tells = Unit {0}
NeedsFiles (body.GetVersion poll) tells = Unit {0}
NeedsFiles (body.SetVersion poll old new) tells = Unit {0}
NeedsFiles (body.Begin old new pieces len) tells = Unit {0}
NeedsFiles (body.PutPiece new number bytes) tells = Unit {0}
NeedsFiles (body.Abort new) tells = Unit {0}
NeedsFiles _ tells = tells

-- What an event needs after the lapse to be handled as the rules have it: a call that is evaluated, and what is sent of an image to another server
-- or taken over, needs a disk that tells its files. A refusal needs nothing.
abbrev pub NeedsThen : Database → Member → model.Server → NodeEvent → ℕ → Option Files → Type 0
NeedsThen db m s (events.Ask id call) now files = is_evaluated m s now (db.writes call) ≡ true → IsSome files
NeedsThen db m s (events.Packet p) now files = NeedsFiles p.body (IsSome files)
NeedsThen db m s events.RecoverTurn now files = 1 < cell_size m → IsSome files
NeedsThen db m s events.BeaconTurn now files = Unit {0}

-- so before it
abbrev pub Needs : Database → Member → model.Node → NodeEvent → ℕ → Option Files → Type 0
Needs db m (model.Up s) event now files = NeedsThen db m (lapsed m s now).server event now files
Needs db m _ event now files = Unit {0}

-- the moment of the last step after one that ended so
abbrev pub last_after : StepEnd → ℕ → ℕ → ℕ
last_after NoMemory last now = last
last_after Done last now = now
last_after Halted last now = now

-- the disk tells its files, where there is another server to send something of them to
abbrev pub Knows : {D V : Type 0} (g : Ghosts D) → Node D V g → Type 0
Knows g n = 1 < cell_size (own_member n) → IsSome (g.files n.store.disk)

-- a node as rules see it
pub record Held (D : Type 0) : Type 0 where
  pub store : Store D
  pub server : model.Server
  pub last : ℕ
  pub member : Member

abbrev pub held : {D V : Type 0} {g : Ghosts D} → Node D V g → Held D
held n = record { store = n.store; server = up_server n; last = n.last; member = own_member n }

-- its store is that of the server
abbrev pub IsKept : {D : Type 0} → Ghosts D → Held D → Type 0
IsKept g h = IsStoredAs g h.store h.server.version h.server.image

-- A rule was made: the server after it, what it put out behind what stood there, and what the disk did for its durable calls.
pub record IsMade {D : Type 0} (g : Ghosts D) (t : Stepped) (before after : List Output) (old new : Held D) : Type 0 where
  pub server : t.server ≡ new.server
  pub outputs : after ≡ before ++ outputs_of t.shown
  pub disk : Serves g (durable_in old.server) old.store.disk new.store.disk t.calls

-- What a rule that ended so left of a store that had not failed, and of its disk: where memory ran out nothing changed.
pub record LeavesStore {D : Type 0} (g : Ghosts D) (old : D) (new : Store D) (r : Result (Unit {0}) StoreFault) : Type 0 where
  pub short : IfErr r (λ why. why ≢ fault.DiskFault → (why ≡ fault.NoMemory) × OnlyReads g old new.disk ⊥)
  pub halts : IsErrOf r fault.DiskFault → new.failed ≡ true
  pub runs : ¬ IsErrOf r fault.DiskFault → new.failed ≡ false
  pub told : ¬ IsErrOf r fault.DiskFault → IsSome (g.files old) → IsSome (g.files new.disk)
  pub calls : CallsSo g old new.disk (IsErrOf r fault.DiskFault)

-- How a rule ended at a node that is not halted. As far as the disk tells what that needs, it was made, or the disk failed in it; or memory
-- ran out, and nothing changed. Where the disk failed the server keeps what a halted one tells. Where a rule was not made, what was put out
-- counts for nothing.
pub record Ends {D : Type 0} (g : Ghosts D) (knows : Type 0) (t : Stepped) (before after : List Output) (old new : Held D) (r : Result (Unit {0}) StoreFault) : Type 0 where
  pub made : knows → OnOk r (IsMade g t before after old new)
  pub failed : knows → IsErrOf r fault.DiskFault → FailsIn g (durable_in old.server) old.store.disk new.store.disk t.calls
  pub leaves : LeavesStore g old.store.disk new.store r
  pub state : IfErr r (λ why. why ≢ fault.DiskFault → new.server ≡ old.server)
  pub keeps : IsErrOf r fault.DiskFault → model.halted_from new.server ≡ model.halted_from old.server
  pub last : new.last ≡ old.last
  pub member : new.member ≡ old.member

-- how a rule ended, whatever was chosen in it
abbrev pub EndsSo : {D : Type 0} → Ghosts D → (d : Standing) → (knows : Type 0) → (Choices d → Stepped) → (before after : List Output) → (old new : Held D) → Result (Unit {0}) StoreFault → Type 0
EndsSo g d knows t before after old new r = (o : Choices d) × Ends g knows (t o) before after old new r

-- a step whose rule the disk failed in: the server keeps what a halted one tells
abbrev pub IsHalting : {D : Type 0} → NodeEvent → (back : model.Server) → (old new : Held D) → List Output → StepEnd → Type 0
IsHalting event back old new after end =
    (end ≡ Halted) × ((s : model.Server) × (new ≡ record old { server = s }) × (model.halted_from s ≡ model.halted_from back))
    × (after ≡ outputs_of (refusals event))

-- How a step is closed by the end of its rule. Where the rule was not made, what the lapse gave out comes back, and nothing is put out.
abbrev pub Closes : {D : Type 0} → Result (Unit {0}) StoreFault → NodeEvent → (back : model.Server) → (old new : Held D) → (before after : List Output) → StepEnd → Type 0
Closes (Ok done) event back old new before after end = (end ≡ Done) × (new ≡ old) × (after ≡ before)
Closes (Err why) event back old new before after end =
    (why ≡ fault.DiskFault → IsHalting event back old new after end)
    × (why ≢ fault.DiskFault → (end ≡ NoMemory) × (new ≡ record old { server = back }) × (after ≡ []))
