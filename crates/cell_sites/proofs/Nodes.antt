-- The server that is up, after a step.
use Rattle.std.proofs.Common.{if◌then◌else◌, ◌≡◌, inl, inr, ◌≤◌, ℕ, Bool, true, false, List, [], IsSome, refl, sym, ap, subst, ◌∙◌, arith}
use Rattle.std.proofs.lemmas.Bool.{false≢true}
use Rattle.disk_base.specs.declared.disks.Disk.{Ghosts}
use Rattle.disk_base.specs.Crash.{Only}
use Rattle.disk_base.specs.Files.{Files}
use Rattle.disk_base.specs.Runs.{OnlyReads}
use Rattle.disk_base.specs.Stops.{IsStopped}
use Rattle.db_image.specs.Database.{Database}
use Rattle.cell_model.specs.declared.events.NodeEvent.{NodeEvent}
use Rattle.cell_model.specs.declared.events.Output.{Output}
use Rattle.cell_model.specs.Durable.{Durable, Made}
use Rattle.cell_model.specs.Node as model
use Rattle.cell_model.specs.NodeRule.{step_of}
use Rattle.cell_model.specs.Step.{Member}
use Rattle.ubik_store.specs.Gaps.{IsPlain}
use Rattle.ubik_node.specs.declared.nodes.Node.{Node}
use Rattle.ubik_node.specs.declared.nodes.StepEnd.{StepEnd}
use Rattle.ubik_node.specs.declared.nodes.StepEnd.TheVariants.{Done, Halted, NoMemory}
use Rattle.ubik_node.specs.Disk.{IsRevived, LeavesWithin, TakenCutNoPut}
use Rattle.ubik_node.specs.Node.{Calls, Steps, last_after, node_of, own_member, up_server}
use Rattle.server_state.specs.declared.state.State.{State}
use Rattle.server_state.specs.State.{member_of, server_of}
use Rattle.cell_sites.specs.declared.steps.SiteEnd.TheVariants as ended
use Rattle.cell_sites.specs.Sound.{IsSoundDisk, IsSoundNode}
use Rattle.cell_sites.specs.Stepped.{NodeStepped}
use Rattle.cell_sites.specs.Taken.{CutsNone}
use Rattle.cell_sites.proofs.Plainly.{left_plain, make_if, of_some, some_of}

-- ---- whether it is halted

-- the server that is halted or not
abbrev pub node_by : Bool → model.Server → model.Node
node_by halted u = if halted then model.Halted (model.halted_from u) else model.Up u

by_up : (halted : Bool) (u s : model.Server) → node_by halted u ≡ model.Up s → (halted ≡ false) × (u ≡ s)
by_up true u s is = cc
by_up false u s is = (refl, cc)

by_halted : (halted : Bool) (u : model.Server) (h : model.HaltedServer) → node_by halted u ≡ model.Halted h → halted ≡ true
by_halted true u h is = refl
by_halted false u h is = cc

pub is_up : {D V : Type 0} {g : Ghosts D} (n : Node D V g) (s : model.Server) → node_of n ≡ model.Up s → (n.store.failed ≡ false)
    × (up_server n ≡ s)
is_up n s is = by_up n.store.failed (up_server n) s is

pub is_halted : {D V : Type 0} {g : Ghosts D} (n : Node D V g) (h : model.HaltedServer) → node_of n ≡ model.Halted h → n.store.failed ≡ true
is_halted n h is = by_halted n.store.failed (up_server n) h is

-- ---- disks

-- a disk that was revived is sound where what a crash leaves of it is plain
pub sound_revived : {D : Type 0} (g : Ghosts D) (failed later : D) → IsRevived g failed later → g.tells failed ≡ true
    → ((fs : Files) → g.may_leave failed fs → IsPlain fs) → IsSoundDisk g later
sound_revived {D} g failed later revived tells plain =
    let there = some_of (g.files later) (revived.told tells) in
    let left = of_some (g.files later) there.0 (λ fs. g.may_leave failed fs × Only fs (g.may_leave later)) there.1 revived.left in
    record {
      told = revived.told tells;
      settled = make_if (g.files later) there.0 (λ fs. Only fs (g.may_leave later)) there.1 left.1;
      plain = make_if (g.files later) there.0 IsPlain there.1 (plain there.0 left.0);
    }

-- one that was only read stays so
pub sound_read : {D : Type 0} (g : Ghosts D) (old new : D) → IsSoundDisk g old → OnlyReads g old new ⊥
    → IsSoundDisk g new
sound_read {D} g old new sound reads =
    let there = some_of (g.files old) sound.told in
    let same : g.files new ≡ g.files old = reads.files (λ never. never) in
    let only = of_some (g.files old) there.0 (λ fs. Only fs (g.may_leave old)) there.1 sound.settled in
    record {
      told = subst IsSome (sym same) sound.told;
      settled =
          make_if (g.files new) there.0 (λ fs. Only fs (g.may_leave new)) (same ∙ there.1) (λ c left. only c (reads.crash.no_more c left));
      plain = make_if (g.files new) there.0 IsPlain (same ∙ there.1) (of_some (g.files old) there.0 IsPlain there.1 sound.plain);
    }

-- ---- a step

-- where a step was made the server was up, and is
pub made_up : {D : Type 0} (g : Ghosts D) (db : Database) (m : Member) (e : NodeEvent) (now : ℕ) (x after : model.Node)
    (out : List Output) (old new : D)
    → Steps g db m Done e now x after out old new → ((s : model.Server) × (x ≡ model.Up s)) × ((t : model.Server) × (after ≡ model.Up t))
made_up g db m e now model.Down after out old new steps = absurd steps
made_up g db m e now (model.Halted h) after out old new steps = absurd steps
made_up g db m e now (model.Up s) after out old new (short, makes) = ((s, refl), (_, makes.server))

-- what a crash leaves of it
abbrev pub Leaves : {D : Type 0} → Ghosts D → (old new : D) → Type 0
Leaves g old new = (d : Durable) × (calls : List Made) × TakenCutNoPut calls × LeavesWithin g d old new calls

pub made_leaves : {D : Type 0} (g : Ghosts D) (db : Database) (m : Member) (e : NodeEvent) (now : ℕ) (x after : model.Node)
    (out : List Output)
    (old new : D) → CutsNone db m e now x → Steps g db m Done e now x after out old new → Leaves g old new
made_leaves g db m e now model.Down after out old new cuts steps = absurd steps
made_leaves g db m e now (model.Halted h) after out old new cuts steps = absurd steps
made_leaves g db m e now (model.Up s) after out old new cuts (short, makes) = (_, _, cuts s refl short, makes.disk.leaves)

pub halted_leaves : {D V : Type 0} (g : Ghosts D) (db : Database) (m : Member) (e : NodeEvent) (now : ℕ) (node : Node D V g)
    (after : model.Node)
    (out : List Output) (old new : D) → node.store.failed ≡ false → CutsNone db m e now (node_of node)
    → Steps g db m Halted e now (node_of node) after out old new
    → Leaves g old new
halted_leaves g db m e now node after out old new up cuts steps =
    let s = up_server node in
    let is : node_of node ≡ model.Up s = ap (λ (b : Bool). if b then model.Halted (model.halted_from s) else model.Up s) up in
    let so = subst (λ (x : model.Node). Steps g db m Halted e now x after out old new) is steps in
    (_, _, cuts s is so.2, so.3.leaves)

-- a step that ended so leaves the server halted
pub halts : {D V : Type 0} (g : Ghosts D) (db : Database) (m : Member) (e : NodeEvent) (now : ℕ) (x : model.Node) (later : Node D V g)
    (out : List Output)
    (old new : D) → Steps g db m Halted e now x (node_of later) out old new → later.store.failed ≡ true
halts g db m e now model.Down later out old new steps = absurd steps
halts g db m e now (model.Halted h) later out old new steps = is_halted later h steps.0
halts g db m e now (model.Up s) later out old new steps = is_halted later (model.halted_from s) steps.0

-- memory ran out at a server that is up, and nothing changed
pub record IsShortStep {D : Type 0} (g : Ghosts D) (x after : model.Node) (out : List Output) (old new : D) : Type 0 where
  pub same : after ≡ x
  pub quiet : out ≡ []
  pub reads : OnlyReads g old new ⊥

pub short_step : {D : Type 0} (g : Ghosts D) (db : Database) (m : Member) (e : NodeEvent) (now : ℕ) (x after : model.Node)
    (out : List Output) (old new : D)
    → Steps g db m NoMemory e now x after out old new → IsShortStep g x after out old new
short_step g db m e now model.Down after out old new steps = absurd steps
short_step g db m e now (model.Halted h) after out old new steps = absurd steps
short_step g db m e now (model.Up s) after out old new (same, quiet, reads) = record { same = same; quiet = quiet; reads = reads }

-- a halted server leaves its disk alone
pub halted_rests : {D V : Type 0} (g : Ghosts D) (db : Database) (m : Member) (e : NodeEvent) (now : ℕ) (node : Node D V g)
    (after : model.Node)
    (out : List Output) (old new : D) → node.store.failed ≡ true → Steps g db m Halted e now (node_of node) after out old new → new ≡ old
halted_rests g db m e now node after out old new halted steps =
    let h = model.halted_from (up_server node) in
    let is : node_of node ≡ model.Halted h = ap (λ (b : Bool). if b then model.Halted h else model.Up (up_server node)) halted in
    (subst (λ (x : model.Node). Steps g db m Halted e now x after out old new) is steps).2

-- what is left of a plain file is plain
pub plain_left : {D : Type 0} (g : Ghosts D) (old new : D) → IsSoundDisk g old → Leaves g old new → (fs : Files) → g.may_leave new fs
    → IsPlain fs
plain_left {D} g old new sound (d, calls, cuts, leaves) fs left =
    let there = some_of (g.files old) sound.told in
    left_plain g d old new calls there.0 fs there.1 (of_some (g.files old) there.0 IsPlain there.1 sound.plain) cuts leaves left

module _ {D V : Type 0} (g : Ghosts D) (db : Database) (m : Member) (clock : ℕ) (e : NodeEvent) (node : Node D V g) (out : List Output)
    (sound : IsSoundNode g m clock node) (disk : IsSoundDisk g node.store.disk) (cuts : CutsNone db m e clock (node_of node)) where
  lasts : (end : StepEnd) (last : ℕ) → last ≤ clock → last_after end last clock ≤ clock
  lasts Done last within = omega arith
  lasts Halted last within = omega arith
  lasts NoMemory last within = within

  sound_later : (later : Node D V g) (end : StepEnd) → own_member later ≡ own_member node → later.last ≡ last_after end node.last clock
      → IsSoundNode g m clock later
  sound_later later end member last =
      record {
        last = let within = lasts end node.last sound.last in omega (arith, within, last);
        member = member ∙ sound.member;
      }

  -- it was made
  pub done_now : (later : Node D V g) → Steps g db m Done e clock (node_of node) (node_of later) out node.store.disk later.store.disk
      → own_member later ≡ own_member node → (IsSome (g.files node.store.disk) → IsSome (g.files later.store.disk))
      → Calls g node later Done
      → later.last ≡ last_after Done node.last clock
      → NodeStepped g db m clock e ended.Made node later out
  done_now later steps member others calls last =
      let made = made_up g db m e clock (node_of node) (node_of later) out node.store.disk later.store.disk steps in
      let up = (is_up later made.1.0 made.1.1).0 in
      let there = some_of (g.files later.store.disk) (others disk.told) in
      let left =
      plain_left g node.store.disk later.store.disk disk
      (made_leaves g db m e clock (node_of node) (node_of later) out node.store.disk later.store.disk cuts steps)
      there.0
      (g.may_be_read later.store.disk there.0 there.1) in
      record {
        end = Done;
        ends = inl refl;
        steps = steps;
        calls = calls;
        sound = record {
          node = sound_later later Done member last;
          disk = record {
            told = others disk.told;
            settled = (later.stored.sound.ready up).settled;
            plain = make_if (g.files later.store.disk) there.0 IsPlain there.1 left;
          };
        };
      }

  -- it was halted before
  pub rested_now : (later : Node D V g) → node.store.failed ≡ true
      → Steps g db m Halted e clock (node_of node) (node_of later) out node.store.disk later.store.disk
      → own_member later ≡ own_member node → Calls g node later Halted → later.last ≡ last_after Halted node.last clock
      → NodeStepped g db m clock e ended.Made node later out
  rested_now later halted steps member calls last =
      record {
        end = Halted;
        ends = inr (refl, halted);
        steps = steps;
        calls = calls;
        sound = record {
          node = sound_later later Halted member last;
          disk = subst (IsSoundDisk g)
              (sym (halted_rests g db m e clock node (node_of later) out node.store.disk later.store.disk halted steps)) disk;
        };
      }

  -- memory ran out
  pub short_now : (later : Node D V g) → Steps g db m NoMemory e clock (node_of node) (node_of later) out node.store.disk later.store.disk
      → own_member later ≡ own_member node → later.last ≡ last_after NoMemory node.last clock
      → NodeStepped g db m clock e ended.NoMemory node later out
  short_now later steps member last =
      let short = short_step g db m e clock (node_of node) (node_of later) out node.store.disk later.store.disk steps in
      record {
        steps = steps;
        sound = record {
          node = sound_later later NoMemory member last;
          disk = sound_read g node.store.disk later.store.disk disk short.reads;
        };
      }

  -- its disk stopped
  pub stopped_now : (later : Node D V g) → node.store.failed ≡ false
      → Steps g db m Halted e clock (node_of node) (node_of later) out node.store.disk later.store.disk
      → Calls g node later Halted → IsStopped (g.stop later.store.disk)
      → NodeStepped g db m clock e ended.Stops node later out
  stopped_now later up steps calls stopped =
      record {
        was = up;
        steps = steps;
        calls = calls;
        stopped = stopped;
        fault = calls.1.cause.rose (refl, up);
        left = plain_left g node.store.disk later.store.disk disk
            (halted_leaves g db m e clock node (node_of later) out node.store.disk later.store.disk up cuts steps);
      }

  -- its disk failed, and the files were opened anew
  pub halted_now : (mid later : Node D V g) → node.store.failed ≡ false
      → Steps g db m Halted e clock (node_of node) (node_of mid) out node.store.disk mid.store.disk
      → Calls g node mid Halted → (IsStopped (g.stop mid.store.disk) → ⊥)
      → IsRevived g mid.store.disk later.store.disk → (later.state ≡ mid.state) × (later.store.failed ≡ mid.store.failed)
      × (later.last ≡ mid.last)
      → own_member mid ≡ own_member node → mid.last ≡ last_after Halted node.last clock
      → NodeStepped g db m clock e ended.Halts node later out
  halted_now mid later up steps calls runs revived same member last =
      let node_same : node_of later ≡ node_of mid =
      ap (λ (h : Bool). if h then model.Halted (model.halted_from (up_server later)) else model.Up (up_server later)) same.1
      ∙ ap (λ (u : model.Server). if mid.store.failed then model.Halted (model.halted_from u) else model.Up u)
      (ap (λ (st : State). server_of st) same.0) in
      record {
        failed = mid.store.disk;
        was = up;
        steps = subst (λ (x : model.Node). Steps g db m Halted e clock (node_of node) x out node.store.disk mid.store.disk)
            (sym node_same) steps;
        running = runs;
        fault = calls.1.cause.rose (refl, up);
        revived = revived;
        sound = record {
          node = sound_later later Halted (ap (λ (st : State). member_of st) same.0 ∙ member) (same.2 ∙ last);
          disk = sound_revived g mid.store.disk later.store.disk revived (calls.1.tells ∙ g.tells_now node.store.disk disk.told)
              (plain_left g node.store.disk mid.store.disk disk
              (halted_leaves g db m e clock node (node_of mid) out node.store.disk mid.store.disk up cuts
              steps));
        };
      }
