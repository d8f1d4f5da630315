-- What a step leaves of its server and of its disk, by how it ended for the cell.
use Rattle.std.proofs.Common.{◌≡◌, ◌≤◌, ◌+◌, ℕ, IsSomeAnd, List, [], map}
use Rattle.std.proofs.Common.{sym, ap, subst, ◌∙◌, arith}
use Rattle.disk_base.specs.declared.disks.Disk.{Ghosts}
use Rattle.db_image.specs.Database.{Database}
use Rattle.cell_model.specs.declared.events.NodeEvent.{NodeEvent}
use Rattle.cell_model.specs.declared.events.Output.{Output}
use Rattle.cell_model.specs.Step.{Member}
use Rattle.cell_runs.specs.Trace.{Tells, fault_count}
use Rattle.ubik_node.specs.declared.nodes.Node.{Node}
use Rattle.ubik_node.specs.Node.{node_of}
use Rattle.cell_sites.specs.Sites.{server_disk}
use Rattle.cell_sites.specs.Sound.{IsSoundDisk, IsSoundNode, IsSoundServer}
use Rattle.cell_sites.specs.Stepped.{Becomes, NodeStepped, StaysSound}
use Rattle.cell_sites.specs.declared.sites.Server.{Server}
use Rattle.cell_sites.specs.declared.sites.Server.TheVariants.{Up}
use Rattle.cell_sites.specs.declared.steps.SiteEnd.{SiteEnd}
use Rattle.cell_sites.specs.declared.steps.SiteEnd.TheVariants as ended
use Rattle.cell_sites.proofs.Made.{end_marks, marks_one}
use Rattle.cell_sites.proofs.Nodes.{short_step, sound_revived}

module _ {D V : Type 0} (g : Ghosts D) (db : Database) (m : Member) (clock : ℕ) (e : NodeEvent) where
  -- a fault that is told is one of its disk
  pub faults_made : (k : ℕ) (end : SiteEnd) (node later : Node D V g) (out : List Output) (server : Server D V g) (left : List Output)
      → NodeStepped g db m clock e end node later out → Becomes g end later out server left
      → g.faults node.store.disk + fault_count k (map Tells (end_marks k end)) ≤ g.faults (server_disk server)
  faults_made k ended.Made node later out server left step becomes =
      let kept = step.calls.1.cause.never_falls in
      let is = ap (λ (s : Server D V g). g.faults (server_disk s)) becomes.0 in
      omega (arith, kept, is)
  faults_made k ended.Halts node later out server left step becomes =
      let rose = step.fault in
      let same = step.revived.faults in
      let one = (marks_one k).0 in
      let is = ap (λ (s : Server D V g). g.faults (server_disk s)) becomes.0 in
      omega (arith, rose, same, one, is)
  faults_made k ended.Stops node later out server left step becomes =
      let rose = step.fault in
      let same = becomes.0.2.faults in
      let one = (marks_one k).1 in
      let is = ap (λ (s : Server D V g). g.faults (server_disk s)) becomes.0.1 in
      omega (arith, rose, same, one, is)
  faults_made k ended.NoMemory node later out server left step becomes =
      let kept = (short_step g db m e clock (node_of node)
      (node_of later) out node.store.disk later.store.disk step.steps).reads.cause.never_falls in
      let is = ap (λ (s : Server D V g). g.faults (server_disk s)) becomes.0 in
      omega (arith, kept, is)

  -- the server and its disk stay sound
  as_up : (later : Node D V g) (server : Server D V g) → server ≡ Up later → StaysSound g m clock later
      → IsSoundServer g m clock server × IsSoundDisk g (server_disk server)
  as_up later server is sound =
      subst (λ (s : Server D V g). IsSoundServer g m clock s × IsSoundDisk g (server_disk s)) (sym is) (sound.node, sound.disk)

  pub stays_sound : (end : SiteEnd) (node later : Node D V g) (out : List Output) (server : Server D V g) (left : List Output)
      → IsSoundDisk g node.store.disk → NodeStepped g db m clock e end node later out → Becomes g end later out server left
      → IsSoundServer g m clock server × IsSoundDisk g (server_disk server)
  stays_sound ended.Made node later out server left disk step becomes = as_up later server becomes.0 step.sound
  stays_sound ended.Halts node later out server left disk step becomes = as_up later server becomes.0 step.sound
  stays_sound ended.Stops node later out server left disk step becomes =
      let revived = becomes.0.2 in
      let tells = step.calls.1.tells ∙ g.tells_now node.store.disk disk.told in
      subst (λ (s : Server D V g). IsSoundServer g m clock s × IsSoundDisk g (server_disk s)) (sym becomes.0.1)
      (tt, sound_revived g later.store.disk becomes.0.0 revived tells step.left)
  stays_sound ended.NoMemory node later out server left disk step becomes = as_up later server becomes.0 step.sound
