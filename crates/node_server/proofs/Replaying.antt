-- What comes back of a run is what the replay of its journal leaves.
use Rattle.std.proofs.Common.{◌≡◌, ℕ, ◌<◌, ◌≤◌, Bool, true, false, List, length, Option, Some, None, IfSome, Result, Ok, Err, refl, ap, sym, subst, ◌∙◌, arith}
use Rattle.std.specs.Prelude.{if◌then◌else◌, IsSome, is_some}
use Rattle.std.proofs.Math.Logic.{∥∥₁_elim, ∥∥₁_map, ∥∥₁_prop}
use mathlib.Core.Bool.{Bool-set}
use Rattle.ubik_types.specs.declared.hosts.Host.{Host}
use Rattle.disk_base.specs.declared.disks.Disk.{Ghosts}
use Rattle.disk_base.specs.Files.{Files}
use Rattle.db_image.specs.Standing.{Standing}
use Rattle.cell_model.specs.declared.events.Output.{Output}
use Rattle.cell_model.specs.Durable.{Durable}
use Rattle.cell_model.specs.Node as model
use Rattle.cell_model.specs.Step.{Member, cell_size}
use Rattle.ubik_node.specs.declared.nodes.Node.{Node}
use Rattle.ubik_node.specs.Disk.{StandsAs}
use Rattle.ubik_node.specs.Node.{node_of, own_member, up_server}
use Rattle.server_journal.specs.declared.items.JournalItem.{JournalItem}
use Rattle.server_station.specs.Fit.{IsOwnJournal, are_numbered, are_taken}
use Rattle.server_station.specs.Replaying.{IsReplay, Replays}
use Rattle.server_texts.specs.declared.words.ServerWords.{ServerWords}
use Rattle.server_texts.specs.declared.words.Database.{Database}
use Rattle.server_texts.specs.declared.words.WordsFault.{WordsFault}
use Rattle.server_texts.specs.Words.{IsRead, Means, Named}
use Rattle.node_server.specs.declared.ends.ServerRun.{ServerRun}
use Rattle.node_server.specs.Replays.{IsOpenedAs, IsReplayed, ReplaysNamed, RunReplays, standing_of}

-- ---- a server that has ended

module _ {D V : Type 0} (g : Ghosts D) (d : Standing) (opened n : Node D V g) (kept : List JournalItem) (outputs : List Output)
    (server : model.Node) (member : Member) (knows : Bool) (failed : ℕ)
    (fails : n.store.failed ≡ true → failed < g.faults n.store.disk) where
  -- a halted node is one whose store has failed
  has_failed : (h : model.HaltedServer) → node_of n ≡ model.Halted h → n.store.failed ≡ true
  has_failed h is = by n.store.failed is
    where
      by : (b : Bool) → (if b then model.Halted (model.halted_from (up_server n)) else model.Up (up_server n)) ≡ model.Halted h → b ≡ true
      by true same = refl
      by false clash = absurd cc

  replayed_by : IsOpenedAs g opened server member knows
      → IsReplay g d (own_member opened) (node_of opened) kept (node_of n) outputs n.store.disk
      → IsReplayed g d member server failed kept n.store.disk
  replayed_by o r =
      let P : Member → Type 0 = λ m. IsReplay g d m (node_of opened) kept (node_of n) outputs n.store.disk in
      let Q : model.Node → Type 0 = λ s. IsReplay g d member s kept (node_of n) outputs n.store.disk in
      record {
        node = node_of n;
        outputs = outputs;
        replay = subst Q o.server (subst P o.member r);
        fails = λ h is. fails (has_failed h is);
      }

  pub leaves : ∥ IsOpenedAs g opened server member knows ∥₁ → Replays g d opened n kept outputs → knows ≡ true
      → ∥ IsReplayed g d member server failed kept n.store.disk ∥₁
  leaves first replays known =
      ∥∥₁_elim first ∥∥₁_prop
      (λ (o : IsOpenedAs g opened server member knows). ∥∥₁_map (replays (o.tells ∙ known)) (replayed_by o))

-- the journal is one of the server that was opened
pub own_journal : {D V : Type 0} {g : Ghosts D} (opened n : Node D V g) (kept : List JournalItem) (server : model.Node) (member : Member)
    (knows : Bool)
    → own_member n ≡ own_member opened → are_numbered 0 kept ≡ true → are_taken (own_member n) kept ≡ true
    → ∥ IsOpenedAs g opened server member knows ∥₁ → IsOwnJournal member kept
own_journal {D} {V} {g} opened n kept server member knows same numbered taken first =
    let P : Member → Type 0 = λ m. are_taken m kept ≡ true in (
      numbered,
      ∥∥₁_elim first (Bool-set (are_taken member kept) true)
          (λ (o : IsOpenedAs g opened server member knows). subst P (same ∙ o.member) taken),
    )

-- ---- a server that was opened

-- a disk that has failed since an opening has failed since what was before it
replayed_since : {D : Type 0} (g : Ghosts D) (d : Standing) (m : Member) (opened : model.Node) (before failed : ℕ)
    (kept : List JournalItem) (disk : D)
    → before ≤ failed → IsReplayed g d m opened failed kept disk → IsReplayed g d m opened before kept disk
replayed_since g d m opened before failed kept disk low is =
    record {
      node = is.node;
      outputs = is.outputs;
      replay = is.replay;
      fails = λ h down. let more = is.fails h down in omega
          (arith, low, more);
    }

abbrev IsReplayedFrom : {D : Type 0} (g : Ghosts D) (d : Standing) (m : Member) (files : Files) (now failed : ℕ)
    (kept : List JournalItem) → D → Type 0
IsReplayedFrom g d m files now failed kept left =
    (found : Durable) × StandsAs found files × IsReplayed g d m (model.Up (model.opened_server (cell_size m) found now)) failed kept left

from_opening : {D J : Type 0} (g : Ghosts D) (items_of : J → List JournalItem) (d : Standing) (hosts : List Host)
    (me now before failed : ℕ) (fs : Files) (run : ServerRun J)
    (disk : D) (found : Durable) (server : model.Node) (member : Member)
    → server ≡ model.Up (model.opened_server (length hosts) found now) → StandsAs found fs → member ≡ record { hosts = hosts; me = me }
    → before ≤ failed → run.opened ≡ now
    → IsReplayed g d member server failed (items_of run.journal) disk
    → IsReplayedFrom g d (record { hosts = hosts; me = me }) fs run.opened before (items_of run.journal) disk
from_opening g items_of d hosts me now before failed fs run disk found server member is there cell low moment ended =
    let P : Member → Type 0 = λ m. IsReplayed g d m server failed (items_of run.journal) disk in
    let Q : model.Node → Type 0 = λ s. IsReplayed g d (record { hosts = hosts; me = me }) s failed (items_of run.journal) disk in
    let R : ℕ → Type 0 = λ t. IsReplayed g d (record { hosts = hosts; me = me })
    (model.Up (model.opened_server (length hosts) found t)) failed (items_of run.journal) disk in (
      found,
      there,
      replayed_since g d (record { hosts = hosts; me = me }) (model.Up (model.opened_server (length hosts) found run.opened)) before failed
          (items_of run.journal) disk low (subst R (sym moment) (subst Q is (subst P cell ended))),
    )

replays_over : {D J : Type 0} (g : Ghosts D) (items_of : J → List JournalItem) (d : Standing) (hosts : List Host)
    (me now before failed : ℕ) (files held : Option Files)
    (ran : Option (ServerRun J)) (disk : D) (found : Durable) (server : model.Node) (member : Member)
    → server ≡ model.Up (model.opened_server (length hosts) found now) → IfSome files (StandsAs found)
    → member ≡ record { hosts = hosts; me = me } → before ≤ failed
    → (IsSome files → IsSome held) → IfSome ran (λ run. run.opened ≡ now) → IfSome ran (λ run. IsOwnJournal member (items_of run.journal))
    → IfSome ran (λ run. is_some held ≡ true → ∥ IsReplayed g d member server failed (items_of run.journal) disk ∥₁)
    → IfSome ran (λ run. IsOwnJournal (record { hosts = hosts; me = me }) (items_of run.journal)
    × IfSome files (λ fs. ∥ IsReplayedFrom g d (record { hosts = hosts; me = me }) fs run.opened before (items_of run.journal) disk ∥₁))
replays_over g items_of d hosts me now before failed files held None disk found server member is there cell low knows moment own replays =
    tt
replays_over g items_of d hosts me now before failed files held
    (Some run) disk found server member is there cell low knows moment own replays =
    (subst (λ (m : Member). IsOwnJournal m (items_of run.journal)) cell own, over files there knows)
  where
    over : (files : Option Files) → IfSome files (StandsAs found) → (IsSome files → IsSome held)
        → IfSome files (λ fs. ∥ IsReplayedFrom g d (record { hosts = hosts; me = me }) fs run.opened before (items_of run.journal) disk ∥₁)
    over None there knows = tt
    over (Some fs) there knows =
        ∥∥₁_map (replays (knows refl))
        (from_opening g items_of d hosts me now before failed fs run disk found server member is there cell low moment)

-- a run of an opened node is one of the disk that it was opened over
pub run_replays : {D J : Type 0} (g : Ghosts D) (items_of : J → List JournalItem) (d : Standing) (hosts : List Host) (me now failed : ℕ)
    (old new : D) (held : Option Files)
    (ran : Option (ServerRun J)) (found : Durable) (server : model.Node) (member : Member)
    → server ≡ model.Up (model.opened_server (length hosts) found now) → IfSome (g.files old) (StandsAs found)
    → member ≡ record { hosts = hosts; me = me }
    → g.faults old ≤ failed → (IsSome (g.files old) → IsSome held) → IfSome ran (λ run. run.opened ≡ now)
    → IfSome ran (λ run. IsOwnJournal member (items_of run.journal))
    → IfSome ran (λ run. is_some held ≡ true → ∥ IsReplayed g d member server failed (items_of run.journal) new ∥₁)
    → RunReplays g items_of d (record { hosts = hosts; me = me }) old new ran
run_replays g items_of d hosts me now failed old new held ran found server member =
    replays_over g items_of d hosts me now (g.faults old) failed (g.files old) held ran new found server member

-- ---- the words

replays_read : {D J : Type 0} (g : Ghosts D) (items_of : J → List JournalItem) (named : Named) (read : ServerWords) (old new : D)
    (ran : Option (ServerRun J))
    → IsRead named read
    → RunReplays g items_of (standing_of read.database) (record { hosts = read.cell; me = read.me }) old new ran
    → ReplaysNamed g items_of (Ok named) old new ran
replays_read g items_of named read old new None is replays = tt
replays_read g items_of named read old new (Some run) is replays =
    let P : Database → Type 0 = λ b. RunReplays g items_of (standing_of b) (record { hosts = read.cell; me = read.me }) old new
    (Some run) in
    (record { hosts = read.cell; me = read.me }, record { cell = is.cell; hosts = is.hosts; me = is.me }, subst P is.database replays)

pub replays_named : {D J : Type 0} (g : Ghosts D) (items_of : J → List JournalItem) (meaning : Result Named WordsFault)
    (read : ServerWords) (old new : D)
    (ran : Option (ServerRun J)) → Means meaning (Ok read)
    → RunReplays g items_of (standing_of read.database) (record { hosts = read.cell; me = read.me }) old new ran
    → ReplaysNamed g items_of meaning old new ran
replays_named g items_of (Ok named) read old new ran is replays = replays_read g items_of named read old new ran is replays
replays_named g items_of (Err fault) read old new ran is replays = absurd is

-- without a run
pub replays_not : {D J : Type 0} (g : Ghosts D) (items_of : J → List JournalItem) (meaning : Result Named WordsFault) (old new : D)
    → ReplaysNamed {D = D} {J = J} g items_of meaning old new None
replays_not g items_of (Ok named) old new = tt
replays_not g items_of (Err fault) old new = tt
