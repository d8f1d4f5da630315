-- The opening of one server of a cell.
use Rattle.std.specs.Prelude.{◌≡◌, ◌≤◌, ◌<◌, ◌+◌, ℕ, Bool, true, false, IsSomeAnd, Some, List, [], ◌∷◌, length}
use Rattle.disk_base.specs.declared.disks.Disk.{Ghosts}
use Rattle.disk_base.specs.Crash.{IsSettled}
use Rattle.disk_base.specs.Files.{Files}
use Rattle.disk_base.specs.Stops.DiskStop.{Unarmed}
use Rattle.ubik_types.specs.Version.{IsVersion}
use Rattle.ubik_store.specs.Opening.{OpensIn}
use Rattle.cell_model.specs.Durable.{Durable, no_database}
use Rattle.cell_model.specs.Node.{Down, Up, opened_server}
use Rattle.cell_model.specs.Step.{Member}
use Rattle.cell_runs.specs.declared.traces.Mark.{Mark}
use Rattle.cell_runs.specs.declared.traces.Mark.TheVariants.{StaysDown}
use Rattle.cell_sites.specs.Counts.{OpensFirst, RisesAs}
use Rattle.cell_sites.specs.declared.openings.OpenEnd.{OpenEnd}
use Rattle.cell_sites.specs.declared.openings.OpenEnd.TheVariants as opened
use Rattle.cell_sites.specs.declared.sites.Server.{Server}
use Rattle.cell_sites.specs.Sites.{server_disk, server_node}
use Rattle.cell_sites.specs.Sound.{IsSoundDisk, IsSoundServer}
use Rattle.ubik_node.specs.Disk.{StandsAs}

-- an opening that is not done makes fewer calls, perhaps
abbrev pub is_cut_short : OpenEnd → Bool
is_cut_short (opened.Up version) = false
is_cut_short opened.StaysDown = true
is_cut_short opened.NoMemory = true

-- what is told of the first opening of a server: that it stays down
abbrev pub opened_marks : ℕ → OpenEnd → List Mark
opened_marks k (opened.Up version) = []
opened_marks k opened.StaysDown = StaysDown k ∷ []
opened_marks k opened.NoMemory = []

-- the disk got the changing calls of an opening over its files
pub record OpensDisk {D : Type 0} (g : Ghosts D) (failed : Bool) (before after : D) : Type 0 where
  pub files : Files
  pub there : g.files before ≡ Some files
  pub calls : ℕ
  pub opens : OpensIn files calls
  pub rise : ℕ
  pub rises : RisesAs failed calls rise
  pub is : g.steps after ≡ g.steps before + rise

-- which server stands there then: it was opened on a durable state; or it stays down, since the disk failed or memory ran out
abbrev pub ServerIs : {D V : Type 0} (g : Ghosts D) → Member → (clock : ℕ) → Durable → OpenEnd → D → Server D V g → Type 0
ServerIs g m clock d (opened.Up version) disk server =
    (server_node server ≡ Up (opened_server (length m.hosts) d clock)) × (version ≡ d.version) × IsSoundServer g m clock server
    × IsVersion d.version
ServerIs g m clock d opened.StaysDown disk server = (server_node server ≡ Down) × (g.faults disk < g.faults (server_disk server))
ServerIs g m clock d opened.NoMemory disk server = server_node server ≡ Down

-- A server was opened over a disk whose files stand for a durable state, done or not: they stand for it still.
pub record ServerOpens {D V : Type 0} (g : Ghosts D) (m : Member) (clock : ℕ) (d : Durable) (end : OpenEnd) (disk : D)
    (server : Server D V g) : Type 0 where
  pub stands : IsSomeAnd (g.files (server_disk server)) (StandsAs d)
  pub sound : IsSoundDisk g (server_disk server)
  pub calls : OpensDisk g (is_cut_short end) disk (server_disk server)
  pub unarmed : g.stop disk ≡ Unarmed → g.stop (server_disk server) ≡ Unarmed
  pub never_falls : g.faults disk ≤ g.faults (server_disk server)
  pub is : ServerIs g m clock d end disk server

-- A disk stands for no database still, nothing is pending on it, and it made no more changing calls than an opening over empty files does.
pub record IsEmptied {D : Type 0} (g : Ghosts D) (before after : D) : Type 0 where
  pub never_falls : g.faults before ≤ g.faults after
  pub empty : IsSomeAnd (g.files after) (StandsAs no_database)
  pub settled : IsSettled (g.files after) (g.may_leave after)
  pub few : (rise : ℕ) × OpensFirst true rise × (g.steps after ≡ g.steps before + rise)
