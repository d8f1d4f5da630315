-- What is on the disks at the end of a script, whatever is lost of what they have not synced.
use Rattle.std.specs.Prelude.{All, Option, Some, None, List, [], ◌∷◌}
use Rattle.disk_base.specs.declared.disks.Disk.{Ghosts}
use Rattle.disk_base.specs.Files.{Files}
use Rattle.cell_model.specs.Durable.{Durable, no_database}
use Rattle.cell_model.specs.World.{Site}
use Rattle.cell_runs.specs.Script.{Cell}
use Rattle.ubik_node.specs.Disk.{StandsAs}

-- all files that a crash may leave of a disk stand for this durable state
abbrev pub LeavesAs : {D : Type 0} → Ghosts D → Durable → D → Type 0
LeavesAs g d disk = (fs : Files) → g.may_leave disk fs → StandsAs d fs

-- so of the disk of each of these servers, be it up, halted or down; and those behind them are left as no database
abbrev pub AreLeftAs : {D : Type 0} → Ghosts D → List Site → List D → Type 0
AreLeftAs g [] disks = All (LeavesAs g no_database) disks
AreLeftAs g (site ∷ sites) (disk ∷ disks) = LeavesAs g site.durable disk × AreLeftAs g sites disks
AreLeftAs g (site ∷ sites) [] = ⊥

-- the servers of a cell, if one stands
abbrev pub sites_of : Option Cell → List Site
sites_of None = []
sites_of (Some c) = c.run.world.sites

-- All of a run is on disk: whatever a crash may leave of each disk stands for the durable state of its server, or for no database where it
-- has none.
abbrev pub IsOnDisk : {D : Type 0} → Ghosts D → Option Cell → List D → Type 0
IsOnDisk g cell disks = AreLeftAs g (sites_of cell) disks
