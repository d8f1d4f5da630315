-- A server at a place of a running cell.
use Rattle.std.specs.Prelude.{◌≡◌, ◌≢◌, ◌≤◌, ◌+◌, ℕ, Some, List, slice_get}
use Rattle.disk_base.specs.declared.disks.Disk.{Ghosts}
use Rattle.ubik_types.specs.declared.limits.TheConstants.{SKEW}
use Rattle.cell_sites.specs.declared.cells.OpenCell.{OpenCell}
use Rattle.cell_sites.specs.declared.sites.Server.TheVariants as server
use Rattle.cell_sites.specs.declared.sites.Site.{Site}
use Rattle.ubik_node.specs.declared.nodes.Node.{Node}

-- the server at a place is up, or halted
pub record IsUpAt {D V : Type 0} {g : Ghosts D} (running : OpenCell D V g) (k : ℕ) : Type 0 where
  pub clock : ℕ
  pub node : Node D V g
  pub there : slice_get running.sites.items k ≡ Some (record { clock = clock; server = server.Up node })

-- the server at a place is down
pub record IsDownAt {D V : Type 0} {g : Ghosts D} (running : OpenCell D V g) (k : ℕ) : Type 0 where
  pub clock : ℕ
  pub disk : D
  pub there : slice_get running.sites.items k ≡ Some (record { clock = clock; server = server.Down disk })

-- a site whose clock went forward
abbrev pub ticked_on : {D V : Type 0} {g : Ghosts D} → ℕ → Site D V g → Site D V g
ticked_on seconds site = record site { clock = site.clock + seconds }

-- a clock at a place is not more than 7 seconds past any other one
abbrev pub IsNearAt : {D V : Type 0} {g : Ghosts D} → List (Site D V g) → (k now : ℕ) → Type 0
IsNearAt {D} {V} {g} sites k now = (j : ℕ) (site : Site D V g) → slice_get sites j ≡ Some site → j ≢ k → now ≤ site.clock + SKEW
