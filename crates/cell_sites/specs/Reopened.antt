-- A server that is down is opened again.
use Rattle.std.specs.Prelude.{◌≡◌, ◌≢◌, ◌++◌, ℕ, IsSomeAnd, Result, Ok, Some, List, [], ◌∷◌, map, set, slice_get}
use Rattle.disk_base.specs.declared.disks.Disk.{Ghosts}
use Rattle.ubik_types.specs.declared.memory.NoMemory.{NoMemory}
use Rattle.cell_model.specs.Durable.{Durable}
use Rattle.cell_model.specs.World.{Happening, Restarts, Stays_down}
use Rattle.cell_runs.specs.ScriptDatabase.{ScriptDatabase}
use Rattle.cell_runs.specs.Trace.{Tells, trace}
use Rattle.cell_sites.specs.declared.cells.OpenCell.{OpenCell}
use Rattle.cell_sites.specs.declared.openings.OpenEnd.{OpenEnd}
use Rattle.cell_sites.specs.declared.openings.OpenEnd.TheVariants as opened
use Rattle.cell_sites.specs.declared.sites.Server.{Server}
use Rattle.cell_sites.specs.declared.sites.Server.TheVariants as server
use Rattle.cell_sites.specs.OpenedServer.{ServerOpens}
use Rattle.cell_sites.specs.Stepped.{member_at}
use Rattle.ubik_node.specs.Disk.{StandsAs}

-- what is told of an opening
abbrev pub reopened_marks : ℕ → OpenEnd → List Happening
reopened_marks k (opened.Up version) = Restarts k version ∷ []
reopened_marks k opened.StaysDown = Stays_down k ∷ []
reopened_marks k opened.NoMemory = []

-- The server at a place, which was down, was opened over its disk; nothing else of the cell changed.
pub record SiteReopened {D V : Type 0} (g : Ghosts D) (db : ScriptDatabase) (k : ℕ) (result : Result (Unit {0}) NoMemory)
    (before after : OpenCell D V g) (text_before text_after : List ℕ) : Type 0 where
  pub clock : ℕ
  pub disk : D
  pub there : slice_get before.sites.items k ≡ Some (record { clock = clock; server = server.Down disk })
  pub end : OpenEnd
  pub server : Server D V g
  pub opens : (d : Durable) → IsSomeAnd (g.files disk) (StandsAs d) → ServerOpens g (member_at before k) clock d end disk server
  pub sites : after.sites.items ≡ set before.sites.items k (record { clock = clock; server = server })
  pub hosts : after.hosts.items ≡ before.hosts.items
  pub packets : after.packets ≡ before.packets
  pub calls : after.calls ≡ before.calls
  pub outputs : after.outputs ≡ before.outputs
  pub told : result ≡ Ok tt → (end ≢ opened.NoMemory)
      × (text_after ≡ text_before ++ trace db before.hosts.items (map Tells (reopened_marks k end)))
