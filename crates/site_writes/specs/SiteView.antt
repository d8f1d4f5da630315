-- How what the code keeps stands for the writes of a sync site.
use Rattle.std.specs.Prelude.{◌≡◌, ℕ, true, Option, Some, None, List, [], ◌∷◌, IfSome, map}
use Rattle.lock_table.specs.declared.ranges.HeldRange.{HeldRange}
use Rattle.lock_table.specs.declared.tables.TheConstants.{MAX_WAITING}
use Rattle.lock_table.specs.Ranges.{held_range}
use Rattle.cell_model.specs.Node.{Waiting}
use Rattle.site_writes.specs.declared.sites.SiteWrites.TheInside.{Inside}
use Rattle.site_writes.specs.OwnWrite.{OwnRecord}
use Rattle.site_writes.specs.Site.{SiteRecord}

abbrev pub site_of : Inside → SiteRecord
site_of s = record { held = s.held; own = s.own; waiting = s.calls.items }

-- the whole database, held for writing
abbrev pub whole : ℕ → HeldRange
whole id = held_range 0 4294967295 true id

-- what is held of the database: the write in flight has the place, or else the call that took it
abbrev pub ranges_of : Option ℕ → Option OwnRecord → List HeldRange
ranges_of held (Some write) = whole write.flight.id ∷ []
ranges_of (Some id) None = whole id ∷ []
ranges_of None None = []

-- the lock table, the line of calls and the write in flight agree
pub record IsInOrder (s : Inside) : Type 0 where
  pub place : s.table.held ≡ ranges_of s.held s.own
  pub one : IfSome s.own (λ _. s.held ≡ None)
  pub line : s.table.line ≡ map (λ (w : Waiting). w.id) s.calls.items
  pub room : s.calls.capacity ≡ MAX_WAITING
