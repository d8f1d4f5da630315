-- The disks of a cell, before its script.
use Rattle.std.specs.Prelude.{◌≡◌, ℕ, Option, Some, List, All}
use Rattle.disk_base.specs.Crash.{IsSettled}
use Rattle.disk_base.specs.Files.{Files, no_files}
use Rattle.disk_base.specs.Stops.{DiskStop}
use Rattle.disk_base.specs.Stops.DiskStop.{Unarmed}

-- an empty disk on which nothing is pending, that is not to stop, and has not failed
pub record IsFresh {D : Type 0} (files : D → Option Files) (may_leave : D → Files → Type 0) (stop : D → DiskStop) (faults : D → ℕ)
    (disk : D) : Type 0 where
  pub empty : files disk ≡ Some no_files
  pub settled : IsSettled (files disk) (may_leave disk)
  pub unarmed : stop disk ≡ Unarmed
  pub sound : faults disk ≡ 0

abbrev pub AllFresh : {D : Type 0} → (D → Option Files) → (D → Files → Type 0) → (D → DiskStop) → (D → ℕ) → List D → Type 0
AllFresh files may_leave stop faults disks = All (λ d. IsFresh files may_leave stop faults d) disks
