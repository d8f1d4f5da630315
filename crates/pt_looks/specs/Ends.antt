-- When a list is not told.
use Rattle.std.specs.Prelude.{ℕ, ◌<◌}
use Rattle.db_image.specs.declared.faults.RecordFault.{RecordFault}
use Rattle.db_image.specs.declared.faults.RecordFault.TheVariants as fault
use Rattle.pt_calls.specs.declared.limits.TheConstants.{MAX_ANSWER_IDS}

-- a bad record is answered only where there are more ids than an answer has
abbrev pub IsTooMany : (count : ℕ) → RecordFault → Type 0
IsTooMany count fault.DiskFault = ⊥
IsTooMany count (fault.BadRecord at) = MAX_ANSWER_IDS < count
IsTooMany count fault.NoMemory = Unit {0}

-- a bad record is answered only where this does not hold
abbrev pub IsUnless : Type 0 → RecordFault → Type 0
IsUnless fits fault.DiskFault = ⊥
IsUnless fits (fault.BadRecord at) = ¬ fits
IsUnless fits fault.NoMemory = Unit {0}
