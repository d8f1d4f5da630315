-- Why a database file was not taken.
use Rattle.std.specs.Prelude.{◌≡◌, ◌<◌, ℕ, List, None, length}
use Rattle.page_file.specs.declared.label.TheConstants.{MAX_DATABASE_LEN}
use Rattle.page_file.specs.declared.faults.PageFault.{PageFault}
use Rattle.page_file.specs.declared.faults.PageFault.TheVariants.{DiskFault, BadLabel, NoMemory}
use Rattle.page_file.specs.Label.{version_of_database, IsHeadOf}

-- a refusal tells the length and the head of a file that is such
abbrev pub Refuses : (List ℕ → Type 0) → List ℕ → PageFault → Type 0
Refuses IsSuch file DiskFault = Unit {0}
Refuses IsSuch file (BadLabel len head) = IsSuch file × (len ≡ length file) × IsHeadOf head file
Refuses IsSuch file NoMemory = Unit {0}

-- the file has no version: it is too long, or it is not empty and begins with no label
abbrev pub IsUnlabelled : List ℕ → Type 0
IsUnlabelled file = version_of_database file ≡ None

-- the file is longer than a label and the longest image
abbrev pub IsTooLong : List ℕ → Type 0
IsTooLong file = MAX_DATABASE_LEN < length file
