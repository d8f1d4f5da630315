-- How a server ends: its status, and its line (own).
use Rattle.std.specs.Prelude.{◌≡◌, ◌<◌, ◌≤◌, ◌⊎◌, ℕ, List, [], ◌∷◌, ◌++◌, length, take, codes, Option, Some, IfSome}
use Rattle.std.specs.Fmt.{decimal}
use Rattle.server_texts.specs.declared.kinds.ServerKind.{ServerKind}
use Rattle.server_texts.specs.declared.kinds.ServerKind.TheVariants as kind

abbrev pub status_of : ServerKind → ℕ
status_of kind.Closed = 0
status_of kind.NoMemory = 5
status_of kind.NoThread = 6
status_of (kind.JournalFull entries bytes) = 7
status_of kind.DiskFault = 8
status_of (kind.BadFiles len head) = 9
status_of (kind.Words place) = 10

-- a line of the program
abbrev pub line_of : List ℕ → List ℕ
line_of said = codes "afs_dbserver: " ++ (said ++ 10 ∷ [])

-- what is printed of an end
abbrev pub end_line : ServerKind → List ℕ
end_line kind.Closed = []
end_line kind.NoMemory = line_of (codes "no memory")
end_line kind.NoThread = line_of (codes "no thread")
end_line (kind.JournalFull entries bytes) = line_of (codes "journal full")
end_line kind.DiskFault = line_of (codes "disk fault")
end_line (kind.BadFiles len head) = line_of (codes "bad files")
end_line (kind.Words place) = line_of (codes "bad word " ++ decimal place)

-- a front of the bytes was appended
pub record IsFront (before : List ℕ) (after : Option (List ℕ)) (bytes : List ℕ) : Type 0 where
  pub count : ℕ
  pub within : count ≤ length bytes
  pub written : after ≡ Some (before ++ take count bytes)

-- The bytes were appended to what was written. Where a write of them failed, so that the sink's count of faults rose, a front of them was.
pub record IsSaid (before after : Option (List ℕ)) (failed_before failed : ℕ) (bytes : List ℕ) : Type 0 where
  pub front : IfSome before (λ was. IsFront was after bytes)
  pub whole : IfSome before (λ was. (failed_before < failed) ⊎ (after ≡ Some (was ++ bytes)))
  pub never_falls : failed_before ≤ failed
