-- What the writing of a whole text leaves in a sink.
use Rattle.std.specs.Prelude.{◌≡◌, ◌≤◌, ℕ, List, ◌++◌, length, take, Option, Some, Result, Ok, Err}
use Rattle.cell_script.specs.declared.writers.WriteFault.{WriteFault}

-- a front of the bytes was appended
pub record AppendsPart (before : List ℕ) (after : Option (List ℕ)) (bytes : List ℕ) : Type 0 where
  pub count : ℕ
  pub within : count ≤ length bytes
  pub written : after ≡ Some (before ++ take count bytes)

-- all of the bytes were appended, or a front of them where the write failed
abbrev pub WritesWhole : Result (Unit {0}) WriteFault → List ℕ → Option (List ℕ) → List ℕ → Type 0
WritesWhole (Ok _) before after bytes = after ≡ Some (before ++ bytes)
WritesWhole (Err _) before after bytes = AppendsPart before after bytes
