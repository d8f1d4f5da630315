-- The gate of a log: the byte at offset 3, the last of LOGNEW (own).
use Rattle.std.specs.Prelude.{◌≡◌, ℕ, List, [], ◌∷◌, ◌++◌, take, drop, slice_index}
use Rattle.disk_base.specs.Files.{laid}
use Rattle.ubik_log.specs.LogGrammar.{field}

-- the gate is open: the byte at offset 3 is the last of LOGNEW
abbrev pub IsOpen : List ℕ → Type 0
IsOpen log = slice_index log 3 ≡ 100

-- the gate is closed: another byte stands there, or none
abbrev pub IsClosed : List ℕ → Type 0
IsClosed log = ¬ IsOpen log

-- the first word stands there, and is zero
abbrev pub BeginsWithZero : List ℕ → Type 0
BeginsWithZero log = take 4 log ≡ field 0

-- a log as it is kept first: with its first word zero
abbrev pub closed : List ℕ → List ℕ
closed log = field 0 ++ drop 4 log

-- a log with this byte at its gate
abbrev pub with_gate : ℕ → List ℕ → List ℕ
with_gate byte log = laid log 3 (byte ∷ [])
