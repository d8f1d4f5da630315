-- What a write to a sink does.
use Rattle.std.specs.Prelude.{◌≡◌, ◌<◌, ◌≤◌, ℕ, List, ◌++◌, length, take, Option, Some, IfSome}
use Rattle.disk_base.specs.declared.sinks.Wrote.{Wrote}
use Rattle.disk_base.specs.declared.sinks.Wrote.TheVariants.{Bytes, Failed}
use Rattle.disk_base.specs.Source.{Stays}

-- the first n bytes were appended
pub record AppendsFront (n : ℕ) (before after : Option (List ℕ)) (bytes : List ℕ) : Type 0 where
  pub some : 0 < n
  pub within : n ≤ length bytes
  pub told : IfSome before (λ written. after ≡ Some (written ++ take n bytes))

-- what was written before and after a write of these bytes that ended so
abbrev pub Appends : Wrote → Option (List ℕ) → Option (List ℕ) → List ℕ → Type 0
Appends (Bytes n) before after bytes = AppendsFront n before after bytes
Appends Failed before after bytes = Stays before after

-- so many bytes were appended, or none
abbrev pub IsWhole : ℕ → Wrote → Type 0
IsWhole len (Bytes n) = n ≡ len
IsWhole len Failed = Unit {0}
