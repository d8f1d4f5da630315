-- A new entry: its kind, and what may come in.
use Rattle.std.specs.Prelude.{ℕ, ◌==◌, Bool, true, false, Option, Some, None, if◌then◌else◌}

-- whether the kind is a group, if it is a kind
abbrev pub kind_of : ℕ → Option Bool
kind_of kind = if kind == 0 then Some false else if kind == 2 then Some true else None
