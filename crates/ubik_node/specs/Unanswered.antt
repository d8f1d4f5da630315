-- The calls that a server has taken and not replied to.
use Rattle.std.specs.Prelude.{◌≡◌, ◌≤◌, ℕ, Option, Some, None, List, [], ◌++◌, map, option_to_list}
use Rattle.std.specs.List.{All, Contains}
use Rattle.std.specs.Option.{option_map}
use Rattle.cell_model.specs.Node as model
use Rattle.cell_model.specs.Node.{Flight, Waiting}

-- the ids of the write in flight and of those that wait for it
abbrev pub ids_of : Option Flight → List Waiting → List ℕ
ids_of flight waiting = option_to_list (option_map (λ (f : Flight). f.id) flight) ++ map (λ (w : Waiting). w.id) waiting

-- a server that is halted or down replies to none of them
abbrev pub unanswered : model.Node → List ℕ
unanswered (model.Up s) = ids_of s.flight s.waiting
unanswered (model.Halted h) = []
unanswered model.Down = []

-- the least of these ids; none where there is none
abbrev pub IsLeastOf : Option ℕ → List ℕ → Type 0
IsLeastOf None ids = ids ≡ []
IsLeastOf (Some id) ids = Contains ids id × All (λ (other : ℕ). id ≤ other) ids
