-- Clients that wait for a reply.
use Rattle.std.specs.Prelude.{ℕ, ◌==◌, not, if◌then◌else◌, Option, Some, None, List, [], ◌∷◌}
use Rattle.std.specs.List.{filter}
use Rattle.server_station.specs.declared.askers.Asker.{Asker}

-- the first that waits for the call of this id
abbrev pub asker_of : ℕ → List Asker → Option Asker
asker_of id [] = None
asker_of id (a ∷ askers) = if a.id == id then Some a else asker_of id askers

-- those that wait for other calls
abbrev pub without : ℕ → List Asker → List Asker
without id askers = filter (λ (a : Asker). not (a.id == id)) askers
