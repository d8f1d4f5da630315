-- Changes that a server takes from another one (own).
use Rattle.std.specs.Prelude.{List, [], ◌∷◌}
use Rattle.std.specs.List.{AllByRecursion}
use Rattle.ubik_types.specs.declared.images.Change.{Change}
use Rattle.ubik_types.specs.declared.images.Change.TheVariants.{Put, Cut}
use Rattle.cell_model.specs.Durable.{Commit, DurableCall, Made, Reason, Received}

abbrev pub IsPut : Change → Type 0
IsPut (Put at bytes) = Unit {0}
IsPut (Cut to) = ⊥

-- a commit of changes that were taken from another server puts alone
abbrev pub TakesPuts : Reason → DurableCall → Type 0
TakesPuts Received (Commit version changes image) = AllByRecursion IsPut changes
TakesPuts _ _ = Unit {0}

-- so each of these durable calls
abbrev pub AllTakePuts : List Made → Type 0
AllTakePuts [] = Unit {0}
AllTakePuts (made ∷ calls) = TakesPuts made.reason made.call × AllTakePuts calls
