-- Facts that have one proof at most: what a store keeps of its changes.
use Rattle.std.specs.Prelude.{ℕ, List, [], ◌∷◌}
use Rattle.std.specs.Coded.{×_prop, Unit-prop, le_prop}
use Rattle.ubik_types.specs.declared.images.Change.{Change}
use Rattle.ubik_types.specs.declared.images.Change.TheVariants.{Put, Cut}
use Rattle.ubik_log.specs.LogGrammar.{IsWithinImage}
use Rattle.ubik_store.specs.Redo.{changed_len, IsSeam, IsSeamless}

pub IsWithinImage-prop : (change : Change) → IsProp (IsWithinImage change)
IsWithinImage-prop (Put at bytes) = le_prop
IsWithinImage-prop (Cut len) = le_prop

pub IsSeam-prop : (len : ℕ) (change : Change) → IsProp (IsSeam len change)
IsSeam-prop len (Put at bytes) = le_prop
IsSeam-prop len (Cut to) = le_prop

pub IsSeamless-prop : (len : ℕ) (changes : List Change) → IsProp (IsSeamless len changes)
IsSeamless-prop len [] = Unit-prop
IsSeamless-prop len (change ∷ changes) = ×_prop (IsSeam-prop len change) (IsSeamless-prop (changed_len len change) changes)
