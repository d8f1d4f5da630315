-- Facts that have one proof at most: what the devices of a row keep. They are shown for any disk: what a crash may leave of one in memory
-- is long, and no part of why.
use Rattle.std.specs.Prelude.{ℕ, List, [], ◌∷◌, Option}
use Rattle.std.specs.Coded.{×_prop, Unit-prop, le_prop}
use Rattle.ubik_types.specs.declared.images.Change.{Change}
use Rattle.ubik_types.specs.declared.images.Change.TheVariants.{Put, Cut}
use Rattle.disk_base.specs.declared.disks.Disk.{Ghosts}
use Rattle.disk_base.specs.Files.{Files}
use Rattle.page_file.specs.Pages.{AgreesIn, Known}
use Rattle.ubik_log.specs.LogGrammar.{IsWithinImage}
use Rattle.ubik_store.specs.declared.stores.Store.{Store}
use Rattle.ubik_store.specs.Redo.{changed_len, IsSeam, IsSeamless}
use Rattle.ubik_store.specs.Store.{IsSound}
use Rattle.std.proofs.Props.{props}

pub IsWithinImage-prop : (change : Change) → IsProp (IsWithinImage change)
IsWithinImage-prop (Put at bytes) = le_prop
IsWithinImage-prop (Cut len) = le_prop

pub IsSeam-prop : (len : ℕ) (change : Change) → IsProp (IsSeam len change)
IsSeam-prop len (Put at bytes) = le_prop
IsSeam-prop len (Cut to) = le_prop

pub IsSeamless-prop : (len : ℕ) (changes : List Change) → IsProp (IsSeamless len changes)
IsSeamless-prop len [] = Unit-prop
IsSeamless-prop len (change ∷ changes) = ×_prop (IsSeam-prop len change) (IsSeamless-prop (changed_len len change) changes)

pub AgreesIn-prop : (pages : Known) (files : Option Files) → IsProp (AgreesIn pages files)
AgreesIn-prop pages files = Prim.hlevel props

pub IsSound-prop : {D : Type 0} (g : Ghosts D) (store : Store D) → IsProp (IsSound g store)
IsSound-prop g store = Prim.hlevel (props, IsSeamless-prop, IsWithinImage-prop)
