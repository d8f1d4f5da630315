-- The text of a list of changes, as the servers of a cell send it to one another.
use Rattle.std.specs.Prelude.{◌≡◌, ℕ, ◌<◌, ◌^◌, List, ◌++◌, length}
use Rattle.std.specs.List.{flat_map, AllByRecursion}
use Rattle.ubik_types.specs.declared.images.Change.{Change}
use Rattle.ubik_types.specs.declared.images.Change.TheVariants.{Put, Cut}
use Rattle.xdr_base.specs.Spelling.{word, opaque}

-- a change: 1, the position and the bytes as an opaque, or 2 and the length
abbrev pub change_spelling : Change → List ℕ
change_spelling (Put at bytes) = word 1 ++ (word at ++ opaque bytes)
change_spelling (Cut len) = word 2 ++ word len

-- the numbers and the length of a change have a spelling
abbrev pub HasSpelling : Change → Type 0
HasSpelling (Put at bytes) = (at < 2 ^ 32) × (length bytes < 2 ^ 32)
HasSpelling (Cut len) = len < 2 ^ 32

-- the changes one after the other, with nothing before, between or behind them
abbrev pub text_of : List Change → List ℕ
text_of changes = flat_map change_spelling changes

-- the text is that of these changes
pub record IsChangeText (text : List ℕ) (changes : List Change) : Type 0 where
  pub spelled : AllByRecursion HasSpelling changes
  pub text_is : text ≡ text_of changes
