-- Lists and values as they are spelled, one item after the other.
use Rattle.std.specs.Prelude.{ℕ, List, [], ◌∷◌, ◌++◌, length}
use Rattle.std.specs.List.{flat_map}
use Rattle.call_grammar.specs.Items.{Item, Number, value}
use Rattle.call_grammar.specs.Reading.{values}

-- how the items of a text are written
abbrev pub TextsOf : Type 0
TextsOf = (i : Item) → value i → List ℕ

-- a list: its length and its items
abbrev pub listed : {A : Type 0} → TextsOf → (A → List ℕ) → List A → List ℕ
listed text spelling items = text Number (length items) ++ flat_map spelling items

-- values stand one after the other, with nothing between them
abbrev pub spelled : {U : Type 0} (value_of : U → Type 0) → ((shape : U) → value_of shape → List ℕ) → (shapes : List U) → values value_of shapes → List ℕ
spelled value_of text [] v = []
spelled value_of text (shape ∷ shapes) v = text shape v.0 ++ spelled value_of text shapes v.1
