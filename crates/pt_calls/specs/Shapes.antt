-- The shapes of a call's fields, the values that each takes, and how these are read and written.
use Rattle.std.specs.Prelude.{ℕ, ℤ, ◌<◌, ◌≤◌, ◌^◌, Bool, List, length, Option, FitsSigned}
use Rattle.std.specs.Int.{w32}
use Rattle.std.specs.List.{AllByRecursion}
use Rattle.call_grammar.specs.Items as item
use Rattle.call_grammar.specs.Lists.{TextsOf, listed}
use Rattle.call_grammar.specs.Reading.{ItemsOf, list_at}
use Rattle.pt_calls.specs.declared.limits.TheConstants.{MAX_NAME, MAX_LIST}
use Rattle.pt_calls.specs.declared.shapes.Shape.{Shape}
use Rattle.pt_calls.specs.declared.shapes.Shape.TheVariants.{Number, Id, Truth, Name, Names, Ids}

-- the values of a shape
abbrev pub value : Shape → Type 0
value Number = ℕ
value Id = ℤ
value Truth = Bool
value Name = List ℕ
value Names = List (List ℕ)
value Ids = List ℤ

abbrev pub shape_at : {S : Type 0} → ItemsOf S → (shape : Shape) → S → Option (value shape × S)
shape_at item_at Number s = item_at item.Number s
shape_at item_at Id s = item_at item.Signed s
shape_at item_at Truth s = item_at item.Truth s
shape_at item_at Name s = item_at item.Text s
shape_at item_at Names s = list_at item_at MAX_LIST (item_at item.Text) s
shape_at item_at Ids s = list_at item_at MAX_LIST (item_at item.Signed) s

abbrev pub shape_text : TextsOf → (shape : Shape) → value shape → List ℕ
shape_text text Number n = text item.Number n
shape_text text Id z = text item.Signed z
shape_text text Truth b = text item.Truth b
shape_text text Name name = text item.Text name
shape_text text Names names = listed text (text item.Text) names
shape_text text Ids ids = listed text (text item.Signed) ids

-- a name has at most MAX_NAME bytes, a list at most MAX_LIST items
abbrev pub IsName : List ℕ → Type 0
IsName text = length text ≤ MAX_NAME

abbrev pub IsBounded : (shape : Shape) → value shape → Type 0
IsBounded Number n = Unit {0}
IsBounded Id z = Unit {0}
IsBounded Truth b = Unit {0}
IsBounded Name text = IsName text
IsBounded Names texts = (length texts ≤ MAX_LIST) × AllByRecursion IsName texts
IsBounded Ids ids = length ids ≤ MAX_LIST

-- numbers have the bits that their fields have; each number in code has them
abbrev pub IsOfItsBits : (shape : Shape) → value shape → Type 0
IsOfItsBits Number n = n < 2 ^ 32
IsOfItsBits Id z = FitsSigned w32 z
IsOfItsBits Truth b = Unit {0}
IsOfItsBits Name text = Unit {0}
IsOfItsBits Names texts = Unit {0}
IsOfItsBits Ids ids = AllByRecursion (FitsSigned w32) ids
