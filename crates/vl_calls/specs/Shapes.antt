-- The shapes of a call's fields, the values that each takes, and how these are read and written.
use Rattle.std.specs.Prelude.{ℕ, ℤ, ◌<◌, ◌^◌, Bool, List, Option, FitsSigned}
use Rattle.std.specs.Int.{w32}
use Rattle.call_grammar.specs.Items as item
use Rattle.call_grammar.specs.Items.{IsText}
use Rattle.call_grammar.specs.Lists.{TextsOf}
use Rattle.call_grammar.specs.Reading.{ItemsOf}
use Rattle.vl_calls.specs.declared.calls.GivenEntry.{GivenEntry}
use Rattle.vl_calls.specs.declared.shapes.Shape.{Shape}
use Rattle.vl_calls.specs.declared.shapes.Shape.TheVariants.{Number, Signed, Truth, Name, Entry}
use Rattle.vl_calls.specs.Entries.{given_at, given_text, IsGiven, GivenHasItsBits}

abbrev pub value : Shape → Type 0
value Number = ℕ
value Signed = ℤ
value Truth = Bool
value Name = List ℕ
value Entry = GivenEntry

abbrev pub shape_at : {S : Type 0} → ItemsOf S → (shape : Shape) → S → Option (value shape × S)
shape_at item_at Number s = item_at item.Number s
shape_at item_at Signed s = item_at item.Signed s
shape_at item_at Truth s = item_at item.Truth s
shape_at item_at Name s = item_at item.Text s
shape_at item_at Entry s = given_at item_at s

abbrev pub shape_text : TextsOf → (shape : Shape) → value shape → List ℕ
shape_text text Number n = text item.Number n
shape_text text Signed z = text item.Signed z
shape_text text Truth b = text item.Truth b
shape_text text Name name = text item.Text name
shape_text text Entry e = given_text text e

-- names and lists are bounded
abbrev pub IsBounded : (shape : Shape) → value shape → Type 0
IsBounded Number n = Unit {0}
IsBounded Signed z = Unit {0}
IsBounded Truth b = Unit {0}
IsBounded Name name = IsText name
IsBounded Entry e = IsGiven e

-- numbers have the bits of their fields; each number in code has them
abbrev pub IsOfItsBits : (shape : Shape) → value shape → Type 0
IsOfItsBits Number n = n < 2 ^ 32
IsOfItsBits Signed z = FitsSigned w32 z
IsOfItsBits Truth b = Unit {0}
IsOfItsBits Name name = Unit {0}
IsOfItsBits Entry e = GivenHasItsBits e
