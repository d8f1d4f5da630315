-- The items of which calls and answers are made (numbers, truth values and strings as RFC 4506 has them; the limit own).
use Rattle.std.specs.Prelude.{ℕ, ℤ, ◌<◌, ◌≤◌, ◌^◌, Bool, List, length, FitsSigned}
use Rattle.std.specs.Int.{w32}
use Rattle.xdr_base.specs.Spelling.{word, signed, truth, opaque}
use Rattle.call_grammar.specs.declared.limits.TheConstants.{MAX_TEXT}

pub data Item : Type 0 where
  -- a number of 32 bits
  Number : Item
  -- one with a sign
  Signed : Item
  Truth : Item
  -- a string
  Text : Item
  -- how many items a list has, at most so many
  Count : (most : ℕ) → Item

abbrev pub value : Item → Type 0
value Number = ℕ
value Signed = ℤ
value Truth = Bool
value Text = List ℕ
value (Count most) = ℕ

-- its bytes
abbrev pub xdr_text : (i : Item) → value i → List ℕ
xdr_text Number n = word n
xdr_text Signed z = signed z
xdr_text Truth b = truth b
xdr_text Text text = opaque text
xdr_text (Count most) n = word n

-- a string has at most MAX_TEXT bytes, a list at most so many items
abbrev pub IsText : List ℕ → Type 0
IsText text = length text ≤ MAX_TEXT

abbrev pub IsBounded : (i : Item) → value i → Type 0
IsBounded Number n = Unit {0}
IsBounded Signed z = Unit {0}
IsBounded Truth b = Unit {0}
IsBounded Text text = IsText text
IsBounded (Count most) n = n ≤ most

-- a number has the bits of its item; each number in code has them
abbrev pub HasItsBits : (i : Item) → value i → Type 0
HasItsBits Number n = n < 2 ^ 32
HasItsBits Signed z = FitsSigned w32 z
HasItsBits Truth b = Unit {0}
HasItsBits Text text = Unit {0}
HasItsBits (Count most) n = Unit {0}
