-- Reading from left to right.
use Rattle.std.specs.Prelude.{◌≡◌, ℕ, zero, suc, List, [], ◌∷◌, length, Option, Some, None, option_and_then, Result, Ok, Err, ◌==◌, if◌then◌else◌}
use Rattle.std.specs.Result.{result_ok}
use Rattle.xdr_base.specs.Reading.{Reading, word_at, signed_at, truth_at, count_at, opaque_at}
use Rattle.call_grammar.specs.declared.faults.NotRead.{NotRead}
use Rattle.call_grammar.specs.declared.faults.NotRead.TheVariants as fault
use Rattle.call_grammar.specs.declared.faults.NoValue.{NoValue}
use Rattle.call_grammar.specs.declared.limits.TheConstants.{MAX_TEXT}
use Rattle.call_grammar.specs.Items.{Item, Number, Signed, Truth, Text, Count, value}

infixl 10 ◌>>=◌
abbrev pub ◌>>=◌ : {A B : Type 0} → Option A → (A → Option B) → Option B
o >>= f = option_and_then f o

-- What a function gave, seen by view, is what stands there, and it left this; or nothing stands there.
abbrev pub Reads : {A V S : Type 0} → (A → V) → S → Result A NoValue → Option (V × S) → Type 0
Reads view new (Ok x) there = there ≡ Some (view x, new)
Reads view new (Err e) there = there ≡ None

-- Nothing stands there; want of memory says nothing.
abbrev pub Fails : {B : Type 0} → NotRead → Option B → Type 0
Fails fault.None there = there ≡ None
Fails fault.NoMemory there = Unit {0}

-- The same of a function that takes memory.
abbrev pub Gives : {A V S : Type 0} → (A → V) → S → Result A NotRead → Option (V × S) → Type 0
Gives view new (Ok x) there = there ≡ Some (view x, new)
Gives view new (Err e) there = Fails e there

-- What a function gave is what stands there.
abbrev pub Shows : {A : Type 0} → Result A NotRead → Option A → Type 0
Shows (Ok x) there = there ≡ Some x
Shows (Err e) there = Fails e there

-- What a function found, seen by view, is what stands there.
abbrev pub Stands : {A V : Type 0} → (A → V) → Option A → Option V → Type 0
Stands view (Some x) there = there ≡ Some (view x)
Stands view None there = there ≡ None

-- what is left behind what was read
abbrev pub rest_of : {V S : Type 0} → Option (V × S) → Option S
rest_of None = None
rest_of (Some x) = Some x.1

-- What stands there was passed over, or nothing stands there.
abbrev pub Skips : {S : Type 0} → (new : S) → Result (Unit {0}) NoValue → Option S → Type 0
Skips new (Ok u) there = there ≡ Some new
Skips new (Err e) there = there ≡ None

-- so many items
abbrev pub items_at : {A S : Type 0} → (S → Option (A × S)) → ℕ → S → Option (List A × S)
items_at at zero s = Some ([], s)
items_at at (suc n) s = do
  first ← at s
  others ← items_at at n first.1
  Some (first.0 ∷ others.0, others.1)

-- how the items of a source are read
abbrev pub ItemsOf : Type 0 → Type 0
ItemsOf S = (i : Item) → S → Option (value i × S)

-- a list: how many items there are, at most so many, and they
unfoldable pub list_at : {A S : Type 0} → ItemsOf S → ℕ → (S → Option (A × S)) → S → Option (List A × S)
list_at item_at most at s = do
  count ← item_at (Count most) s
  items_at at count.0 count.1

-- a value for each of these shapes
abbrev pub values : {U : Type 0} → (U → Type 0) → List U → Type 0
values value_of [] = Unit {0}
values value_of (shape ∷ shapes) = value_of shape × values value_of shapes

-- the values of shapes, one after the other, where one is read so
abbrev pub values_at : {U S : Type 0} (value_of : U → Type 0) → ((shape : U) → S → Option (value_of shape × S)) → (shapes : List U) → S → Option (values value_of shapes × S)
values_at value_of at [] s = Some (tt, s)
values_at value_of at (shape ∷ shapes) s = do
  first ← at shape s
  others ← values_at value_of at shapes first.1
  Some ((first.0, others.0), others.1)

-- so is each of these values
abbrev pub AllValues : {U : Type 0} (value_of : U → Type 0) → ((shape : U) → value_of shape → Type 0) → (shapes : List U) → values value_of shapes → Type 0
AllValues value_of P [] v = Unit {0}
AllValues value_of P (shape ∷ shapes) v = P shape v.0 × AllValues value_of P shapes v.1

-- the item of bytes
abbrev pub xdr_item : ItemsOf Reading
xdr_item Number from = result_ok (word_at from)
xdr_item Signed from = result_ok (signed_at from)
xdr_item Truth from = result_ok (truth_at from)
xdr_item Text from = result_ok (opaque_at MAX_TEXT from)
xdr_item (Count most) from = result_ok (count_at most from)

-- what stands before the end
abbrev pub whole : {A : Type 0} → Option (A × Reading) → Option A
whole None = None
whole (Some x) = if length x.1.rest == 0 then Some x.0 else None
