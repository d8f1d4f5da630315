-- What stands at a reader's place: an item, and the reader behind it, or the fault.
use Rattle.std.specs.Prelude.{◌≡◌, ℕ, ◌+◌, zero, suc, List, ◌++◌, length, take, drop, ℤ, Bool, true, false, Result, Ok, Err, nat_lt, ◌==◌, if◌then◌else◌}
use Rattle.std.specs.List.{list_all}
use Rattle.std.specs.Int.{w32, cast_signed, from_be_bytes}
use Rattle.xdr_base.specs.declared.faults.XdrFault.{XdrFault}
use Rattle.xdr_base.specs.declared.faults.XdrFault.TheVariants.{Short, Padding, TooLong, BadBool}
use Rattle.xdr_base.specs.Spelling.{padding, opaque_len}

-- a reader: the place of its next byte, and the bytes from there on
pub record Reading : Type 0 where
  pub place : ℕ
  pub rest : List ℕ

-- the reader over these bytes that has read nothing
abbrev pub at_start : List ℕ → Reading
at_start bytes = record { place = 0; rest = bytes }

-- the reader after n more bytes
abbrev pub past : ℕ → Reading → Reading
past n from = record { place = from.place + n; rest = drop n from.rest }

infixl 10 ◌>>=◌
abbrev pub ◌>>=◌ : {A B : Type 0} → Result A XdrFault → (A → Result B XdrFault) → Result B XdrFault
(Ok x) >>= f = f x
(Err e) >>= f = Err e

-- a number below 2^32
abbrev pub word_at : Reading → Result (ℕ × Reading) XdrFault
word_at from = if nat_lt (length from.rest) 4 then Err (Short from.place) else Ok (from_be_bytes w32 (take 4 from.rest), past 4 from)

-- a signed number of 32 bits
unfoldable pub signed_at : Reading → Result (ℤ × Reading) XdrFault
signed_at from = do
  n ← word_at from
  Ok (cast_signed w32 n.0, n.1)

-- the truth value that a number spells
abbrev pub truth_of : ℕ → Result Bool XdrFault
truth_of zero = Ok false
truth_of (suc zero) = Ok true
truth_of (suc (suc n)) = Err (BadBool (suc (suc n)))

-- a truth value
unfoldable pub truth_at : Reading → Result (Bool × Reading) XdrFault
truth_at from = do
  n ← word_at from
  b ← truth_of n.0
  Ok (b, n.1)

-- a number that is at most `most`
unfoldable pub count_at : ℕ → Reading → Result (ℕ × Reading) XdrFault
count_at most from = do
  n ← word_at from
  if nat_lt most n.0 then Err (TooLong n.0) else Ok n

-- whether the bytes that pad an opaque of this length are zero
abbrev pub is_padded : ℕ → Reading → Bool
is_padded len from = list_all (λ b. b == 0) (take (padding len) (drop (4 + len) from.rest))

-- the opaque of this length
abbrev pub body_at : ℕ → Reading → Result (List ℕ × Reading) XdrFault
body_at len from =
    if nat_lt (length from.rest) (opaque_len len) then Err (Short from.place)
    else if is_padded len from then Ok (take len (drop 4 from.rest), past (opaque_len len) from)
    else Err (Padding from.place)

-- an opaque of at most `most` bytes
unfoldable pub opaque_at : ℕ → Reading → Result (List ℕ × Reading) XdrFault
opaque_at most from = do
  len ← count_at most from
  body_at len.0 from

-- What a function answered, seen by view, is what stands there.
abbrev pub Gives : {X Y : Type 0} → (X → Y) → Result X XdrFault → Result Y XdrFault → Type 0
Gives view (Ok x) there = there ≡ Ok (view x)
Gives view (Err e) there = there ≡ Err e

-- A reader gave, seen by view, what stands at its place and went past it; or it gave the fault and stayed.
abbrev pub Gets : {X Y : Type 0} → (X → Y) → Reading → Reading → Result X XdrFault → Result (Y × Reading) XdrFault → Type 0
Gets view old new (Ok x) there = there ≡ Ok (view x, new)
Gets view old new (Err e) there = (there ≡ Err e) × (new ≡ old)

-- The old reader stands before this text, the new one behind it.
pub record Passes (old : Reading) (text : List ℕ) (new : Reading) : Type 0 where
  pub text_is : old.rest ≡ text ++ new.rest
  pub place_is : new.place ≡ old.place + length text
