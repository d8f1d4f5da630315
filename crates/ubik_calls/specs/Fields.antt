-- The fields of a frame and how each is spelled (RFC 4506; that a version has words below 2^31 is own).
use Rattle.std.specs.Prelude.{◌≡◌, ℕ, ◌<◌, ◌≤◌, ◌^◌, ◌/◌, ◌%◌, Bool, List, [], ◌∷◌, ◌++◌, length}
use Rattle.std.specs.List.{AllByRecursion}
use Rattle.ubik_types.specs.declared.phases.Phase.{Phase}
use Rattle.ubik_types.specs.declared.phases.Phase.TheVariants as phase
use Rattle.ubik_types.specs.declared.versions.Version.{Version}
use Rattle.ubik_types.specs.Version.{IsVersion}
use Rattle.xdr_base.specs.Reading.{Reading}
use Rattle.xdr_base.specs.Spelling.{word, truth, opaque}
use Rattle.ubik_calls.specs.declared.packets.TheConstants.{MAX_PIECE}

pub data Field : Type 0 where
  -- a number of 32 bits
  Number : (n : ℕ) → Field
  -- a number of 64 bits
  Long : (n : ℕ) → Field
  Truth : (b : Bool) → Field
  VersionOf : (v : Version) → Field
  PhaseOf : (p : Phase) → Field
  -- a piece of an image or of a write
  Piece : (bytes : List ℕ) → Field
  -- the bytes up to the end of the frame, as they are
  AsTheyAre : (bytes : List ℕ) → Field

abbrev pub phase_number : Phase → ℕ
phase_number phase.None = 0
phase_number phase.Poll = 1
phase_number phase.Fetch = 2
phase_number phase.Relabel = 3
phase_number phase.Send = 4
phase_number phase.Ready = 5

-- a number of 64 bits is two words, the high one first; a version is its epoch and its counter
unfoldable pub field_spelling : Field → List ℕ
field_spelling (Number n) = word n
field_spelling (Long n) = word (n / 2 ^ 32) ++ word (n % 2 ^ 32)
field_spelling (Truth b) = truth b
field_spelling (VersionOf v) = word v.epoch ++ word v.counter
field_spelling (PhaseOf p) = word (phase_number p)
field_spelling (Piece bytes) = opaque bytes
field_spelling (AsTheyAre bytes) = bytes

-- fields stand one after the other, with nothing between them
unfoldable pub spelled : List Field → List ℕ
spelled [] = []
spelled (field ∷ fields) = field_spelling field ++ spelled fields

-- the versions and the pieces that may be sent
abbrev pub IsBounded : Field → Type 0
IsBounded (VersionOf v) = IsVersion v
IsBounded (Piece bytes) = length bytes ≤ MAX_PIECE
IsBounded _ = Unit {0}

-- numbers have the bits that their fields have; each number in code has them
abbrev pub IsOfItsBits : Field → Type 0
IsOfItsBits (Number n) = n < 2 ^ 32
IsOfItsBits (Long n) = n < 2 ^ 64
IsOfItsBits _ = Unit {0}

-- The old reader stands before these fields, which may be sent, and the new one behind them.
pub record Took (old : Reading) (fields : List Field) (new : Reading) : Type 0 where
  pub text_is : old.rest ≡ spelled fields ++ new.rest
  pub bounded : AllByRecursion IsBounded fields

-- Behind the old text the new one has these fields.
pub record Wrote (old : List ℕ) (fields : List Field) (new : List ℕ) : Type 0 where
  pub text_is : new ≡ old ++ spelled fields
