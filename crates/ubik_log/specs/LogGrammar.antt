-- The log grammar: which bytes are a committed log, and of what (Ubik; the gate is own).
use Rattle.std.specs.Prelude.{◌≡◌, ℕ, ◌+◌, ◌≤◌, List, [], ◌∷◌, ◌++◌, length}
use Rattle.std.specs.Int.{w32, to_be_bytes}
use Rattle.std.specs.List.{All}
use Rattle.ubik_types.specs.declared.images.Change.{Change}
use Rattle.ubik_types.specs.declared.images.Change.TheVariants.{Put, Cut}
use Rattle.ubik_types.specs.declared.limits.TheConstants.{MAX_IMAGE}
use Rattle.ubik_types.specs.declared.versions.Version.{Version}
use Rattle.ubik_types.specs.Version.{IsVersion}

-- a field: a number in four bytes, the high one first
abbrev pub field : ℕ → List ℕ
field n = to_be_bytes w32 n

-- The bytes tell these changes, in their order, and then this version. The number that stands first says which case they are.
pub data AreRecords : List ℕ → List Change → Version → Type 0 where
  -- LOGEND and the version, and nothing behind them: no change is left
  ends : (bytes : List ℕ) (version : Version)
      → bytes ≡ field 101 ++ field version.epoch ++ field version.counter
      → AreRecords bytes [] version
  -- LOGDATA, file 0, a position, a length and that many bytes: a put, and the rest tells the others
  puts : (bytes : List ℕ) (at len : ℕ) (laid rest : List ℕ) (others : List Change) (version : Version)
      → bytes ≡ field 103 ++ field 0 ++ field at ++ field len ++ laid ++ rest → length laid ≡ len
      → AreRecords rest others version
      → AreRecords bytes (Put at laid ∷ others) version
  -- LOGTRUNCATE, file 0 and a length: a cut, and the rest tells the others
  cuts : (bytes : List ℕ) (len : ℕ) (rest : List ℕ) (others : List Change) (version : Version)
      → bytes ≡ field 104 ++ field 0 ++ field len ++ rest
      → AreRecords rest others version
      → AreRecords bytes (Cut len ∷ others) version

-- position, length and their sum lie within the longest image
abbrev pub IsWithinImage : Change → Type 0
IsWithinImage (Put at bytes) = at + length bytes ≤ MAX_IMAGE
IsWithinImage (Cut len) = len ≤ MAX_IMAGE

-- changes and a version that a log may tell
pub record IsTold (changes : List Change) (version : Version) : Type 0 where
  pub within_image : All IsWithinImage changes
  pub is_version : IsVersion version

-- LOGNEW, the first record; its last byte is the gate
abbrev pub new_record : List ℕ
new_record = field 100

-- the bytes are the committed log of these changes and this version, and nothing more: LOGNEW, and then what tells them
pub record IsCommitted (log : List ℕ) (changes : List Change) (version : Version) : Type 0 where
  pub told : IsTold changes version
  pub rest : List ℕ
  pub begins : log ≡ new_record ++ rest
  pub are_records : AreRecords rest changes version

-- every other list of bytes
abbrev pub IsDiscarded : List ℕ → Type 0
IsDiscarded log = (changes : List Change) (version : Version) → ¬ IsCommitted log changes version
