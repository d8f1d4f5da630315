-- The label of a database file (Ubik): 64 bytes in front of the image.
use Rattle.std.specs.Prelude.{◌≡◌, ◌<◌, slice_index, ℕ, ◌+◌, ◌==◌, ◌&&◌, nat_lt, nat_le, if◌then◌else◌, Option, Some, None, List, ◌∷◌, ◌++◌, length, take, drop, replicate}
use Rattle.std.specs.Int.{w32, to_be_bytes, from_be_bytes}
use Rattle.std.specs.Str.{bytes_eq}
use Rattle.ubik_types.specs.declared.limits.TheConstants.{MAX_IMAGE}
use Rattle.ubik_types.specs.declared.versions.TheConstants.{MAX_COUNTER}
use Rattle.ubik_types.specs.declared.versions.Version.{Version}
use Rattle.page_file.specs.declared.label.TheConstants.{LABEL_LEN}
use Rattle.ubik_types.specs.Version.{zero_version}

-- a fixed number, the length of the label, and the version
abbrev pub label : Version → List ℕ
label v =
    0 ∷ 53 ∷ 69 ∷ 69 ∷ 0 ∷ 0 ∷ 0 ∷ 64 ∷ to_be_bytes w32 v.epoch ++ to_be_bytes w32 v.counter ++ replicate 48 0

-- the version whose label these bytes are
abbrev pub version_in : List ℕ → Version
version_in bytes =
    record {
      epoch = from_be_bytes w32 (take 4 (drop 8 bytes));
      counter = from_be_bytes w32 (take 4 (drop 12 bytes));
    }

abbrev pub version_of_label : List ℕ → Option Version
version_of_label bytes =
    let v = version_in bytes in
    if nat_le v.epoch MAX_COUNTER && nat_le v.counter MAX_COUNTER && bytes_eq bytes (label v) then Some v else None

-- the version of a file of some length, by its head
abbrev pub version_by : ℕ → List ℕ → Option Version
version_by len head =
    if nat_lt len LABEL_LEN then None else (if nat_lt (LABEL_LEN + MAX_IMAGE) len then None else version_of_label head)

-- the version of a database file: that of its label, and the first one where it is empty; none where it is
-- longer than a label and the longest image, or is not empty and begins with no label
unfoldable pub version_of_database : List ℕ → Option Version
version_of_database file =
    if length file == 0 then Some zero_version else version_by (length file) (take LABEL_LEN file)

-- as many bytes of a file as a label has, and zero bytes where it is shorter
pub record IsHeadOf (head file : List ℕ) : Type 0 where
  pub len : length head ≡ LABEL_LEN
  pub bytes : (k : ℕ) → k < LABEL_LEN → slice_index head k ≡ slice_index file k
