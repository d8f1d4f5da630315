-- The incoming file of a server (own): the label of a version but for its last byte, a gate, and an image. With an open gate it
-- stands in place of database and log, and any other one is ignored.
use Rattle.std.specs.Prelude.{◌≡◌, ◌⊎◌, ℕ, ◌≤◌, ◌==◌, ◌&&◌, nat_lt, Bool, if◌then◌else◌, List, ◌∷◌, ◌++◌, length, take, drop, replicate, slice_index}
use Rattle.ubik_types.specs.declared.limits.TheConstants.{MAX_IMAGE}
use Rattle.ubik_types.specs.declared.versions.Version.{Version}
use Rattle.ubik_types.specs.Version.{IsVersion}
use Rattle.disk_base.specs.Files.{Files}
use Rattle.page_file.specs.declared.label.TheConstants.{MAX_DATABASE_LEN}
use Rattle.page_file.specs.Label.{label}

-- the first 63 bytes of the label of a version: its last one is zero, and the gate stands in its place
abbrev pub label_front : Version → List ℕ
label_front version = take 63 (label version)

-- The file is open: it has this version and this image.
pub record IsIncoming (file : List ℕ) (version : Version) (image : List ℕ) : Type 0 where
  pub is_version : IsVersion version
  pub fits : length image ≤ MAX_IMAGE
  pub bytes : file ≡ label_front version ++ 101 ∷ image

-- it is not open
abbrev pub IsIgnored : List ℕ → Type 0
IsIgnored file = (version : Version) (image : List ℕ) → ¬ IsIncoming file version image

-- the gate stands open
abbrev pub IsGateOpen : List ℕ → Type 0
IsGateOpen file = slice_index file 63 ≡ 101

-- the gate is open, but the file is too long: a crash in the midst of a cut could leave an open one of it
abbrev pub is_gated : List ℕ → Bool
is_gated file = nat_lt MAX_DATABASE_LEN (length file) && slice_index file 63 == 101

-- how many changing calls empty an incoming file that is ignored: its gate is closed first where it stands open
abbrev pub clear_calls : List ℕ → ℕ
clear_calls file = if length file == 0 then 0 else (if is_gated file then 4 else 2)

-- a label and an image with zero bytes in place of the label, but for its last byte
abbrev pub shut : List ℕ → List ℕ
shut text = replicate 63 0 ++ drop 63 text

-- and with an open gate in place of that byte
abbrev pub opened : List ℕ → List ℕ
opened text = take 63 text ++ 101 ∷ drop 64 text

-- the files with another incoming file
abbrev pub with_incoming : List ℕ → Files → Files
with_incoming bytes fs = record fs { incoming = bytes }

-- the incoming file is an ignored one, and the other files are as they were
abbrev pub HasIgnored : Files → Files → Type 0
HasIgnored before after = IsIgnored after.incoming × (after ≡ with_incoming after.incoming before)

-- the incoming file is this one or an ignored one, and the other files are as they were
abbrev pub HasThisOrIgnored : List ℕ → Files → Files → Type 0
HasThisOrIgnored file before after = ((after.incoming ≡ file) ⊎ IsIgnored after.incoming) × (after ≡ with_incoming after.incoming before)
