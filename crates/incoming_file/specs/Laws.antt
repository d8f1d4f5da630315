-- Laws of the incoming file.
use Rattle.std.specs.Prelude.{◌≡◌, ℕ, ◌<◌, List, length, drop}
use Rattle.ubik_types.specs.declared.versions.Version.{Version}
use Rattle.page_file.specs.declared.label.TheConstants.{LABEL_LEN}
use Rattle.incoming_file.specs.Incoming.{IsIncoming, IsIgnored, opened}
use Rattle.incoming_file.specs.Reading.{IsText}

-- An open incoming file has one version and one image.
abbrev pub HasOneReading : Type 0
HasOneReading = (file : List ℕ) (v w : Version) (a b : List ℕ) → IsIncoming file v a → IsIncoming file w b → (v ≡ w) × (a ≡ b)

-- A label and an image with an open gate are an open file of that version and that image.
abbrev pub KeptFileIsOpen : Type 0
KeptFileIsOpen = (text : List ℕ) (version : Version) → IsText text version → IsIncoming (opened text) version (drop LABEL_LEN text)

-- Fewer bytes than a label has are ignored.
abbrev pub ShortFileIsIgnored : Type 0
ShortFileIsIgnored = (file : List ℕ) → length file < LABEL_LEN → IsIgnored file
