-- The text that a server receives of another one's image (own).
use Rattle.std.specs.Prelude.{◌≡◌, ℕ, ◌+◌, ◌≤◌, ◌==◌, ◌&&◌, ◌⊎◌, Bool, false, if◌then◌else◌, Option, Some, None, List, [], ◌++◌, length, take}
use Rattle.std.specs.Option.{option_map}
use Rattle.ubik_types.specs.Version.{version_eq}
use Rattle.cell_model.specs.Node.{ReceivedText}
use Rattle.ubik_recovery.specs.declared.texts.CollectedText.{CollectedText}
use Rattle.ubik_recovery.specs.declared.texts.TextBefore.{TextBefore}
use Rattle.ubik_recovery.specs.declared.texts.TextBefore.TheVariants.{Other, Shorter}
use Rattle.ubik_recovery.specs.declared.texts.TextSource.{TextSource}

-- texts of one image: of the same server, version and length
abbrev pub is_same_source : TextSource → TextSource → Bool
is_same_source a b = a.server == b.server && version_eq a.version b.version && a.total == b.total

abbrev pub text_of : TextSource → List ℕ → ReceivedText
text_of source bytes = record { server = source.server; version = source.version; total = source.total; bytes = bytes }

abbrev pub text_in : CollectedText → ReceivedText
text_in own = text_of own.source own.text

-- the bytes that have come
abbrev pub received_bytes : Option ReceivedText → List ℕ
received_bytes None = []
received_bytes (Some text) = text.bytes

-- the text with a piece: one at 0 begins it anew
abbrev pub with_piece : TextSource → ℕ → List ℕ → Option ReceivedText → ReceivedText
with_piece source at bytes text = text_of source (take at (received_bytes text) ++ bytes)

-- the text before a piece that was taken into this one
abbrev pub text_before : TextBefore → Option ReceivedText → Option ReceivedText
text_before (Other text) now = option_map text_in text
text_before (Shorter source len) None = None
text_before (Shorter source len) (Some text) = Some (text_of source (take len text.bytes))

-- a piece begins a text, or goes on where the text ends
abbrev pub IsNext : ℕ → Option ReceivedText → Type 0
IsNext at text = (at ≡ 0) ⊎ (at ≡ length (received_bytes text))

-- the piece ends within its image
abbrev pub IsWithin : TextSource → ℕ → List ℕ → Type 0
IsWithin source at bytes = at + length bytes ≤ source.total

abbrev pub source_of : ReceivedText → TextSource
source_of text = record { server = text.server; version = text.version; total = text.total }

-- the text is of this image, and ends at a place
abbrev pub ends_at : TextSource → ℕ → Option ReceivedText → Bool
ends_at source at None = false
ends_at source at (Some text) = is_same_source (source_of text) source && length text.bytes == at

-- a piece begins a text, where it may, or goes on with the one that is there
abbrev pub is_next : (may_begin : Bool) → TextSource → ℕ → Option ReceivedText → Bool
is_next may_begin source at text = if at == 0 then may_begin else ends_at source at text
