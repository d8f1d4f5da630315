-- The bytes of an image that changes overwrite or cut off, and how they lead back (own).
use Rattle.std.specs.Prelude.{◌≡◌, ℕ, ◌+◌, ◌-◌, ◌<◌, ◌&&◌, nat_le, nat_lt, if◌then◌else◌, Bool, List, [], ◌∷◌, length, map, take, drop, min, slice_index}
use Rattle.std.specs.List.{range_with_len}
use Rattle.std.specs.List.Sorted.{IsNonDecreasingBy}
use Rattle.ubik_types.specs.declared.images.Change.{Change}
use Rattle.ubik_types.specs.declared.images.Change.TheVariants.{Put, Cut}
use Rattle.ubik_write.specs.declared.undo.Patch.{Patch}

-- what a change overwrites or cuts off of an image
abbrev pub undo_of : List ℕ → Change → Patch
undo_of image (Put at bytes) = record { at = at; bytes = take (length bytes) (drop at image) }
undo_of image (Cut len) = record { at = len; bytes = drop len image }

-- where a change touches an image of so many bytes, and how many bytes of it
abbrev pub touched : ℕ → Change → ℕ × ℕ
touched size (Put at bytes) = (at, min (length bytes) (size - at))
touched size (Cut len) = (len, size - len)

-- where the bytes of a patch end
abbrev pub patch_end : Patch → ℕ
patch_end patch = patch.at + length patch.bytes

-- neither the beginnings of patches nor their ends fall along the list
pub record AreAscending (undo : List Patch) : Type 0 where
  pub at : IsNonDecreasingBy (λ (patch : Patch). patch.at) undo
  pub end : IsNonDecreasingBy patch_end undo

-- bytes from a position on have one for a position
abbrev pub covers : (from : ℕ) → List ℕ → (at : ℕ) → Bool
covers from bytes at = nat_le from at && nat_lt at (from + length bytes)

-- the byte at a position, with these bytes from a position on laid over
abbrev pub byte_laid : (from : ℕ) → List ℕ → (at byte : ℕ) → ℕ
byte_laid from bytes at byte = if covers from bytes at then slice_index bytes (at - from) else byte

-- the byte at a position under a patch, which is laid over another byte
abbrev pub byte_under : Patch → (at byte : ℕ) → ℕ
byte_under patch at byte = byte_laid patch.at patch.bytes at byte

-- the same under patches, one after the other
abbrev pub byte_before : List Patch → (at byte : ℕ) → ℕ
byte_before [] at byte = byte
byte_before (patch ∷ undo) at byte = byte_before undo at (byte_under patch at byte)

-- a buffer shows the bytes of an image from a position on, as far as the image reaches
abbrev pub ShowsWithin : (at : ℕ) → (image buf : List ℕ) → Type 0
ShowsWithin at image buf = (i : ℕ) → i < length buf → at + i < length image → slice_index buf i ≡ slice_index image (at + i)

-- a buffer has the bytes under patches of what another one had
abbrev pub IsUndone : List Patch → (at : ℕ) → (before after : List ℕ) → Type 0
IsUndone undo at before after = (i : ℕ) → i < length before → slice_index after i ≡ byte_before undo (at + i) (slice_index before i)

-- the image of so many bytes that patches make of another one, which has zero bytes behind its end
unfoldable pub image_before : List Patch → (len : ℕ) → List ℕ → List ℕ
image_before undo len after = map (λ at. byte_before undo at (slice_index after at)) (range_with_len 0 len)
