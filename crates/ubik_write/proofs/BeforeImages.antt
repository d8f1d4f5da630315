-- What the image before a write is, and what a read of it shows.
use Rattle.std.proofs.Common.{◌≡◌, ℕ, ◌+◌, ◌<◌, ◌≤◌, Option, Some, None, IfSome, List, length, take, drop, get_or, refl, sym, ap, ◌∙◌, arith}
use Rattle.std.specs.Option.{option_map}
use Rattle.std.proofs.lemmas.Grind.{same_number_lists}
use Rattle.std.proofs.lemmas.List.{get_or-take, get_or-drop, length-take-le, length-drop}
use Rattle.std.proofs.lemmas.List.FromFn.{length-map-range_with_len, get_or-map-range_with_len}
use Rattle.ubik_types.specs.declared.images.Change.{Change}
use Rattle.ubik_types.specs.Image.{effect}
use Rattle.db_image.specs.Draft.{ShowsFrom}
use Rattle.ubik_write.specs.declared.undo.Patch.{Patch}
use Rattle.ubik_write.specs.Flight.{FlightRecord, Undoes}
use Rattle.ubik_write.specs.Undo.{byte_before, image_before, IsUndone}
use Rattle.ubik_write.proofs.BytesBefore.{byte-back}

length-image_before : (undo : List Patch) (len : ℕ) (after : List ℕ) → length (image_before undo len after) ≡ len
unfolding image_before
length-image_before undo len after = length-map-range_with_len _ 0 len

byte-image_before : (undo : List Patch) (len : ℕ) (after : List ℕ) (at : ℕ) → at < len → get_or (image_before undo len after) at 0 ≡ byte_before undo at (get_or after at 0)
unfolding image_before
byte-image_before undo len after at below =
    get_or-map-range_with_len (λ (p : ℕ). byte_before undo p (get_or after p 0)) 0 len at at 0 below (omega arith)

-- an image that is told has the length from before the write
pub told-before : (undo : List Patch) (len : ℕ) (held : Option (List ℕ)) → IfSome (option_map (image_before undo len) held) (λ bytes. length bytes ≡ len)
told-before undo len None = tt
told-before undo len (Some after) = length-image_before undo len after

-- a read of the image after the write, with the patches laid over, is one of the image before it
pub read-before : (undo : List Patch) (len : ℕ) (held : Option (List ℕ)) (at : ℕ) (padded now : List ℕ) → at + length padded ≤ len → length now ≡ length padded → IfSome held (λ bytes. ShowsFrom at bytes padded) → IsUndone undo at padded now → IfSome (option_map (image_before undo len) held) (λ bytes. now ≡ take (length padded) (drop at bytes))
read-before undo len None at padded now within size shows undone = tt
read-before undo len (Some after) at padded now within size shows undone =
    let all : List ℕ = image_before undo len after in
    let part : length (take (length padded) (drop at all)) ≡ length padded = length-take-le (length padded) (drop at all) (omega (arith, length-drop at all, length-image_before undo len after)) in
    same_number_lists now (take (length padded) (drop at all)) (size ∙ sym part)
    (λ i inside.
    (let below : i < length padded = omega (arith, size) in
    undone i below
    ∙ ap (λ (byte : ℕ). byte_before undo (at + i) byte) (shows i below)
    ∙ sym (byte-image_before undo len after (at + i) (omega arith))
    ∙ sym (get_or-take (length padded) (drop at all) i 0 below ∙ get_or-drop at all i 0)))

-- over the image that the changes lead to stands the image before them
pub before-is-old : (f : FlightRecord) (image : List ℕ) (changes : List Change) → Undoes f image changes → image_before f.undo f.old_len (effect image changes) ≡ image
before-is-old f image changes undoes =
    same_number_lists (image_before f.undo f.old_len (effect image changes)) image (length-image_before f.undo f.old_len (effect image changes) ∙ undoes.len)
    (λ i inside.
    (let below : i < f.old_len = omega (arith, length-image_before f.undo f.old_len (effect image changes)) in
    byte-image_before f.undo f.old_len (effect image changes) i below
    ∙ ap (λ (undo : List Patch). byte_before undo i (get_or (effect image changes) i 0)) undoes.undo
    ∙ byte-back image changes i (get_or (effect image changes) i 0) (omega (arith, undoes.len)) (λ reaches. refl)))
