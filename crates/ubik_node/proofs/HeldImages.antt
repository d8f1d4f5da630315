-- The image of a store that has not failed: how long it is, and what a commit makes of it.
use Rattle.std.proofs.Common.{◌≡◌, ◌∙◌, ◌-◌, ℕ, min, take, drop, List, length, replicate, Option, Some, None, IfSome, IsSome, sym, ap}
use Rattle.std.specs.Prelude.{unwrap_or}
use Rattle.std.specs.Option.{option_map}
use Rattle.std.proofs.lemmas.List.{length-drop, length-replicate, take_min}
use Rattle.ubik_types.specs.declared.images.Change.{Change}
use Rattle.ubik_types.specs.Image.{effect}
use Rattle.disk_base.specs.declared.disks.Disk.{Ghosts}
use Rattle.disk_base.specs.Files.{Files}
use Rattle.cell_model.specs.Pieces.{piece_from}
use Rattle.page_file.specs.Pages.{Known, AgreesIn, image_of}
use Rattle.ubik_store.specs.declared.stores.Store.{Store}
use Rattle.ubik_store.specs.Store.{IsReady, image_in}
use Rattle.server_state.specs.Held.{held_image}

long_held : (files : Option Files) (pages : Known) (len : ℕ) → AgreesIn pages files → pages.len ≡ len → length (held_image files len) ≡ len
long_held None pages len agrees long = length-replicate {A = ℕ} len 0
long_held (Some fs) pages len agrees long = sym agrees.len ∙ long

pub held_length : {D : Type 0} (g : Ghosts D) (s : Store D) → IsReady g s → length (held_image (g.files s.disk) s.len) ≡ s.len
held_length g s ready = long_held (g.files s.disk) s.pages s.len ready.agrees ready.len

-- it is the image in the files
pub held_there : (files : Option Files) (len : ℕ) (image : List ℕ) → image ≡ held_image files len → IfSome (image_in files) (λ there. there ≡ image)
held_there None len image is = tt
held_there (Some fs) len image is = sym is

-- after changes of the image that was known
pub held_after : (before after : Option Files) (len : ℕ) (changes : List Change) (old image : List ℕ) → IsSome before → IfSome (image_in before) (λ there. there ≡ old)
    → image_in after ≡ option_map (λ there. effect there changes) (image_in before) → effect old changes ≡ image → held_image after len ≡ image
held_after None after len changes old image tells there is leads = absurd cc
held_after (Some fs) after len changes old image tells there is leads =
    ap (λ (o : Option (List ℕ)). unwrap_or o (replicate len 0)) is ∙ ap (λ (bytes : List ℕ). effect bytes changes) there ∙ leads

-- a piece that is cut from it
piece_in : (image : List ℕ) (len at count : ℕ) → length image ≡ len → count ≡ min 8192 (len - at)
    → take count (drop at image) ≡ piece_from image at
piece_in image len at count long is = rw (is, ← long, ← length-drop at image) (take_min 8192 (drop at image))

pub piece_is : (files : Option Files) (pages : Known) (len at count : ℕ) (piece : List ℕ) → AgreesIn pages files → pages.len ≡ len
    → count ≡ min 8192 (len - at) → IfSome (image_in files) (λ image. piece ≡ take count (drop at image))
    → IfSome (image_in files) (λ image. piece ≡ piece_from image at)
piece_is None pages len at count piece agrees long is reads = tt
piece_is (Some fs) pages len at count piece agrees long is reads =
    reads ∙ piece_in (image_of fs.database) len at count (sym agrees.len ∙ long) is
