-- What a server takes over of another one's database.
use Rattle.std.proofs.Common.{◌≡◌, ℕ, Option, Some, None, IfSome, IsSome, List, replicate, ap, ◌∙◌}
use Rattle.std.specs.Prelude.{unwrap_or}
use Rattle.disk_base.specs.Files.{Files}
use Rattle.ubik_store.specs.Store.{image_in}
use Rattle.server_state.specs.Held.{held_image}

-- the image that the store holds after it
pub held_text : (before after : Option Files) (len : ℕ) (text bytes : List ℕ) → IsSome before → IfSome before (λ _. image_in after ≡ Some text) → bytes ≡ held_image after len → bytes ≡ text
held_text None after len text bytes told is held = absurd cc
held_text (Some fs) after len text bytes told is held = held ∙ ap (λ (o : Option (List ℕ)). unwrap_or o (replicate len 0)) is
