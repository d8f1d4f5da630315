-- A database whose one call empties the image: its changes leave the image as it was.
use Rattle.std.proofs.Common.{true, ◌≡◌, ℕ, List, [], ◌∷◌, arith}
use Rattle.std.specs.Prelude.{Some}
use Rattle.db_image.specs.declared.services.CallReply.TheVariants as call_reply
use Rattle.db_image.specs.Database.{Database}
use Rattle.cell_pages.specs.Images.{ShorterImagesDiffer}

abbrev emptied : Database
emptied = record {
  writes = λ call. Some true;
  call = λ image now call. record { reply = call_reply.Done []; image = [] };
  head = 1;
  block = 1;
}

pub shorter_images_differ : ShorterImagesDiffer
shorter_images_differ =
    (emptied, 7 ∷ [], 1, [], (λ none. omega arith), (λ same. let left : ◌≡◌ {A = List ℕ} (7 ∷ []) [] = same in absurd (cc)))
