-- The image of a store that has not failed.
use Rattle.std.specs.Prelude.{ℕ, List, Option, unwrap_or, replicate}
use Rattle.disk_base.specs.Files.{Files}
use Rattle.ubik_store.specs.Store.{image_in}

-- that in its files, where its disk tells them, and else zero bytes of its length
abbrev pub held_image : Option Files → ℕ → List ℕ
held_image files len = unwrap_or (image_in files) (replicate len 0)
