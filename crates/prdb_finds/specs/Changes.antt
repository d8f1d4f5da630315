-- The image after other maxima.
use Rattle.std.specs.Prelude.{ℕ, ℤ, ◌+◌, ◌&&◌, List, ◌++◌, if◌then◌else◌}
use Rattle.std.specs.Ordering.{int_eq}
use Rattle.ubik_types.specs.Image.{changed}
use Rattle.ubik_types.specs.declared.images.Change.TheVariants.{Put}
use Rattle.db_image.specs.Draft.{put_cost}
use Rattle.db_image.specs.declared.services.Layout.{Layout}
use Rattle.db_blocks.specs.Bytes.{word}
use Rattle.prdb_layout.specs.Bytes.{bits}
use Rattle.prdb_layout.specs.Records.{maxima_in}
use Rattle.prdb_finds.specs.Records.{whole}

-- other maxima; an image that has them stays as it is, also the empty one
unfoldable pub after_set_maxima : (user group : ℤ) → List ℕ → List ℕ
after_set_maxima user group image =
    let old = maxima_in (whole image) in
    if int_eq old.0 user && int_eq old.1 group then image
    else changed (whole image) (Put 8 (word (bits user) ++ word (bits group)))

-- how many bytes are read at most: the maxima, and where the first image and the maxima are written
abbrev pub maxima_cost : Layout → ℕ
maxima_cost layout = 8 + (put_cost layout 3264 + put_cost layout 8)
