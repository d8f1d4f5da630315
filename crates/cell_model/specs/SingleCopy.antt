-- The single copy: one database that makes one call after the other (own).
use Rattle.std.specs.Prelude.{ℕ, List, [], ◌∷◌}
use Rattle.db_image.specs.declared.services.CallReply.{CallReply}
use Rattle.db_image.specs.Database.{Database}
use Rattle.cell_model.specs.Durable.{Transaction}

-- the image after a list of transactions, from this image on
abbrev pub image_from : Database → List ℕ → List Transaction → List ℕ
image_from db image [] = image
image_from db image (t ∷ transactions) = image_from db (db.call image t.moment t.call).image transactions

-- the image of a list of transactions: from the empty one on
abbrev pub image_after : Database → List Transaction → List ℕ
image_after db transactions = image_from db [] transactions

-- what the single copy replies to a call after these transactions
abbrev pub reply_after : Database → List Transaction → ℕ → List ℕ → CallReply
reply_after db transactions now call = (db.call (image_after db transactions) now call).reply
