-- Images: what a version in the book stands for (own).
use Rattle.std.specs.Prelude.{◌≡◌, ℕ, ◌≤◌, ◌≢◌, Some, List, length}
use Rattle.db_image.specs.Database.{Database, changes_of}
use Rattle.ubik_types.specs.Image.{effect}
use Rattle.ubik_types.specs.declared.versions.Version.{Version}
use Rattle.cell_model.specs.Book.{Book, list_of}
use Rattle.cell_model.specs.Durable.{Durable, Transaction}
use Rattle.cell_model.specs.SingleCopy.{image_after}

-- A database whose changes lead from the image before a call to the one after it: its blocks have a length, and no call makes an
-- image shorter.
pub record KeepsImages (db : Database) : Type 0 where
  pub block : db.block ≢ 0
  pub grows : (image : List ℕ) (now : ℕ) (call : List ℕ) → length image ≤ length (db.call image now call).image

-- The version has a list of transactions in the book, and, where the database keeps its images, this is the image of the single copy
-- after them.
pub record IsImageOf (db : Database) (book : Book) (v : Version) (image : List ℕ) : Type 0 where
  pub list : List Transaction
  pub listed : list_of book v ≡ Some list
  pub image_is : KeepsImages db → image ≡ image_after db list

-- Images: so of a durable state.
abbrev pub IsOfBook : Database → Book → Durable → Type 0
IsOfBook db book d = IsImageOf db book d.version d.image

-- two versions have one list: a relabelling made the one of the other
abbrev pub HaveOneList : Book → Version → Version → Type 0
HaveOneList book old new = (list : List Transaction) × (list_of book old ≡ Some list) × (list_of book new ≡ Some list)

-- Why no call may make an image shorter: there is a database whose blocks have a length, and a call on an image, whose changes do not
-- lead from that image to the one after the call. Who commits these changes has another image than who made the call.
abbrev pub ShorterImagesDiffer : Type 0
ShorterImagesDiffer =
    (db : Database) × (image : List ℕ) × (now : ℕ) × (call : List ℕ) × (db.block ≢ 0)
    × (let after = (db.call image now call).image in effect image (changes_of db image after) ≢ after)
