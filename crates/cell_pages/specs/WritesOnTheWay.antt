-- Writes on the way: the text of the changes of the last transaction of a version, and its pieces (own).
use Rattle.std.specs.Prelude.{◌≡◌, ℕ, ◌+◌, Option, Some, None, List, [], ◌∷◌, ◌++◌, length}
use Rattle.std.specs.List.{AllByRecursion}
use Rattle.db_image.specs.Database.{Database, changes_of}
use Rattle.ubik_types.specs.declared.images.Change.{Change}
use Rattle.ubik_types.specs.declared.versions.Version.{Version}
use Rattle.xdr_base.specs.ChangeText.{HasSpelling, text_of}
use Rattle.cell_model.specs.Book.{Book, list_of}
use Rattle.cell_model.specs.Durable.{Transaction}
use Rattle.cell_model.specs.Node.{KeptWrite}
use Rattle.cell_model.specs.Pieces.{piece_count, numbered_piece}
use Rattle.cell_model.specs.SingleCopy.{image_after}
use Rattle.cell_pages.specs.Images.{KeepsImages}

-- the changes of the single copy by a transaction behind others
abbrev pub last_changes : Database → List Transaction → Transaction → List Change
last_changes db before last = changes_of db (image_after db before) (image_after db (before ++ last ∷ []))

-- The version has a last transaction, and, where the database keeps its images, this is the text of the changes by it.
pub record IsWriteOf (db : Database) (book : Book) (new : Version) (text : List ℕ) : Type 0 where
  pub before : List Transaction
  pub last : Transaction
  pub listed : list_of book new ≡ Some (before ++ last ∷ [])
  pub spelled : KeepsImages db → AllByRecursion HasSpelling (last_changes db before last)
  pub text_is : KeepsImages db → text ≡ text_of (last_changes db before last)

-- and the version before it has the transactions before that one
abbrev pub IsWriteOn : Database → Book → (old new : Version) → List ℕ → Type 0
IsWriteOn db book old new text = (write : IsWriteOf db book new text) × (list_of book old ≡ Some write.before)

-- each piece that has come is that of the text, by its number
abbrev pub ArePieces : List ℕ → ℕ → List (Option (List ℕ)) → Type 0
ArePieces text number [] = Unit {0}
ArePieces text number (None ∷ pieces) = ArePieces text (number + 1) pieces
ArePieces text number (Some piece ∷ pieces) = (piece ≡ numbered_piece text number) × ArePieces text (number + 1) pieces

-- a kept write leads on from the own version
pub record IsKeptOn (db : Database) (book : Book) (v : Version) (w : KeptWrite) : Type 0 where
  pub text : List ℕ
  pub write : IsWriteOn db book v w.new text
  pub len : w.len ≡ length text
  pub count : length w.pieces ≡ piece_count text
  pub pieces : KeepsImages db → ArePieces text 0 w.pieces

abbrev pub KeptIsWrite : Database → Book → Version → Option KeptWrite → Type 0
KeptIsWrite db book v None = Unit {0}
KeptIsWrite db book v (Some w) = IsKeptOn db book v w
