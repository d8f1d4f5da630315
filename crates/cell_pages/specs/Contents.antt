-- Pieces, relabellings and writes: what packets carry (own).
use Rattle.std.specs.Prelude.{◌≡◌, ℕ, Option, Some, None, List, ◌++◌, length}
use Rattle.db_image.specs.Database.{Database}
use Rattle.ubik_types.specs.declared.versions.Version.{Version}
use Rattle.ubik_calls.specs.declared.packets.Body.{Body}
use Rattle.ubik_calls.specs.declared.packets.Body.TheVariants as body
use Rattle.cell_model.specs.Book.{Book}
use Rattle.cell_model.specs.Node.{ReceivedText}
use Rattle.cell_model.specs.Pieces.{piece_from, piece_count, numbered_piece}
use Rattle.cell_pages.specs.Images.{KeepsImages, IsImageOf, HaveOneList}
use Rattle.cell_pages.specs.WritesOnTheWay.{IsWriteOf, IsWriteOn}

-- Pieces: of the image of a version, from a place on.
pub record IsPieceOf (db : Database) (book : Book) (v : Version) (total at : ℕ) (bytes : List ℕ) : Type 0 where
  pub image : List ℕ
  pub of : IsImageOf db book v image
  pub total_is : total ≡ length image
  pub bytes_are : bytes ≡ piece_from image at

-- the front of the image of a version
pub record IsFrontOf (db : Database) (book : Book) (text : ReceivedText) : Type 0 where
  pub image : List ℕ
  pub of : IsImageOf db book text.version image
  pub total_is : text.total ≡ length image
  pub rest : List ℕ
  pub image_is : KeepsImages db → image ≡ text.bytes ++ rest

abbrev pub ReceivedIsFront : Database → Book → Option ReceivedText → Type 0
ReceivedIsFront db book None = Unit {0}
ReceivedIsFront db book (Some text) = IsFrontOf db book text

-- A packet carries pieces of the image of its version, names a relabelling with one list, or carries a write of its version; all
-- others carry nothing of a database.
abbrev pub Carries : Database → Book → Body → Type 0
Carries db book (body.Piece poll version total offset bytes) = IsPieceOf db book version total offset bytes
Carries db book (body.SendPiece poll version total offset bytes) = IsPieceOf db book version total offset bytes
Carries db book (body.SetVersion poll old new) = HaveOneList book old new
Carries db book (body.Begin old new pieces len) =
    (text : List ℕ) × IsWriteOn db book old new text × (pieces ≡ piece_count text) × (len ≡ length text)
Carries db book (body.PutPiece new number bytes) = (text : List ℕ) × IsWriteOf db book new text × (bytes ≡ numbered_piece text number)
Carries db book _ = Unit {0}
