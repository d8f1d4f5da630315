-- One version is one list of transactions, and one image, in cells of every size (own).
use Rattle.std.specs.Prelude.{◌≡◌, ℕ, Bool, Some, List}
use Rattle.db_image.specs.Database.{Database}
use Rattle.ubik_types.specs.declared.hosts.Host.{Host}
use Rattle.ubik_calls.specs.declared.packets.Body.{Body}
use Rattle.ubik_calls.specs.declared.packets.Body.TheVariants as body
use Rattle.cell_model.specs.Book.{Book, Run}
use Rattle.cell_model.specs.Node.{Up, Server}
use Rattle.cell_model.specs.World.{Site, Event, IsFirst, IsRun, first_world, site_of}
use Rattle.cell_pages.specs.Contents.{IsPieceOf}
use Rattle.cell_pages.specs.Images.{KeepsImages, IsImageOf, IsOfBook}
use Rattle.cell_pages.specs.Laws.{run_of, MadeOnce}
use Rattle.cell_pages.specs.Says.{AllPackets}

-- a piece of an image that is sent is one of the image of its version; all other packets carry no image
abbrev pub IsSentOf : Database → Book → Body → Type 0
IsSentOf db book (body.Piece poll version total offset bytes) = IsPieceOf db book version total offset bytes
IsSentOf db book (body.SendPiece poll version total offset bytes) = IsPieceOf db book version total offset bytes
IsSentOf db book _ = Unit {0}

-- Each version was made once, so it has one list of transactions. The version of each durable state has a list, and so has that of
-- each server that is up, and of each piece that was ever sent. Where the database keeps its images, the images are those of the
-- single copy after these lists, and the pieces are of them; so servers with one version have one image.
pub record HasOneLabel (db : Database) (r : Run) : Type 0 where
  pub once : MadeOnce r.book
  pub durable : (k : ℕ) (site : Site) → site_of r.world k ≡ Some site → IsOfBook db r.book site.durable
  pub up : (k : ℕ) (site : Site) (s : Server) → site_of r.world k ≡ Some site → site.node ≡ Up s → IsImageOf db r.book s.version s.image
  pub sent : AllPackets (IsSentOf db r.book) r.world.packets
  pub alike : KeepsImages db → (j k : ℕ) (x y : Site) → site_of r.world j ≡ Some x → site_of r.world k ≡ Some y →
      x.durable.version ≡ y.durable.version → x.durable.image ≡ y.durable.image

-- In each cell, after each run.
abbrev pub OneLabel : Type 0
OneLabel =
    (db : Database) (hosts : List Host) (clock : ℕ) (failed : List Bool) (events : List Event) →
    IsFirst hosts clock failed → IsRun db (first_world hosts clock failed) events → HasOneLabel db (run_of db hosts clock failed events)
