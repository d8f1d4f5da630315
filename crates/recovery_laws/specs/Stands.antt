-- Images stand for states of a database, in cells of every size: those of durable states, of servers, and of pieces on their way (own).
use Rattle.std.specs.Prelude.{ℕ, ◌≡◌, Bool, true, Some, List, [], take}
use Rattle.ubik_types.specs.declared.hosts.Host.{Host}
use Rattle.ubik_types.specs.declared.versions.Version.{Version}
use Rattle.ubik_calls.specs.declared.packets.Body.{Body}
use Rattle.ubik_calls.specs.declared.packets.Body.TheVariants as body
use Rattle.db_image.specs.Standing.{Standing}
use Rattle.cell_model.specs.Book.{Book, Run}
use Rattle.cell_model.specs.declared.events.NodeEvent.{NodeEvent}
use Rattle.cell_model.specs.Durable.{durable_after_all}
use Rattle.cell_model.specs.Node.{Up, Server}
use Rattle.cell_model.specs.NodeRule.{step_of}
use Rattle.cell_model.specs.World.{World, Site, Trigger, Event, IsFirst, IsRun, first_world, member, site_of, occasion, is_new_ask}
use Rattle.cell_pages.specs.Contents.{IsPieceOf}
use Rattle.cell_pages.specs.Images.{KeepsImages}
use Rattle.cell_pages.specs.Laws.{run_of}
use Rattle.cell_pages.specs.Says.{AllPackets}

-- an image stands for a state of the database
abbrev pub IsMeantImage : Standing → List ℕ → Type 0
IsMeantImage standing image = (s : standing.State) × standing.StandsFor image s

-- A database over drafts: the empty image stands for a state, and what a call leaves of an image that stands for one does too; its blocks
-- have a length, and no call makes an image shorter.
pub record IsService (standing : Standing) : Type 0 where
  pub empty : IsMeantImage standing []
  pub leads : (image : List ℕ) (now : ℕ) (call : List ℕ) → IsMeantImage standing image →
      IsMeantImage standing (standing.database.call image now call).image
  pub keeps : KeepsImages standing.database

-- a piece is one of the image of its version, which stands for a state
pub record IsMeantPiece (standing : Standing) (book : Book) (version : Version) (total at : ℕ) (bytes : List ℕ) : Type 0 where
  pub piece : IsPieceOf standing.database book version total at bytes
  pub meant : IsMeantImage standing piece.image

abbrev pub CarriesMeant : Standing → Book → Body → Type 0
CarriesMeant standing book (body.Piece poll version total offset bytes) = IsMeantPiece standing book version total offset bytes
CarriesMeant standing book (body.SendPiece poll version total offset bytes) = IsMeantPiece standing book version total offset bytes
CarriesMeant standing book _ = Unit {0}

-- The image of each durable state stands for a state, and so does that of each server that is up, and of each piece that was ever
-- sent.
pub record AllStand (standing : Standing) (r : Run) : Type 0 where
  pub durable : (k : ℕ) (site : Site) → site_of r.world k ≡ Some site → IsMeantImage standing site.durable.image
  pub up : (k : ℕ) (site : Site) (s : Server) → site_of r.world k ≡ Some site → site.node ≡ Up s → IsMeantImage standing s.image
  pub sent : AllPackets (CarriesMeant standing r.book) r.world.packets

-- What a server that is up is about to do: a trigger brings it this event, which it may take.
pub record IsNextStep (w : World) (trigger : Trigger) (k : ℕ) (e : NodeEvent) (site : Site) (s : Server) : Type 0 where
  pub brought : occasion w trigger ≡ Some (k, e)
  pub there : site_of w k ≡ Some site
  pub up : site.node ≡ Up s
  pub new : is_new_ask site.asked e ≡ true

-- the image stands after each first so many durable calls of such a step: where the server stops or its disk fails
abbrev pub StandsWithin : Standing → World → Type 0
StandsWithin standing w =
    (trigger : Trigger) (k : ℕ) (e : NodeEvent) (site : Site) (s : Server) (short : List Bool) (made : ℕ) →
    IsNextStep w trigger k e site s →
    let t = step_of standing.database (member w k) s site.clock e short in
    IsMeantImage standing (durable_after_all site.durable (take made t.calls)).image

-- In each cell, after each run, and within each step behind it.
abbrev pub ImagesStand : Standing → Type 0
ImagesStand standing =
    IsService standing →
    (hosts : List Host) (clock : ℕ) (failed : List Bool) (events : List Event) → IsFirst hosts clock failed →
    IsRun standing.database (first_world hosts clock failed) events →
    let r = run_of standing.database hosts clock failed events in
    AllStand standing r × StandsWithin standing r.world
