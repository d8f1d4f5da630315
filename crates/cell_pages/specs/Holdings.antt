-- Images, flights, relabellings, received texts and kept writes of a server that is up (own).
use Rattle.std.specs.Prelude.{◌≡◌, Some}
use Rattle.db_image.specs.Database.{Database}
use Rattle.ubik_types.specs.declared.versions.Version.{Version}
use Rattle.ubik_types.specs.Phase.{Polled, Spread, PhaseRecord, Send, Ready}
use Rattle.xdr_base.specs.ChangeText.{text_of}
use Rattle.cell_model.specs.Book.{Book}
use Rattle.cell_model.specs.Node.{Server, Flight}
use Rattle.cell_model.specs.Recovery.{first_of_epoch}
use Rattle.cell_pages.specs.Contents.{ReceivedIsFront}
use Rattle.cell_pages.specs.Images.{IsImageOf, HaveOneList}
use Rattle.cell_pages.specs.WritesOnTheWay.{IsWriteOn, KeptIsWrite}

-- Relabellings: the first version of the own epoch has the list of the version before it.
abbrev pub WasRelabelled : Book → Version → PhaseRecord → Type 0
WasRelabelled book v (Send poll spread) = HaveOneList book spread.old (first_of_epoch v.epoch)
WasRelabelled book v (Ready poll spread announced) = HaveOneList book spread.old (first_of_epoch v.epoch)
WasRelabelled book v _ = Unit {0}

pub record HoldsContents (db : Database) (book : Book) (s : Server) : Type 0 where
  pub image : IsImageOf db book s.version s.image
  pub relabelled : WasRelabelled book s.version s.phase
  -- Flights: the own version is a write on the announced one.
  pub flight : (poll : Polled) (spread : Spread) (announced : Version) (f : Flight) → s.phase ≡ Ready poll spread announced →
      s.flight ≡ Some f → IsWriteOn db book announced s.version (text_of f.changes)
  pub received : ReceivedIsFront db book s.received
  pub kept : KeptIsWrite db book s.version s.kept
