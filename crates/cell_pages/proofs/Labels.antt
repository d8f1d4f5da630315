-- After each run of each cell one version is one list and one image.
use Rattle.std.proofs.Common.{length, Bool, ℕ, List, [], ◌∷◌, refl, subst}
use Rattle.ubik_types.specs.declared.hosts.Host.{Host}
use Rattle.ubik_types.specs.declared.versions.Version.{Version}
use Rattle.ubik_calls.specs.declared.packets.Body.{Body}
use Rattle.ubik_calls.specs.declared.packets.Body.TheVariants as body
use Rattle.ubik_calls.specs.declared.packets.Packet.{Packet}
use Rattle.db_image.specs.Database.{Database}
use Rattle.lease_model.specs.Rules.{AreSafe, cell_rules}
use Rattle.lease_model.specs.Runs as runs
use Rattle.cell_model.specs.Book.{Book, Run, first_run}
use Rattle.cell_model.specs.World.{World, Event, IsFirst, IsRun, first_world}
use Rattle.cell_laws.proofs.Cells.{first_good}
use Rattle.cell_pages.specs.Contents.{Carries}
use Rattle.cell_pages.specs.Images.{IsImageOf}
use Rattle.cell_pages.specs.Laws.{run_of, MadeOnce}
use Rattle.cell_pages.specs.OneLabel.{IsSentOf, HasOneLabel, OneLabel}
use Rattle.cell_pages.specs.Pages.{ListsGoOn}
use Rattle.cell_pages.specs.Passes.{NodeKeeps, WorldKeeps}
use Rattle.cell_pages.specs.Says.{AllPackets}
use Rattle.cell_pages.proofs.Holding.{Both, BothDurable, Pages, contents_pass}
use Rattle.cell_pages.proofs.Keeping.{one_image}
use Rattle.cell_pages.proofs.Making.{once_grew}
use Rattle.cell_pages.proofs.Runs.{along, first_keeps}

sent_of : (db : Database) (book : Book) (b : Body) → Carries db book b → IsSentOf db book b
sent_of db book (body.Piece poll version total offset bytes) is = is
sent_of db book (body.SendPiece poll version total offset bytes) is = is
sent_of db book _ is = tt

all_sent : (db : Database) (book : Book) (packets : List Packet) → AllPackets (Carries db book) packets →
    AllPackets (IsSentOf db book) packets
all_sent db book [] all = tt
all_sent db book (p ∷ packets) all = (sent_of db book p.body all.0, all_sent db book packets all.1)

module _ (safe : AreSafe cell_rules) (db : Database) where
  abbrev Keeps : World → Book → Type 0
  Keeps w book =
      WorldKeeps (Both db MadeOnce once_grew) (BothDurable db MadeOnce once_grew) (Carries db)
      (Pages db MadeOnce once_grew) w book

  reached : (hosts : List Host) (clock : ℕ) (failed : List Bool) (events : List Event) → IsFirst hosts clock failed →
      IsRun db (first_world hosts clock failed) events →
      Keeps (run_of db hosts clock failed events).world (run_of db hosts clock failed events).book
  reached hosts clock failed events first run =
      along db (Both db MadeOnce once_grew) (BothDurable db MadeOnce once_grew) (Carries db) (Pages db MadeOnce once_grew)
      (contents_pass db MadeOnce once_grew) safe (first_run (first_world hosts clock failed)) (runs.first cell_rules clock failed)
      events (first_good hosts clock failed first)
      (first_keeps db (Both db MadeOnce once_grew) (BothDurable db MadeOnce once_grew) (Carries db) (Pages db MadeOnce once_grew)
      (contents_pass db MadeOnce once_grew) hosts clock failed (tt, tt)
      (λ k. (tt, record { list = []; listed = refl; image_is = λ good. refl }))) run

  -- what a run reached has one label
  labelled : (r : Run) → Keeps r.world r.book → HasOneLabel db r
  labelled r keeps = record {
    once = keeps.pages.0;
    durable = λ k site get. (keeps.sites k site get).durable.1;
    up = λ k site s get is_up.
        (subst (NodeKeeps (λ lease. Both db MadeOnce once_grew k lease r.book) (length r.world.hosts) site.clock site.durable) is_up
        (keeps.sites k site get).node).1.1.image;
    sent = all_sent db r.book r.world.packets keeps.packets;
    alike = λ good j k x y at_x at_y same.
        one_image db r.book good y.durable.version x.durable.image y.durable.image
        (subst (λ (v : Version). IsImageOf db r.book v x.durable.image) same (keeps.sites j x at_x).durable.1)
        (keeps.sites k y at_y).durable.1;
  }

pub one_label : AreSafe cell_rules → OneLabel
one_label safe db hosts clock failed events first run =
    labelled safe db (run_of db hosts clock failed events) (reached safe db hosts clock failed events first run)

pub lists_go_on : AreSafe cell_rules → ListsGoOn
lists_go_on safe db hosts clock failed events first run = (reached safe db hosts clock failed events first run).pages.1
