-- What the run of a script is worth in a cell of every size (own).
use Rattle.std.specs.Prelude.{◌≡◌, ℕ, true, Some, IfSome, List, [], ◌∷◌, ◌++◌, All}
use Rattle.db_image.specs.Database.{Database}
use Rattle.db_image.specs.Meaning.{reply_of}
use Rattle.db_image.specs.Standing.{Standing}
use Rattle.ubik_calls.specs.declared.replies.Reply.{Reply}
use Rattle.ubik_calls.specs.declared.replies.Reply.TheVariants as reply
use Rattle.cell_model.specs.Book.{Book, Given, list_of, order_of, is_ready_site, site_database}
use Rattle.cell_model.specs.Durable.{Transaction}
use Rattle.cell_model.specs.KeptLaws.{IsPlaced, IsReplyOf}
use Rattle.cell_model.specs.Laws.{Grows}
use Rattle.cell_model.specs.Node.{Up, Server}
use Rattle.cell_model.specs.SingleCopy.{image_after}
use Rattle.cell_model.specs.Step.{Basis, Commit_on}
use Rattle.cell_model.specs.World.{Site, Event, member, site_of, happens}
use Rattle.cell_pages.specs.Images.{KeepsImages}
use Rattle.cell_orders.specs.Asked.{AnswersAsk}
use Rattle.cell_orders.specs.Replies.{transaction_in, version_in_reply, IsSingleReply, IsAtSync, HasEvaluation, PrefixesStay}
use Rattle.cell_script.specs.declared.lines.Kind.{Kind}
use Rattle.cell_runs.specs.Script.{LineRead, Cell, told}
use Rattle.cell_runs.specs.ScriptDatabase.{Databases}
use Rattle.script_laws.specs.Runs.{NamesCalls, database_of, run_of}
use Rattle.script_promises.specs.Databases.{databases, standing_of}
use Rattle.script_promises.specs.Kept.{state_after}

-- One order, what is kept in it, and single replies: of the run of a cell over this database.
pub record HasOrder (db : Database) (c : Cell) : Type 0 where
  -- the list of each announcement is a front of the list of each later one
  pub order : Grows (run_of db c c.events).announcements
  -- what was acknowledged at any place of the run is in the order at each later one, at its place
  pub stays : (front middle back : List Event) → c.events ≡ (front ++ middle) ++ back →
      All (IsPlaced (order_of (run_of db c (front ++ middle)).announcements)) (run_of db c front).acknowledged
  -- the database of each ready sync site at any place of the run is the image of the single copy after the order there
  pub sites : (front back : List Event) → c.events ≡ front ++ back →
      let r = run_of db c front in
      (k : ℕ) (site : Site) (s : Server) → site_of r.world k ≡ Some site → site.node ≡ Up s →
      is_ready_site (member r.world k) site.clock (Up s) ≡ true → site_database s ≡ image_after db (order_of r.announcements)
  -- each Ok and each Rule of an event is a reply that the database gave
  pub given : (front back : List Event) (e : Event) → c.events ≡ front ++ e ∷ back →
      All HasEvaluation (happens db (run_of db c front).world e).seen
  -- each such reply is to a call that was asked at its server before, under its id
  pub asked : (front back : List Event) → c.events ≡ front ++ back → All (AnswersAsk front) (run_of db c front).given
  -- and is the single copy's after a front of the order, by any place of the run
  pub replies : (front back : List Event) → c.events ≡ front ++ back →
      let r = run_of db c front in All (IsSingleReply db r.book (order_of r.announcements)) r.given
  -- each reply that the sync site gave behind a place was evaluated on an order that has all that was acknowledged there
  pub acknowledged : (front middle back : List Event) → c.events ≡ (front ++ middle) ++ back →
      let r = run_of db c front in
      (new : List Given) × ((run_of db c (front ++ middle)).given ≡ new ++ r.given)
      × All (λ (g : Given). IsAtSync g.evaluation.basis → All (IsPlaced g.order) r.acknowledged) new
  -- the lists from which one server replied grow as prefixes
  pub prefixes : let r = run_of db c c.events in PrefixesStay r.book r.given

-- Whatever the lines, whatever the disks do, and whatever the databases, as long as no call makes an image shorter: a cell that
-- stands after the lines has this.
abbrev pub ScriptsHaveOrder : Type 0
ScriptsHaveOrder =
    (dbs : Databases) → NamesCalls dbs → ((k : Kind) → KeepsImages (dbs k).database) → (readings : List LineRead) →
    IfSome (told dbs readings).stage.cell (λ c. HasOrder (database_of dbs c) c)

-- ---- a database with what it means

-- an Ok to a call that writes, which is no commit's, leaves the state
abbrev pub LeavesState : Standing → List Transaction → Given → Basis → Reply → Type 0
LeavesState d list g (Commit_on old new) r = Unit {0}
LeavesState d list g _ (reply.Ok fields) =
    d.database.writes g.evaluation.call ≡ Some true → state_after d (list ++ transaction_in g ∷ []) ≡ state_after d list
LeavesState d list g _ r = Unit {0}

-- the reply is what its call means for the state of the list of the version under it
pub record IsMeantReply (d : Standing) (book : Book) (g : Given) : Type 0 where
  pub list : List Transaction
  pub listed : list_of book (version_in_reply g) ≡ Some list
  pub meant : IsReplyOf (reply_of d.meaning list g.evaluation.moment g.evaluation.call) g.reply
  pub leaves : LeavesState d list g g.evaluation.basis g.reply

pub record HasMeaning (d : Standing) (c : Cell) : Type 0 where
  pub order : HasOrder d.database c
  -- the database of each ready sync site stands for the state of the order
  pub states : (front back : List Event) → c.events ≡ front ++ back →
      let r = run_of d.database c front in
      (k : ℕ) (site : Site) (s : Server) → site_of r.world k ≡ Some site → site.node ≡ Up s →
      is_ready_site (member r.world k) site.clock (Up s) ≡ true → d.StandsFor (site_database s) (state_after d (order_of r.announcements))
  pub replies : (front back : List Event) → c.events ≡ front ++ back →
      let r = run_of d.database c front in All (IsMeantReply d r.book) r.given

-- Whatever the lines, and whatever the disks do: a cell that stands after them has this, of its own database.
abbrev pub CellsKeepPromises : Type 0
CellsKeepPromises = (readings : List LineRead) → IfSome (told databases readings).stage.cell (λ c. HasMeaning (standing_of c) c)
