-- A cell that stands after the lines of a script is a run of the world, and so the laws of such runs are its.
use Rattle.std.proofs.Common.{◌≡◌, ℕ, List, [], ◌∷◌, ◌++◌, Option, Some, None, IfSome, sym, subst, arith}
use Rattle.std.proofs.lemmas.List.Elements.{All-weaker}
use Rattle.std.specs.Prelude.{All, Contains}
use Rattle.db_image.specs.Database.{Database}
use Rattle.db_image.specs.Standing.{Standing}
use Rattle.ubik_calls.specs.declared.replies.Reply.{Reply}
use Rattle.ubik_calls.specs.declared.replies.Reply.TheVariants as reply
use Rattle.cell_model.specs.Book.{Book, Given, Run, order_of, first_run, run_through}
use Rattle.cell_model.specs.Durable.{Transaction}
use Rattle.cell_model.specs.KeptLaws.{IsPlaced, IsReplyOf}
use Rattle.cell_model.specs.Step.{Basis, Announced_image, Beacon_image, Commit_on}
use Rattle.cell_model.specs.World.{World, Event, IsRun, IsFirst, happens, world_after}
use Rattle.cell_pages.specs.Images.{KeepsImages}
use Rattle.cell_orders.specs.Laws as laws
use Rattle.cell_orders.specs.Replies.{transaction_in, LeavesCopy, IsSingleReply, IsAtSync}
use Rattle.cell_script.specs.declared.lines.Kind.{Kind}
use Rattle.cell_runs.specs.Script.{Cell, Told, kind_of_cell, told}
use Rattle.cell_runs.specs.ScriptDatabase.{Databases}
use Rattle.script_laws.specs.Runs.{NamesCalls, IsRunOfCell, ScriptsAreRuns, database_of, run_of, first_of}
use Rattle.script_laws.proofs.Parts.{run-append}
use Rattle.script_promises.specs.Databases.{databases, standing_of, standings}
use Rattle.script_promises.specs.Kept.{state_after}
use Rattle.script_promises.specs.Lawful.{IsLawful}
use Rattle.script_promises.proofs.SingleStates.{image_stands, reply_meant, state_left}
use Rattle.cell_promises.specs.Promises.{HasOrder, ScriptsHaveOrder, LeavesState, IsMeantReply, HasMeaning, CellsKeepPromises}

-- the laws of runs, of every cell
pub record OrderLaws : Type 0 where
  pub order : laws.AnnouncementsGrow
  pub stay : laws.AcknowledgedStay
  pub sites : laws.SitesServeTheOrder
  pub single : laws.RepliesAreSingle
  pub given : laws.RepliesAreGiven
  pub asked : laws.RepliesAnswerAsks
  pub acknowledged : laws.RepliesHaveAcknowledged
  pub prefixes : laws.RepliesGrow

-- ---- parts of a run

front_run : (db : Database) (w : World) (front back : List Event) → IsRun db w (front ++ back) → IsRun db w front
front_run db w [] back run = tt
front_run db w (e ∷ front) back run = (run.0, front_run db (happens db w e).world front back run.1)

back_run : (db : Database) (w : World) (front back : List Event) → IsRun db w (front ++ back) → IsRun db (world_after db w front) back
back_run db w [] back run = run
back_run db w (e ∷ front) back run = back_run db (happens db w e).world front back run.1

module _ (laws_hold : OrderLaws) (db : Database) (keeps : KeepsImages db) (c : Cell)
    (first : IsFirst c.run.world.hosts c.opening.clock c.opening.failed) (legal : IsRun db (first_of c) c.events) where
  front_legal : (front back : List Event) → c.events ≡ front ++ back → IsRun db (first_of c) front
  front_legal front back split = front_run db (first_of c) front back (subst (IsRun db (first_of c)) split legal)

  middle_legal : (front middle back : List Event) → c.events ≡ (front ++ middle) ++ back →
      IsRun db (world_after db (first_of c) front) middle
  middle_legal front middle back split = back_run db (first_of c) front middle (front_legal (front ++ middle) back split)

  before_legal : (front middle back : List Event) → c.events ≡ (front ++ middle) ++ back → IsRun db (first_of c) front
  before_legal front middle back split = front_run db (first_of c) front middle (front_legal (front ++ middle) back split)

  whole : (front middle : List Event) → run_through db (run_of db c front) middle ≡ run_of db c (front ++ middle)
  whole front middle = sym (run-append db (first_run (first_of c)) front middle)

  pub has_order : HasOrder db c
  has_order = record {
    order = laws_hold.order db c.run.world.hosts c.opening.clock c.opening.failed c.events first legal;
    stays = λ front middle back split.
        subst (λ (x : Run). All (IsPlaced (order_of x.announcements)) (run_of db c front).acknowledged) (whole front middle)
        (All-weaker
        (λ a. Contains (run_through db (run_of db c front) middle).acknowledged a
        × IsPlaced (order_of (run_through db (run_of db c front) middle).announcements) a)
        (IsPlaced (order_of (run_through db (run_of db c front) middle).announcements)) (λ a both. both.1) (run_of db c front).acknowledged
        (laws_hold.stay db c.run.world.hosts c.opening.clock c.opening.failed front middle first (before_legal front middle back split)
        (middle_legal front middle back split)));
    sites = λ front back split k site s get up ready.
        (laws_hold.sites db c.run.world.hosts c.opening.clock c.opening.failed front first (front_legal front back split) k site s get up
        ready).database keeps;
    given = λ front back e split.
        laws_hold.given db c.run.world.hosts c.opening.clock c.opening.failed front e first (front_legal front (e ∷ back) split);
    asked = λ front back split.
        laws_hold.asked db c.run.world.hosts c.opening.clock c.opening.failed front first (front_legal front back split);
    replies = λ front back split.
        laws_hold.single db c.run.world.hosts c.opening.clock c.opening.failed front first (front_legal front back split);
    acknowledged = λ front middle back split.
        subst
        (λ (x : Run). (new : List Given) × (x.given ≡ new ++ (run_of db c front).given)
        × All (λ (g : Given). IsAtSync g.evaluation.basis → All (IsPlaced g.order) (run_of db c front).acknowledged) new)
        (whole front middle)
        (laws_hold.acknowledged db c.run.world.hosts c.opening.clock c.opening.failed front middle first
        (before_legal front middle back split) (middle_legal front middle back split));
    prefixes = laws_hold.prefixes db c.run.world.hosts c.opening.clock c.opening.failed c.events first legal;
  }

cell_order : OrderLaws → (dbs : Databases) → ((k : Kind) → KeepsImages (dbs k).database) → (t : Told) (cell : Option Cell) →
    IsRunOfCell dbs t cell → IfSome cell (λ c. HasOrder (database_of dbs c) c)
cell_order laws_hold dbs keep t None run = tt
cell_order laws_hold dbs keep t (Some c) run = has_order laws_hold (database_of dbs c) (keep c.opening.kind) c run.first run.legal

pub scripts_have_order : OrderLaws → ScriptsAreRuns → ScriptsHaveOrder
scripts_have_order laws_hold runs dbs names keep readings =
    cell_order laws_hold dbs keep (told dbs readings) (told dbs readings).stage.cell (runs dbs names readings)

-- ---- a database with what it means

module _ (d : Standing) (of : IsLawful d) where
  pub keeps_images : KeepsImages d.database
  keeps_images = record { block = λ is. absurd (omega (arith, is, of.block)); grows = of.never_shrinks }

  leaves_state : (list : List Transaction) (g : Given) (b : Basis) (r : Reply) → LeavesCopy d.database list g b r → LeavesState d list g b r
  leaves_state list g (Commit_on old new) r is = tt
  leaves_state list g (Announced_image v) (reply.Ok fields) is = λ writes. state_left d of list (transaction_in g) (is writes)
  leaves_state list g (Beacon_image v) (reply.Ok fields) is = λ writes. state_left d of list (transaction_in g) (is writes)
  leaves_state list g (Announced_image v) _ is = tt
  leaves_state list g (Beacon_image v) _ is = tt

  meant_reply : (book : Book) (order : List Transaction) (g : Given) → IsSingleReply d.database book order g → IsMeantReply d book g
  meant_reply book order g is = record {
    list = is.list;
    listed = is.listed;
    meant =
        subst (λ r. IsReplyOf r g.reply) (reply_meant d of is.list g.evaluation.moment g.evaluation.call) (is.replied keeps_images);
    leaves = leaves_state is.list g g.evaluation.basis g.reply (is.leaves keeps_images);
  }

  has_meaning : (c : Cell) → HasOrder d.database c → HasMeaning d c
  has_meaning c is = record {
    order = is;
    states = λ front back split k site s get up ready.
        subst (λ (image : List ℕ). d.StandsFor image (state_after d (order_of (run_of d.database c front).announcements)))
        (sym (is.sites front back split k site s get up ready))
        (image_stands d of (order_of (run_of d.database c front).announcements));
    replies = λ front back split.
        All-weaker (IsSingleReply d.database (run_of d.database c front).book (order_of (run_of d.database c front).announcements))
        (IsMeantReply d (run_of d.database c front).book)
        (λ g single. meant_reply (run_of d.database c front).book (order_of (run_of d.database c front).announcements) g single)
        (run_of d.database c front).given (is.replies front back split);
  }

-- ---- the cells of scripts

module _ (lawful : (k : Kind) → IsLawful (standings k)) where
  over_cell : (cell : Option Cell) → IfSome cell (λ c. HasOrder (database_of databases c) c) → IfSome cell (λ c. HasMeaning (standing_of c) c)
  over_cell None is = tt
  over_cell (Some c) is = has_meaning (standing_of c) (lawful (kind_of_cell c)) c is

  pub cells_keep_promises : ScriptsHaveOrder → NamesCalls databases → CellsKeepPromises
  cells_keep_promises has names readings =
      over_cell (told databases readings).stage.cell (has databases names (λ k. keeps_images (standings k) (lawful k)) readings)
