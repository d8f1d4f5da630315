-- The events of each entry that fits: they are events of the world, and what comes of them.
use Rattle.std.proofs.Common.{Bool, true, false, true≢false, cond, not, ◌&&◌, ◌≡◌, ℕ, List, [], ◌∷◌, ◌++◌, refl, sym, ap, ◌∙◌}
use Rattle.std.specs.Prelude.{Option, Some, filter_map}
use Rattle.db_image.specs.Database.{Database}
use Rattle.cell_model.specs.declared.events.NodeEvent.{NodeEvent}
use Rattle.cell_model.specs.declared.events.Output.{Output}
use Rattle.cell_model.specs.declared.events.Output.TheVariants as output
use Rattle.cell_model.specs.Node.{Node, Down, Halted, Up, Server, HaltedServer, halted_from}
use Rattle.cell_model.specs.NodeRule.{step_of}
use Rattle.cell_model.specs.Step.{Evaluation, Shown, Stepped, outputs_of}
use Rattle.cell_model.specs.World.{World, Site, Trigger, Event, Step, Stop, Fault, Happening, SiteHappened, happened_at, happens_at, triggered}
use Rattle.cell_model.specs.World.{step_at, stop_at, fault_at, occasion, member, site_of, happens, seen_of_output, seen_from, number_after, packet_of}
use Rattle.cell_model.specs.World.{asked_after, is_down, has_disk, is_new_ask, holds_at, occurs, may_be_down, may_step, may_stop, may_fail, IsEvent}
use Rattle.journal_model.specs.Items.{JournalItem, choices_of}
use Rattle.journal_model.specs.Replay.{Replayed, item_replayed, made, refused, step_in}
use Rattle.journal_model.specs.Schedules.{Progress, StepFits, item_event, output_in}

both : (a b : Bool) → a ≡ true → b ≡ true → (a && b) ≡ true
both true b first second = second
both false b first second = first

-- ---- what is seen of what is shown

output_first : (k number : ℕ) (o : Output) (evaluation : Option Evaluation) (seen : List Happening)
    → filter_map output_in (seen_of_output k number o evaluation ∷ seen) ≡ o ∷ filter_map output_in seen
output_first k number (output.Send packet) evaluation seen = refl
output_first k number (output.Reply id r) evaluation seen = refl
output_first k number (output.Announce version) evaluation seen = refl

pub outputs_seen : (k number : ℕ) (shown : List Shown) (marks : List Happening) → filter_map output_in marks ≡ []
    → filter_map output_in (seen_from k number shown ++ marks) ≡ outputs_of shown
outputs_seen k number [] marks silent = silent
outputs_seen k number (one ∷ shown) marks silent =
    output_first k number one.output one.evaluation (seen_from k (number_after number (packet_of one)) shown ++ marks)
    ∙ ap (λ (later : List Output). one.output ∷ later) (outputs_seen k (number_after number (packet_of one)) shown marks silent)

-- ---- a step of a server that is up

-- A trigger brings an event to server k, which is this one.
pub record IsBrought (w : World) (trigger : Trigger) (k : ℕ) (e : NodeEvent) (site : Site) : Type 0 where
  pub brought : occasion w trigger ≡ Some (k, e)
  pub there : site_of w k ≡ Some site
  pub fits : StepFits e site

module _ (db : Database) (w : World) (trigger : Trigger) (k : ℕ) (e : NodeEvent) (site : Site) (is : IsBrought w trigger k e site) where
  step_event : (short : List Bool) → IsEvent w (Step trigger short)
  step_event short =
      ap (occurs w (may_step trigger)) is.brought ∙ ap (holds_at (may_step trigger e)) is.there
      ∙ ap (λ (down : Bool). cond down (may_be_down trigger) (is_new_ask site.asked e)) is.fits.up ∙ is.fits.new

  pub stop_event : (short : List Bool) (made : ℕ) → IsEvent w (Stop trigger short made)
  stop_event short made =
      ap (occurs w may_stop) is.brought ∙ ap (holds_at (may_stop e)) is.there
      ∙ both _ (is_new_ask site.asked e) (ap not is.fits.up) is.fits.new

  fault_event : (short : List Bool) (made : ℕ) → has_disk site.node ≡ true → IsEvent w (Fault trigger short made)
  fault_event short made disk =
      ap (occurs w may_fail) is.brought ∙ ap (holds_at (may_fail e)) is.there ∙ both (has_disk site.node) (is_new_ask site.asked e) disk is.fits.new

  step_is : (short : List Bool) → happens db w (Step trigger short) ≡ happened_at w k (step_at db (member w k) trigger e short site site.node)
  step_is short =
      ap (triggered w (λ m e site. step_at db m trigger e short site site.node)) is.brought
      ∙ ap (happens_at w k (λ site. step_at db (member w k) trigger e short site site.node)) is.there

  pub stop_is : (short : List Bool) (made : ℕ) → happens db w (Stop trigger short made) ≡ happened_at w k (stop_at db (member w k) e short made site site.node)
  stop_is short made =
      ap (triggered w (λ m e site. stop_at db m e short made site site.node)) is.brought
      ∙ ap (happens_at w k (λ site. stop_at db (member w k) e short made site site.node)) is.there

  fault_is : (short : List Bool) (made : ℕ) → happens db w (Fault trigger short made) ≡ happened_at w k (fault_at db (member w k) e short made site site.node)
  fault_is short made =
      ap (triggered w (λ m e site. fault_at db m e short made site site.node)) is.brought
      ∙ ap (happens_at w k (λ site. fault_at db (member w k) e short made site site.node)) is.there

  -- a server that stops is down
  pub stopped : (short : List Bool) (made : ℕ) (node : Node) → is_down node ≡ false → (stop_at db (member w k) e short made site node).site.node ≡ Down
  stopped short made (Up s) up = refl
  stopped short made (Halted h) up = refl
  stopped short made Down up = absurd (cc)

-- ---- an item

-- What comes of an event at a server: it is one of the world, leaves this server and these ids that were asked there, and puts this out.
pub record Comes (db : Database) (w : World) (k : ℕ) (event : Event) (r : Replayed) (ids : List ℕ) : Type 0 where
  pub happened : SiteHappened
  pub event_of : IsEvent w event
  pub is : happens db w event ≡ happened_at w k happened
  pub node : happened.site.node ≡ r.node
  pub asked : happened.site.asked ≡ ids
  pub shown : outputs_of happened.shown ≡ r.outputs
  pub silent : filter_map output_in happened.marks ≡ []

module _ (db : Database) (w : World) (trigger : Trigger) (k : ℕ) (item : JournalItem) (progress : Progress) (site : Site)
    (is : IsBrought w trigger k item.event site) (moment : item.now ≡ site.clock)
    (meant : (s : Server) → site.node ≡ Up s → step_in db (member w k) s item ≡ step_of db (member w k) s item.now item.event (choices_of item)) where
  abbrev ComesOf : Event → Replayed → Type 0
  ComesOf event r = Comes db w k event r (asked_after site.asked item.event)

  -- the world's step at the server's clock is the item's
  step_is_in : (s : Server) → site.node ≡ Up s → step_of db (member w k) s site.clock item.event (choices_of item) ≡ step_in db (member w k) s item
  step_is_in s at =
      ap (λ (now : ℕ). step_of db (member w k) s now item.event (choices_of item)) (sym moment) ∙ sym (meant s at)

  at_up : (s : Server) → site.node ≡ Up s → ComesOf (item_event (Up s) trigger item progress) (item_replayed db (member w k) (Up s) item)
  at_up s at = by item.halted
    where
      by : (halted : Bool) → ComesOf (cond halted (Fault trigger progress.short progress.made) (Step trigger (choices_of item)))
          (cond halted (refused (Halted (halted_from s)) item) (made (step_in db (member w k) s item)))
      by true = record {
        happened = fault_at db (member w k) item.event progress.short progress.made site (Up s);
        event_of = fault_event db w trigger k item.event site is progress.short progress.made (ap has_disk at);
        is =
            fault_is db w trigger k item.event site is progress.short progress.made
            ∙ ap (λ (node : Node). happened_at w k (fault_at db (member w k) item.event progress.short progress.made site node)) at;
        node = refl;
        asked = refl;
        shown = refl;
        silent = refl;
      }
      by false = record {
        happened = step_at db (member w k) trigger item.event (choices_of item) site (Up s);
        event_of = step_event db w trigger k item.event site is (choices_of item);
        is =
            step_is db w trigger k item.event site is (choices_of item)
            ∙ ap (λ (node : Node). happened_at w k (step_at db (member w k) trigger item.event (choices_of item) site node)) at;
        node = ap (λ (t : Stepped). Up t.server) (step_is_in s at);
        asked = refl;
        shown = ap (λ (t : Stepped). outputs_of t.shown) (step_is_in s at);
        silent = refl;
      }

  at_halted : (h : HaltedServer) → site.node ≡ Halted h
      → ComesOf (item_event (Halted h) trigger item progress) (item_replayed db (member w k) (Halted h) item)
  at_halted h at = record {
    happened = step_at db (member w k) trigger item.event (choices_of item) site (Halted h);
    event_of = step_event db w trigger k item.event site is (choices_of item);
    is =
        step_is db w trigger k item.event site is (choices_of item)
        ∙ ap (λ (node : Node). happened_at w k (step_at db (member w k) trigger item.event (choices_of item) site node)) at;
    node = at;
    asked = refl;
    shown = refl;
    silent = refl;
  }

  pub item_comes : (node : Node) → site.node ≡ node → ComesOf (item_event node trigger item progress) (item_replayed db (member w k) node item)
  item_comes (Up s) at = at_up s at
  item_comes (Halted h) at = at_halted h at
  item_comes Down at = absurd (true≢false (sym (ap is_down at) ∙ is.fits.up))
