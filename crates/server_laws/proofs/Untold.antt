-- What the items of a fitting schedule tell of evaluations may be left out.
use Rattle.std.proofs.Common.{cond, ◌≡◌, ℕ, List, [], ◌∷◌, ◌++◌, map, refl, sym, ap, subst, ◌∙◌}
use Rattle.std.specs.Prelude.{Option, Some, None, IsSomeAnd}
use Rattle.db_image.specs.Database.{Database}
use Rattle.db_image.specs.Standing.{Standing}
use Rattle.cell_model.specs.Node.{Node, Down, Halted, Up, halted_from}
use Rattle.cell_model.specs.Step.{Stepped}
use Rattle.cell_model.specs.World.{World, Site, Trigger, Event, member, site_of, world_after}
use Rattle.journal_model.specs.Items.{JournalItem, bits, shorts_of}
use Rattle.journal_model.specs.Replay.{IsItemOf, Replayed, StaysHalted, item_replayed, made, refused}
use Rattle.journal_model.specs.Schedules.{ScheduleEntry, Tick, Tick_all, Open, Item, Stop, Progress, EntryFits, Fits, IsAllowed, IsOwn, ItemFits}
use Rattle.journal_model.specs.Schedules.{all_events, entered, events_of, item_event, item_untold, node_in, untold}
use Rattle.server_laws.specs.Laws.{AllMeant}
use Rattle.server_laws.proofs.Runs.{IsReached, goes, reached_more}
use Rattle.server_laws.proofs.Sites.{some_site}

-- ---- the events are the same

event_same : (node : Node) (trigger : Trigger) (item : JournalItem) (progress : Progress)
    → item_event node trigger (item_untold item) progress ≡ item_event node trigger item progress
event_same (Up s) trigger item progress = refl
event_same (Halted h) trigger item progress = refl
event_same Down trigger item progress = refl

events_same : (w : World) (entry : ScheduleEntry) → events_of w (untold entry) ≡ events_of w entry
events_same w (Tick server seconds) = refl
events_same w (Tick_all seconds) = refl
events_same w (Open server now found) = refl
events_same w (Item server trigger item progress) =
    ap (λ (e : Event). e ∷ []) (event_same (node_in (site_of w server)) trigger item progress)
events_same w (Stop server trigger progress) = refl

entered_same : (db : Database) (w : World) (entry : ScheduleEntry) → entered db w (untold entry) ≡ entered db w entry
entered_same db w entry = ap (world_after db w) (events_same w entry)

pub all_same : (db : Database) (w : World) (schedule : List ScheduleEntry) → all_events db w (map untold schedule) ≡ all_events db w schedule
all_same db w [] = refl
all_same db w (entry ∷ schedule) =
    ap (λ (events : List Event). events ++ all_events db (entered db w (untold entry)) (map untold schedule)) (events_same w entry)
    ∙ ap (λ (x : World). events_of w entry ++ all_events db x (map untold schedule)) (entered_same db w entry)
    ∙ ap (λ (events : List Event). events_of w entry ++ events) (all_same db (entered db w entry) schedule)

-- ---- what the world allows

some_map : (P Q : Site → Type 0) → ((site : Site) → P site → Q site) → (o : Option Site) → IsSomeAnd o P → IsSomeAnd o Q
some_map P Q to None is = is
some_map P Q to (Some site) is = to site is

allowed_untold : (w : World) (entry : ScheduleEntry) → IsAllowed w entry → IsAllowed w (untold entry)
allowed_untold w (Tick server seconds) allowed = allowed
allowed_untold w (Tick_all seconds) allowed = allowed
allowed_untold w (Open server now found) allowed = allowed
allowed_untold w (Item server trigger item progress) allowed = (
  allowed.0,
  some_map (ItemFits item) (ItemFits (item_untold item)) (λ site fits. record { up = fits.up; moment = fits.moment }) (site_of w server) allowed.1,
)
allowed_untold w (Stop server trigger progress) allowed = allowed

-- ---- what is the servers' own

stays_untold : (node : Node) (item : JournalItem) → StaysHalted node item → StaysHalted node (item_untold item)
stays_untold (Up s) item is = is
stays_untold (Halted h) item is = is
stays_untold Down item is = is

-- the step is the world's, with what is told and without
replayed_same : (d : Standing) (w : World) (k : ℕ) (site : Site) (item : JournalItem) → AllMeant d w → site_of w k ≡ Some site
    → IsItemOf d (member w k) site.node item → (node : Node) → site.node ≡ node
    → item_replayed d.database (member w k) node (item_untold item) ≡ item_replayed d.database (member w k) node item
replayed_same d w k site item meant there own (Up s) at =
    let is = meant k site s there at in
    ap (λ (t : Stepped). cond item.halted (refused (Halted (halted_from s)) item) (made t))
    (is [] tt (member w k) item.now item.event _ ∙ sym (is item.evaluations own.may (member w k) item.now item.event _))
replayed_same d w k site item meant there own (Halted h) at = refl
replayed_same d w k site item meant there own Down at = refl

own_untold : (d : Standing) (w : World) (entry : ScheduleEntry) → AllMeant d w → EntryFits d w entry → IsOwn d w (untold entry)
own_untold d w (Tick server seconds) meant fits = tt
own_untold d w (Tick_all seconds) meant fits = tt
own_untold d w (Open server now found) meant fits = tt
own_untold d w (Item server trigger item progress) meant fits =
    let site = some_site (ItemFits item) (site_of w server) fits.0.1 in
    let at : site.0.node ≡ node_in (site_of w server) = sym (ap node_in site.1) in
    let own : IsItemOf d (member w server) site.0.node item =
    subst (λ (node : Node). IsItemOf d (member w server) node item) (sym at) fits.1.item_of in
    let same = replayed_same d w server site.0 item meant site.1 own (node_in (site_of w server)) at in
    record {
      item_of = record {
        halted = stays_untold (node_in (site_of w server)) item fits.1.item_of.halted;
        short = fits.1.item_of.short ∙ ap (λ (r : Replayed). bits (shorts_of r.outputs)) (sym same);
        may = tt;
      };
      new = fits.1.new;
    }
own_untold d w (Stop server trigger progress) meant fits = tt

-- ---- a schedule

module _ (d : Standing) (start : World) (meant : (w : World) → IsReached d.database start w → AllMeant d w) where
  pub untold_fits : (w : World) (schedule : List ScheduleEntry) → IsReached d.database start w → Fits d w schedule → Fits d w (map untold schedule)
  untold_fits w [] reached fits = tt
  untold_fits w (entry ∷ schedule) reached fits =
      let next = reached_more d.database start w (events_of w entry) reached (goes d w entry (meant w reached) fits.0).run in (
        (allowed_untold w entry fits.0.0, own_untold d w entry (meant w reached) fits.0),
        subst (λ (x : World). Fits d x (map untold schedule)) (sym (entered_same d.database w entry))
            (untold_fits (entered d.database w entry) schedule next fits.1),
      )
