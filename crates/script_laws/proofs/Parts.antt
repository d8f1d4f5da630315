-- A part of a line: the events that it brings to a cell, and what it tells of them.
use Rattle.std.proofs.Common.{Bool, true, false, cond, true≢false, ◌≡◌, ℕ, ◌+◌, ◌-◌, List, [], ◌∷◌, ◌++◌, length, refl, sym, ap, subst, ◌∙◌}
use Rattle.std.proofs.Common.{append_assoc, arith}
use Rattle.std.proofs.lemmas.List.{append-nil, length-append, length-replicate}
use Rattle.std.proofs.lemmas.List.Elements.{All-nil, All-cons, All-append}
use Rattle.std.specs.Prelude.{Option, Some, None, All, replicate, set, nat_lt}
use Rattle.ubik_calls.specs.Length.{packet_length}
use Rattle.db_image.specs.Database.{Database}
use Rattle.cell_model.specs.declared.events.NodeEvent.{NodeEvent}
use Rattle.cell_model.specs.Book.{Run, run_after, run_through}
use Rattle.cell_model.specs.Node.{Node, Down, Halted, Up, Server}
use Rattle.cell_places.specs.Places.{PacketsHavePlaces}
use Rattle.cell_model.specs.World.{Site, World, Trigger, Event, Step, Stop, Fault, Happening, Sent, Announced, Replied, Lost, Stops, Halts, Restarts}
use Rattle.cell_model.specs.World.{Stays_down, IsRun, happens, world_after, seen_of, is_down, may_be_down}
use Rattle.cell_runs.specs.declared.limits.TheConstants.{MAX_PACKETS, MAX_PACKET_BYTES}
use Rattle.cell_runs.specs.declared.endings.Ending.{Ending}
use Rattle.cell_runs.specs.declared.endings.Ending.TheVariants.{Limit}
use Rattle.cell_runs.specs.declared.endings.Which.TheVariants.{Packets, PacketBytes}
use Rattle.cell_runs.specs.Script.{Choice, Armed, Opening, Cell, Cell_run, Within, bytes_of, counted_on, within, within_more, within_packet}
use Rattle.cell_runs.specs.Script.{with_event, joined_run, DiskOutcome, Serves, Fails_after, Stops_after, outcome_at, outcome_of, armed_at, node_in}
use Rattle.cell_runs.specs.Script.{place_in, stepped_so, stepped}
use Rattle.cell_runs.specs.ScriptDatabase.{ScriptDatabase}
use Rattle.cell_runs.specs.Trace.{TraceItem, Tells, Shows}
use Rattle.script_laws.specs.Runs.{happenings_of, is_of_packets, IsScripted}
use Rattle.script_laws.specs.CellRuns.{Fits}
use Rattle.script_laws.proofs.Steps.{IsLegal, IsOccasion, step_legal, stop_legal, fault_legal}

-- ---- lists

pub happenings-append : (items more : List TraceItem) → happenings_of (items ++ more) ≡ happenings_of items ++ happenings_of more
happenings-append [] more = refl
happenings-append (Tells h ∷ items) more = ap (λ (seen : List Happening). h ∷ seen) (happenings-append items more)
happenings-append (Shows server clock showing ∷ items) more = happenings-append items more

pub run-append : (db : Database) (r : Run) (front back : List Event)
    → run_through db r (front ++ back) ≡ run_through db (run_through db r front) back
run-append db r [] back = refl
run-append db r (e ∷ front) back = run-append db (run_after db r e) front back

pub world_of_run : (db : Database) (r : Run) (events : List Event) → (run_through db r events).world ≡ world_after db r.world events
world_of_run db r [] = refl
world_of_run db r (e ∷ events) = world_of_run db (run_after db r e) events

pub legal-append : (db : Database) (w : World) (front back : List Event) → IsRun db w front → IsRun db (world_after db w front) back
    → IsRun db w (front ++ back)
legal-append db w [] back first second = second
legal-append db w (e ∷ front) back first second = (first.0, legal-append db (happens db w e).world front back first.1 second)

pub seen-append : (db : Database) (w : World) (front back : List Event)
    → seen_of db w (front ++ back) ≡ seen_of db w front ++ seen_of db (world_after db w front) back
seen-append db w [] back = refl
seen-append db w (e ∷ front) back =
    ap (λ (seen : List Happening). (happens db w e).seen ++ seen) (seen-append db (happens db w e).world front back)
    ∙ sym (append_assoc (happens db w e).seen (seen_of db (happens db w e).world front)
    (seen_of db (world_after db (happens db w e).world front) back))

-- ---- what is told within the limits

-- packets, or their bytes, passed a limit
abbrev pub ends_by_packets : Option Ending → Bool
ends_by_packets None = false
ends_by_packets (Some ending) = is_of_packets ending

record IsWithin (seen : List Happening) (told : Within) : Type 0 where
  pub back : List Happening
  pub split : seen ≡ happenings_of told.items ++ back
  pub whole : ends_by_packets told.ending ≡ false → back ≡ []

one_within : (h : Happening) (seen : List Happening) (told : Within) → IsWithin seen told → IsWithin (h ∷ seen) (within_more (Tells h) told)
one_within h seen told is = record { back = is.back; split = ap (λ (l : List Happening). h ∷ l) is.split; whole = is.whole }

packet_within : (h : Happening) (seen : List Happening) (told : Within) (number bytes : Bool) → IsWithin seen told
    → IsWithin (h ∷ seen) (within_packet (Tells h) (cond number (Some (Limit Packets)) (cond bytes (Some (Limit PacketBytes)) None)) told)
packet_within h seen told true bytes is = record { back = h ∷ seen; split = refl; whole = λ never. absurd (true≢false never) }
packet_within h seen told false true is = record { back = h ∷ seen; split = refl; whole = λ never. absurd (true≢false never) }
packet_within h seen told false false is = one_within h seen told is

within_is : (bytes : ℕ) (seen : List Happening) → IsWithin seen (within bytes seen)
within_is bytes [] = record { back = []; split = refl; whole = λ _. refl }
within_is bytes (Sent number p ∷ seen) =
    packet_within (Sent number p) seen (within (bytes + packet_length p) seen) (nat_lt MAX_PACKETS number)
    (nat_lt MAX_PACKET_BYTES (bytes + packet_length p))
    (within_is (bytes + packet_length p) seen)
within_is bytes (Announced server version ∷ seen) = one_within (Announced server version) seen (within bytes seen) (within_is bytes seen)
within_is bytes (Replied server id reply evaluation ∷ seen) =
    one_within (Replied server id reply evaluation) seen (within bytes seen) (within_is bytes seen)
within_is bytes (Lost number ∷ seen) = one_within (Lost number) seen (within bytes seen) (within_is bytes seen)
within_is bytes (Stops server ∷ seen) = one_within (Stops server) seen (within bytes seen) (within_is bytes seen)
within_is bytes (Halts server ∷ seen) = one_within (Halts server) seen (within bytes seen) (within_is bytes seen)
within_is bytes (Restarts server version ∷ seen) = one_within (Restarts server version) seen (within bytes seen) (within_is bytes seen)
within_is bytes (Stays_down server ∷ seen) = one_within (Stays_down server) seen (within bytes seen) (within_is bytes seen)

-- ---- parts

-- These events come to the run of a cell; all that is seen of them is told, unless packets pass a limit. A script may bring them, where what
-- is asked is a call.
pub record IsPart (calls : Type 0) (script_db : ScriptDatabase) (later : ℕ) (opening : Opening) (before : List Event) (run : Run)
    (r : Cell_run) : Type 0 where
  pub opening_is : r.cell.opening ≡ opening
  pub events : List Event
  pub brought : r.cell.events ≡ before ++ events
  pub run_is : r.cell.run ≡ run_through script_db.database run events
  pub scripted : calls → All (IsScripted script_db.database) events
  pub legal : IsRun script_db.database run.world events
  pub hosts : r.cell.run.world.hosts ≡ run.world.hosts
  pub back : List Happening
  pub seen : seen_of script_db.database run.world events ≡ happenings_of r.items ++ back
  pub whole : ends_by_packets r.ending ≡ false → back ≡ []
  pub fits : Fits later r.cell.run.world
  pub handed : length r.cell.handed ≡ length r.cell.run.world.packets

-- nothing comes to the run
pub resting_part : (calls : Type 0) (script_db : ScriptDatabase) (later : ℕ) (c : Cell) (handed : List Bool) (armed : List (Option Armed))
    (items : List TraceItem) → Fits later c.run.world
    → length handed ≡ length c.run.world.packets → happenings_of items ≡ []
    → IsPart calls script_db later c.opening c.events c.run
    (record { cell = record c { handed = handed; armed = armed }; items = items; ending = None })
resting_part calls script_db later c handed armed items fits each none = record {
  opening_is = refl;
  events = [];
  brought = sym (append-nil c.events);
  run_is = refl;
  scripted = λ _. All-nil (IsScripted script_db.database);
  legal = tt;
  hosts = refl;
  back = [];
  seen = sym (append-nil (happenings_of items) ∙ none);
  whole = λ _. refl;
  fits = fits;
  handed = each;
}

-- one event
pub event_part : (calls : Type 0) (script_db : ScriptDatabase) (later : ℕ) (c : Cell) (e : Event) → length c.handed ≡ length c.run.world.packets
    → IsLegal calls script_db.database later c.run.world e
    → IsPart calls script_db later c.opening c.events c.run (with_event script_db c e)
event_part calls script_db later c e each is =
    let h = happens script_db.database c.run.world e in
    let more = length h.world.packets - length c.run.world.packets in
    let told = within_is (bytes_of c.run.world.packets) h.seen in
    record {
      opening_is = refl;
      events = e ∷ [];
      brought = refl;
      run_is = refl;
      scripted = λ named. All-cons (IsScripted script_db.database) e [] (is.scripted named) (All-nil (IsScripted script_db.database));
      legal = (is.event, tt);
      hosts = is.hosts;
      back = told.back;
      seen = append-nil h.seen ∙ told.split;
      whole = told.whole;
      fits = is.fits;
      handed = omega (arith, length-append c.handed (replicate more false), length-replicate more false, is.grows);
    }

-- one part, and then another
pub joined_part : (calls : Type 0) (script_db : ScriptDatabase) (asks later : ℕ) (opening : Opening) (before : List Event) (run : Run) (r next : Cell_run)
    → IsPart calls script_db asks opening before run r → r.ending ≡ None
    → IsPart calls script_db later r.cell.opening r.cell.events r.cell.run next
    → IsPart calls script_db later opening before run (joined_run r.items next)
joined_part calls script_db asks later opening before run r next first goes second =
    let db : Database = script_db.database in
    let world : r.cell.run.world ≡ world_after db run.world first.events =
    ap (λ (x : Run). x.world) first.run_is ∙ world_of_run db run first.events in
    let whole : first.back ≡ [] = first.whole (ap ends_by_packets goes) in
    let told : seen_of db run.world first.events ≡ happenings_of r.items =
    first.seen ∙ ap (λ (back : List Happening). happenings_of r.items ++ back) whole ∙ append-nil (happenings_of r.items) in
    record {
      opening_is = second.opening_is ∙ first.opening_is;
      events = first.events ++ second.events;
      brought = second.brought ∙ ap (λ (l : List Event). l ++ second.events) first.brought ∙ append_assoc before first.events second.events;
      run_is =
          second.run_is ∙ ap (λ (x : Run). run_through db x second.events) first.run_is ∙ sym
          (run-append db run first.events second.events);
      scripted = λ named. All-append (IsScripted db) first.events second.events (first.scripted named) (second.scripted named);
      legal =
          legal-append db run.world first.events second.events first.legal
          (subst (λ (w : World). IsRun db w second.events) world second.legal);
      hosts = second.hosts ∙ first.hosts;
      back = second.back;
      seen =
          seen-append db run.world first.events second.events
          ∙ ap (λ (w : World). seen_of db run.world first.events ++ seen_of db w second.events) (sym world)
          ∙ ap (λ (l : List Happening). l ++ seen_of db r.cell.run.world second.events) told
          ∙ ap (λ (l : List Happening). happenings_of r.items ++ l) second.seen
          ∙ sym (append_assoc (happenings_of r.items) (happenings_of next.items) second.back)
          ∙ ap (λ (l : List Happening). l ++ second.back) (sym (happenings-append r.items next.items));
      whole = second.whole;
      fits = second.fits;
      handed = second.handed;
    }

-- ---- a step

module _ (calls : Type 0) (law : PacketsHavePlaces) (script_db : ScriptDatabase) (asks later : ℕ) (c : Cell) (choice : Choice) (trigger : Trigger) (k : ℕ)
    (e : NodeEvent) (site : Site)
    (fits : Fits asks c.run.world) (each : length c.handed ≡ length c.run.world.packets)
    (is : IsOccasion calls script_db.database asks later c.run.world trigger k e site) where
  abbrev Steps : Cell_run → Type 0
  Steps r = IsPart calls script_db later c.opening c.events c.run r

  served : (made : ℕ) → (is_down site.node ≡ true → may_be_down trigger ≡ true) → Steps (stepped_so script_db c trigger k choice.short (Serves made))
  served made delivered =
      event_part calls script_db later (record c { armed = set c.armed k (counted_on made (armed_at c.armed k)) }) (Step trigger choice.short) each
      (step_legal calls law script_db.database asks later c.run.world fits trigger k e site is choice.short delivered)

  up_part : (s : Server) → site.node ≡ Up s → (outcome : DiskOutcome) → Steps (stepped_so script_db c trigger k choice.short outcome)
  up_part s up (Serves made) = served made (λ down. absurd (true≢false (sym down ∙ ap is_down up)))
  up_part s up (Fails_after short made) =
      event_part calls script_db later c (Fault trigger short made) each
      (fault_legal calls law script_db.database asks later c.run.world fits trigger k e site is s up short made)
  up_part s up (Stops_after short made) =
      event_part calls script_db later (record c { armed = set c.armed k None }) (Stop trigger short made) each
      (stop_legal calls law script_db.database asks later c.run.world fits trigger k e site is s up short made)

  node_part : (node : Node) → site.node ≡ node → (is_down site.node ≡ true → may_be_down trigger ≡ true)
      → Steps (stepped_so script_db c trigger k choice.short (outcome_at script_db.database c.run.world choice c.armed (k, e) node))
  node_part Down at delivered = served 0 delivered
  node_part (Halted h) at delivered = served 0 delivered
  node_part (Up s) at delivered = up_part s at _

  pub stepped_part : (is_down site.node ≡ true → may_be_down trigger ≡ true) → Steps (stepped script_db c choice trigger)
  stepped_part delivered =
      let P : Option (ℕ × NodeEvent) → Type 0 =
      λ o. Steps (stepped_so script_db c trigger (place_in o) choice.short (outcome_of script_db.database c.run.world choice c.armed o)) in
      let Q : Option Site → Type 0 =
      λ o. Steps (stepped_so script_db c trigger k choice.short (outcome_at script_db.database c.run.world choice c.armed (k, e) (node_in o))) in
      subst P (sym is.brought) (subst Q (sym is.there) (node_part site.node refl delivered))
