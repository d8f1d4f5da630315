-- Packets that are delivered, one or all that wait.
use Rattle.std.proofs.Common.{Bool, true, false, ◌≡◌, ℕ, zero, suc, ◌+◌, ◌-◌, ◌<◌, ◌≤◌, ◌==◌, List, [], ◌∷◌, length, slice_get, refl, ap, ◌∙◌, arith}
use Rattle.std.proofs.lemmas.List.{length-set}
use Rattle.std.proofs.lemmas.List.Quantifiers.{position-Some}
use Rattle.std.specs.Prelude.{Option, Some, None, IsSome, option_map, option_and_then, set, drop}
use Rattle.ubik_types.specs.declared.hosts.Host.{Host}
use Rattle.ubik_calls.specs.declared.packets.Packet.{Packet}
use Rattle.db_image.specs.Database.{Database}
use Rattle.cell_model.specs.declared.events.NodeEvent.{NodeEvent}
use Rattle.cell_model.specs.declared.events.NodeEvent.TheVariants as event
use Rattle.cell_model.specs.Book.{Run}
use Rattle.cell_model.specs.NodeRule.{place_of}
use Rattle.cell_places.specs.Places.{IsBetween, PacketsHavePlaces}
use Rattle.cell_model.specs.World as world
use Rattle.cell_model.specs.World.{Site, World, Delivery}
use Rattle.cell_runs.specs.declared.endings.Ending.{Ending}
use Rattle.cell_runs.specs.Script.{Choice, Opening, Cell, Cell_run, delivered, first_waiting, choice_of, all_delivered, unless_ended}
use Rattle.cell_runs.specs.ScriptDatabase.{ScriptDatabase}
use Rattle.script_laws.specs.CellRuns.{Fits}
use Rattle.script_laws.proofs.Worlds.{element_there, site_there}
use Rattle.script_laws.proofs.Steps.{IsOccasion}
use Rattle.script_laws.proofs.Parts.{IsPart, resting_part, joined_part, stepped_part}

-- ---- one packet

is_place : (o : Option ℕ) → IsSome o → (k : ℕ) × (o ≡ Some k)
is_place None some = absurd (cc)
is_place (Some k) some = (k, refl)

-- where a packet comes to
record IsArrival (calls : Type 0) (db : Database) (asks : ℕ) (w : World) (number : ℕ) : Type 0 where
  pub place : ℕ
  pub event : NodeEvent
  pub site : Site
  pub is : IsOccasion calls db asks asks w (Delivery number) place event site

arrival : (calls : Type 0) (db : Database) (asks : ℕ) (w : World) (number : ℕ) → Fits asks w → 0 < number → number ≤ length w.packets
    → IsArrival calls db asks w number
arrival calls db asks w zero fits some within = absurd (omega arith)
arrival calls db asks w (suc n) fits some within =
    let there = element_there (IsBetween w.hosts) w.packets n (omega arith) fits.packets in
    let p : Packet = there.0 in
    let at : slice_get w.packets n ≡ Some p = there.1 in
    let between : IsBetween w.hosts p = there.2 in
    let place = is_place (place_of w.hosts p.to) between.receiver in
    let inside = (position-Some (λ (other : Host). other.0 == p.to.0) w.hosts place.0 p.to place.1).0 in
    let site = site_there asks w place.0 fits inside in
    record {
      place = place.0;
      event = event.Packet p;
      site = site.0;
      is = record {
        more = omega arith;
        brought = ap (option_and_then (world.delivered w.hosts)) at ∙ ap (option_map (λ k. (k, event.Packet p))) place.1;
        there = site.1;
        inside = inside;
        site_fits = site.2;
        asked = tt;
        call = λ _. tt;
      };
    }

module _ (calls : Type 0) (law : PacketsHavePlaces) (script_db : ScriptDatabase) (asks : ℕ) where
  pub delivered_part : (c : Cell) (choice : Choice) (number : ℕ) → Fits asks c.run.world → length c.handed ≡ length c.run.world.packets
      → 0 < number → number ≤ length c.run.world.packets
      → IsPart calls script_db asks c.opening c.events c.run (delivered script_db c choice number)
  delivered_part c choice number fits each some within =
      let to = arrival calls script_db.database asks c.run.world number fits some within in
      stepped_part calls law script_db asks asks (record c { handed = set c.handed (number - 1) true }) choice
      (Delivery number) to.place to.event to.site fits
      (length-set c.handed (number - 1) true ∙ each) to.is (λ _. refl)

-- ---- all that wait

-- the number that is found is one of those that are looked at
waiting_place : (number : ℕ) (handed : List Bool) (n : ℕ) → first_waiting number handed ≡ Some n
    → (number ≤ n) × (n < number + length handed)
waiting_place number [] n is = absurd (cc)
waiting_place number (true ∷ more) n is = let rest = waiting_place (number + 1) more n is in (omega (arith, rest.0), omega (arith, rest.1))
waiting_place number (false ∷ more) n is = let same : number ≡ n = cc in (omega (arith, same), omega (arith, same))

unless_part : (calls : Type 0) (script_db : ScriptDatabase) (asks : ℕ) (opening : Opening) (before : List world.Event) (run : Run) (r next : Cell_run)
    (o : Option Ending) → r.ending ≡ o → IsPart calls script_db asks opening before run r
    → IsPart calls script_db asks r.cell.opening r.cell.events r.cell.run next → IsPart calls script_db asks opening before run (unless_ended r o next)
unless_part calls script_db asks opening before run r next None goes first second =
    joined_part calls script_db asks asks opening before run r next first goes second
unless_part calls script_db asks opening before run r next (Some ending) goes first second = first

pub all_part : (calls : Type 0) (law : PacketsHavePlaces) (script_db : ScriptDatabase) (asks most : ℕ) (c : Cell) (choices : List Choice) (o : Option ℕ)
    → first_waiting 1 c.handed ≡ o → Fits asks c.run.world
    → length c.handed ≡ length c.run.world.packets
    → IsPart calls script_db asks c.opening c.events c.run (all_delivered script_db most c choices o)
all_part calls law script_db asks zero c choices None at fits each = resting_part calls script_db asks c c.handed c.armed [] fits each refl
all_part calls law script_db asks zero c choices (Some number) at fits each = resting_part calls script_db asks c c.handed c.armed [] fits each refl
all_part calls law script_db asks (suc most) c choices None at fits each = resting_part calls script_db asks c c.handed c.armed [] fits each refl
all_part calls law script_db asks (suc most) c choices (Some number) at fits each =
    let place = waiting_place 1 c.handed number at in
    let r : Cell_run = delivered script_db c (choice_of choices) number in
    let first =
    delivered_part calls law script_db asks c (choice_of choices) number fits each (omega (arith, place.0)) (omega (arith, place.1, each)) in
    unless_part calls script_db asks c.opening c.events c.run r
    (all_delivered script_db most r.cell (drop 1 choices) (first_waiting 1 r.cell.handed)) r.ending refl first
    (all_part calls law script_db asks most r.cell (drop 1 choices) (first_waiting 1 r.cell.handed) refl first.fits first.handed)
