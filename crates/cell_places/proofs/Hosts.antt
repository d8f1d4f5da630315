-- Hosts of a cell, which stay in each event, and the servers that polls name.
use Rattle.std.proofs.Common.{Bool, true, false, cond, ◌≡◌, ◌⊎◌, inl, inr, true≢false, ℕ, zero, suc, ◌+◌, ◌<◌, List, [], ◌∷◌, length}
use Rattle.std.proofs.Common.{refl, sym, ap, subst, ◌∙◌, arith}
use Rattle.std.proofs.lemmas.Bool.Decides.{nat_tests}
use Rattle.std.proofs.lemmas.List.{length-replicate}
use Rattle.std.specs.List.{AllByRecursion}
use Rattle.std.specs.Prelude.{Option, Some, None, IsSome, slice_get}
use Rattle.ubik_types.specs.declared.hosts.Host.{Host}
use Rattle.ubik_types.specs.declared.versions.Version.{Version}
use Rattle.ubik_types.specs.Phase.{Polled}
use Rattle.ubik_types.specs.Version.{zero_version, version_lt, version_eq}
use Rattle.db_image.specs.Database.{Database}
use Rattle.cell_model.specs.declared.events.NodeEvent.{NodeEvent}
use Rattle.cell_model.specs.NodeRule.{place_of}
use Rattle.cell_model.specs.Polls.{best_version, best_answer, first_with, only_at}
use Rattle.cell_model.specs.Step.{Member, host_at}
use Rattle.cell_model.specs.World.{World, Site, SiteHappened, Event, Tick, Tick_all, Step, Stop, Fault, Crash, Restart}
use Rattle.cell_model.specs.World.{happens, happens_at, triggered, occasion, member, site_of, world_after}
use Rattle.cell_model.specs.World.{crash_at, fault_at, restart_at, step_at, stop_at}
use Rattle.cell_model.proofs.StepKinds.{lt_zero}
use Rattle.cell_model.proofs.Voters.{own_place, place_there}
use Rattle.cell_places.specs.Places.{IsPollOf}

-- ---- hosts

abbrev pub HasPlace : List Host → Host → Type 0
HasPlace hosts host = IsSome (place_of hosts host)

-- the host of each place of the cell
pub host_placed : (hosts : List Host) (k : ℕ) → k < length hosts → HasPlace hosts (host_at hosts k)
host_placed hosts k inside = own_place (record { hosts = hosts; me = k }) inside

-- each host from a place on
from_placed : (hosts : List Host) (k : ℕ) (rest : List Host) → ((i : ℕ) (host : Host) → slice_get rest i ≡ Some host →
    slice_get hosts (i + k) ≡ Some host) → AllByRecursion (HasPlace hosts) rest
from_placed hosts k [] there = tt
from_placed hosts k (host ∷ rest) there = (
  place_there hosts host k (subst (λ (n : ℕ). slice_get hosts n ≡ Some host) (none_plus k) (there 0 host refl)),
  from_placed hosts (suc k) rest
      (λ i h at. subst (λ (n : ℕ). slice_get hosts n ≡ Some h) (shift i k) (there (suc i) h at)),
)
  where
    shift : (i k : ℕ) → suc i + k ≡ i + suc k
    shift i k = omega arith

    none_plus : (k : ℕ) → 0 + k ≡ k
    none_plus k = omega arith

pub all_placed : (hosts : List Host) → AllByRecursion (HasPlace hosts) hosts
all_placed hosts = from_placed hosts 0 hosts (λ i host at. subst (λ (n : ℕ). slice_get hosts n ≡ Some host) (plus_none i) at)
  where
    plus_none : (i : ℕ) → i ≡ i + 0
    plus_none i = omega arith

-- ---- they stay

at_hosts : (w : World) (k : ℕ) (f : Site → SiteHappened) (o : Option Site) → (happens_at w k f o).world.hosts ≡ w.hosts
at_hosts w k f None = refl
at_hosts w k f (Some site) = refl

triggered_hosts : (w : World) (f : Member → NodeEvent → Site → SiteHappened) (o : Option (ℕ × NodeEvent)) → (triggered w f o).world.hosts ≡ w.hosts
triggered_hosts w f None = refl
triggered_hosts w f (Some o) = at_hosts w o.0 (f (member w o.0) o.1) (site_of w o.0)

pub hosts_stay : (db : Database) (w : World) (e : Event) → (happens db w e).world.hosts ≡ w.hosts
hosts_stay db w (Tick server seconds) = refl
hosts_stay db w (Tick_all seconds) = refl
hosts_stay db w (Step trigger short) = triggered_hosts w (λ m e site. step_at db m trigger e short site site.node) (occasion w trigger)
hosts_stay db w (Stop trigger short made) = triggered_hosts w (λ m e site. stop_at db m e short made site site.node) (occasion w trigger)
hosts_stay db w (Fault trigger short made) = triggered_hosts w (λ m e site. fault_at db m e short made site site.node) (occasion w trigger)
hosts_stay db w (Crash server) = at_hosts w server crash_at (site_of w server)
hosts_stay db w (Restart server failed) = at_hosts w server (restart_at (length w.hosts) server failed) (site_of w server)

pub all_hosts_stay : (db : Database) (w : World) (events : List Event) → (world_after db w events).hosts ≡ w.hosts
all_hosts_stay db w [] = refl
all_hosts_stay db w (e ∷ events) = all_hosts_stay db (happens db w e).world events ∙ hosts_stay db w e

-- ---- polls

pub length-only : (n me : ℕ) (one others : Option Version) → length (only_at one others n me) ≡ n
length-only zero me one others = refl
length-only (suc n) zero one others = ap suc (length-replicate n others)
length-only (suc n) (suc me) one others = ap suc (length-only n me one others)

itself : (v : Version) → version_eq v v ≡ true
itself v = grind (arith, nat_tests)

no : {A : Type 0} → false ≡ true → A
no is = absurd (true≢false (sym is))

-- the best version is an answer, or that with which it begins
best_there : (answers : List (Option Version)) (best v : Version) → best_version best answers ≡ v →
    (best ≡ v) ⊎ (first_with v answers < length answers)
best_there [] best v is = inl is
best_there (None ∷ answers) best v is = later (best_there answers best v is)
  where
    later : (best ≡ v) ⊎ (first_with v answers < length answers) → (best ≡ v) ⊎ (first_with v answers + 1 < suc (length answers))
    later (inl same) = inl same
    later (inr less) = inr (omega arith)
best_there (Some w ∷ answers) best v is =
    by (version_lt best w) (best_there answers (cond (version_lt best w) w best) v is)
  where
    found : (t : Bool) → t ≡ true → cond t 0 (first_with v answers + 1) < suc (length answers)
    found true at = omega arith
    found false at = no at

    later : (t : Bool) → first_with v answers < length answers → cond t 0 (first_with v answers + 1) < suc (length answers)
    later true less = omega arith
    later false less = omega arith

    by : (t : Bool) → (cond t w best ≡ v) ⊎ (first_with v answers < length answers) →
        (best ≡ v) ⊎ (cond (version_eq v w) 0 (first_with v answers + 1) < suc (length answers))
    by true (inl same) = inr (found (version_eq v w) (subst (λ (x : Version). version_eq v x ≡ true) (sym same) (itself v)))
    by false (inl same) = inl same
    by t (inr less) = inr (later (version_eq v w) less)

-- a better version was answered by a server of the cell
pub fetched_inside : (servers : ℕ) (poll : Polled) (own : Version) → IsPollOf servers poll → version_lt own (best_answer poll) ≡ true →
    first_with (best_answer poll) poll.answers < servers
fetched_inside servers poll own is better = by (best_there poll.answers zero_version (best_answer poll) refl)
  where
    by : (zero_version ≡ best_answer poll) ⊎ (first_with (best_answer poll) poll.answers < length poll.answers) →
        first_with (best_answer poll) poll.answers < servers
    by (inl same) =
        let above : version_lt own zero_version ≡ true = subst (λ (v : Version). version_lt own v ≡ true) (sym same) better in
        absurd (true≢false (sym above ∙ lt_zero own))
    by (inr less) = subst (λ (n : ℕ). first_with (best_answer poll) poll.answers < n) is less
