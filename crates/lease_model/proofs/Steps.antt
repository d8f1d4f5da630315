-- Each event keeps the invariant, and so does each run.
use Rattle.std.proofs.Common.{Bool, true, false, cond, ◌≡◌, ℕ, zero, suc, ◌+◌, ◌<◌, ◌≤◌, List, [], ◌∷◌, length, map, refl, sym, ap, subst}
use Rattle.std.proofs.Common.{◌⊎◌, inl, inr, arith}
use Rattle.std.proofs.lemmas.List.{length-map}
use Rattle.std.specs.Prelude.{Option, Some, None, slice_get}
use Rattle.ubik_types.specs.Lease.{no_starts}
use Rattle.lease_model.specs.Invariant.{ClocksNear, BeaconsPast, IsBound, AreCounted, IsCounted, Invariant}
use Rattle.lease_model.specs.Leases.{Standing, Down, Halted, Up, Server, Beacon, Yes, Leases, IsIn}
use Rattle.lease_model.specs.Rules.{Rules}
use Rattle.lease_model.specs.Runs.{Event, Tick, Tick_all, Ask, Answer, Count, Start, Halt, Stop, at_server, ticked, started_voter, started}
use Rattle.lease_model.specs.Runs.{said, counts, if_up, votes, asks, counting, halted, halts, stops, asked_by, answered_by, after}
use Rattle.lease_model.specs.Runs.{is_free_in, is_free_at, IsEvent, after_all, IsRun, first_server, first}
use Rattle.lease_model.proofs.Places.{get_within, within_get, in_cases, at_length, Each, each_at, each_all, near_at, no_starts-length}
use Rattle.lease_model.proofs.Places.{no_starts-none}
use Rattle.lease_model.proofs.Kept.{Older, older_at, older_all, same_at, near_same, beacons_older, yeses_older, counted_with, counted_more}
use Rattle.lease_model.proofs.Kept.{IsPast, free_binds, bound_said, bound_other, apart_said, given_said, past_said}

-- ---- what the parts are at one server

abbrev Bound : Rules → List Yes → ℕ → Server → Type 0
Bound r yeses k x = IsBound r k yeses x.clock x.standing

abbrev Counted : List Yes → ℕ → ℕ → Server → Type 0
Counted yeses n k x = IsCounted k yeses n x.standing

-- a tick leaves what binds
later_bound : (r : Rules) (yeses : List Yes) (k now seconds : ℕ) (standing : Standing) → IsBound r k yeses now standing →
    IsBound r k yeses (now + seconds) standing
later_bound r yeses k now seconds Down is = tt
later_bound r yeses k now seconds (Halted starts) is = tt
later_bound r yeses k now seconds (Up v) is = let h : v.yes_at ≤ now = is.0 in (omega arith, is.1)

-- a count leaves it too
counting_bound : (r : Rules) (yeses : List Yes) (k now : ℕ) (y : Yes) (standing : Standing) → IsBound r k yeses now standing →
    IsBound r k yeses now (if_up (counts y.voter y.start) standing)
counting_bound r yeses k now y Down is = tt
counting_bound r yeses k now y (Halted starts) is = tt
counting_bound r yeses k now y (Up v) is = is

halted_bound : (r : Rules) (yeses : List Yes) (k now : ℕ) (standing : Standing) → IsBound r k yeses now (halted standing)
halted_bound r yeses k now Down = tt
halted_bound r yeses k now (Halted starts) = tt
halted_bound r yeses k now (Up v) = tt

-- A server that starts is bound by every yes that it gave before.
started_bound : (r : Rules) (yeses : List Yes) (k n now : ℕ) → r.start_binds ≡ true →
    ((y : Yes) → IsIn yeses y → y.voter ≡ k → y.at ≤ now) → IsBound r k yeses now (Up (started_voter r n now))
started_bound r yeses k n now binds past = by r.start_binds binds
  where
    by : (b : Bool) → b ≡ true →
        (cond b now 0 ≤ now)
        × ((y : Yes) → IsIn yeses y → y.voter ≡ k → (y.at ≤ cond b now 0) × (Unit {0} ⊎ (y.at + r.keep < cond b now 0)))
    by true is = (omega arith, λ y inside of_k. (past y inside of_k, inl tt))
    by false is = absurd (cc)

counting_counted : (yeses : List Yes) (n : ℕ) (y : Yes) (standing : Standing) → IsIn yeses y → IsCounted y.asker yeses n standing →
    IsCounted y.asker yeses n (if_up (counts y.voter y.start) standing)
counting_counted yeses n y Down inside is = tt
counting_counted yeses n y (Halted starts) inside is = is
counting_counted yeses n y (Up v) inside is = counted_with y.asker yeses n v.starts y.voter y.start y.at inside is

halted_counted : (yeses : List Yes) (n k : ℕ) (standing : Standing) → IsCounted k yeses n standing → IsCounted k yeses n (halted standing)
halted_counted yeses n k Down is = tt
halted_counted yeses n k (Halted starts) is = is
halted_counted yeses n k (Up v) is = is

started_counted : (yeses : List Yes) (n k : ℕ) → AreCounted k yeses n (no_starts n)
started_counted yeses n k = (λ v s is. absurd (no_starts-none n v s is), no_starts-length n)

-- ---- events that give no yes

-- the servers are others, and nothing else is
module _ (r : Rules) (s : Leases) (servers : List Server) (kept : Invariant r s) where
  quiet_kept : length servers ≡ length s.servers → Older s.servers servers → ClocksNear r servers → Each (Bound r s.yeses) servers →
      Each (Counted s.yeses (length s.servers)) servers → Invariant r (record s { servers = servers })
  quiet_kept same older near bound counted = record {
    near = near;
    beacons = beacons_older s.servers servers s.beacons same older kept.beacons;
    yeses = yeses_older s.servers servers s.yeses older kept.yeses;
    given = kept.given;
    bound = bound;
    apart = kept.apart;
    counted = subst (λ (n : ℕ). Each (Counted s.yeses n) servers) (sym same) counted;
  }

-- one server has another standing
module _ (r : Rules) (s : Leases) (k : ℕ) (f : Server → Server) (kept : Invariant r s) where
  one_kept : ((x : Server) → x.clock ≡ (f x).clock) →
      ((x : Server) → slice_get s.servers k ≡ Some x → Bound r s.yeses k x → Bound r s.yeses k (f x)) →
      ((x : Server) → Counted s.yeses (length s.servers) k x → Counted s.yeses (length s.servers) k (f x)) →
      Invariant r (record s { servers = at_server s.servers k f })
  one_kept same bound counted =
      quiet_kept r s (at_server s.servers k f) kept (at_length s.servers k f)
      (older_at s.servers k f (λ x. let e : x.clock ≡ (f x).clock = same x in omega arith))
      (near_same r s.servers _ (same_at s.servers k f same) kept.near)
      (each_at (Bound r s.yeses) (Bound r s.yeses) s.servers k f kept.bound bound (λ j x other is. is))
      (each_at (Counted s.yeses (length s.servers)) (Counted s.yeses (length s.servers)) s.servers k f kept.counted (λ x get. counted x)
      (λ j x other is. is))

-- ---- a yes

-- what a voter that is up and says yes leaves to show
record IsYes (r : Rules) (s : Leases) (k asker start now : ℕ) (f : Server → Server) : Type 0 where
  at : Server
  place : slice_get s.servers k ≡ Some at
  clock : now ≡ at.clock
  same : (x : Server) → x.clock ≡ (f x).clock
  past : (y : Yes) → IsIn s.yeses y → y.voter ≡ k → IsPast r asker now y
  soon : start ≤ now + r.skew
  bound : Bound r (record { voter = k; asker = asker; start = start; at = now } ∷ s.yeses) k (f at)
  counted : Counted (record { voter = k; asker = asker; start = start; at = now } ∷ s.yeses) (length s.servers) k (f at)

module _ (r : Rules) (s : Leases) (k asker start now : ℕ) (f : Server → Server) (kept : Invariant r s)
    (yes : IsYes r s k asker start now f) where
  abbrev new_yeses : List Yes
  new_yeses = record { voter = k; asker = asker; start = start; at = now } ∷ s.yeses

  abbrev new_servers : List Server
  new_servers = at_server s.servers k f

  -- what holds of the server at this place holds of that one
  here : (P : Server → Type 0) → P yes.at → (x : Server) → slice_get s.servers k ≡ Some x → P x
  here P is x get = let same : yes.at ≡ x = (let place : slice_get s.servers k ≡ Some yes.at = yes.place in cc) in subst P same is

  yes_kept : (beacons : List Beacon) → BeaconsPast new_servers beacons →
      Invariant r (record { servers = new_servers; beacons = beacons; yeses = new_yeses })
  yes_kept beacons past = record {
    near = near_same r s.servers new_servers (same_at s.servers k f yes.same) kept.near;
    beacons = past;
    yeses =
        yeses_older s.servers new_servers new_yeses
        (older_at s.servers k f (λ x. let e : x.clock ≡ (f x).clock = yes.same x in omega arith))
        (past_said r k asker start now s.yeses s.servers yes.at yes.place
        (let e : now ≡ yes.at.clock = yes.clock in omega arith) kept.yeses);
    given = given_said r k asker start now s.yeses yes.soon kept.given;
    bound = each_at (Bound r s.yeses) (Bound r new_yeses) s.servers k f kept.bound
        (λ x get is. here (λ z. Bound r new_yeses k (f z)) yes.bound x get)
        (λ j x other is. bound_other r k asker start now s.yeses j x.clock x.standing other is);
    apart = apart_said r k asker start now s.yeses yes.past kept.apart;
    counted = subst (λ (n : ℕ). Each (Counted new_yeses n) new_servers) (sym (at_length s.servers k f))
        (each_at (Counted s.yeses (length s.servers)) (Counted new_yeses (length s.servers)) s.servers k f kept.counted
        (λ x get is. here (λ z. Counted new_yeses (length s.servers) k (f z)) yes.counted x get)
        (λ j x other is. counted_more j (record { voter = k; asker = asker; start = start; at = now }) s.yeses
        (length s.servers) x.standing is));
  }

-- the yes of a voter to another server's beacon
said_yes : (r : Rules) (s : Leases) (k : ℕ) (b : Beacon) (x : Server) → Invariant r s → slice_get s.servers k ≡ Some x → IsIn s.beacons b →
    (standing : Standing) → x.standing ≡ standing → is_free_in r b.asker x.clock standing ≡ true →
    IsYes r s k b.asker b.start x.clock (votes b.asker)
said_yes r s k b x kept get inside Down at free = absurd (cc)
said_yes r s k b x kept get inside (Halted starts) at free = absurd (cc)
said_yes r s k b x kept get inside (Up v) at free = record {
  at = x;
  place = get;
  clock = refl;
  same = λ z. refl;
  past = past;
  soon = soon;
  bound =
      subst (λ (z : Standing). IsBound r k new x.clock (if_up (said b.asker x.clock) z)) (sym at)
      (omega arith, bound_said r k b.asker b.start x.clock s.yeses v past);
  counted =
      subst (λ (z : Standing). IsCounted k new (length s.servers) (if_up (said b.asker x.clock) z)) (sym at)
      (counted_more k _ s.yeses (length s.servers) (Up v) counted);
}
  where
    new : List Yes
    new = record { voter = k; asker = b.asker; start = b.start; at = x.clock } ∷ s.yeses

    bound : IsBound r k s.yeses x.clock (Up v)
    bound = subst (IsBound r k s.yeses x.clock) at (kept.bound k x get)

    counted : IsCounted k s.yeses (length s.servers) (Up v)
    counted = subst (IsCounted k s.yeses (length s.servers)) at (kept.counted k x get)

    past : (y : Yes) → IsIn s.yeses y → y.voter ≡ k → IsPast r b.asker x.clock y
    past = free_binds r k b.asker x.clock s.yeses v bound free

    soon : b.start ≤ x.clock + r.skew
    soon =
        let asker = get_within s.servers b.asker (kept.beacons b inside).0 in
        let first : b.start ≤ asker.0.clock = (kept.beacons b inside).1 asker.0 asker.1 in
        let then : asker.0.clock ≤ x.clock + r.skew = kept.near b.asker k asker.0 x asker.1 get in
        omega arith

-- the yes of a server to itself
asked_yes : (r : Rules) (s : Leases) (k : ℕ) (x : Server) → Invariant r s → slice_get s.servers k ≡ Some x → (standing : Standing) →
    x.standing ≡ standing → is_free_in r k x.clock standing ≡ true → IsYes r s k k x.clock x.clock (asks k)
asked_yes r s k x kept get Down at free = absurd (cc)
asked_yes r s k x kept get (Halted starts) at free = absurd (cc)
asked_yes r s k x kept get (Up v) at free = record {
  at = x;
  place = get;
  clock = refl;
  same = λ z. refl;
  past = past;
  soon = omega arith;
  bound =
      subst (λ (z : Standing). IsBound r k new x.clock (if_up (λ v. counts k x.clock (said k x.clock v)) z)) (sym at)
      (omega arith, bound_said r k k x.clock x.clock s.yeses v past);
  counted = subst (λ (z : Standing). IsCounted k new (length s.servers) (if_up (λ v. counts k x.clock (said k x.clock v)) z)) (sym at)
      (counted_with k new (length s.servers) v.starts k x.clock x.clock (0, refl)
      (counted_more k _ s.yeses (length s.servers) (Up v) counted));
}
  where
    new : List Yes
    new = record { voter = k; asker = k; start = x.clock; at = x.clock } ∷ s.yeses

    bound : IsBound r k s.yeses x.clock (Up v)
    bound = subst (IsBound r k s.yeses x.clock) at (kept.bound k x get)

    counted : IsCounted k s.yeses (length s.servers) (Up v)
    counted = subst (IsCounted k s.yeses (length s.servers)) at (kept.counted k x get)

    past : (y : Yes) → IsIn s.yeses y → y.voter ≡ k → IsPast r k x.clock y
    past = free_binds r k k x.clock s.yeses v bound free

-- the beacon of a server at its clock
beacon_past : (s : Leases) (k : ℕ) (x : Server) → slice_get s.servers k ≡ Some x → BeaconsPast s.servers s.beacons →
    BeaconsPast s.servers (record { asker = k; start = x.clock } ∷ s.beacons)
beacon_past s k x get past b inside = by (in_cases (record { asker = k; start = x.clock }) s.beacons b inside)
  where
    P : Beacon → Type 0
    P b = (b.asker < length s.servers) × ((y : Server) → slice_get s.servers b.asker ≡ Some y → b.start ≤ y.clock)

    own : (y : Server) → slice_get s.servers k ≡ Some y → x.clock ≤ y.clock
    own y other = let e : x.clock ≡ y.clock = (let same : x ≡ y = cc in ap (λ (z : Server). z.clock) same) in omega arith

    by : (record { asker = k; start = x.clock } ≡ b) ⊎ IsIn s.beacons b →
        (b.asker < length s.servers) × ((y : Server) → slice_get s.servers b.asker ≡ Some y → b.start ≤ y.clock)
    by (inl p) =
        subst (λ (b : Beacon). (b.asker < length s.servers) × ((y : Server) → slice_get s.servers b.asker ≡ Some y → b.start ≤ y.clock)) p
        (within_get s.servers k x get, own)
    by (inr p) = past b p

-- ---- one event

pub step_keeps : (r : Rules) (s : Leases) (e : Event) → r.start_binds ≡ true → IsEvent r s e → Invariant r s → Invariant r (after r s e)
step_keeps r s (Tick k seconds) binds may kept =
    quiet_kept r s (at_server s.servers k (ticked seconds)) kept (at_length s.servers k (ticked seconds))
    (older_at s.servers k (ticked seconds) (λ x. omega arith))
    (λ i j x y. near_at r.skew (at_server s.servers k (ticked seconds)) i j x y may)
    (each_at (Bound r s.yeses) (Bound r s.yeses) s.servers k (ticked seconds) kept.bound
    (λ x get is. later_bound r s.yeses k x.clock seconds x.standing is) (λ j x other is. is))
    (each_at (Counted s.yeses (length s.servers)) (Counted s.yeses (length s.servers)) s.servers k (ticked seconds) kept.counted
    (λ x get is. is) (λ j x other is. is))
step_keeps r s (Tick_all seconds) binds may kept =
    quiet_kept r s (map (ticked seconds) s.servers) kept (length-map s.servers (ticked seconds)) (older_all s.servers seconds)
    (λ i j x y. near_at r.skew (map (ticked seconds) s.servers) i j x y may)
    (each_all (Bound r s.yeses) (Bound r s.yeses) s.servers (ticked seconds) kept.bound
    (λ k x is. later_bound r s.yeses k x.clock seconds x.standing is))
    (each_all (Counted s.yeses (length s.servers)) (Counted s.yeses (length s.servers)) s.servers (ticked seconds) kept.counted
    (λ k x is. is))
step_keeps r s (Ask k) binds may kept = by (slice_get s.servers k) refl may
  where
    by : (o : Option Server) → slice_get s.servers k ≡ o → is_free_at r k o ≡ true → Invariant r (asked_by s k o)
    by None get free = kept
    by (Some x) get free =
        yes_kept r s k k x.clock x.clock (asks k) kept (asked_yes r s k x kept get x.standing refl free)
        (record { asker = k; start = x.clock } ∷ s.beacons)
        (beacons_older s.servers (at_server s.servers k (asks k)) (record { asker = k; start = x.clock } ∷ s.beacons)
        (at_length s.servers k (asks k)) (older_at s.servers k (asks k) (λ x. omega arith))
        (beacon_past s k x get kept.beacons))
step_keeps r s (Answer k b) binds may kept = by (slice_get s.servers k) refl may.1
  where
    by : (o : Option Server) → slice_get s.servers k ≡ o → is_free_at r b.asker o ≡ true → Invariant r (answered_by s k b o)
    by None get free = kept
    by (Some x) get free =
        yes_kept r s k b.asker b.start x.clock (votes b.asker) kept (said_yes r s k b x kept get may.0 x.standing refl free) s.beacons
        (beacons_older s.servers (at_server s.servers k (votes b.asker)) s.beacons (at_length s.servers k (votes b.asker))
        (older_at s.servers k (votes b.asker) (λ x. omega arith)) kept.beacons)
step_keeps r s (Count y) binds may kept =
    one_kept r s y.asker (counting y) kept (λ x. refl) (λ x get is. counting_bound r s.yeses y.asker x.clock y x.standing is)
    (λ x is. counting_counted s.yeses (length s.servers) y x.standing may is)
step_keeps r s (Start k) binds may kept =
    one_kept r s k (started r (length s.servers)) kept (λ x. refl)
    (λ x get is. started_bound r s.yeses k (length s.servers) x.clock binds
    (λ y inside of_k. kept.yeses y x inside (subst (λ (i : ℕ). slice_get s.servers i ≡ Some x) (sym of_k) get)))
    (λ x is. started_counted s.yeses (length s.servers) k)
step_keeps r s (Halt k) binds may kept =
    one_kept r s k halts kept (λ x. refl) (λ x get is. halted_bound r s.yeses k x.clock x.standing)
    (λ x is. halted_counted s.yeses (length s.servers) k x.standing is)
step_keeps r s (Stop k) binds may kept = one_kept r s k stops kept (λ x. refl) (λ x get is. tt) (λ x is. tt)

pub run_keeps : (r : Rules) (s : Leases) (events : List Event) → r.start_binds ≡ true → IsRun r s events → Invariant r s →
    Invariant r (after_all r s events)
run_keeps r s [] binds run kept = kept
run_keeps r s (e ∷ events) binds run kept = run_keeps r (after r s e) events binds run.1 (step_keeps r s e binds run.0 kept)

-- ---- at first

no_yes : {A : Type 0} (y : A) → IsIn [] y → ⊥
no_yes y inside = absurd (cc (inside.1))

module _ (r : Rules) (n clock : ℕ) where
  first_bound : (k : ℕ) (b : Bool) → Bound r [] k (first_server r n clock b)
  first_bound k true = tt
  first_bound k false = (at r.start_binds, λ y inside. absurd (no_yes y inside))
    where
      at : (b : Bool) → cond b clock 0 ≤ clock
      at true = omega arith
      at false = omega arith

  first_counted : (k : ℕ) (b : Bool) → Counted [] n k (first_server r n clock b)
  first_counted k true = tt
  first_counted k false = started_counted [] n k

  first_each : (P : ℕ → Server → Type 0) (failed : List Bool) → ((k : ℕ) (b : Bool) → P k (first_server r n clock b)) →
      Each P (map (first_server r n clock) failed)
  first_each P [] all k x is = absurd (cc)
  first_each P (b ∷ failed) all zero x is =
      let same : first_server r n clock b ≡ x = cc in subst (λ (z : Server). P 0 z) same (all 0 b)
  first_each P (b ∷ failed) all (suc k) x is = first_each (λ i z. P (suc i) z) failed (λ i c. all (suc i) c) k x is

pub first_keeps : (r : Rules) (clock : ℕ) (failed : List Bool) → Invariant r (first r clock failed)
first_keeps r clock failed = record {
  near = near;
  beacons = λ b inside. absurd (no_yes b inside);
  yeses = λ y x inside get. absurd (no_yes y inside);
  given = λ y inside. absurd (no_yes y inside);
  bound = first_each r (length failed) clock (Bound r []) failed (λ k b. first_bound r (length failed) clock k b);
  apart = λ y z inside other same. absurd (no_yes y inside);
  counted =
      subst (λ (n : ℕ). Each (Counted [] n) (map (first_server r (length failed) clock) failed))
      (sym (length-map failed (first_server r (length failed) clock)))
      (first_each r (length failed) clock (Counted [] (length failed)) failed (λ k b. first_counted r (length failed) clock k b));
}
  where
    at_clock : Each (λ k x. x.clock ≡ clock) (map (first_server r (length failed) clock) failed)
    at_clock = first_each r (length failed) clock (λ k x. x.clock ≡ clock) failed (λ k b. refl)

    near : ClocksNear r (map (first_server r (length failed) clock) failed)
    near j k x y at_j at_k =
        let a : x.clock ≡ clock = at_clock j x at_j in
        let b : y.clock ≡ clock = at_clock k y at_k in
        omega arith
