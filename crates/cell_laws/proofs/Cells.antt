-- Every run of a cell, from its first world on: it is a run of the model of leases, leases exclude, and epochs rise.
use Rattle.std.proofs.Common.{Bool, true, false, true≢false, ◌≡◌, ℕ, zero, suc, ◌<◌, ◌==◌, List, [], ◌∷◌, length, map, get_or, refl, sym}
use Rattle.std.proofs.Common.{ap, subst, ◌∙◌, inl, inr, arith}
use Rattle.std.proofs.lemmas.Bool.{cond-true}
use Rattle.std.proofs.lemmas.Bool.Decides.{nat_tests}
use Rattle.std.proofs.lemmas.List.{length-map}
use Rattle.std.proofs.lemmas.List.Sums.{position_or_len_is}
use Rattle.std.proofs.lemmas.Option.{unwrap_or-slice_get}
use Rattle.std.specs.Prelude.{Option, Some, None, nat_lt, slice_get, IsSomeAnd}
use Rattle.std.specs.List.{position_or_len}
use Rattle.ubik_types.specs.declared.hosts.Host.{Host}
use Rattle.ubik_types.specs.Hosts.{IsAscending}
use Rattle.db_image.specs.Database.{Database}
use Rattle.lease_model.specs.Leases as leases
use Rattle.lease_model.specs.Leases.{Leases, IsLeasedIn}
use Rattle.lease_model.specs.Rules.{AreSafe, cell_rules}
use Rattle.lease_model.specs.Runs as runs
use Rattle.lease_model.proofs.Exclude.{exclude}
use Rattle.lease_model.proofs.Steps.{first_keeps}
use Rattle.cell_model.specs.Book.{Book, Run, first_run, run_after, run_through, is_leased_node}
use Rattle.cell_model.specs.Node.{Node, Down, Halted, Up}
use Rattle.cell_model.specs.NodeRule.{place_of}
use Rattle.cell_model.specs.Step.{host_at}
use Rattle.cell_model.specs.World.{World, Site, Event, IsFirst, IsRun, first_site, first_world, world_after, member, site_of, happens}
use Rattle.cell_laws.specs.Laws.{IsInLease, LeasesExclude, EpochsRise, CellsKeepLeases}
use Rattle.cell_laws.specs.View.{standing_of, view}
use Rattle.cell_laws.specs.Invariant.{NodeHolds, CellInvariant}
use Rattle.cell_laws.proofs.Sites.{Here}
use Rattle.cell_laws.proofs.Votes.{leased_is}
use Rattle.cell_laws.proofs.Worlds.{here_of, Result, happens_good}

-- ---- the first world

no_host : Host
no_host = record { 0 = 0 }

-- the first of ascending hosts is below all others
first_below : (a : Host) (hosts : List Host) → IsAscending (a ∷ hosts) → (j : ℕ) → j < length hosts →
    a.0 < (get_or hosts j (record { 0 = 0 })).0
first_below a [] ascending j within = absurd (omega arith)
first_below a (b ∷ hosts) ascending zero within = ascending.0
first_below a (b ∷ hosts) ascending (suc j) within =
    let h : b.0 < (get_or hosts j (record { 0 = 0 })).0 = first_below b hosts ascending.1 j (omega arith) in
    let less : a.0 < b.0 = ascending.0 in
    omega arith

rest_ascending : (a : Host) (hosts : List Host) → IsAscending (a ∷ hosts) → IsAscending hosts
rest_ascending a [] ascending = tt
rest_ascending a (b ∷ hosts) ascending = ascending.1

ascending_below : (hosts : List Host) → IsAscending hosts → (i j : ℕ) → i < j → j < length hosts →
    (get_or hosts i (record { 0 = 0 })).0 < (get_or hosts j (record { 0 = 0 })).0
ascending_below [] ascending i j less within = absurd (omega arith)
ascending_below (a ∷ hosts) ascending i zero less within = absurd (omega arith)
ascending_below (a ∷ hosts) ascending zero (suc j) less within = first_below a hosts ascending j (omega arith)
ascending_below (a ∷ hosts) ascending (suc i) (suc j) less within =
    ascending_below hosts (rest_ascending a hosts ascending) i j (omega arith) (omega arith)

not_equal : (a b : ℕ) → a < b → (a == b) ≡ false
not_equal a b less = grind (arith, nat_tests)

equal : (a : ℕ) → (a == a) ≡ true
equal a = grind (arith, nat_tests)

below : (a b : ℕ) → a < b → nat_lt a b ≡ true
below a b less = grind (arith, nat_tests)

-- each host of a cell stands at its own place
own_place : (hosts : List Host) → IsAscending hosts → (k : ℕ) → k < length hosts → place_of hosts (host_at hosts k) ≡ Some k
own_place hosts ascending k within =
    cond-true (nat_lt (position_or_len test hosts) (length hosts)) (Some (position_or_len test hosts)) None
    (ap (λ (n : ℕ). nat_lt n (length hosts)) place ∙ below k (length hosts) within)
    ∙ ap (λ (n : ℕ). Some n) place
  where
    d : Host
    d = record { 0 = 0 }

    test : Host → Bool
    test other = other.0 == (host_at hosts k).0

    at_k : host_at hosts k ≡ get_or hosts k (record { 0 = 0 })
    at_k = unwrap_or-slice_get hosts k (record { 0 = 0 })

    place : position_or_len (λ (other : Host). other.0 == (host_at hosts k).0) hosts ≡ k
    place =
        position_or_len_is (λ (other : Host). other.0 == (host_at hosts k).0) hosts k (record { 0 = 0 }) (omega arith)
        (λ i less. ap (λ (h : Host). (get_or hosts i (record { 0 = 0 })).0 == h.0) at_k
        ∙ not_equal _ _ (ascending_below hosts ascending i k less within))
        (λ _. ap (λ (h : Host). (get_or hosts k (record { 0 = 0 })).0 == h.0) at_k ∙ equal _)

module _ (hosts : List Host) (clock : ℕ) where
  pub first_each : (P : ℕ → Site → Type 0) (failed : List Bool) → ((k : ℕ) (b : Bool) → P k (first_site (length hosts) clock b)) →
      (k : ℕ) (site : Site) → slice_get (map (first_site (length hosts) clock) failed) k ≡ Some site → P k site
  first_each P [] all k site is = absurd (cc)
  first_each P (b ∷ failed) all zero site is =
      let same : first_site (length hosts) clock b ≡ site = cc in subst (λ (z : Site). P 0 z) same (all 0 b)
  first_each P (b ∷ failed) all (suc k) site is = first_each (λ i z. P (suc i) z) failed (λ i c. all (suc i) c) k site is

  first_view : (n : ℕ) (failed : List Bool) → n ≡ length hosts →
      map (runs.first_server cell_rules n clock) failed ≡ map view (map (first_site (length hosts) clock) failed)
  first_view n [] same = refl
  first_view n (true ∷ failed) same =
      ap (λ (xs : List leases.Server). runs.first_server cell_rules n clock true ∷ xs) (first_view n failed same)
  first_view n (false ∷ failed) same =
      ap (λ (xs : List leases.Server). runs.first_server cell_rules n clock false ∷ xs) (first_view n failed same)
      ∙ ap (λ (m : ℕ). runs.first_server cell_rules m clock false ∷ map view (map (first_site (length hosts) clock) failed)) same

  first_holds : (x : Leases) (k : ℕ) (b : Bool) →
      NodeHolds x k (first_site (length hosts) clock b).durable (first_site (length hosts) clock b).node
  first_holds x k true = tt
  first_holds x k false = (refl, record { sending = λ is. absurd (true≢false (sym is)); kept = tt })

  pub first_good : (failed : List Bool) → IsFirst hosts clock failed →
      CellInvariant (first_world hosts clock failed) (runs.first cell_rules clock failed) []
  first_good failed is = record {
    servers = first_view (length failed) failed is.each;
    told = tt;
    own = own_place hosts is.cell.ascending;
    size = length-map failed (first_site (length hosts) clock) ∙ is.each;
    moments = first_each (λ k site. 0 < site.clock) failed (λ k b. moment);
    holds =
        first_each (λ k site. NodeHolds (runs.first cell_rules clock failed) k site.durable site.node) failed
        (λ k b. first_holds (runs.first cell_rules clock failed) k b);
    kept = first_keeps cell_rules clock failed;
    versions = tt;
    rises = tt;
  }
    where
      moment : 0 < clock
      moment = is.moment.some

-- ---- each run

along : (safe : AreSafe cell_rules) (db : Database) (r : Run) (x : Leases) (events : List Event) → CellInvariant r.world x r.book →
    IsRun db r.world events →
    (moves : List runs.Event) × runs.IsRun cell_rules x moves
    × CellInvariant (run_through db r events).world (runs.after_all cell_rules x moves) (run_through db r events).book
along safe db r x [] good run = ([], tt, good)
along safe db r x (e ∷ events) good run =
    by (happens_good safe db r.world x r.book good e run.0) (λ y next. along safe db (run_after db r e) y events next run.1)
  where
    Reached : Leases → Type 0
    Reached y =
        (moves : List runs.Event) × runs.IsRun cell_rules y moves
        × CellInvariant (run_through db (run_after db r e) events).world (runs.after_all cell_rules y moves)
        (run_through db (run_after db r e) events).book

    by : Result (happens db r.world e).world x (run_after db r e).book →
        ((y : Leases) → CellInvariant (happens db r.world e).world y (run_after db r e).book → Reached y) → Reached x
    by (inl next) rest = rest x next
    by (inr next) rest = let w = rest (runs.after cell_rules x next.0) next.2 in (next.0 ∷ w.0, (next.1, w.1), w.2)

pub same_world : (db : Database) (r : Run) (events : List Event) → (run_through db r events).world ≡ world_after db r.world events
same_world db r [] = refl
same_world db r (e ∷ events) = same_world db (run_after db r e) events

-- a server that is in lease is so in the model
lease_seen : (w : World) (x : Leases) (book : Book) (k : ℕ) → CellInvariant w x book → IsInLease w k → leases.IsInLease cell_rules x k
lease_seen w x book k good leased = by (site_of w k) refl leased
  where
    node_is : (n now : ℕ) (node : Node) → 0 < now → n ≡ length w.hosts → is_leased_node (member w k) now node ≡ true →
        IsLeasedIn cell_rules n (standing_of node) now
    node_is n now Down moment same is = absurd (true≢false (sym is))
    node_is n now (Halted h) moment same is =
        subst (λ (n : ℕ). leases.IsLeased cell_rules n h.starts now) (sym same) (leased_is (length w.hosts) h.starts now moment is)
    node_is n now (Up s) moment same is =
        subst (λ (n : ℕ). leases.IsLeased cell_rules n s.starts now) (sym same) (leased_is (length w.hosts) s.starts now moment is)

    by : (o : Option Site) → site_of w k ≡ o → IsSomeAnd o (λ site. is_leased_node (member w k) site.clock site.node ≡ true) →
        leases.IsInLease cell_rules x k
    by None at is = absurd is
    by (Some site) at is =
        let here : Here w.hosts x k site = here_of w x book k site good at in
        subst (λ (o : Option leases.Server). IsSomeAnd o (λ y. IsLeasedIn cell_rules (length x.servers) y.standing y.clock)) (sym here.get)
        (node_is (length x.servers) site.clock site.node here.moment here.size is)

module _ (safe : AreSafe cell_rules) where
  pub run_good : (db : Database) (hosts : List Host) (clock : ℕ) (failed : List Bool) (events : List Event) → IsFirst hosts clock failed →
      IsRun db (first_world hosts clock failed) events →
      (moves : List runs.Event) × runs.IsRun cell_rules (runs.first cell_rules clock failed) moves
      × CellInvariant (run_through db (first_run (first_world hosts clock failed)) events).world
      (runs.after_all cell_rules (runs.first cell_rules clock failed) moves)
      (run_through db (first_run (first_world hosts clock failed)) events).book
  run_good db hosts clock failed events first run =
      along safe db (first_run (first_world hosts clock failed)) (runs.first cell_rules clock failed) events
      (first_good hosts clock failed first) run

  pub leases_exclude : LeasesExclude
  leases_exclude db hosts clock failed events first run =
      subst (λ (w : World). (h k : ℕ) → IsInLease w h → IsInLease w k → h ≡ k)
      (same_world db (first_run (first_world hosts clock failed)) events) excluded
    where
      excluded : (h k : ℕ) → IsInLease (run_through db (first_run (first_world hosts clock failed)) events).world h →
          IsInLease (run_through db (first_run (first_world hosts clock failed)) events).world k → h ≡ k
      excluded h k first_leased second_leased =
          let g = run_good db hosts clock failed events first run in
          exclude cell_rules (runs.after_all cell_rules (runs.first cell_rules clock failed) g.0) safe g.2.kept h k
          (lease_seen _ _ _ h g.2 first_leased) (lease_seen _ _ _ k g.2 second_leased)

  pub epochs_rise : EpochsRise
  epochs_rise db hosts clock failed events first run = (run_good db hosts clock failed events first run).2.rises

  pub cells_keep_leases : CellsKeepLeases
  cells_keep_leases db hosts clock failed events first run =
      let g = run_good db hosts clock failed events first run in
      (g.0, g.1, g.2.servers ∙ ap (λ (w : World). map view w.sites) (same_world db (first_run (first_world hosts clock failed)) events))
