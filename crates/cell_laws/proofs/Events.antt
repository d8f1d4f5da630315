-- What an event of the world does at its server.
use Rattle.std.proofs.Common.{Bool, true, false, true≢false, ◌≡◌, ℕ, zero, suc, List, [], ◌∷◌, length, set, take, refl, sym, ap, subst, ◌∙◌}
use Rattle.std.proofs.Common.{inl, inr}
use Rattle.ubik_types.specs.declared.hosts.Host.{Host}
use Rattle.ubik_types.specs.declared.versions.Version.{Version}
use Rattle.db_image.specs.Database.{Database}
use Rattle.lease_model.specs.Invariant.{WereGiven}
use Rattle.lease_model.specs.Leases as leases
use Rattle.lease_model.specs.Leases.{Leases}
use Rattle.lease_model.specs.Rules.{cell_rules}
use Rattle.lease_model.specs.Runs as runs
use Rattle.lease_model.proofs.Places.{at_length}
use Rattle.cell_model.specs.declared.events.NodeEvent.{NodeEvent}
use Rattle.cell_model.specs.declared.events.NodeEvent.TheVariants as event
use Rattle.cell_model.specs.Durable.{Durable, DurableCall, Commit, Relabel, Install, Made, durable_after, durable_after_all, version_after}
use Rattle.cell_model.specs.Node.{Node, Down, Halted, Up, Server}
use Rattle.cell_model.specs.NodeRule.{step_of, refusals}
use Rattle.cell_model.specs.Step.{Member, Shown, Stepped}
use Rattle.cell_model.specs.World.{Site, Trigger, SiteHappened, entries_from, only_marks, halted_step, step_up, step_at, stop_up, stop_at}
use Rattle.cell_model.specs.World.{fault_up, fault_at, crash_at, restart_at, lost_at}
use Rattle.cell_laws.specs.View.{voter_of, standing_of, view}
use Rattle.cell_laws.proofs.Others.{AllOther}
use Rattle.cell_laws.proofs.Parts.{AreLegal}
use Rattle.cell_laws.specs.Invariant.{NodeHolds}
use Rattle.cell_laws.proofs.Told.{ShownTold, other_told}
use Rattle.cell_laws.proofs.Sites.{EventTold, Here, at_set, Voted, IsSeen, Does, step_does}

-- A server of the world and what happened there: its durable calls are legal, and the model of leases has seen as much.
pub record Moved (hosts : List Host) (x : Leases) (k : ℕ) (site : Site) (h : SiteHappened) : Type 0 where
  pub clock : h.site.clock ≡ site.clock
  pub calls : List Made
  pub entries : h.entries ≡ entries_from k site.durable.version calls
  pub legal : AreLegal (WereGiven cell_rules x k site.clock)
      (WereGiven cell_rules x k) site.clock site.durable.version calls h.site.durable.version
  pub holds : NodeHolds x k h.site.durable h.site.node
  pub seen : IsSeen hosts x k (view site) (view h.site) h.shown

-- ---- durable calls

after_version : (d : Durable) (call : DurableCall) → (durable_after d call).version ≡ version_after call
after_version d (Commit version changes image) = refl
after_version d (Relabel version) = refl
after_version d (Install version image) = refl

module _ (Lease : Type 0) (Claim : ℕ → Type 0) (now : ℕ) where
  legal_last : (v last : Version) (calls : List Made) (d : Durable) → d.version ≡ v → AreLegal Lease Claim now v calls last →
      (durable_after_all d calls).version ≡ last
  legal_last v last [] d at legal = at ∙ legal
  legal_last v last (made ∷ calls) d at legal =
      legal_last (version_after made.call) last calls (durable_after d made.call) (after_version d made.call) legal.1

  -- the first calls alone
  legal_take : (v last : Version) (calls : List Made) (made : ℕ) → AreLegal Lease Claim now v calls last →
      (u : Version) × AreLegal Lease Claim now v (take made calls) u
  legal_take v last [] zero legal = (last, legal)
  legal_take v last [] (suc n) legal = (last, legal)
  legal_take v last (made ∷ calls) zero legal = (v, refl)
  legal_take v last (made ∷ calls) (suc n) legal =
      let w = legal_take (version_after made.call) last calls n legal.1 in (w.0, (legal.0, w.1))

refusals_other : (e : NodeEvent) → AllOther (refusals e)
refusals_other (event.Packet p) = tt
refusals_other event.BeaconTurn = tt
refusals_other event.RecoverTurn = tt
refusals_other (event.Ask id call) = (tt, tt)

module _ (db : Database) (hosts : List Host) (x : Leases) (k : ℕ) (site : Site) (here : Here hosts x k site) where
  abbrev me : Member
  me = record { hosts = hosts; me = k }

  -- nothing durable happens, and the model sees nothing
  stays : (h : SiteHappened) → h.site.clock ≡ site.clock → h.site.durable ≡ site.durable → h.site.node ≡ site.node → h.entries ≡ [] →
      ShownTold hosts x h.shown → Moved hosts x k site h
  stays h clock durable node entries told = record {
    clock = clock;
    calls = [];
    entries = entries;
    legal = sym (ap (λ (d : Durable). d.version) durable);
    holds = subst (λ (d : Durable). NodeHolds x k d h.site.node) (sym durable) (subst (NodeHolds x k site.durable) (sym node) here.holds);
    seen = inl (same, told);
  }
    where
      same : view h.site ≡ view site
      same =
          ap (λ (c : ℕ). record { clock = c; standing = standing_of h.site.node }) clock
          ∙ ap (λ (n : Node). record { clock = site.clock; standing = standing_of n }) node

  -- the standing of this server alone is another one
  changes : (e : runs.Event) (f : leases.Server → leases.Server) → runs.IsEvent cell_rules x e →
      runs.after cell_rules x e ≡ record x { servers = runs.at_server x.servers k f } → (server : leases.Server) → f (view site) ≡ server →
      (shown : List Shown) → AllOther shown → Voted hosts x k server shown
  changes e f may is server same shown other = record {
    e = e;
    may = may;
    next = record x { servers = runs.at_server x.servers k f };
    is_next = is;
    servers = at_set x.servers k f (view site) here.get ∙ ap (set x.servers k) same;
    grew = record { beacons = λ b is. is; yeses = λ one is. is; same = at_length x.servers k f };
    told = other_told hosts (record x { servers = runs.at_server x.servers k f }) shown other;
  }

  -- ---- a step of a server that is up

  module _ (s : Server) (is_up : site.node ≡ Up s) where
    own_version : site.durable.version ≡ s.version
    own_version = (subst (NodeHolds x k site.durable) is_up here.holds).0

    view_up : view site ≡ record { clock = site.clock; standing = leases.Up (voter_of s) }
    view_up = ap (λ (n : Node). record { clock = site.clock; standing = standing_of n }) is_up

    -- the legal calls, from the durable version on
    legal_here : (calls : List Made) (last : Version) →
        AreLegal (WereGiven cell_rules x k site.clock) (WereGiven cell_rules x k) site.clock s.version calls last →
        AreLegal (WereGiven cell_rules x k site.clock) (WereGiven cell_rules x k) site.clock site.durable.version calls
        (durable_after_all site.durable calls).version
    legal_here calls last legal =
        subst
        (λ (u : Version). AreLegal (WereGiven cell_rules x k site.clock) (WereGiven cell_rules x k) site.clock site.durable.version calls u)
        (sym (legal_last _ _ site.clock site.durable.version last calls site.durable refl legal_own)) legal_own
      where
        legal_own : AreLegal (WereGiven cell_rules x k site.clock) (WereGiven cell_rules x k) site.clock site.durable.version calls last
        legal_own =
            subst (λ (v : Version). AreLegal (WereGiven cell_rules x k site.clock) (WereGiven cell_rules x k) site.clock v calls last)
            (sym own_version) legal

    entries_here : (calls : List Made) → entries_from k s.version calls ≡ entries_from k site.durable.version calls
    entries_here calls = ap (λ (v : Version). entries_from k v calls) (sym own_version)

    up_moves : (e : NodeEvent) (t : Stepped) → Does hosts x k site.clock s t → Moved hosts x k site (step_up k site e s.version t)
    up_moves e t does = record {
      clock = refl;
      calls = t.calls;
      entries = entries_here t.calls;
      legal = legal_here t.calls t.server.version does.legal;
      holds = (legal_last _ _ site.clock s.version t.server.version t.calls site.durable own_version does.legal, does.claims);
      seen =
          subst
          (λ (y : leases.Server). IsSeen hosts x k y (record { clock = site.clock; standing = leases.Up (voter_of t.server) }) t.shown)
          (sym view_up) does.seen;
    }

    -- the first calls of a step that stops, or whose disk fails
    stop_moves : (t : Stepped) (made : ℕ) → Does hosts x k site.clock s t → Moved hosts x k site (stop_up k site s.version t made)
    stop_moves t made does = record {
      clock = refl;
      calls = take made t.calls;
      entries = entries_here (take made t.calls);
      legal =
          let w = legal_take _ _ site.clock s.version t.server.version t.calls made does.legal in legal_here (take made t.calls) w.0 w.1;
      holds = tt;
      seen = inr (changes (runs.Stop k) runs.stops tt refl _ refl [] tt);
    }

    fault_moves : (e : NodeEvent) (t : Stepped) (made : ℕ) → Does hosts x k site.clock s t →
        Moved hosts x k site (fault_up k site e s t made)
    fault_moves e t made does = record {
      clock = refl;
      calls = take made t.calls;
      entries = entries_here (take made t.calls);
      legal =
          let w = legal_take _ _ site.clock s.version t.server.version t.calls made does.legal in legal_here (take made t.calls) w.0 w.1;
      holds = tt;
      seen = inr (changes (runs.Halt k) runs.halts tt refl _ (ap runs.halts view_up) (refusals e) (refusals_other e));
    }

  -- ---- each event

  pub step_moves : (trigger : Trigger) (e : NodeEvent) (short : List Bool) → EventTold hosts x k e →
      Moved hosts x k site (step_at db me trigger e short site site.node)
  step_moves trigger e short told = by site.node refl
    where
      by : (node : Node) → site.node ≡ node → Moved hosts x k site (step_at db me trigger e short site node)
      by Down is = stays (only_marks site (lost_at trigger)) refl refl refl refl tt
      by (Halted h) is = stays (halted_step site e) refl refl refl refl (other_told hosts x (refusals e) (refusals_other e))
      by (Up s) is = up_moves s is e (step_of db me s site.clock e short) (step_does db hosts x k site s here is e short told)

  pub stop_moves_at : (e : NodeEvent) (short : List Bool) (made : ℕ) → EventTold hosts x k e →
      Moved hosts x k site (stop_at db me e short made site site.node)
  stop_moves_at e short made told = by site.node refl
    where
      by : (node : Node) → site.node ≡ node → Moved hosts x k site (stop_at db me e short made site node)
      by Down is = stays (only_marks site []) refl refl refl refl tt
      by (Halted h) is =
          record {
            clock = refl;
            calls = [];
            entries = refl;
            legal = refl;
            holds = tt;
            seen = inr (changes (runs.Stop k) runs.stops tt refl _ refl [] tt);
          }
      by (Up s) is = stop_moves s is (step_of db me s site.clock e short) made (step_does db hosts x k site s here is e short told)

  pub fault_moves_at : (e : NodeEvent) (short : List Bool) (made : ℕ) → EventTold hosts x k e →
      Moved hosts x k site (fault_at db me e short made site site.node)
  fault_moves_at e short made told = by site.node refl
    where
      by : (node : Node) → site.node ≡ node → Moved hosts x k site (fault_at db me e short made site node)
      by Down is = stays (only_marks site []) refl refl refl refl tt
      by (Halted h) is = stays (only_marks site []) refl refl refl refl tt
      by (Up s) is = fault_moves s is e (step_of db me s site.clock e short) made (step_does db hosts x k site s here is e short told)

  pub crash_moves : Moved hosts x k site (crash_at site)
  crash_moves =
      record {
        clock = refl;
        calls = [];
        entries = refl;
        legal = refl;
        holds = tt;
        seen = inr (changes (runs.Stop k) runs.stops tt refl _ refl [] tt);
      }

  pub restart_moves : (failed : Bool) → Moved hosts x k site (restart_at (length hosts) k failed site)
  restart_moves true = stays (restart_at (length hosts) k true site) refl refl refl refl tt
  restart_moves false = record {
    clock = refl;
    calls = [];
    entries = refl;
    legal = refl;
    holds = (refl, record { sending = λ is. absurd (true≢false (sym is)); kept = tt });
    seen = inr (changes (runs.Start k) (runs.started cell_rules (length x.servers)) tt refl _ opened [] tt);
  }
    where
      opened : runs.started cell_rules (length x.servers) (view site) ≡ view (restart_at (length hosts) k false site).site
      opened = ap (λ (n : ℕ). runs.started cell_rules n (view site)) here.size
