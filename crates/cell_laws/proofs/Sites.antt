-- A step of a server that is up, as the model of leases sees it: nothing happens there, or one event does.
use Rattle.std.proofs.Common.{Bool, true, false, true≢false, cond, ◌≡◌, ℕ, zero, suc, ◌<◌, List, [], ◌∷◌, ◌++◌, length, set, refl, sym, ap}
use Rattle.std.proofs.Common.{subst, ◌∙◌, ◌⊎◌, inl, inr}
use Rattle.std.proofs.lemmas.Bool.{cond_both}
use Rattle.std.specs.Prelude.{Option, Some, None, ◌&&◌, slice_get}
use Rattle.ubik_types.specs.declared.hosts.Host.{Host}
use Rattle.ubik_types.specs.declared.versions.Version.{Version}
use Rattle.ubik_types.specs.Lease.{is_in_lease, is_counted, with_start}
use Rattle.ubik_types.specs.Votes.{answers_yes, beacon_is_due}
use Rattle.ubik_calls.specs.declared.packets.Body.{Body}
use Rattle.ubik_calls.specs.declared.packets.Body.TheVariants as body
use Rattle.db_image.specs.Database.{Database}
use Rattle.lease_model.specs.Invariant.{Invariant, WereGiven}
use Rattle.lease_model.specs.Leases as leases
use Rattle.lease_model.specs.Leases.{Leases, IsIn, IsLeased, IsLeasedIn}
use Rattle.lease_model.specs.Rules.{cell_rules}
use Rattle.lease_model.specs.Runs as runs
use Rattle.lease_model.proofs.Exclude.{lease_given}
use Rattle.lease_model.proofs.Places.{in_more, at_length, and_both}
use Rattle.cell_model.specs.declared.events.NodeEvent.{NodeEvent}
use Rattle.cell_model.specs.declared.events.NodeEvent.TheVariants as event
use Rattle.cell_model.specs.Durable.{Durable, Made, Reason, Own_relabelling, Committed, Received, version_after}
use Rattle.cell_model.specs.Evaluating.{always}
use Rattle.cell_model.specs.Lapse.{lapsed}
use Rattle.cell_model.specs.Node.{Node, Down, Halted, Up, Server}
use Rattle.cell_model.specs.NodeRule.{received_from, received_packet, place_of, step_of, step_by}
use Rattle.cell_model.specs.Step.{Member, Shown, Stepped, quiet, showing, leased, is_ready, told_version, host_at, short_after}
use Rattle.cell_model.specs.Voting.{beacon_taken, beacon_turn, beacon_received, vote_received}
use Rattle.cell_model.specs.World.{Site}
use Rattle.cell_laws.specs.View.{voter_of, standing_of, view}
use Rattle.cell_laws.proofs.Others.{IsOther}
use Rattle.cell_laws.proofs.Parts.{Ballot, ballot_of, IsLegalCall, AreLegal, legal_append, Rests}
use Rattle.cell_laws.specs.Invariant.{TellsBeacon, TellsVote, Tells, IsTold, Claims, NodeHolds}
use Rattle.cell_laws.proofs.Steps.{lapsed_is, step_rests}
use Rattle.cell_laws.proofs.Told.{ShownTold, Grew, told_append, other_told, beacons_told}
use Rattle.cell_laws.proofs.Votes.{voter_with, answered_yes, answered_no, yes_free, leased_is}

-- ---- what grows stays given

pub given_more : (x y : Leases) (m since : ℕ) → Grew x y → WereGiven cell_rules x m since → WereGiven cell_rules y m since
given_more x y m since grew g = record {
  set = g.set;
  each = g.each ∙ sym grew.same;
  suffices = subst (λ (n : ℕ). cell_rules.suffices n g.set ≡ true) (sym grew.same) g.suffices;
  yes = λ v is. let w = g.yes v is in (w.0, w.1, w.2, grew.yeses _ w.3);
}

pub holds_more : (x y : Leases) (k : ℕ) (d : Durable) (node : Node) → Grew x y → NodeHolds x k d node → NodeHolds y k d node
holds_more x y k d Down grew holds = tt
holds_more x y k d (Halted h) grew holds = tt
holds_more x y k d (Up s) grew holds =
    (holds.0, record { sending = λ is. given_more x y k s.version.epoch grew (holds.1.sending is); kept = holds.1.kept })

-- a packet that comes is one that the model knows, and it is for this server
abbrev pub EventTold : List Host → Leases → ℕ → NodeEvent → Type 0
EventTold hosts x k (event.Packet p) = IsTold hosts x p × (place_of hosts p.to ≡ Some k)
EventTold hosts x k _ = Unit {0}

-- server k of the world, and of the model
pub record Here (hosts : List Host) (x : Leases) (k : ℕ) (site : Site) : Type 0 where
  pub get : slice_get x.servers k ≡ Some (view site)
  pub size : length x.servers ≡ length hosts
  pub own : place_of hosts (host_at hosts k) ≡ Some k
  pub moment : 0 < site.clock
  pub kept : Invariant cell_rules x
  pub holds : NodeHolds x k site.durable site.node

pub at_set : (xs : List leases.Server) (k : ℕ) (f : leases.Server → leases.Server) (y : leases.Server) → slice_get xs k ≡ Some y →
    runs.at_server xs k f ≡ set xs k (f y)
at_set [] k f y is = refl
at_set (z ∷ xs) zero f y is = let same : z ≡ y = cc in ap (λ (a : leases.Server). f a ∷ xs) same
at_set (z ∷ xs) (suc k) f y is = ap (λ (rest : List leases.Server). z ∷ rest) (at_set xs k f y is)

-- ---- one step

abbrev pub seen_voter : ℕ → leases.Voter → leases.Server
seen_voter clock v = record { clock = clock; standing = leases.Up v }

-- the model has an event, and then this server and these packets
pub record Voted (hosts : List Host) (x : Leases) (k : ℕ) (server : leases.Server) (shown : List Shown) : Type 0 where
  pub e : runs.Event
  pub may : runs.IsEvent cell_rules x e
  pub next : Leases
  pub is_next : runs.after cell_rules x e ≡ next
  pub servers : next.servers ≡ set x.servers k server
  pub grew : Grew x next
  pub told : ShownTold hosts next shown

abbrev pub IsSeen : List Host → Leases → ℕ → leases.Server → leases.Server → List Shown → Type 0
IsSeen hosts x k before server shown = ((server ≡ before) × ShownTold hosts x shown) ⊎ Voted hosts x k server shown

-- a step of a server that is up
pub record Does (hosts : List Host) (x : Leases) (k clock : ℕ) (s : Server) (t : Stepped) : Type 0 where
  pub legal : AreLegal (WereGiven cell_rules x k clock) (WereGiven cell_rules x k) clock s.version t.calls t.server.version
  pub claims : Claims (WereGiven cell_rules x k) t.server
  pub seen : IsSeen hosts x k (seen_voter clock (voter_of s)) (seen_voter clock (voter_of t.server)) t.shown

-- another reason to be in lease
legal_by : (A B : Type 0) (Claim : ℕ → Type 0) (now : ℕ) (v last : Version) (calls : List Made) → (A → B) →
    AreLegal A Claim now v calls last → AreLegal B Claim now v calls last
legal_by A B Claim now v last [] f legal = legal
legal_by A B Claim now v last (made ∷ calls) f legal =
    (one made.reason legal.0, legal_by A B Claim now (version_after made.call) last calls f legal.1)
  where
    one : (r : Reason) → IsLegalCall A Claim now v (version_after made.call) r → IsLegalCall B Claim now v (version_after made.call) r
    one Own_relabelling is = (is.0, is.1, f is.2)
    one (Committed t) is = is
    one Received is = is

module _ (db : Database) (hosts : List Host) (x : Leases) (k : ℕ) (site : Site) (s : Server) (here : Here hosts x k site)
    (is_up : site.node ≡ Up s) where
  abbrev m : Member
  m = record { hosts = hosts; me = k }

  abbrev Claim : ℕ → Type 0
  Claim = WereGiven cell_rules x k

  get_up : slice_get x.servers k ≡ Some (seen_voter site.clock (voter_of s))
  get_up = here.get ∙ ap (λ (n : Node). Some (record { clock = site.clock; standing = standing_of n })) is_up

  claims : Claims Claim s
  claims = (subst (NodeHolds x k site.durable) is_up here.holds).1

  claim_now : is_in_lease (length hosts) s.starts site.clock ≡ true → Claim site.clock
  claim_now is =
      lease_given cell_rules x k (seen_voter site.clock (voter_of s)) here.kept get_up
      (subst (λ (n : ℕ). IsLeased cell_rules n s.starts site.clock) (sym here.size)
      (leased_is (length hosts) s.starts site.clock here.moment is))

  abbrev RestsHere : Server → Stepped → Type 0
  RestsHere u t = Rests m site.clock (ballot_of s) Claim u t

  same_voter : (u : Server) → ballot_of u ≡ ballot_of s → voter_of u ≡ voter_of s
  same_voter u same = ap (λ (c : Ballot). voter_with c.votes c.starts) same

  rests_does : (t : Stepped) → RestsHere s t → Does hosts x k site.clock s t
  rests_does t rests = record {
    legal = legal_by _ (Claim site.clock) Claim site.clock s.version t.server.version t.calls claim_now rests.legal;
    claims = rests.fit.claims;
    seen = inl (ap (seen_voter site.clock) (same_voter t.server rests.fit.ballot), other_told hosts x t.shown rests.other);
  }

  -- ---- votes, after the lapse

  abbrev lapse : Stepped
  lapse = lapsed m s site.clock

  abbrev u : Server
  u = lapse.server

  lapse_rests : RestsHere s lapse
  lapse_rests = lapsed_is db m site.clock (ballot_of s) Claim claim_now s refl claims

  u_is : voter_of u ≡ voter_of s
  u_is = same_voter u lapse_rests.fit.ballot

  abbrev behind : Stepped → Stepped
  behind v = record { server = v.server; calls = lapse.calls ++ v.calls; shown = lapse.shown ++ v.shown }

  -- what only votes
  pub record IsVote (v : Stepped) : Type 0 where
    pub calls : v.calls ≡ []
    pub version : v.server.version ≡ u.version
    pub claims : Claims Claim v.server
    pub seen : IsSeen hosts x k (seen_voter site.clock (voter_of s)) (seen_voter site.clock (voter_of v.server)) (lapse.shown ++ v.shown)

  vote_does : (v : Stepped) → IsVote v → Does hosts x k site.clock s (behind v)
  vote_does v vote = record {
    legal = legal_by _ (Claim site.clock) Claim site.clock s.version v.server.version (lapse.calls ++ v.calls) claim_now
        (legal_append _ Claim site.clock s.version u.version v.server.version lapse.calls v.calls lapse_rests.legal
        (subst
        (λ (calls : List Made). AreLegal
        (is_in_lease (length hosts) s.starts site.clock ≡ true) Claim site.clock u.version calls v.server.version) (sym vote.calls)
        (sym vote.version)));
    claims = vote.claims;
    seen = vote.seen;
  }

  quiet_vote : (v : Server) (shown : List Shown) → v.version ≡ u.version → Claims Claim v → voter_of v ≡ voter_of u →
      ShownTold hosts x shown → IsVote (showing v shown)
  quiet_vote v shown version holds same told = record {
    calls = refl;
    version = version;
    claims = holds;
    seen =
        inl (
          ap (seen_voter site.clock) (same ∙ u_is),
          told_append hosts x lapse.shown shown (other_told hosts x lapse.shown lapse_rests.other) told,
        );
  }

  -- the free voter of the model
  free_here : (asker : ℕ) (claim : Bool) → answers_yes u.votes site.clock asker claim ≡ true →
      runs.is_free_at cell_rules asker (slice_get x.servers k) ≡ true
  free_here asker claim granted =
      ap (runs.is_free_at cell_rules asker) get_up
      ∙ (ap (runs.is_free cell_rules asker site.clock) (sym u_is) ∙ yes_free u.votes u.starts site.clock asker claim granted)

  -- ---- own beacon

  abbrev asked_model : Leases
  asked_model = runs.asked_by x k (Some (seen_voter site.clock (voter_of s)))

  asked_grew : Grew x asked_model
  asked_grew = record {
    beacons = λ b is. in_more _ x.beacons b is;
    yeses = λ one is. in_more _ x.yeses one is;
    same = at_length x.servers k (runs.asks k);
  }

  taken_is : (claim : Bool) → answers_yes u.votes site.clock k claim ≡ true → IsVote (beacon_taken m u site.clock claim)
  taken_is claim granted = record {
    calls = refl;
    version = refl;
    claims = record { sending = lapse_rests.fit.claims.sending; kept = lapse_rests.fit.claims.kept };
    seen = inr (record {
      e = runs.Ask k;
      may = free_here k claim granted;
      next = asked_model;
      is_next = ap (runs.asked_by x k) get_up;
      servers =
          at_set x.servers k (runs.asks k) (seen_voter site.clock (voter_of s)) get_up
          ∙ ap (λ (v : leases.Voter). set x.servers k (seen_voter site.clock v)) same;
      grew = asked_grew;
      told = told_append hosts asked_model lapse.shown _ (other_told hosts asked_model lapse.shown lapse_rests.other)
          (beacons_told m asked_model 0 hosts site.clock claim (claim && is_ready u.phase)
          (cond (claim && is_ready u.phase) (told_version u.phase u.version) u.version) beacon);
    });
  }
    where
      same : runs.counts k site.clock (runs.said k site.clock (voter_of s)) ≡ voter_of (beacon_taken m u site.clock claim).server
      same =
          ap (λ (v : leases.Voter). runs.counts k site.clock (runs.said k site.clock v)) (sym u_is)
          ∙ sym (answered_yes u.votes (with_start u.starts k site.clock) site.clock k claim granted)

      beacon : TellsBeacon asked_model site.clock (place_of hosts (host_at hosts k))
      beacon h is =
          let me : k ≡ h = (let own : place_of hosts (host_at hosts k) ≡ Some k = here.own in cc) in
          subst (λ (h : ℕ). IsIn asked_model.beacons (record { asker = h; start = site.clock })) me (0, refl)

  turn_is : IsVote (beacon_turn m u site.clock)
  turn_is =
      cond_both (beacon_is_due u.votes site.clock k (leased m u site.clock)) (beacon_taken m u site.clock (leased m u site.clock))
      (quiet u) IsVote
      (λ due. taken_is (leased m u site.clock) due)
      (λ _. quiet_vote u [] refl lapse_rests.fit.claims refl tt)

  -- ---- a beacon of another server

  abbrev answered_model : ℕ → ℕ → Leases
  answered_model j start = runs.answered_by x k (record { asker = j; start = start }) (Some (seen_voter site.clock (voter_of s)))

  answered_grew : (j start : ℕ) → Grew x (answered_model j start)
  answered_grew j start = record {
    beacons = λ b is. is;
    yeses = λ one is. in_more _ x.yeses one is;
    same = at_length x.servers k (runs.votes j);
  }

  beacon_is : (host : Host) (j start : ℕ) (claim ready : Bool) (version : Version) → place_of hosts host ≡ Some j →
      TellsBeacon x start (place_of hosts host) → IsVote (beacon_received m u site.clock host j start claim ready version)
  beacon_is host j start claim ready version from told = by (answers_yes u.votes site.clock j claim) refl
    where
      holds : Claims Claim (beacon_received m u site.clock host j start claim ready version).server
      holds = record { sending = lapse_rests.fit.claims.sending; kept = lapse_rests.fit.claims.kept }

      by : (b : Bool) → answers_yes u.votes site.clock j claim ≡ b →
          IsVote (beacon_received m u site.clock host j start claim ready version)
      by true granted = record {
        calls = refl;
        version = refl;
        claims = holds;
        seen = inr (record {
          e = runs.Answer k (record { asker = j; start = start });
          may = (told j from, free_here j claim granted);
          next = answered_model j start;
          is_next = ap (runs.answered_by x k (record { asker = j; start = start })) get_up;
          servers =
              at_set x.servers k (runs.votes j) (seen_voter site.clock (voter_of s)) get_up
              ∙ ap (λ (v : leases.Voter). set x.servers k (seen_voter site.clock v)) same;
          grew = answered_grew j start;
          told =
              told_append hosts (answered_model j start) lapse.shown _
              (other_told hosts (answered_model j start) lapse.shown lapse_rests.other) (vote, tt);
        });
      }
        where
          same : runs.said j site.clock (voter_of s) ≡ voter_of (beacon_received m u site.clock host j start claim ready version).server
          same =
              ap (λ (v : leases.Voter). runs.said j site.clock v) (sym u_is)
              ∙ sym (answered_yes u.votes u.starts site.clock j claim granted)

          vote : TellsVote (answered_model j start) start (answers_yes u.votes site.clock j claim) (place_of hosts (host_at hosts k))
              (place_of hosts host)
          vote granted voter asker is_voter is_asker =
              let me : k ≡ voter = (let own : place_of hosts (host_at hosts k) ≡ Some k = here.own in cc) in
              let it : j ≡ asker = cc in (
                site.clock,
                subst
                    (λ (voter : ℕ). IsIn (answered_model j start).yeses
                    (record { voter = voter; asker = asker; start = start; at = site.clock })) me
                    (subst
                    (λ (asker : ℕ). IsIn (answered_model j start).yeses
                    (record { voter = k; asker = asker; start = start; at = site.clock })) it (0, refl)),
              )
      by false none =
          quiet_vote (beacon_received m u site.clock host j start claim ready version).server
          (beacon_received m u site.clock host j start claim ready version).shown refl holds
          (answered_no u.votes u.starts site.clock j claim none)
          (λ granted voter asker is_voter is_asker. absurd (true≢false (sym granted ∙ none)), tt)

  -- ---- a vote

  vote_is : (host : Host) (j start : ℕ) (granted : Bool) → place_of hosts host ≡ Some j →
      TellsVote x start granted (place_of hosts host) (Some k) → IsVote (vote_received m u j start granted)
  vote_is host j start granted from told = by (granted && is_counted u.opened k u.starts start) refl
    where
      P : List (Option ℕ) → Type 0
      P starts = IsVote (quiet (record u { starts = starts }))

      by : (b : Bool) → (granted && is_counted u.opened k u.starts start) ≡ b → P (cond b (with_start u.starts j start) u.starts)
      by true counted = record {
        calls = refl;
        version = refl;
        claims = record { sending = lapse_rests.fit.claims.sending; kept = lapse_rests.fit.claims.kept };
        seen = inr (record {
          e = runs.Count one_yes;
          may = given.1;
          next = counted_model;
          is_next = refl;
          servers =
              at_set x.servers k (runs.counting one_yes) (seen_voter site.clock (voter_of s)) get_up
              ∙ ap (λ (v : leases.Voter). set x.servers k (seen_voter site.clock (runs.counts j start v))) (sym u_is);
          grew = record { beacons = λ b is. is; yeses = λ one is. is; same = at_length x.servers k (runs.counting one_yes) };
          told = told_append hosts counted_model lapse.shown [] (other_told hosts counted_model lapse.shown lapse_rests.other) tt;
        });
      }
        where
          given : (at : ℕ) × IsIn x.yeses (record { voter = j; asker = k; start = start; at = at })
          given = told (and_both granted _ counted).0 j k from refl

          one_yes : leases.Yes
          one_yes = record { voter = j; asker = k; start = start; at = given.0 }

          counted_model : Leases
          counted_model = record x { servers = runs.at_server x.servers k (runs.counting one_yes) }
      by false none = quiet_vote (record u { starts = u.starts }) [] refl lapse_rests.fit.claims refl tt

  -- ---- every event

  received_does : (host : Host) (j : ℕ) (c : Body) (short : List Bool) → place_of hosts host ≡ Some j →
      Tells x c (place_of hosts host) (Some k) → IsVote (received_from (always db) m u site.clock host j c short) ⊎ IsOther c
  received_does host j (body.Beacon start claim ready version) short from told = inl (beacon_is host j start claim ready version from told)
  received_does host j (body.Vote start granted) short from told = inl (vote_is host j start granted from told)
  received_does host j _ short from told = inr tt

  pub step_does : (e : NodeEvent) (short : List Bool) → EventTold hosts x k e →
      Does hosts x k site.clock s (step_of db m s site.clock e short)
  unfolding step_by
  step_does (event.Packet p) short told = by (place_of hosts p.from) refl
    where
      P : Option ℕ → Type 0
      P place = Does hosts x k site.clock s (behind (received_packet (always db) m u site.clock p (short_after lapse.shown short) place))

      rest : IsOther p.body → P (place_of hosts p.from)
      rest other = rests_does _ (step_rests db m site.clock (ballot_of s) Claim claim_now s (event.Packet p) short other refl claims)

      here_to : Tells x p.body (place_of hosts p.from) (Some k)
      here_to = subst (Tells x p.body (place_of hosts p.from)) told.1 told.0

      kind : (j : ℕ) → place_of hosts p.from ≡ Some j →
          IsVote (received_from (always db) m u site.clock p.from j p.body (short_after lapse.shown short)) ⊎ IsOther p.body → P (Some j)
      kind j from (inl vote) = vote_does (received_from (always db) m u site.clock p.from j p.body (short_after lapse.shown short)) vote
      kind j from (inr other) = subst P from (rest other)

      by : (place : Option ℕ) → place_of hosts p.from ≡ place → P place
      by None from = vote_does (quiet u) (quiet_vote u [] refl lapse_rests.fit.claims refl tt)
      by (Some j) from = kind j from (received_does p.from j p.body (short_after lapse.shown short) from here_to)
  step_does event.BeaconTurn short told = vote_does (beacon_turn m u site.clock) turn_is
  step_does event.RecoverTurn short told =
      rests_does _ (step_rests db m site.clock (ballot_of s) Claim claim_now s event.RecoverTurn short tt refl claims)
  step_does (event.Ask id call) short told =
      rests_does _ (step_rests db m site.clock (ballot_of s) Claim claim_now s (event.Ask id call) short tt refl claims)
