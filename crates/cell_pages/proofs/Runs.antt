-- What each move of a step keeps is kept along each run of each cell.
use Rattle.std.proofs.Common.{true≢false, arith, ◌≤◌, Bool, true, false, ◌≡◌, ◌⊎◌, inl, inr, ℕ, zero, suc, ◌<◌, List, [], ◌∷◌, ◌++◌, length, map, take, refl, sym, ap, subst, ◌∙◌}
use Rattle.std.proofs.lemmas.Bool.Decides.{nat_tests}
use Rattle.std.specs.Prelude.{Option, Some, None, nat_le, slice_get, option_and_then, option_map}
use Rattle.std.specs.List.{cons_option}
use Rattle.ubik_types.specs.declared.hosts.Host.{Host}
use Rattle.ubik_types.specs.Lease.{is_in_lease, lease_end}
use Rattle.ubik_calls.specs.declared.packets.Body.{Body}
use Rattle.ubik_calls.specs.declared.packets.Packet.{Packet}
use Rattle.db_image.specs.Database.{Database}
use Rattle.lease_model.specs.Invariant.{WereGiven}
use Rattle.lease_model.specs.Leases.{Leases, IsLeased}
use Rattle.lease_model.specs.Rules.{AreSafe, cell_rules}
use Rattle.lease_model.specs.Runs as runs
use Rattle.lease_model.proofs.Exclude.{lease_given, separated}
use Rattle.cell_model.specs.declared.events.NodeEvent.{NodeEvent}
use Rattle.cell_model.specs.declared.events.NodeEvent.TheVariants as event
use Rattle.cell_model.specs.declared.events.Output.{Output}
use Rattle.cell_model.specs.declared.events.Output.TheVariants as output
use Rattle.cell_model.specs.Book.{Book, Run, entered, run_after, run_through}
use Rattle.cell_model.specs.Durable.{Durable, Made, durable_after_all, no_database}
use Rattle.cell_model.specs.Node.{Node, Down, Halted, Up, Server}
use Rattle.cell_model.specs.NodeRule.{step_of, refusals, place_of}
use Rattle.cell_model.specs.Step.{Member, Shown, Stepped}
use Rattle.cell_model.specs.World.{World, Site, Trigger, Delivery, Beacon_turn, Recover_turn, Asking, Event, Tick, Tick_all, Step, Stop}
use Rattle.cell_model.specs.World.{Fault, Crash, Restart, Entry, SiteHappened, entries_from, packet_in, packets_of, happened_at, happens_at}
use Rattle.cell_model.specs.World.{only_marks, halted_step, lost_at, step_up, step_at, stop_at, fault_at, crash_at}
use Rattle.cell_model.specs.World.{restart_at, ticked, tick_at, packet_numbered, delivered, occasion, member, site_of, triggered, happens}
use Rattle.cell_model.specs.World.{IsRun, first_site, first_world}
use Rattle.cell_laws.specs.View.{view, voter_of, standing_of}
use Rattle.cell_laws.specs.Invariant.{VersionHolds, CellInvariant}
use Rattle.cell_laws.proofs.Sites.{Here, seen_voter}
use Rattle.cell_laws.proofs.Votes.{leased_is}
use Rattle.cell_laws.proofs.Worlds.{here_of, site_either, LaterSites, ticked_one, ticked_each, Result, happens_good}
use Rattle.cell_laws.proofs.Cells.{first_each}
use Rattle.cell_pages.specs.Growth.{Grew, durable_of, Leads}
use Rattle.cell_pages.specs.Parts.{OthersBelow}
use Rattle.cell_pages.specs.Passes.{is_held, InStep, Pass, NodeKeeps, SiteKeeps, WorldKeeps}
use Rattle.cell_pages.specs.Says.{OutputSays, AllSay, AllPackets}
use Rattle.cell_pages.proofs.Leading.{grew_none, leads_to, leads_take, leads_grew}
use Rattle.cell_pages.proofs.Making.{versions_map}
use Rattle.cell_pages.proofs.WalkEvents.{Ends, EventSays, step_ends}

-- ---- packets

packets_more : (P Q : Body → Type 0) (packets : List Packet) → ((b : Body) → P b → Q b) → AllPackets P packets → AllPackets Q packets
packets_more P Q [] f all = tt
packets_more P Q (p ∷ packets) f all = (f p.body all.0, packets_more P Q packets f all.1)

module _ (P : Body → Type 0) where
  packets_append : (packets more : List Packet) → AllPackets P packets → AllPackets P more → AllPackets P (packets ++ more)
  packets_append [] more all rest = rest
  packets_append (p ∷ packets) more all rest = (all.0, packets_append packets more all.1 rest)

  packets_get : (packets : List Packet) (k : ℕ) (p : Packet) → AllPackets P packets → slice_get packets k ≡ Some p → P p.body
  packets_get [] k p all is = absurd (cc)
  packets_get (q ∷ packets) zero p all is = let same : q ≡ p = cc in subst (λ (p : Packet). P p.body) same all.0
  packets_get (q ∷ packets) (suc k) p all is = packets_get packets k p all.1 is

  output_packets : (o : Output) (packets : List Packet) → OutputSays P o → AllPackets P packets →
      AllPackets P (cons_option (packet_in o) packets)
  output_packets (output.Send packet) packets says all = (says, all)
  output_packets (output.Reply id r) packets says all = all
  output_packets (output.Announce version) packets says all = all

  shown_packets : (shown : List Shown) → AllSay P shown → AllPackets P (packets_of shown)
  shown_packets [] all = tt
  shown_packets (one ∷ shown) all = output_packets one.output (packets_of shown) all.0 (shown_packets shown all.1)

  refusals_say : (e : NodeEvent) → AllSay P (refusals e)
  refusals_say (event.Packet p) = tt
  refusals_say event.BeaconTurn = tt
  refusals_say event.RecoverTurn = tt
  refusals_say (event.Ask id call) = (tt, tt)

abbrev packet_at : Packet → ℕ → ℕ × NodeEvent
packet_at p k = (k, event.Packet p)

module _ (db : Database) (F : ℕ → Bool → Book → Server → Type 0) (D : ℕ → Book → Durable → Type 0) (P : Book → Body → Type 0)
    (B : Book → Type 0)
    (pass : Pass db F D P B) where
  abbrev Keeps : World → Book → Type 0
  Keeps w book = WorldKeeps F D P B w book

  -- what happened at one server
  pub record Leaves (n k : ℕ) (book : Book) (site : Site) (h : SiteHappened) : Type 0 where
    pub lease : Bool
    pub leased : lease ≡ true → (s : Server) × (site.node ≡ Up s) × (is_in_lease n s.starts site.clock ≡ true)
    pub grew : Grew lease k book (entered book h.entries)
    pub pages : B (entered book h.entries)
    pub after : SiteKeeps (λ lease. F k lease (entered book h.entries)) (D k (entered book h.entries)) n h.site
    pub shown : AllSay (P (entered book h.entries)) h.shown

  -- ---- one server

  module _ (hosts : List Host) (k : ℕ) (book : Book) (site : Site) (moment : 0 < site.clock)
      (others : (s : Server) → site.node ≡ Up s → OthersBelow k site.clock (is_in_lease (length hosts) s.starts site.clock) book)
      (pages : B book) (keeps : SiteKeeps (λ lease. F k lease book) (D k book) (length hosts) site) where
    abbrev me : Member
    me = record { hosts = hosts; me = k }

    abbrev Here_leaves : SiteHappened → Type 0
    Here_leaves h = Leaves (length hosts) k book site h

    -- nothing durable happens
    stays : (h : SiteHappened) → h.entries ≡ [] → h.site.durable ≡ site.durable →
        NodeKeeps (λ lease. F k lease book) (length hosts) h.site.clock h.site.durable h.site.node → AllSay (P book) h.shown → Here_leaves h
    stays h entries durable node shown =
        whole (subst Of (sym entries) (
          pages,
          record { durable = subst (λ (d : Durable). D k book d) (sym durable) keeps.durable; node = node },
          shown,
          ap (entered book) entries,
        ))
      where
        Of : List Entry → Type 0
        Of es =
            B (entered book es) × SiteKeeps (λ lease. F k lease (entered book es)) (D k (entered book es)) (length hosts) h.site
            × AllSay (P (entered book es)) h.shown × (entered book h.entries ≡ book)

        whole : Of h.entries → Here_leaves h
        whole w = record {
          lease = false;
          leased = λ is. absurd (true≢false (sym is));
          grew = subst (λ (g : Book). Grew false k book g) (sym w.3) (grew_none false k book);
          pages = w.0;
          after = w.1;
          shown = w.2;
        }

    -- as the lease is after a step
    refreshed : (g : Book) (s : Server) (lease now : Bool) → (is_held s.phase ≡ true → lease ≡ true) → F k lease g s → F k now g s
    refreshed g s true true held f = f
    refreshed g s true false held f = pass.fades k g s f
    refreshed g s false false held f = f
    refreshed g s false true held f = pass.begins k g s (idle (is_held s.phase) refl) f
      where
        idle : (t : Bool) → is_held s.phase ≡ t → is_held s.phase ≡ false
        idle true is = absurd (true≢false (sym (held is)))
        idle false is = is

    -- ---- a step of a server that is up

    module _ (s : Server) (is_up : site.node ≡ Up s) where
      up : (site.durable ≡ durable_of s) × F k (is_in_lease (length hosts) s.starts site.clock) book s
      up = subst (NodeKeeps (λ lease. F k lease book) (length hosts) site.clock site.durable) is_up keeps.node

      abbrev lease : Bool
      lease = is_in_lease (length hosts) s.starts site.clock

      abbrev Led : Book → Durable → Type 0
      Led g d = D k g d × B g

      abbrev Ending : Stepped → Type 0
      Ending t =
          Ends db me site.clock s.starts (InStep F B k site.clock lease) Led P
          (pass.moves me site.clock lease moment) book s t

      ends : (e : NodeEvent) (short : List Bool) →
          EventSays db me site.clock s.starts (InStep F B k site.clock lease) Led P
          (pass.moves me site.clock (is_in_lease (length hosts) s.starts site.clock) moment) book e →
          Ending (step_of db me s site.clock e short)
      ends e short says =
          step_ends db me site.clock s.starts (InStep F B k site.clock lease) Led P
          (pass.moves me site.clock (is_in_lease (length hosts) s.starts site.clock) moment) book s e short refl says
          (up.1, others s is_up, pages)

      -- the book and the durable state after durable calls
      led : (later : Book) (last : Durable) (calls : List Made) → Leads Led lease k book (durable_of s) calls later last →
          (entered book (entries_from k s.version calls) ≡ later) × (durable_after_all site.durable calls ≡ last) × D k later last × B later
      led later last calls leads =
          let w = leads_to Led lease k book later (durable_of s) last calls leads in
          (w.0, ap (λ (d : Durable). durable_after_all d calls) up.0 ∙ w.1, w.2.0, w.2.1)

      up_leaves : (e : NodeEvent) (t : Stepped) → Ending t → Here_leaves (step_up k site e s.version t)
      up_leaves e t end = whole (subst Of (sym w.0) (
        end.grew,
        w.3,
        record {
          durable = subst (λ (d : Durable). D k end.later d) (sym w.1) w.2;
          node = (w.1, refreshed end.later t.server lease (is_in_lease (length hosts) t.server.starts site.clock) end.held end.keeps.0);
        },
        end.shown,
      ))
        where
          w : (entered book (entries_from k s.version t.calls) ≡ end.later)
              × (durable_after_all site.durable t.calls ≡ durable_of t.server) × D k end.later (durable_of t.server) × B end.later
          w = led end.later (durable_of t.server) t.calls end.leads

          Of : Book → Type 0
          Of g =
              Grew (is_in_lease (length hosts) s.starts site.clock) k book g × B g
              × SiteKeeps (λ lease. F k lease g) (D k g) (length hosts) (step_up k site e s.version t).site × AllSay (P g) t.shown

          whole : Of (entered book (entries_from k s.version t.calls)) → Here_leaves (step_up k site e s.version t)
          whole is = record {
            lease = is_in_lease (length hosts) s.starts site.clock;
            leased = λ leased. (s, is_up, leased);
            grew = is.0;
            pages = is.1;
            after = is.2;
            shown = is.3;
          }

      -- the first durable calls of a step, after which the server is down or halted
      broken_leaves : (t : Stepped) (made : ℕ) (h : SiteHappened) → Ending t → h.entries ≡ entries_from k s.version (take made t.calls) →
          h.site.durable ≡ durable_after_all site.durable (take made t.calls) →
          ((g : Book) (clock : ℕ) (d : Durable) → NodeKeeps (λ lease. F k lease g) (length hosts) clock d h.site.node) →
          ((g : Book) → AllSay (P g) h.shown) → Here_leaves h
      broken_leaves t made h end entries durable node shown = whole (subst Of (sym (ap (entered book) entries ∙ w.0)) (
        leads_grew Led lease k book first.0 (durable_of s) first.1 (take made t.calls) first.2,
        w.3,
        record {
          durable = subst (λ (d : Durable). D k first.0 d) (sym (durable ∙ w.1)) w.2;
          node = node first.0 h.site.clock h.site.durable;
        },
        shown first.0,
      ))
        where
          first : (g : Book) × (c : Durable)
              × Leads (λ g d. D k g d × B g) (is_in_lease (length hosts) s.starts site.clock) k book (durable_of s) (take made t.calls) g c
          first = leads_take Led lease k book end.later (durable_of s) (durable_of t.server) t.calls made end.leads

          w : (entered book (entries_from k s.version (take made t.calls)) ≡ first.0)
              × (durable_after_all site.durable (take made t.calls) ≡ first.1) × D k first.0 first.1 × B first.0
          w = led first.0 first.1 (take made t.calls) first.2

          Of : Book → Type 0
          Of g =
              Grew (is_in_lease (length hosts) s.starts site.clock) k book g × B g
              × SiteKeeps (λ lease. F k lease g) (D k g) (length hosts) h.site × AllSay (P g) h.shown

          whole : Of (entered book h.entries) → Here_leaves h
          whole is = record {
            lease = is_in_lease (length hosts) s.starts site.clock;
            leased = λ leased. (s, is_up, leased);
            grew = is.0;
            pages = is.1;
            after = is.2;
            shown = is.3;
          }

    -- ---- each event

    -- what an event tells
    abbrev Says : NodeEvent → Type 0
    Says (event.Packet p) = P book p.body
    Says _ = Unit {0}

    event_says : (s : Server) (e : NodeEvent) → Says e →
        EventSays db me site.clock s.starts
        (InStep F B k site.clock (is_in_lease (length hosts) s.starts site.clock)) (λ g d. D k g d × B g) P
        (pass.moves me site.clock (is_in_lease (length hosts) s.starts site.clock) moment) book e
    event_says s (event.Packet p) says = says
    event_says s event.BeaconTurn says = tt
    event_says s event.RecoverTurn says = tt
    event_says s (event.Ask id call) says = tt

    step_leaves : (trigger : Trigger) (e : NodeEvent) (short : List Bool) → Says e →
        Here_leaves (step_at db me trigger e short site site.node)
    step_leaves trigger e short says = by site.node refl
      where
        by : (node : Node) → site.node ≡ node → Here_leaves (step_at db me trigger e short site node)
        by Down is = stays (only_marks site (lost_at trigger)) refl refl keeps.node tt
        by (Halted h) is = stays (halted_step site e) refl refl keeps.node (refusals_say (P book) e)
        by (Up s) is = up_leaves s is e (step_of db me s site.clock e short) (ends s is e short (event_says s e says))

    stop_leaves : (e : NodeEvent) (short : List Bool) (made : ℕ) → Says e → Here_leaves (stop_at db me e short made site site.node)
    stop_leaves e short made says = by site.node refl
      where
        by : (node : Node) → site.node ≡ node → Here_leaves (stop_at db me e short made site node)
        by Down is = stays (only_marks site []) refl refl keeps.node tt
        by (Halted h) is = stays (stop_at db me e short made site (Halted h)) refl refl tt tt
        by (Up s) is =
            broken_leaves s is (step_of db me s site.clock e short) made (stop_at db me e short made site (Up s))
            (ends s is e short (event_says s e says)) refl refl (λ g clock d. tt) (λ g. tt)

    fault_leaves : (e : NodeEvent) (short : List Bool) (made : ℕ) → Says e → Here_leaves (fault_at db me e short made site site.node)
    fault_leaves e short made says = by site.node refl
      where
        by : (node : Node) → site.node ≡ node → Here_leaves (fault_at db me e short made site node)
        by Down is = stays (only_marks site []) refl refl keeps.node tt
        by (Halted h) is = stays (only_marks site []) refl refl keeps.node tt
        by (Up s) is =
            broken_leaves s is (step_of db me s site.clock e short) made (fault_at db me e short made site (Up s))
            (ends s is e short (event_says s e says)) refl refl (λ g clock d. tt) (λ g. refusals_say (P g) e)

    crash_leaves : Here_leaves (crash_at site)
    crash_leaves = stays (crash_at site) refl refl tt tt

    restart_leaves : (failed : Bool) → Here_leaves (restart_at (length hosts) k failed site)
    restart_leaves true = stays (restart_at (length hosts) k true site) refl refl keeps.node tt
    restart_leaves false =
        stays (restart_at (length hosts) k false site) refl refl
        (refl, pass.opened k (length hosts) site.clock _ book site.durable pages keeps.durable) tt

  -- ---- the world

  node_more : (E G : Bool → Server → Type 0) (n clock : ℕ) (d : Durable) (node : Node) →
      ((s : Server) → node ≡ Up s → E (is_in_lease n s.starts clock) s → G (is_in_lease n s.starts clock) s) →
      NodeKeeps E n clock d node → NodeKeeps G n clock d node
  node_more E G n clock d Down f is = tt
  node_more E G n clock d (Halted h) f is = tt
  node_more E G n clock d (Up s) f is = (is.0, f s refl is.1)

  -- a server that is in lease has the claim to its moment
  claim : (w : World) (x : Leases) (k : ℕ) (site : Site) (s : Server) → Here w.hosts x k site → site.node ≡ Up s →
      is_in_lease (length w.hosts) s.starts site.clock ≡ true → WereGiven cell_rules x k site.clock
  claim w x k site s here is_up is =
      lease_given cell_rules x k (seen_voter site.clock (voter_of s)) here.kept
      (here.get ∙ ap (λ (n : Node). Some (record { clock = site.clock; standing = standing_of n })) is_up)
      (subst (λ (n : ℕ). IsLeased cell_rules n s.starts site.clock) (sym here.size)
      (leased_is (length w.hosts) s.starts site.clock here.moment is))

  -- what other servers made is of epochs below the clock of a server that is in lease
  pub others_below : AreSafe cell_rules → (w : World) (x : Leases) (book : Book) (k : ℕ) (site : Site) (s : Server) → CellInvariant w x book →
      Here w.hosts x k site → site.node ≡ Up s → OthersBelow k site.clock (is_in_lease (length w.hosts) s.starts site.clock) book
  others_below safe w x book k site s good here is_up =
      versions_map (VersionHolds w.sites x)
      (λ b. (b.maker ≡ k → ⊥) → is_in_lease (length w.hosts) s.starts site.clock ≡ true → b.version.epoch < site.clock) book
      (λ b holds other leased.
      separated cell_rules x b.maker k b.version.epoch (view site) safe here.kept holds.0 here.get (claim w x k site s here is_up leased)
      other) good.versions

  -- two servers are not in lease at once
  pub one_leads : AreSafe cell_rules → (w : World) (x : Leases) (j k : ℕ) (y z : Site) (s u : Server) → Here w.hosts x j y →
      Here w.hosts x k z → y.node ≡ Up s → z.node ≡ Up u → (j ≡ k → ⊥) → is_in_lease (length w.hosts) s.starts y.clock ≡ true →
      is_in_lease (length w.hosts) u.starts z.clock ≡ true → ⊥
  one_leads safe w x j k y z s u here_j here_k up_j up_k other leased_j leased_k =
      let first : y.clock < z.clock =
      separated cell_rules x j k y.clock (view z) safe here_k.kept (claim w x j y s here_j up_j leased_j) here_k.get
      (claim w x k z u here_k up_k leased_k) other in
      let second : z.clock < y.clock =
      separated cell_rules x k j z.clock (view y) safe here_j.kept (claim w x k z u here_k up_k leased_k) here_j.get
      (claim w x j y s here_j up_j leased_j) (λ same. other (sym same)) in
      omega arith

  -- a lease that is there later was there before
  earlier_lease : (until clock later : ℕ) → clock ≤ later → nat_le later until ≡ true → nat_le clock until ≡ true
  earlier_lease until clock later before is = grind (arith, nat_tests)

  -- at a later clock
  faded : (k : ℕ) (book : Book) (s : Server) (lease later : Bool) → (later ≡ true → lease ≡ true) → F k lease book s → F k later book s
  faded k book s true true then f = f
  faded k book s true false then f = pass.fades k book s f
  faded k book s false false then f = f
  faded k book s false true then f = absurd (true≢false (sym (then refl)))

  node_later : (k : ℕ) (book : Book) (n clock later : ℕ) (d : Durable) (node : Node) → clock ≤ later →
      NodeKeeps (λ lease. F k lease book) n clock d node → NodeKeeps (λ lease. F k lease book) n later d node
  node_later k book n clock later d Down before is = tt
  node_later k book n clock later d (Halted h) before is = tt
  node_later k book n clock later d (Up s) before is = (
    is.0,
    faded k book s (is_in_lease n s.starts clock) (is_in_lease n s.starts later)
        (earlier_lease (lease_end n s.starts) clock later before) is.1,
  )

  module _ (safe : AreSafe cell_rules) (w : World) (x : Leases) (book : Book) (good : CellInvariant w x book) (keeps : Keeps w book) where
    -- one server did something
    happened_keeps : (k : ℕ) (site : Site) (h : SiteHappened) → Here w.hosts x k site → Leaves (length w.hosts) k book site h →
        Keeps (happened_at w k h).world (entered book h.entries)
    happened_keeps k site h here leaves = record {
      pages = leaves.pages;
      sites = λ j z get. by j z (site_either w.sites k j h.site z get);
      packets =
          packets_append (P (entered book h.entries)) w.packets (packets_of h.shown)
          (packets_more (P book) (P (entered book h.entries)) w.packets
          (λ b is. pass.packet leaves.lease k book (entered book h.entries) b leaves.grew is) keeps.packets)
          (shown_packets (P (entered book h.entries)) h.shown leaves.shown);
    }
      where
        alone : (j : ℕ) (z : Site) (s : Server) → slice_get w.sites j ≡ Some z → z.node ≡ Up s → (j ≡ k → ⊥) →
            is_in_lease (length w.hosts) s.starts z.clock ≡ true → leaves.lease ≡ true → ⊥
        alone j z s get is_up other leased at =
            let w1 = leaves.leased at in
            one_leads safe w x j k z site s w1.0 (here_of w x book j z good get) here is_up w1.1 other leased w1.2

        by : (j : ℕ) (z : Site) → ((j ≡ k) × (z ≡ h.site)) ⊎ ((j ≡ k → ⊥) × (slice_get w.sites j ≡ Some z)) →
            SiteKeeps (λ lease. F j lease (entered book h.entries)) (D j (entered book h.entries)) (length w.hosts) z
        by j z (inl p) =
            subst
            (λ (z : Site). SiteKeeps (λ lease. F j lease (entered book h.entries)) (D j (entered book h.entries)) (length w.hosts) z)
            (sym p.1)
            (subst
            (λ (i : ℕ). SiteKeeps (λ lease. F i lease (entered book h.entries)) (D i (entered book h.entries)) (length w.hosts) h.site)
            (sym p.0) leaves.after)
        by j z (inr p) =
            let old : SiteKeeps (λ lease. F j lease book) (D j book) (length w.hosts) z = keeps.sites j z p.1 in
            record {
              durable = pass.durable leaves.lease j k book (entered book h.entries) z.durable p.0 leaves.grew old.durable;
              node =
                  node_more (λ lease. F j lease book) (λ lease. F j lease (entered book h.entries)) (length w.hosts) z.clock z.durable
                  z.node
                  (λ s is_up is.
                  pass.server leaves.lease (is_in_lease (length w.hosts) s.starts z.clock) j k book (entered book h.entries) s p.0
                  (alone j z s p.1 is_up p.0) leaves.grew is) old.node;
            }

    at_server : (k : ℕ) (f : Site → SiteHappened) →
        ((site : Site) → site_of w k ≡ Some site → Here w.hosts x k site → Leaves (length w.hosts) k book site (f site)) →
        Keeps (happens_at w k f (site_of w k)).world (entered book (happens_at w k f (site_of w k)).entries)
    at_server k f leaves = by (site_of w k) refl
      where
        by : (o : Option Site) → site_of w k ≡ o → Keeps (happens_at w k f o).world (entered book (happens_at w k f o).entries)
        by None is = keeps
        by (Some site) is =
            let here : Here w.hosts x k site = here_of w x book k site good is in
            happened_keeps k site (f site) here (leaves site is here)

    -- what a trigger brings
    abbrev Brings : NodeEvent → Type 0
    Brings (event.Packet p) = P book p.body
    Brings _ = Unit {0}

    delivers : (number k : ℕ) (e : NodeEvent) → option_and_then (delivered w.hosts) (packet_numbered w number) ≡ Some (k, e) → Brings e
    delivers zero k e is = absurd (cc)
    delivers (suc number) k e is = by (slice_get w.packets number) refl is
      where
        at : (p : Packet) → slice_get w.packets number ≡ Some p → (o : Option ℕ) →
            option_map (packet_at p) o ≡ Some (k, e) → Brings e
        at p get None is = absurd (cc)
        at p get (Some j) is =
            let pair : ◌≡◌ {A = ℕ × NodeEvent} (j, event.Packet p) (k, e) = cc in
            let same : event.Packet p ≡ e = ap (λ (q : ℕ × NodeEvent). q.1) pair in
            subst Brings same (packets_get (P book) w.packets number p keeps.packets get)

        by : (o : Option Packet) → slice_get w.packets number ≡ o → option_and_then (delivered w.hosts) o ≡ Some (k, e) → Brings e
        by None get is = absurd (cc)
        by (Some p) get is = at p get (place_of w.hosts p.to) is

    brings : (trigger : Trigger) (k : ℕ) (e : NodeEvent) → occasion w trigger ≡ Some (k, e) → Brings e
    brings (Delivery number) k e is = delivers number k e is
    brings (Beacon_turn server) k e is =
        let pair : ◌≡◌ {A = ℕ × NodeEvent} (server, event.BeaconTurn) (k, e) = cc in
        subst Brings (ap (λ (q : ℕ × NodeEvent). q.1) pair) tt
    brings (Recover_turn server) k e is =
        let pair : ◌≡◌ {A = ℕ × NodeEvent} (server, event.RecoverTurn) (k, e) = cc in
        subst Brings (ap (λ (q : ℕ × NodeEvent). q.1) pair) tt
    brings (Asking server id call) k e is =
        let pair : ◌≡◌ {A = ℕ × NodeEvent} (server, event.Ask id call) (k, e) = cc in
        subst Brings (ap (λ (q : ℕ × NodeEvent). q.1) pair) tt

    at_trigger : (trigger : Trigger) (f : Member → NodeEvent → Site → SiteHappened) →
        ((k : ℕ) (e : NodeEvent) (site : Site) → Brings e → site_of w k ≡ Some site → Here w.hosts x k site →
        Leaves (length w.hosts) k book site (f (member w k) e site)) →
        Keeps (triggered w f (occasion w trigger)).world (entered book (triggered w f (occasion w trigger)).entries)
    at_trigger trigger f leaves = by (occasion w trigger) refl
      where
        by : (o : Option (ℕ × NodeEvent)) → occasion w trigger ≡ o → Keeps (triggered w f o).world (entered book (triggered w f o).entries)
        by None is = keeps
        by (Some o) is = at_server o.0 (f (member w o.0) o.1) (λ site get here. leaves o.0 o.1 site (brings trigger o.0 o.1 is) get here)

    -- the same servers at later clocks
    ticked_keeps : (sites : List Site) → LaterSites w.sites sites → Keeps (record w { sites = sites }) book
    ticked_keeps sites later = record {
      pages = keeps.pages;
      sites = λ j z get.
          let old = later j z get in
          let kept : SiteKeeps (λ lease. F j lease book) (D j book) (length w.hosts) old.0 = keeps.sites j old.0 old.1 in
          let node : NodeKeeps (λ lease. F j lease book) (length w.hosts) z.clock old.0.durable old.0.node =
          node_later j book (length w.hosts) old.0.clock z.clock old.0.durable old.0.node old.2 kept.node in
          record {
            durable = subst (λ (d : Durable). D j book d) (sym old.3) kept.durable;
            node =
                subst (λ (d : Durable). NodeKeeps (λ lease. F j lease book) (length w.hosts) z.clock d z.node) (sym old.3)
                (subst (NodeKeeps (λ lease. F j lease book) (length w.hosts) z.clock old.0.durable) (sym old.4) node);
          };
      packets = keeps.packets;
    }

    others : (k : ℕ) (site : Site) → Here w.hosts x k site → (s : Server) → site.node ≡ Up s →
        OthersBelow k site.clock (is_in_lease (length w.hosts) s.starts site.clock) book
    others k site here s is_up = others_below safe w x book k site s good here is_up

    says_of : (k : ℕ) (site : Site) (here : Here w.hosts x k site) (get : site_of w k ≡ Some site) (e : NodeEvent) → Brings e →
        Says w.hosts k book site here.moment (others k site here) keeps.pages (keeps.sites k site get) e
    says_of k site here get (event.Packet p) brought = brought
    says_of k site here get event.BeaconTurn brought = tt
    says_of k site here get event.RecoverTurn brought = tt
    says_of k site here get (event.Ask id call) brought = tt

    pub happens_keeps : (e : Event) → Keeps (happens db w e).world (entered book (happens db w e).entries)
    happens_keeps (Tick server seconds) = ticked_keeps (tick_at w.sites server seconds) (ticked_one w.sites server seconds)
    happens_keeps (Tick_all seconds) = ticked_keeps (map (ticked seconds) w.sites) (ticked_each w.sites seconds)
    happens_keeps (Step trigger short) =
        at_trigger trigger (λ m e site. step_at db m trigger e short site site.node)
        (λ k e site brought get here.
        step_leaves w.hosts k book site here.moment (others k site here) keeps.pages (keeps.sites k site get) trigger e short
        (says_of k site here get e brought))
    happens_keeps (Stop trigger short made) =
        at_trigger trigger (λ m e site. stop_at db m e short made site site.node)
        (λ k e site brought get here.
        stop_leaves w.hosts k book site here.moment (others k site here) keeps.pages (keeps.sites k site get) e short made
        (says_of k site here get e brought))
    happens_keeps (Fault trigger short made) =
        at_trigger trigger (λ m e site. fault_at db m e short made site site.node)
        (λ k e site brought get here.
        fault_leaves w.hosts k book site here.moment (others k site here) keeps.pages (keeps.sites k site get) e short made
        (says_of k site here get e brought))
    happens_keeps (Crash server) =
        at_server server crash_at
        (λ site get here.
        crash_leaves w.hosts server book site here.moment (others server site here) keeps.pages (keeps.sites server site get))
    happens_keeps (Restart server failed) =
        at_server server (restart_at (length w.hosts) server failed)
        (λ site get here.
        restart_leaves w.hosts server book site here.moment (others server site here) keeps.pages (keeps.sites server site get) failed)

  -- ---- runs

  pub along : AreSafe cell_rules → (r : Run) (x : Leases) (events : List Event) → CellInvariant r.world x r.book → Keeps r.world r.book →
      IsRun db r.world events → Keeps (run_through db r events).world (run_through db r events).book
  along safe r x [] good keeps run = keeps
  along safe r x (e ∷ events) good keeps run =
      by (happens_good safe db r.world x r.book good e run.0)
      (λ y next. along safe (run_after db r e) y events next (happens_keeps safe r.world x r.book good keeps e) run.1)
    where
      by : Result (happens db r.world e).world x (run_after db r e).book →
          ((y : Leases) → CellInvariant (happens db r.world e).world y (run_after db r e).book →
          Keeps (run_through db r (e ∷ events)).world (run_through db r (e ∷ events)).book) →
          Keeps (run_through db r (e ∷ events)).world (run_through db r (e ∷ events)).book
      by (inl next) rest = rest x next
      by (inr next) rest = rest (runs.after cell_rules x next.0) next.2

  -- the first world
  pub first_keeps : (hosts : List Host) (clock : ℕ) (failed : List Bool) → B [] → ((k : ℕ) → D k [] no_database) →
      Keeps (first_world hosts clock failed) []
  first_keeps hosts clock failed pages durable = record {
    pages = pages;
    sites =
        first_each hosts clock (λ k site. SiteKeeps (λ lease. F k lease []) (D k []) (length hosts) site) failed (λ k b. one k b);
    packets = tt;
  }
    where
      one : (k : ℕ) (b : Bool) → SiteKeeps (λ lease. F k lease []) (D k []) (length hosts) (first_site (length hosts) clock b)
      one k true = record { durable = durable k; node = tt }
      one k false = record { durable = durable k; node = (refl, pass.opened k (length hosts) clock _ [] no_database pages (durable k)) }
