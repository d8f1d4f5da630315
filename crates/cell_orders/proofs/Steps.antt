-- A step of a server that is up keeps the order, and so do its first durable calls.
use Rattle.std.proofs.Common.{Bool, true, false, cond, ◌==◌, ◌≡◌, inl, ℕ, zero, suc, ◌<◌, ◌≤◌, List, [], ◌∷◌, ◌++◌, length}
use Rattle.std.proofs.Common.{take, refl, sym, ap, subst, ◌∙◌, arith}
use Rattle.std.proofs.lemmas.Bool.Decides.{nat_tests}
use Rattle.std.proofs.lemmas.List.{append-nil}
use Rattle.std.specs.Prelude.{Option, Some, None}
use Rattle.ubik_types.specs.declared.versions.Version.{Version}
use Rattle.ubik_types.specs.Lease.{is_in_lease, lease_end}
use Rattle.ubik_types.specs.Version.{version_lt}
use Rattle.ubik_calls.specs.declared.packets.Body.{Body}
use Rattle.ubik_calls.specs.declared.packets.Body.TheVariants as body
use Rattle.ubik_calls.specs.declared.packets.Packet.{Packet}
use Rattle.db_image.specs.Database.{Database}
use Rattle.lease_model.proofs.Places.{le_true}
use Rattle.cell_model.specs.declared.events.NodeEvent.{NodeEvent}
use Rattle.cell_model.specs.declared.events.NodeEvent.TheVariants as event
use Rattle.cell_model.specs.declared.events.Output.{Output}
use Rattle.cell_model.specs.declared.events.Output.TheVariants as output
use Rattle.cell_model.specs.Book.{Book, BookVersion, list_or_none, entered, with_version, clock_in, clock_at}
use Rattle.cell_model.specs.Durable.{Durable, Made, Reason, Own_relabelling, Committed, Received, durable_after, durable_after_all, version_after}
use Rattle.cell_model.specs.Node.{Up, Server}
use Rattle.cell_model.specs.NodeRule.{place_of, step_of}
use Rattle.cell_model.specs.Step.{Shown, Stepped, host_at}
use Rattle.cell_model.specs.World.{World, Site, Entry, SiteHappened, entries_from, packets_of, step_up, member, site_of}
use Rattle.cell_laws.specs.Invariant.{AllVersions}
use Rattle.cell_laws.proofs.Parts.{eq_true}
use Rattle.cell_pages.specs.Images.{IsImageOf}
use Rattle.cell_pages.specs.Parts.{AtMost, KeptLeadsOn}
use Rattle.cell_pages.proofs.Leading.{after_version}
use Rattle.cell_pages.proofs.Versions.{at_most_same}
use Rattle.cell_orders.specs.Acknowledged.{FlightMade, AllOks}
use Rattle.cell_orders.specs.Histories.{Stand, stand_of, History, announced_in, announced_with, number_of, Brings}
use Rattle.cell_orders.specs.Kept.{version_in, versions_of, ServerKeeps, OrderKept}
use Rattle.cell_orders.specs.Midst.{version_at, IsAhead, HeldInStep, HasGrown, MidStep}
use Rattle.cell_orders.specs.OrderMoves.{OrderMoves}
use Rattle.cell_orders.specs.Orders.{AllAnnounced, IsListed, FollowFrom, IsOrdered, HasMajority, WasSent, AsksUnder, IsAsked, IsAnswered}
use Rattle.cell_orders.specs.Orders.{NamesAtMost, KeptIsKept, HeldSince, Premises}
use Rattle.cell_orders.specs.Asked.{CallsKnown, AllCalled}
use Rattle.cell_orders.specs.Served.{IsNamed, Beyond, AllServed}
use Rattle.cell_orders.proofs.Serving.{EventNames}
use Rattle.cell_orders.proofs.Showing.{order_moves}
use Rattle.cell_orders.proofs.Orderings.{at_most_then, at_most_lt, announced_map, listed_more, kept_map, majority_map}
use Rattle.cell_orders.proofs.Sites.{server_map, Leaves, quiet_leaves, mid_server}
use Rattle.cell_orders.proofs.Telling.{Rising}
use Rattle.cell_orders.proofs.WalkEvents.{Ends, EventBrings, step_ends}

-- ---- durable calls

pub risen : (d : Durable) (calls : List Made) (last : Version) → Rising d.version calls last → (durable_after_all d calls).version ≡ last
risen d [] last rising = rising
risen d (made ∷ calls) last rising =
    risen (durable_after d made.call) calls last
    (subst (λ (v : Version). Rising v calls last) (sym (after_version d made.call)) rising.1)

-- after the first of them
risen_first : (d : Durable) (calls : List Made) (last : Version) (count : ℕ) → Rising d.version calls last →
    AtMost d.version (durable_after_all d (take count calls)).version
risen_first d [] last zero rising = at_most_same d.version
risen_first d [] last (suc count) rising = at_most_same d.version
risen_first d (made ∷ calls) last zero rising = at_most_same d.version
risen_first d (made ∷ calls) last (suc count) rising =
    at_most_then d.version (version_after made.call) (durable_after_all (durable_after d made.call) (take count calls)).version
    (at_most_lt d.version (version_after made.call) rising.0)
    (subst (λ (v : Version). AtMost v (durable_after_all (durable_after d made.call) (take count calls)).version)
    (after_version d made.call)
    (risen_first (durable_after d made.call) calls last count
    (subst (λ (v : Version). Rising v calls last) (sym (after_version d made.call)) rising.1)))

-- ---- the book grows

module _ (P : BookVersion → Type 0) where
  with_less : (book : Book) (k : ℕ) (old new : Version) (reason : Reason) → AllVersions P (with_version book k old new reason) →
      AllVersions P book
  with_less book k old new Own_relabelling all = all.1
  with_less book k old new (Committed t) all = all.1
  with_less book k old new Received all = all

  entered_less : (book : Book) (entries : List Entry) → AllVersions P (entered book entries) → AllVersions P book
  entered_less book [] all = all
  entered_less book (e ∷ entries) all =
      with_less book e.server e.before (version_after e.made.call) e.made.reason
      (entered_less (with_version book e.server e.before (version_after e.made.call) e.made.reason) entries all)

  -- the first calls make no others
  fewer : (book : Book) (k : ℕ) (v : Version) (calls : List Made) (count : ℕ) → AllVersions P (entered book (entries_from k v calls)) →
      AllVersions P (entered book (entries_from k v (take count calls)))
  fewer book k v [] zero all = all
  fewer book k v [] (suc count) all = all
  fewer book k v (made ∷ calls) zero all = entered_less book (entries_from k v (made ∷ calls)) all
  fewer book k v (made ∷ calls) (suc count) all =
      fewer (with_version book k v (version_after made.call) made.reason) k (version_after made.call) calls count all

listed_with : (book : Book) (k : ℕ) (old new : Version) (reason : Reason) (u : Version) → IsListed book u →
    IsListed (with_version book k old new reason) u
listed_with book k old new Own_relabelling u is =
    listed_more book (record { version = new; before = old; transaction = None; maker = k; transactions = list_or_none book old }) u is
listed_with book k old new (Committed t) u is =
    listed_more book
    (record { version = new; before = old; transaction = Some t; maker = k; transactions = list_or_none book old ++ t ∷ [] }) u is
listed_with book k old new Received u is = is

pub listed_entered : (book : Book) (entries : List Entry) (u : Version) → IsListed book u → IsListed (entered book entries) u
listed_entered book [] u is = is
listed_entered book (e ∷ entries) u is =
    listed_entered (with_version book e.server e.before (version_after e.made.call) e.made.reason) entries u
    (listed_with book e.server e.before (version_after e.made.call) e.made.reason u is)

announced_less : (P : Version → Type 0) (shown : List Shown) (announced : List Version) →
    AllAnnounced P (announced_with shown announced) → AllAnnounced P announced
announced_less P [] announced all = all
announced_less P (one ∷ shown) announced all = by one.output (announced_less P shown (announced_in one.output announced) all)
  where
    by : (o : Output) → AllAnnounced P (announced_in o announced) → AllAnnounced P announced
    by (output.Send packet) all = all
    by (output.Reply id r) all = all
    by (output.Announce version) all = all.1

-- the order after the first durable calls of a step that announces nothing
ordered_first : (book : Book) (announced : List Version) (k : ℕ) (v : Version) (t : Stepped) (count : ℕ) → IsOrdered book announced →
    IsOrdered (entered book (entries_from k v t.calls)) (announced_with t.shown announced) →
    IsOrdered (entered book (entries_from k v (take count t.calls))) announced
ordered_first book announced k v t count old new = record {
  listed =
      announced_map (IsListed book) (IsListed (entered book (entries_from k v (take count t.calls)))) announced
      (λ u. listed_entered book (entries_from k v (take count t.calls)) u) old.listed;
  rise = old.rise;
  follow =
      announced_map (FollowFrom (entered book (entries_from k v t.calls))) (FollowFrom (entered book (entries_from k v (take count t.calls))))
      announced
      (λ u follow. fewer (λ b. version_lt u b.version ≡ true → AtMost u b.before) book k v t.calls count follow)
      (announced_less (FollowFrom (entered book (entries_from k v t.calls))) t.shown announced new.follow);
}

-- ---- packets that come

-- what a packet of server j brings to server k
module _ (db : Database) (Called : ℕ → ℕ → List ℕ → Type 0) (w : World) (book : Book) (announced : List Version)
    (keeps : OrderKept db Called w book announced) (k : ℕ) (p : Packet)
    (sent : WasSent w.packets p) (to : place_of w.hosts p.to ≡ Some k) (j : ℕ) (from : place_of w.hosts p.from ≡ Some j) where
  abbrev Brought : Body → Type 0
  Brought b =
      Brings (λ i number. IsAsked w.hosts w.packets i number) (λ i number v. IsAnswered w.hosts w.packets k i number v)
      (λ i v. AtMost v (versions_of w i)) j b

  asks : (number : ℕ) (b : Body) → p.body ≡ b → AsksUnder number b → IsAsked w.hosts w.packets j number
  asks number b same is = (p, sent, from, subst (AsksUnder number) (sym same) is)

  names : (b : Body) → p.body ≡ b → NamesAtMost (versions_of w j) b
  names b same = subst (NamesAtMost (versions_of w j)) same (keeps.kept p j sent from)

  pub brought : (b : Body) → p.body ≡ b → Brought b
  brought (body.GetVersion poll) same = asks poll (body.GetVersion poll) same refl
  brought (body.GetPiece poll version offset) same = asks poll (body.GetPiece poll version offset) same refl
  brought (body.SetVersion poll old new) same = asks poll (body.SetVersion poll old new) same refl
  brought (body.SendPiece poll version total offset bytes) same = asks poll (body.SendPiece poll version total offset bytes) same refl
  brought (body.VersionIs poll version) same =
      ((p, sent, from, to, same), names (body.VersionIs poll version) same)
  brought (body.VersionKept version) same = names (body.VersionKept version) same
  brought (body.Beacon start claim ready version) same = tt
  brought (body.Vote start granted) same = tt
  brought (body.Piece poll version total offset bytes) same = tt
  brought (body.PieceKept poll version next) same = tt
  brought (body.Begin old new pieces len) same = tt
  brought (body.PutPiece new number bytes) same = tt
  brought (body.Commit old new) same = tt
  brought (body.Abort new) same = tt

-- ---- a step

held_at_first : (now until : ℕ) (lease : Bool) (o : Option ℕ) → (lease ≡ false → until < now) → HeldSince now until o → HeldInStep lease now o
held_at_first now until lease None over held = tt
held_at_first now until lease (Some p) over held =
    (held.0, λ is. (let first : p ≤ until = held.1 in let second : until < now = over is in omega arith))

module _ (db : Database) (Called : ℕ → ℕ → List ℕ → Type 0) (w : World) (book : Book) (announced : List Version) (keeps : OrderKept db Called w book announced)
    (alone : (j k : ℕ) (y z : Site) (s u : Server) → site_of w j ≡ Some y → site_of w k ≡ Some z → y.node ≡ Up s → z.node ≡ Up u →
    (j ≡ k → ⊥) → is_in_lease (length w.hosts) s.starts y.clock ≡ true → is_in_lease (length w.hosts) u.starts z.clock ≡ true → ⊥)
    (k : ℕ) (site : Site) (s : Server) (get : site_of w k ≡ Some site) (is_up : site.node ≡ Up s)
    (moment : 0 < site.clock) (premises : Premises) (own : place_of w.hosts (host_at w.hosts k) ≡ Some k) (version : site.durable.version ≡ s.version)
    (pure : IsImageOf db book s.version s.image) (leads : KeptLeadsOn s.version s.kept)
    (ahead : is_in_lease (length w.hosts) s.starts site.clock ≡ true → IsAhead site.clock book s.version s.phase) where
  flown : FlightMade db book s.version s.phase s.flight
  flown = keeps.flights k site s get is_up

  abbrev lease : Bool
  lease = is_in_lease (length w.hosts) s.starts site.clock

  abbrev h : History
  h = record { book = book; announced = announced; packets = w.packets }

  abbrev I : History → Stand → Type 0
  I g c = MidStep (member w k) site.clock lease (versions_of w) (clock_at w) h g c

  clock_is : clock_at w k ≡ site.clock
  clock_is = ap clock_in get

  version_is : versions_of w k ≡ s.version
  version_is = ap version_in get ∙ version

  moves : OrderMoves (member w k) site.clock (is_in_lease (length w.hosts) s.starts site.clock)
      (λ i number. IsAsked w.hosts w.packets i number) (λ i number v. IsAnswered w.hosts w.packets k i number v)
      (λ i v. AtMost v (versions_of w i))
      (MidStep (member w k) site.clock (is_in_lease (length w.hosts) s.starts site.clock) (versions_of w) (clock_at w)
      (record { book = book; announced = announced; packets = w.packets }))
  moves =
      order_moves (member w k) site.clock (is_in_lease (length w.hosts) s.starts site.clock) (versions_of w) (clock_at w)
      (record { book = book; announced = announced; packets = w.packets }) moment premises clock_is own

  same_at : (j : ℕ) → AtMost (versions_of w j) (version_at (versions_of w) k s.version j)
  same_at j = by (j == k) refl
    where
      by : (t : Bool) → (j == k) ≡ t → AtMost (versions_of w j) (cond t s.version (versions_of w j))
      by true is =
          subst (AtMost (versions_of w j)) (ap (versions_of w) (eq_true j k is) ∙ version_is) (at_most_same (versions_of w j))
      by false is = at_most_same (versions_of w j)

  before : ServerKeeps w.hosts (versions_of w) w.packets announced k site.clock s
  before = keeps.servers k site s get is_up

  here : ServerKeeps w.hosts (version_at (versions_of w) k s.version) w.packets announced k site.clock s
  here = server_map w.hosts (versions_of w) (version_at (versions_of w) k s.version) w.packets announced k site.clock s same_at before

  over_lease : is_in_lease (length w.hosts) s.starts site.clock ≡ false → lease_end (length w.hosts) s.starts < site.clock
  over_lease over = grind (arith, nat_tests)

  begun : I (record { book = book; announced = announced; packets = w.packets }) (stand_of s)
  begun = record {
    ordered = keeps.ordered;
    kept = kept_map w.hosts w.packets (versions_of w) (version_at (versions_of w) k s.version) same_at keeps.kept;
    asked = keeps.asked;
    numbers = keeps.numbers;
    majority =
        majority_map (length w.hosts) (versions_of w) (version_at (versions_of w) k s.version) announced same_at keeps.majority;
    opened = here.opened;
    own = here.own;
    held =
        held_at_first site.clock (lease_end (length w.hosts) s.starts) (is_in_lease (length w.hosts) s.starts site.clock)
        (number_of s.phase) over_lease here.held;
    until = λ leased. le_true site.clock (lease_end (length w.hosts) s.starts) leased;
    holders = here.holders;
    leading = here.leading;
    ahead = ahead;
    grew = record {
      more = λ p is. is;
      asked = λ j number other is. is;
      told = λ j i number v is. inl is;
      past = subst (λ (v : Version). AtMost v s.version) (sym version_is) (at_most_same s.version);
      still = λ _. refl;
    };
  }

  -- what an event brings
  abbrev pub Comes : NodeEvent → Type 0
  Comes (event.Packet p) = WasSent w.packets p × (place_of w.hosts p.to ≡ Some k)
  Comes (event.Ask id call) = Called k id call
  Comes _ = Unit {0}

  abbrev Ending : Stepped → Type 0
  Ending t =
      Ends db (member w k) site.clock s.starts (Called k) (λ i number. IsAsked w.hosts w.packets i number)
      (λ i number v. IsAnswered w.hosts w.packets k i number v) (λ i v. AtMost v (versions_of w i))
      (MidStep (member w k) site.clock (is_in_lease (length w.hosts) s.starts site.clock) (versions_of w) (clock_at w)
      (record { book = book; announced = announced; packets = w.packets })) moves
      (record { book = book; announced = announced; packets = w.packets }) s.version t

  comes : (e : NodeEvent) → Comes e →
      EventBrings db (member w k) site.clock s.starts (Called k) (λ i number. IsAsked w.hosts w.packets i number)
      (λ i number v. IsAnswered w.hosts w.packets k i number v) (λ i v. AtMost v (versions_of w i))
      (MidStep (member w k) site.clock (is_in_lease (length w.hosts) s.starts site.clock) (versions_of w) (clock_at w)
      (record { book = book; announced = announced; packets = w.packets })) moves e
  comes (event.Packet p) is = λ j from. brought db Called w book announced keeps k p is.0 is.1 j from p.body refl
  comes event.BeaconTurn is = tt
  comes event.RecoverTurn is = tt
  comes (event.Ask id call) is = is

  comes_named : (e : NodeEvent) → Comes e → EventNames announced e
  comes_named (event.Packet p) is = keeps.names p is.0
  comes_named event.BeaconTurn is = tt
  comes_named event.RecoverTurn is = tt
  comes_named (event.Ask id call) is = tt

  ends : (e : NodeEvent) (short : List Bool) → Comes e → Ending (step_of db (member w k) s site.clock e short)
  ends e short is =
      step_ends db (member w k) site.clock s.starts (Called k) (λ i number. IsAsked w.hosts w.packets i number)
      (λ i number v. IsAnswered w.hosts w.packets k i number v) (λ i v. AtMost v (versions_of w i))
      (MidStep (member w k) site.clock (is_in_lease (length w.hosts) s.starts site.clock) (versions_of w) (clock_at w)
      (record { book = book; announced = announced; packets = w.packets })) moves
      (record { book = book; announced = announced; packets = w.packets }) s e short refl leads flown before.level
      (keeps.beacons k site s get is_up) (keeps.calls k site s get is_up) pure (comes e is) (comes_named e is) begun

  rising_here : (calls : List Made) (last : Version) → Rising s.version calls last → Rising site.durable.version calls last
  rising_here calls last rising = subst (λ (v : Version). Rising v calls last) (sym version) rising

  pub up_leaves : (e : NodeEvent) (short : List Bool) → Comes e →
      Leaves db Called w book announced keeps alone k site (step_up k site e s.version (step_of db (member w k) s site.clock e short))
  up_leaves e short is = whole (ends e short is)
    where
      t : Stepped
      t = step_of db (member w k) s site.clock e short

      whole : Ending t → Leaves db Called w book announced keeps alone k site (step_up k site e s.version t)
      whole end = record {
        clock = refl;
        ordered = end.keeps.ordered;
        kept =
            subst (λ (v : Version). KeptIsKept w.hosts (w.packets ++ packets_of t.shown) (version_at (versions_of w) k v)) (sym last)
            end.keeps.kept;
        asked = end.keeps.asked;
        numbers = end.keeps.numbers;
        majority =
            subst (λ (v : Version). HasMajority (length w.hosts) (version_at (versions_of w) k v) (announced_with t.shown announced))
            (sym last) end.keeps.majority;
        lease = is_in_lease (length w.hosts) s.starts site.clock;
        leased = λ leased. (s, is_up, leased);
        grew =
            subst
            (λ (v : Version). HasGrown (member w k) (is_in_lease (length w.hosts) s.starts site.clock) (versions_of w)
            (record { book = book; announced = announced; packets = w.packets }) (announced_with t.shown announced)
            (w.packets ++ packets_of t.shown) v) (sym last) end.keeps.grew;
        server = λ u up. let same : t.server ≡ u = cc in
            subst
            (λ (u : Server). ServerKeeps w.hosts (version_at (versions_of w) k (durable_after_all site.durable t.calls).version)
            (w.packets ++ packets_of t.shown) (announced_with t.shown announced) k site.clock u) same
            (mid_server db Called w book announced keeps alone k site.clock (is_in_lease (length w.hosts) s.starts site.clock) _ t.server
            (durable_after_all site.durable t.calls).version (sym last) end.held end.level end.keeps);
        flight = λ u up. let same : t.server ≡ u = cc in
            subst (λ (u : Server). FlightMade db (entered book (entries_from k s.version t.calls)) u.version u.phase u.flight) same end.flight;
        oks = end.oks;
        beacon = λ u up. let same : t.server ≡ u = cc in
            subst (λ (u : Server). IsNamed (announced_with t.shown announced) u.beacon) same end.beacon;
        calls = λ u up. let same : t.server ≡ u = cc in
            subst (λ (u : Server). CallsKnown (Called k) u.flight u.waiting) same end.calls;
        called = end.called;
        served = λ once since ends.
            end.served
            (record { book = entered book (entries_from k s.version t.calls); top = (durable_after_all site.durable t.calls).version }) since
            (record {
              once = once;
              newer = [];
              grew = refl;
              most = subst (AtMost t.server.version) (sym last) (at_most_same t.server.version);
            }) (subst (λ (v : Version). AtMost v t.server.version) (sym last) (at_most_same t.server.version)) ends;
      }
        where
          last : (durable_after_all site.durable t.calls).version ≡ t.server.version
          last = risen site.durable t.calls t.server.version (rising_here t.calls t.server.version end.rising)

  -- the first durable calls of a step, after which the server is down or halted
  pub broken_leaves : (e : NodeEvent) (short : List Bool) (made : ℕ) (after : SiteHappened) → Comes e →
      after.site.clock ≡ site.clock →
      after.entries ≡ entries_from k s.version (take made (step_of db (member w k) s site.clock e short).calls) →
      after.site.durable ≡ durable_after_all site.durable (take made (step_of db (member w k) s site.clock e short).calls) →
      announced_with after.shown announced ≡ announced → packets_of after.shown ≡ [] →
      ((u : Server) → after.site.node ≡ Up u → ⊥) → AllOks (entered book after.entries) (announced_with after.shown announced) after.shown →
      AllCalled (Called k) after.shown → ((x : Beyond) (since : List Version) → AllServed db x since announced after.shown) →
      Leaves db Called w book announced keeps alone k site after
  broken_leaves e short made after is clock entries durable same_announced no_packets down oks called served = whole (ends e short is)
    where
      t : Stepped
      t = step_of db (member w k) s site.clock e short

      whole : Ending t → Leaves db Called w book announced keeps alone k site after
      whole end =
          quiet_leaves db Called w book announced keeps alone k site after get clock
          (subst (λ (es : List Entry). IsOrdered (entered book es) announced) (sym entries)
          (ordered_first book announced k s.version t made keeps.ordered end.keeps.ordered))
          (subst (λ (d : Durable). AtMost site.durable.version d.version) (sym durable)
          (risen_first site.durable t.calls t.server.version made (rising_here t.calls t.server.version end.rising)))
          same_announced (ap (λ (ps : List Packet). w.packets ++ ps) no_packets ∙ append-nil w.packets)
          (λ u up. absurd (down u up)) (λ u up. absurd (down u up)) oks (λ u up. absurd (down u up))
          (λ u up. absurd (down u up)) called served
