-- Each event of each run keeps the order.
use Rattle.std.proofs.Common.{Bool, true, false, ◌==◌, ◌≡◌, ◌⊎◌, inl, inr, ℕ, zero, suc, ◌+◌, ◌<◌, ◌≤◌, List, [], ◌∷◌, ◌++◌, length}
use Rattle.std.proofs.Common.{map, refl, sym, ap, subst, ◌∙◌, arith}
use Rattle.std.proofs.lemmas.Bool.Decides.{nat_tests}
use Rattle.std.proofs.lemmas.List.{append-nil}
use Rattle.std.specs.Prelude.{Option, Some, None, nat_le, slice_get, option_and_then, option_map}
use Rattle.ubik_types.specs.declared.versions.Version.{Version}
use Rattle.ubik_types.specs.declared.hosts.Host.{Host}
use Rattle.ubik_types.specs.Lease.{is_in_lease, lease_end}
use Rattle.ubik_calls.specs.declared.packets.Packet.{Packet}
use Rattle.db_image.specs.Database.{Database}
use Rattle.lease_model.specs.Leases.{Leases}
use Rattle.lease_model.specs.Rules.{AreSafe, cell_rules}
use Rattle.lease_model.proofs.Places.{no_starts-length, no_starts-none}
use Rattle.cell_model.specs.declared.events.NodeEvent.{NodeEvent}
use Rattle.cell_model.specs.declared.events.NodeEvent.TheVariants as event
use Rattle.cell_model.specs.declared.events.Output.{Output}
use Rattle.cell_model.specs.declared.events.Output.TheVariants as output
use Rattle.cell_model.specs.Book.{Book, BookVersion, Announcement, list_or_none, announced, entered, clock_in}
use Rattle.cell_model.specs.Durable.{Durable}
use Rattle.cell_model.specs.Node.{Node, Down, Halted, Up, Server, HaltedServer, opened_server, halted_from}
use Rattle.cell_model.specs.NodeRule.{refusals, place_of}
use Rattle.cell_model.specs.Step.{Member, Evaluation, Shown}
use Rattle.cell_model.specs.World.{World, Site, Trigger, Delivery, Beacon_turn, Recover_turn, Asking, Event, Tick, Tick_all, Step, Stop}
use Rattle.cell_model.specs.World.{Fault, Crash, Restart, Happening, Sent, Announced, Replied, Lost, Stops, Halts, Restarts, Stays_down}
use Rattle.cell_model.specs.World.{Entry, Happened, SiteHappened, packets_of, seen_of_output, seen_from, number_after, packet_of, happened_at}
use Rattle.cell_model.specs.World.{happens_at, only_marks, halted_step, lost_at, step_at, stop_at, fault_at, crash_at, restart_at, ticked, tick_at}
use Rattle.cell_model.specs.World.{packet_numbered, delivered, occasion, member, site_of, triggered, happens}
use Rattle.cell_laws.specs.Invariant.{NodeHolds, CellInvariant}
use Rattle.cell_laws.proofs.Parts.{eq_true}
use Rattle.cell_laws.proofs.Sites.{Here}
use Rattle.cell_laws.proofs.Worlds.{here_of, LaterSites, ticked_one, ticked_each}
use Rattle.cell_pages.specs.Parts.{AtMost, IsReached, MakesVersions, OthersBelow}
use Rattle.cell_pages.specs.Images.{IsImageOf}
use Rattle.cell_pages.specs.Laws.{MadeOnce}
use Rattle.cell_pages.specs.Passes.{NodeKeeps, WorldKeeps}
use Rattle.cell_pages.specs.Contents.{Carries}
use Rattle.cell_pages.proofs.Holding.{Both, BothDurable, Pages, contents_pass}
use Rattle.cell_pages.proofs.Making.{versions_two}
use Rattle.cell_pages.proofs.Once.{OnceAndRising, both_grew}
use Rattle.cell_pages.proofs.Runs.{one_leads, others_below}
use Rattle.cell_pages.proofs.Versions.{at_most_same}
use Rattle.cell_orders.specs.Histories.{announced_in, announced_with, number_of}
use Rattle.cell_orders.specs.Kept.{version_in, versions_of, ServerKeeps, OrderKept, versions_in}
use Rattle.cell_orders.specs.Midst.{IsAhead}
use Rattle.cell_orders.specs.Orders.{IsOrdered, IsListed, WasSent, IsAsked, NumbersUpTo, HeldSince, Premises}
use Rattle.cell_orders.proofs.Orderings.{sent_get, kept_map, majority_map}
use Rattle.cell_orders.specs.Acknowledged.{FlightMade, IsOk, AllOks}
use Rattle.cell_model.specs.Causes.{Asks}
use Rattle.cell_orders.specs.Asked.{AsksIn, CallsKnown, IsCalled, AllCalled}
use Rattle.cell_orders.proofs.Calling.{none_called}
use Rattle.cell_orders.specs.Served.{IsNamed, Beyond, IsServed, since_after, AllServed}
use Rattle.cell_orders.proofs.Serving.{ends_itself}
use Rattle.cell_orders.proofs.Sites.{set_same, server_map, Leaves, version_rises, happened_keeps, quiet_leaves}
use Rattle.cell_orders.proofs.Steps.{Comes, up_leaves, broken_leaves}

-- ---- what is seen

-- nothing of this is an announcement or a reply
abbrev IsSilent : List Happening → Type 0
IsSilent [] = Unit {0}
IsSilent (Announced server version ∷ seen) = ⊥
IsSilent (Replied server id r evaluation ∷ seen) = ⊥
IsSilent (_ ∷ seen) = IsSilent seen

silent_seen : (book : Book) (marks : List Happening) (before : List Announcement) → IsSilent marks → announced book marks before ≡ before
silent_seen book [] before silent = refl
silent_seen book (Sent number packet ∷ marks) before silent = silent_seen book marks before silent
silent_seen book (Announced server version ∷ marks) before silent = absurd silent
silent_seen book (Replied server id r evaluation ∷ marks) before silent = absurd silent
silent_seen book (Lost number ∷ marks) before silent = silent_seen book marks before silent
silent_seen book (Stops server ∷ marks) before silent = silent_seen book marks before silent
silent_seen book (Halts server ∷ marks) before silent = silent_seen book marks before silent
silent_seen book (Restarts server version ∷ marks) before silent = silent_seen book marks before silent
silent_seen book (Stays_down server ∷ marks) before silent = silent_seen book marks before silent

-- the versions that are announced in what is seen are those in what is shown
seen_announced : (book : Book) (k number : ℕ) (shown : List Shown) (marks : List Happening) (before : List Announcement) → IsSilent marks →
    versions_in (announced book (seen_from k number shown ++ marks) before) ≡ announced_with shown (versions_in before)
seen_announced book k number [] marks before silent = ap versions_in (silent_seen book marks before silent)
seen_announced book k number (one ∷ shown) marks before silent =
    by one.output (λ n b. seen_announced book k n shown marks b silent)
  where
    by : (o : Output) →
        ((n : ℕ) (b : List Announcement) →
        versions_in (announced book (seen_from k n shown ++ marks) b) ≡ announced_with shown (versions_in b)) →
        versions_in
        (announced book
        (seen_of_output k number o one.evaluation ∷ (seen_from k (number_after number (packet_of one)) shown ++ marks)) before)
        ≡ announced_with shown (announced_in o (versions_in before))
    by (output.Send packet) rest = rest (number_after number (packet_of one)) before
    by (output.Reply id r) rest = rest (number_after number (packet_of one)) before
    by (output.Announce version) rest =
        rest (number_after number (packet_of one))
        (record { server = k; version = version; transactions = list_or_none book version } ∷ before)

-- commits that are answered, among what is seen
abbrev pub OksSeen : Book → List Version → List Happening → Type 0
OksSeen book a [] = Unit {0}
OksSeen book a (Replied server id r e ∷ seen) = IsOk book a (output.Reply id r) e × OksSeen book a seen
OksSeen book a (_ ∷ seen) = OksSeen book a seen

silent_oks : (book : Book) (a : List Version) (marks : List Happening) → IsSilent marks → OksSeen book a marks
silent_oks book a [] silent = tt
silent_oks book a (Sent number packet ∷ marks) silent = silent_oks book a marks silent
silent_oks book a (Announced server version ∷ marks) silent = absurd silent
silent_oks book a (Replied server id r evaluation ∷ marks) silent = absurd silent
silent_oks book a (Lost number ∷ marks) silent = silent_oks book a marks silent
silent_oks book a (Stops server ∷ marks) silent = silent_oks book a marks silent
silent_oks book a (Halts server ∷ marks) silent = silent_oks book a marks silent
silent_oks book a (Restarts server version ∷ marks) silent = silent_oks book a marks silent
silent_oks book a (Stays_down server ∷ marks) silent = silent_oks book a marks silent

seen_oks : (book : Book) (a : List Version) (k number : ℕ) (shown : List Shown) (marks : List Happening) → IsSilent marks →
    AllOks book a shown → OksSeen book a (seen_from k number shown ++ marks)
seen_oks book a k number [] marks silent oks = silent_oks book a marks silent
seen_oks book a k number (one ∷ shown) marks silent oks =
    by one.output one.evaluation oks.0 (seen_oks book a k (number_after number (packet_of one)) shown marks silent oks.1)
  where
    by : (o : Output) (e : Option Evaluation) → IsOk book a o e →
        OksSeen book a (seen_from k (number_after number (packet_of one)) shown ++ marks) →
        OksSeen book a (seen_of_output k number o e ∷ (seen_from k (number_after number (packet_of one)) shown ++ marks))
    by (output.Send packet) e ok rest = rest
    by (output.Reply id r) e ok rest = (ok, rest)
    by (output.Announce version) e ok rest = rest

-- Replies, among what is seen: `V` tells the durable version of each server after the event.
abbrev pub SeenServed : Database → Book → (ℕ → Version) → (since announced : List Version) → List Happening → Type 0
SeenServed db book V since a [] = Unit {0}
SeenServed db book V since a (Announced server version ∷ seen) = SeenServed db book V since (version ∷ a) seen
SeenServed db book V since a (Replied server id r e ∷ seen) =
    IsServed db (record { book = book; top = V server }) since a (output.Reply id r) e × SeenServed db book V a a seen
SeenServed db book V since a (_ ∷ seen) = SeenServed db book V since a seen

module _ (db : Database) (book : Book) (V : ℕ → Version) where
  silent_served : (since a : List Version) (marks : List Happening) → IsSilent marks → SeenServed db book V since a marks
  silent_served since a [] silent = tt
  silent_served since a (Sent number packet ∷ marks) silent = silent_served since a marks silent
  silent_served since a (Announced server version ∷ marks) silent = absurd silent
  silent_served since a (Replied server id r evaluation ∷ marks) silent = absurd silent
  silent_served since a (Lost number ∷ marks) silent = silent_served since a marks silent
  silent_served since a (Stops server ∷ marks) silent = silent_served since a marks silent
  silent_served since a (Halts server ∷ marks) silent = silent_served since a marks silent
  silent_served since a (Restarts server version ∷ marks) silent = silent_served since a marks silent
  silent_served since a (Stays_down server ∷ marks) silent = silent_served since a marks silent

  seen_served : (k number : ℕ) (since a : List Version) (shown : List Shown) (marks : List Happening) → IsSilent marks →
      AllServed db (record { book = book; top = V k }) since a shown → SeenServed db book V since a (seen_from k number shown ++ marks)
  seen_served k number since a [] marks silent all = silent_served since a marks silent
  seen_served k number since a (one ∷ shown) marks silent all =
      by one.output one.evaluation all.0
      (seen_served k (number_after number (packet_of one)) (since_after one.output since a) (announced_in one.output a) shown marks silent
      all.1)
    where
      by : (o : Output) (e : Option Evaluation) → IsServed db (record { book = book; top = V k }) since a o e →
          SeenServed db book V (since_after o since a) (announced_in o a)
          (seen_from k (number_after number (packet_of one)) shown ++ marks) →
          SeenServed db book V since a (seen_of_output k number o e ∷ (seen_from k (number_after number (packet_of one)) shown ++ marks))
      by (output.Send packet) e served rest = rest
      by (output.Reply id r) e served rest = (served, rest)
      by (output.Announce version) e served rest = rest

-- calls that are replied to, among what is seen
abbrev pub SeenCalled : (ℕ → ℕ → List ℕ → Type 0) → List Happening → Type 0
SeenCalled Called [] = Unit {0}
SeenCalled Called (Replied server id r e ∷ seen) = IsCalled (Called server) (output.Reply id r) e × SeenCalled Called seen
SeenCalled Called (_ ∷ seen) = SeenCalled Called seen

module _ (Called : ℕ → ℕ → List ℕ → Type 0) where
  silent_called : (marks : List Happening) → IsSilent marks → SeenCalled Called marks
  silent_called [] silent = tt
  silent_called (Sent number packet ∷ marks) silent = silent_called marks silent
  silent_called (Announced server version ∷ marks) silent = absurd silent
  silent_called (Replied server id r evaluation ∷ marks) silent = absurd silent
  silent_called (Lost number ∷ marks) silent = silent_called marks silent
  silent_called (Stops server ∷ marks) silent = silent_called marks silent
  silent_called (Halts server ∷ marks) silent = silent_called marks silent
  silent_called (Restarts server version ∷ marks) silent = silent_called marks silent
  silent_called (Stays_down server ∷ marks) silent = silent_called marks silent

  seen_called : (k number : ℕ) (shown : List Shown) (marks : List Happening) → IsSilent marks → AllCalled (Called k) shown →
      SeenCalled Called (seen_from k number shown ++ marks)
  seen_called k number [] marks silent all = silent_called marks silent
  seen_called k number (one ∷ shown) marks silent all =
      by one.output one.evaluation all.0 (seen_called k (number_after number (packet_of one)) shown marks silent all.1)
    where
      by : (o : Output) (e : Option Evaluation) → IsCalled (Called k) o e →
          SeenCalled Called (seen_from k (number_after number (packet_of one)) shown ++ marks) →
          SeenCalled Called (seen_of_output k number o e ∷ (seen_from k (number_after number (packet_of one)) shown ++ marks))
      by (output.Send packet) e called rest = rest
      by (output.Reply id r) e called rest = (called, rest)
      by (output.Announce version) e called rest = rest

-- ---- a server that is opened

pub fresh : (n clock : ℕ) (d : Durable) (hosts : List Host) (V : ℕ → Version) (packets : List Packet) (announced : List Version) (k : ℕ) →
    n ≡ length hosts → ((number : ℕ) → IsAsked hosts packets k number → number ≤ clock) →
    ServerKeeps hosts V packets announced k clock (opened_server n d clock)
fresh n clock d hosts V packets announced k same numbers = record {
  opened = record {
    before = omega arith;
    past = omega arith;
    given = λ j is. absurd (cc);
    counted = λ v s is. absurd (no_starts-none n v s is);
    each = no_starts-length n ∙ same;
  };
  own = λ number asked. inl (numbers number asked);
  held = tt;
  holders = tt;
  leading = λ _. record { poll = tt; stands = tt; serves = tt };
  level = tt;
}

-- ---- a later clock

numbers_on : (Asked : ℕ → Type 0) (opened now later : ℕ) (o : Option ℕ) → now ≤ later → NumbersUpTo Asked opened now o →
    NumbersUpTo Asked opened later o
numbers_on Asked opened now later None more is = λ number asked. by number (is number asked)
  where
    by : (number : ℕ) → (number ≤ opened) ⊎ (number < now) → (number ≤ opened) ⊎ (number < later)
    by number (inl early) = inl early
    by number (inr less) = inr (omega arith)
numbers_on Asked opened now later (Some p) more is = is

held_on : (now later until : ℕ) (o : Option ℕ) → now ≤ later → HeldSince now until o → HeldSince later until o
held_on now later until None more is = tt
held_on now later until (Some p) more is = ((let first : p ≤ now = is.0 in omega arith), is.1)

-- a lease that is there later was there before
earlier_lease : (until clock later : ℕ) → clock ≤ later → nat_le later until ≡ true → nat_le clock until ≡ true
earlier_lease until clock later before is = grind (arith, nat_tests)

clock_on : (hosts : List Host) (V : ℕ → Version) (packets : List Packet) (announced : List Version) (k now later : ℕ) (s : Server) →
    now ≤ later → ServerKeeps hosts V packets announced k now s → ServerKeeps hosts V packets announced k later s
clock_on hosts V packets announced k now later s more is = record {
  opened = record {
    before = is.opened.before;
    past = (let first : s.votes.yes_at ≤ now = is.opened.past in omega arith);
    given = is.opened.given;
    counted = λ v t get.
        (let both = is.opened.counted v t get in (both.0, (let first : t ≤ now = both.1 in omega arith)));
    each = is.opened.each;
  };
  own = numbers_on (IsAsked hosts packets k) s.opened now later (number_of s.phase) more is.own;
  held = held_on now later (lease_end (length hosts) s.starts) (number_of s.phase) more is.held;
  holders = is.holders;
  leading = λ leased. is.leading (earlier_lease (lease_end (length hosts) s.starts) now later more leased);
  level = is.level;
}

abbrev packet_at : Packet → ℕ → ℕ × NodeEvent
packet_at p k = (k, event.Packet p)

module _ (safe : AreSafe cell_rules) (premises : Premises) (db : Database) (Called : ℕ → ℕ → List ℕ → Type 0) where
  abbrev pub Contents : World → Book → Type 0
  Contents w book =
      WorldKeeps (Both db OnceAndRising both_grew) (BothDurable db OnceAndRising both_grew) (Carries db) (Pages db OnceAndRising both_grew) w book

  module _ (w : World) (x : Leases) (book : Book) (good : CellInvariant w x book) (contents : Contents w book)
      (before : List Announcement) (keeps : OrderKept db Called w book (versions_in before)) where
    alone : (j k : ℕ) (y z : Site) (s u : Server) → site_of w j ≡ Some y → site_of w k ≡ Some z → y.node ≡ Up s → z.node ≡ Up u →
        (j ≡ k → ⊥) → is_in_lease (length w.hosts) s.starts y.clock ≡ true → is_in_lease (length w.hosts) u.starts z.clock ≡ true → ⊥
    alone j k y z s u at_j at_k up_j up_k other leased_j leased_k =
        one_leads db (Both db OnceAndRising both_grew) (BothDurable db OnceAndRising both_grew) (Carries db) (Pages db OnceAndRising both_grew)
        (contents_pass db OnceAndRising both_grew) safe w x j k y z s u (here_of w x book j y good at_j) (here_of w x book k z good at_k)
        up_j up_k other leased_j leased_k

    -- what is kept of what happened; commits that are answered are those of their versions
    abbrev Keeps : Happened → Type 0
    Keeps h =
        MadeOnce (entered book h.entries) →
        OrderKept db Called h.world (entered book h.entries) (versions_in (announced (entered book h.entries) h.seen before))
        × OksSeen (entered book h.entries) (versions_in (announced (entered book h.entries) h.seen before)) h.seen
        × SeenServed db (entered book h.entries) (versions_of h.world) (versions_in before) (versions_in before) h.seen
        × ((j : ℕ) → AtMost (versions_of w j) (versions_of h.world j))
        × SeenCalled Called h.seen

    abbrev LeavesHere : ℕ → Site → SiteHappened → Type 0
    LeavesHere k site h = Leaves db Called w book (versions_in before) keeps alone k site h × IsSilent h.marks

    at_site : (k : ℕ) (site : Site) (h : SiteHappened) → site_of w k ≡ Some site → LeavesHere k site h → Keeps (happened_at w k h)
    at_site k site h get leaves once =
        subst
        (λ (a : List Version). OrderKept db Called (happened_at w k h).world (entered book h.entries) a
        × OksSeen (entered book h.entries) a (seen_from k (length w.packets + 1) h.shown ++ h.marks)
        × SeenServed db (entered book h.entries) (versions_of (happened_at w k h).world) (versions_in before) (versions_in before)
        (seen_from k (length w.packets + 1) h.shown ++ h.marks)
        × ((j : ℕ) → AtMost (versions_of w j) (versions_of (happened_at w k h).world j))
        × SeenCalled Called (seen_from k (length w.packets + 1) h.shown ++ h.marks))
        (sym (seen_announced (entered book h.entries) k (length w.packets + 1) h.shown h.marks before leaves.1)) (
          happened_keeps db Called w book (versions_in before) keeps alone k site h get leaves.0 once,
          seen_oks (entered book h.entries) (announced_with h.shown (versions_in before)) k (length w.packets + 1) h.shown h.marks
              leaves.1 leaves.0.oks,
          seen_served db (entered book h.entries) (versions_of (happened_at w k h).world) k (length w.packets + 1) (versions_in before)
              (versions_in before) h.shown h.marks leaves.1
              (subst
              (λ (v : Version).
              AllServed db (record { book = entered book h.entries; top = v }) (versions_in before) (versions_in before) h.shown)
              (sym (ap version_in (set_same w.sites k site h.site get)))
              (leaves.0.served once (versions_in before) (ends_itself (versions_in before)))),
          version_rises db Called w book (versions_in before) keeps alone k site h get leaves.0,
          seen_called Called k (length w.packets + 1) h.shown h.marks leaves.1 leaves.0.called,
        )

    at_server : (k : ℕ) (f : Site → SiteHappened) → ((site : Site) → site_of w k ≡ Some site → LeavesHere k site (f site)) →
        Keeps (happens_at w k f (site_of w k))
    at_server k f leaves = by (site_of w k) refl
      where
        by : (o : Option Site) → site_of w k ≡ o → Keeps (happens_at w k f o)
        by None is = λ once. (keeps, tt, tt, λ j. at_most_same (versions_of w j), tt)
        by (Some site) is = at_site k site (f site) is (leaves site is)

    -- ---- one server

    module _ (k : ℕ) (site : Site) (get : site_of w k ≡ Some site) where
      here : Here w.hosts x k site
      here = here_of w x book k site good get

      -- nothing durable happens
      stays : (h : SiteHappened) → h.entries ≡ [] → h.site.durable ≡ site.durable → h.site.clock ≡ site.clock →
          announced_with h.shown (versions_in before) ≡ versions_in before → packets_of h.shown ≡ [] →
          ((s : Server) → h.site.node ≡ Up s →
          ServerKeeps w.hosts (versions_of w) w.packets (versions_in before) k site.clock s) →
          ((s : Server) → h.site.node ≡ Up s → FlightMade db book s.version s.phase s.flight) →
          AllOks (entered book h.entries) (announced_with h.shown (versions_in before)) h.shown →
          ((s : Server) → h.site.node ≡ Up s → IsNamed (versions_in before) s.beacon) →
          ((s : Server) → h.site.node ≡ Up s → CallsKnown (Called k) s.flight s.waiting) → AllCalled (Called k) h.shown →
          ((x : Beyond) (since : List Version) → AllServed db x since (versions_in before) h.shown) →
          Leaves db Called w book (versions_in before) keeps alone k site h
      stays h entries durable clock same_announced no_packets server flight oks beacon calls called served =
          quiet_leaves db Called w book (versions_in before) keeps alone k site h get clock
          (subst (λ (es : List Entry). IsOrdered (entered book es) (versions_in before)) (sym entries) keeps.ordered)
          (subst (λ (d : Durable). AtMost site.durable.version d.version) (sym durable) (at_most_same site.durable.version))
          same_announced (ap (λ (ps : List Packet). w.packets ++ ps) no_packets ∙ append-nil w.packets) server
          (λ s up. subst (λ (es : List Entry). FlightMade db (entered book es) s.version s.phase s.flight) (sym entries) (flight s up)) oks
          beacon calls called served

      as_before : (s : Server) → site.node ≡ Up s → ServerKeeps w.hosts (versions_of w) w.packets (versions_in before) k site.clock s
      as_before s up = keeps.servers k site s get up

      refused_silent : (e : NodeEvent) → announced_with (refusals e) (versions_in before) ≡ versions_in before
      refused_silent (event.Packet p) = refl
      refused_silent event.BeaconTurn = refl
      refused_silent event.RecoverTurn = refl
      refused_silent (event.Ask id call) = refl

      refused_oks : (g : Book) (a : List Version) (e : NodeEvent) → AllOks g a (refusals e)
      refused_oks g a (event.Packet p) = tt
      refused_oks g a event.BeaconTurn = tt
      refused_oks g a event.RecoverTurn = tt
      refused_oks g a (event.Ask id call) = (tt, tt)

      refused_served : (e : NodeEvent) (x : Beyond) (since : List Version) → AllServed db x since (versions_in before) (refusals e)
      refused_served (event.Packet p) x since = tt
      refused_served event.BeaconTurn x since = tt
      refused_served event.RecoverTurn x since = tt
      refused_served (event.Ask id call) x since = (tt, tt)

      refused_called : (e : NodeEvent) → AllCalled (Called k) (refusals e)
      refused_called (event.Packet p) = tt
      refused_called event.BeaconTurn = tt
      refused_called event.RecoverTurn = tt
      refused_called (event.Ask id call) = (tt, tt)

      refused_none : (e : NodeEvent) → packets_of (refusals e) ≡ []
      refused_none (event.Packet p) = refl
      refused_none event.BeaconTurn = refl
      refused_none event.RecoverTurn = refl
      refused_none (event.Ask id call) = refl

      lost_silent : (trigger : Trigger) → IsSilent (lost_at trigger)
      lost_silent (Delivery number) = tt
      lost_silent (Beacon_turn server) = tt
      lost_silent (Recover_turn server) = tt
      lost_silent (Asking server id call) = tt

      not_up : (node : Node) (s : Server) → node ≡ Down → node ≡ Up s → ⊥
      not_up node s down up = absurd (cc)

      not_halted : (node : Node) (r : HaltedServer) (s : Server) → node ≡ Halted r → node ≡ Up s → ⊥
      not_halted node r s halted up = absurd (cc)

      -- what holds of it where it is up
      module _ (s : Server) (is_up : site.node ≡ Up s) where
        held : MakesVersions k (is_in_lease (length w.hosts) s.starts site.clock) book s
        held =
            (subst
            (NodeKeeps (λ lease. Both db OnceAndRising both_grew k lease book) (length w.hosts) site.clock site.durable) is_up
            (contents.sites k site get).node).1.0

        pure_is : IsImageOf db book s.version s.image
        pure_is =
            (subst
            (NodeKeeps (λ lease. Both db OnceAndRising both_grew k lease book) (length w.hosts) site.clock site.durable) is_up
            (contents.sites k site get).node).1.1.image

        contained : IsListed book s.version
        contained =
            let holds = (subst
            (NodeKeeps (λ lease. Both db OnceAndRising both_grew k lease book) (length w.hosts) site.clock site.durable) is_up
            (contents.sites k site get).node).1.1 in
            (holds.image.list, holds.image.listed)

        version_is : site.durable.version ≡ s.version
        version_is = (subst (NodeHolds x k site.durable) is_up here.holds).0

        below : OthersBelow k site.clock (is_in_lease (length w.hosts) s.starts site.clock) book
        below =
            others_below db (Both db OnceAndRising both_grew) (BothDurable db OnceAndRising both_grew) (Carries db) (Pages db OnceAndRising both_grew)
            (contents_pass db OnceAndRising both_grew) safe w x book k site s good here is_up

        is_ahead : is_in_lease (length w.hosts) s.starts site.clock ≡ true → IsAhead site.clock book s.version s.phase
        is_ahead leased = record {
          near =
              versions_two (IsReached k s.version)
              (λ b. (b.maker ≡ k → ⊥) → is_in_lease (length w.hosts) s.starts site.clock ≡ true → b.version.epoch < site.clock)
              (λ b. AtMost b.version s.version ⊎ (b.version.epoch < site.clock)) book (λ b own other. by b own other (b.maker == k) refl)
              held.went_on below;
          greatest = λ sends. held.greatest leased sends;
          listed = λ _. contained;
        }
          where
            differ : (a b : ℕ) → (a == b) ≡ false → a ≡ b → ⊥
            differ a b is same = grind (arith, nat_tests)

            by : (b : BookVersion) → IsReached k s.version b →
                ((b.maker ≡ k → ⊥) → is_in_lease (length w.hosts) s.starts site.clock ≡ true → b.version.epoch < site.clock) →
                (t : Bool) → (b.maker == k) ≡ t → AtMost b.version s.version ⊎ (b.version.epoch < site.clock)
            by b own other true is = inl (own (eq_true b.maker k is))
            by b own other false is = inr (other (differ b.maker k is) leased)

      -- what comes to it
      abbrev Arrives : NodeEvent → Type 0
      Arrives (event.Packet p) = WasSent w.packets p × (place_of w.hosts p.to ≡ Some k)
      Arrives (event.Ask id call) = Called k id call
      Arrives _ = Unit {0}

      arrives : (s : Server) (is_up : site.node ≡ Up s) (e : NodeEvent) → Arrives e →
          Comes db Called w book (versions_in before) keeps alone k site s get is_up here.moment premises here.own (version_is s is_up)
          (pure_is s is_up) (held s is_up).kept (is_ahead s is_up) e
      arrives s is_up (event.Packet p) is = is
      arrives s is_up event.BeaconTurn is = tt
      arrives s is_up event.RecoverTurn is = tt
      arrives s is_up (event.Ask id call) is = is

      step_leaves : (trigger : Trigger) (e : NodeEvent) (short : List Bool) → Arrives e →
          LeavesHere k site (step_at db (member w k) trigger e short site site.node)
      step_leaves trigger e short comes = by site.node refl
        where
          by : (node : Node) → site.node ≡ node → LeavesHere k site (step_at db (member w k) trigger e short site node)
          by Down is = (
            stays (only_marks site (lost_at trigger)) refl refl refl refl refl (λ s up. absurd (not_up site.node s is up))
                (λ s up. absurd (not_up site.node s is up)) tt (λ s up. absurd (not_up site.node s is up))
                (λ s up. absurd (not_up site.node s is up)) tt (λ x since. tt),
            lost_silent trigger,
          )
          by (Halted r) is = (
            stays (halted_step site e) refl refl refl (refused_silent e) (refused_none e) (λ s up. absurd (not_halted site.node r s is up))
                (λ s up. absurd (not_halted site.node r s is up)) (refused_oks book (announced_with (refusals e) (versions_in before)) e)
                (λ s up. absurd (not_halted site.node r s is up))
                (λ s up. absurd (not_halted site.node r s is up)) (refused_called e) (refused_served e),
            tt,
          )
          by (Up s) is = (
            up_leaves db Called w book (versions_in before) keeps alone k site s get is here.moment premises here.own (version_is s is)
                (pure_is s is) (held s is).kept (is_ahead s is) e short (arrives s is e comes),
            tt,
          )

      stop_leaves : (e : NodeEvent) (short : List Bool) (made : ℕ) → Arrives e →
          LeavesHere k site (stop_at db (member w k) e short made site site.node)
      stop_leaves e short made comes = by site.node refl
        where
          by : (node : Node) → site.node ≡ node → LeavesHere k site (stop_at db (member w k) e short made site node)
          by Down is = (
            stays (only_marks site []) refl refl refl refl refl (λ s up. absurd (not_up site.node s is up))
                (λ s up. absurd (not_up site.node s is up)) tt (λ s up. absurd (not_up site.node s is up))
                (λ s up. absurd (not_up site.node s is up)) tt (λ x since. tt),
            tt,
          )
          by (Halted r) is = (
            stays (stop_at db (member w k) e short made site (Halted r)) refl refl refl refl refl (λ s up. absurd (not_up Down s refl up))
                (λ s up. absurd (not_up Down s refl up)) tt (λ s up. absurd (not_up Down s refl up))
                (λ s up. absurd (not_up Down s refl up)) tt (λ x since. tt),
            tt,
          )
          by (Up s) is = (
            broken_leaves db Called w book (versions_in before) keeps alone k site s get is here.moment premises here.own (version_is s is)
                (pure_is s is) (held s is).kept (is_ahead s is) e short made (stop_at db (member w k) e short made site (Up s))
                (arrives s is e comes) refl refl refl refl refl (λ u up. not_up Down u refl up) tt tt (λ x since. tt),
            tt,
          )

      fault_leaves : (e : NodeEvent) (short : List Bool) (made : ℕ) → Arrives e →
          LeavesHere k site (fault_at db (member w k) e short made site site.node)
      fault_leaves e short made comes = by site.node refl
        where
          by : (node : Node) → site.node ≡ node → LeavesHere k site (fault_at db (member w k) e short made site node)
          by Down is = (
            stays (only_marks site []) refl refl refl refl refl (λ s up. absurd (not_up site.node s is up))
                (λ s up. absurd (not_up site.node s is up)) tt (λ s up. absurd (not_up site.node s is up))
                (λ s up. absurd (not_up site.node s is up)) tt (λ x since. tt),
            tt,
          )
          by (Halted r) is = (
            stays (only_marks site []) refl refl refl refl refl (λ s up. absurd (not_halted site.node r s is up))
                (λ s up. absurd (not_halted site.node r s is up)) tt (λ s up. absurd (not_halted site.node r s is up))
                (λ s up. absurd (not_halted site.node r s is up)) tt (λ x since. tt),
            tt,
          )
          by (Up s) is = (
            broken_leaves db Called w book (versions_in before) keeps alone k site s get is here.moment premises here.own (version_is s is)
                (pure_is s is) (held s is).kept (is_ahead s is) e short made (fault_at db (member w k) e short made site (Up s))
                (arrives s is e comes) refl refl refl (refused_silent e) (refused_none e)
                (λ u up. not_halted (Halted (halted_from s)) (halted_from s) u refl up)
                (refused_oks (entered book (fault_at db (member w k) e short made site (Up s)).entries)
                (announced_with (refusals e) (versions_in before)) e) (refused_called e) (refused_served e),
            tt,
          )

      crash_leaves : LeavesHere k site (crash_at site)
      crash_leaves = (
        stays (crash_at site) refl refl refl refl refl (λ s up. absurd (not_up Down s refl up)) (λ s up. absurd (not_up Down s refl up)) tt
            (λ s up. absurd (not_up Down s refl up))
            (λ s up. absurd (not_up Down s refl up)) tt (λ x since. tt),
        tt,
      )

      restart_leaves : (failed : Bool) → LeavesHere k site (restart_at (length w.hosts) k failed site)
      restart_leaves true = (
        stays (restart_at (length w.hosts) k true site) refl refl refl refl refl as_before (λ s up. keeps.flights k site s get up) tt
            (λ s up. keeps.beacons k site s get up) (λ s up. keeps.calls k site s get up) tt (λ x since. tt),
        tt,
      )
      restart_leaves false = (
        stays (restart_at (length w.hosts) k false site) refl refl refl refl refl
            (λ s up. let same : opened_server (length w.hosts) site.durable site.clock ≡ s = cc in
            subst (λ (u : Server). ServerKeeps w.hosts (versions_of w) w.packets (versions_in before) k site.clock u) same
            (fresh (length w.hosts) site.clock site.durable w.hosts (versions_of w) w.packets (versions_in before) k refl
            (λ number asked. subst (λ (c : ℕ). number ≤ c) (ap clock_in get) (keeps.numbers k number asked))))
            (λ s up. let same : opened_server (length w.hosts) site.durable site.clock ≡ s = cc in
            subst (λ (u : Server). FlightMade db book u.version u.phase u.flight) same (λ f none. absurd (cc))) tt
            (λ s up. let same : opened_server (length w.hosts) site.durable site.clock ≡ s = cc in
            subst (λ (u : Server). IsNamed (versions_in before) u.beacon) same tt)
            (λ s up. let same : opened_server (length w.hosts) site.durable site.clock ≡ s = cc in
            subst (λ (u : Server). CallsKnown (Called k) u.flight u.waiting) same (none_called (Called k) None refl, tt)) tt
            (λ x since. tt),
        tt,
      )

    -- ---- what a trigger brings

    delivers : (number k : ℕ) (e : NodeEvent) (site : Site) (get : site_of w k ≡ Some site) →
        option_and_then (delivered w.hosts) (packet_numbered w number) ≡ Some (k, e) → Arrives k site get e
    delivers zero k e site get is = absurd (cc)
    delivers (suc number) k e site get is = by (slice_get w.packets number) refl is
      where
        at : (p : Packet) → slice_get w.packets number ≡ Some p → (o : Option ℕ) → place_of w.hosts p.to ≡ o →
            option_map (packet_at p) o ≡ Some (k, e) → Arrives k site get e
        at p found None place is = absurd (cc)
        at p found (Some j) place is =
            let pair : ◌≡◌ {A = ℕ × NodeEvent} (j, event.Packet p) (k, e) = cc in
            let same : event.Packet p ≡ e = ap (λ (q : ℕ × NodeEvent). q.1) pair in
            let to : j ≡ k = ap (λ (q : ℕ × NodeEvent). q.0) pair in
            subst (Arrives k site get) same (sent_get w.packets number p found, place ∙ ap (λ (i : ℕ). Some i) to)

        by : (o : Option Packet) → slice_get w.packets number ≡ o → option_and_then (delivered w.hosts) o ≡ Some (k, e) →
            Arrives k site get e
        by None found is = absurd (cc)
        by (Some p) found is = at p found (place_of w.hosts p.to) refl is

    arrives_by : (trigger : Trigger) → ((k id : ℕ) (call : List ℕ) → Asks trigger k id call → Called k id call) →
        (k : ℕ) (e : NodeEvent) (site : Site) (get : site_of w k ≡ Some site) → occasion w trigger ≡ Some (k, e) → Arrives k site get e
    arrives_by (Delivery number) asks k e site get is = delivers number k e site get is
    arrives_by (Beacon_turn server) asks k e site get is =
        let pair : ◌≡◌ {A = ℕ × NodeEvent} (server, event.BeaconTurn) (k, e) = cc in
        subst (Arrives k site get) (ap (λ (q : ℕ × NodeEvent). q.1) pair) tt
    arrives_by (Recover_turn server) asks k e site get is =
        let pair : ◌≡◌ {A = ℕ × NodeEvent} (server, event.RecoverTurn) (k, e) = cc in
        subst (Arrives k site get) (ap (λ (q : ℕ × NodeEvent). q.1) pair) tt
    arrives_by (Asking server id call) asks k e site get is =
        let pair : ◌≡◌ {A = ℕ × NodeEvent} (server, event.Ask id call) (k, e) = cc in
        subst (Arrives k site get) (ap (λ (q : ℕ × NodeEvent). q.1) pair)
        (subst (λ (i : ℕ). Called i id call) (ap (λ (q : ℕ × NodeEvent). q.0) pair) (asks server id call (refl, refl, refl)))

    at_trigger : (trigger : Trigger) → ((k id : ℕ) (call : List ℕ) → Asks trigger k id call → Called k id call) →
        (f : Member → NodeEvent → Site → SiteHappened) →
        ((k : ℕ) (e : NodeEvent) (site : Site) (get : site_of w k ≡ Some site) → Arrives k site get e →
        LeavesHere k site (f (member w k) e site)) → Keeps (triggered w f (occasion w trigger))
    at_trigger trigger asks f leaves = by (occasion w trigger) refl
      where
        by : (o : Option (ℕ × NodeEvent)) → occasion w trigger ≡ o → Keeps (triggered w f o)
        by None is = λ once. (keeps, tt, tt, λ j. at_most_same (versions_of w j), tt)
        by (Some o) is =
            at_server o.0 (f (member w o.0) o.1) (λ site get. leaves o.0 o.1 site get (arrives_by trigger asks o.0 o.1 site get is))

    -- ---- later clocks

    tick_version : (sites : List Site) (k seconds j : ℕ) →
        version_in (slice_get (tick_at sites k seconds) j) ≡ version_in (slice_get sites j)
    tick_version [] k seconds j = refl
    tick_version (y ∷ sites) zero seconds zero = refl
    tick_version (y ∷ sites) zero seconds (suc j) = refl
    tick_version (y ∷ sites) (suc k) seconds zero = refl
    tick_version (y ∷ sites) (suc k) seconds (suc j) = tick_version sites k seconds j

    tick_clock : (sites : List Site) (k seconds j : ℕ) → clock_in (slice_get sites j) ≤ clock_in (slice_get (tick_at sites k seconds) j)
    tick_clock [] k seconds j = omega arith
    tick_clock (y ∷ sites) zero seconds zero = omega arith
    tick_clock (y ∷ sites) zero seconds (suc j) = omega arith
    tick_clock (y ∷ sites) (suc k) seconds zero = omega arith
    tick_clock (y ∷ sites) (suc k) seconds (suc j) = tick_clock sites k seconds j

    each_version : (sites : List Site) (seconds j : ℕ) →
        version_in (slice_get (map (ticked seconds) sites) j) ≡ version_in (slice_get sites j)
    each_version [] seconds j = refl
    each_version (y ∷ sites) seconds zero = refl
    each_version (y ∷ sites) seconds (suc j) = each_version sites seconds j

    each_clock : (sites : List Site) (seconds j : ℕ) →
        clock_in (slice_get sites j) ≤ clock_in (slice_get (map (ticked seconds) sites) j)
    each_clock [] seconds j = omega arith
    each_clock (y ∷ sites) seconds zero = omega arith
    each_clock (y ∷ sites) seconds (suc j) = each_clock sites seconds j

    ticked_keeps : (sites : List Site) → LaterSites w.sites sites →
        ((j : ℕ) → version_in (slice_get sites j) ≡ version_in (slice_get w.sites j)) →
        ((j : ℕ) → clock_in (slice_get w.sites j) ≤ clock_in (slice_get sites j)) →
        OrderKept db Called (record w { sites = sites }) book (versions_in before)
    ticked_keeps sites later same clocks = record {
      ordered = keeps.ordered;
      kept = kept_map w.hosts w.packets (versions_of w) (versions_of (record w { sites = sites })) more keeps.kept;
      asked = keeps.asked;
      numbers = λ j number asked.
          (let first : number ≤ clock_in (slice_get w.sites j) = keeps.numbers j number asked in
          let second : clock_in (slice_get w.sites j) ≤ clock_in (slice_get sites j) = clocks j in
          omega arith);
      majority =
          majority_map (length w.hosts) (versions_of w) (versions_of (record w { sites = sites })) (versions_in before) more keeps.majority;
      servers = λ k z s get up. by k z s up (later k z get);
      flights = λ k z s get up.
          (let old = later k z get in keeps.flights k old.0 s old.1 (sym old.4 ∙ up));
      names = keeps.names;
      beacons = λ k z s get up.
          (let old = later k z get in keeps.beacons k old.0 s old.1 (sym old.4 ∙ up));
      calls = λ k z s get up.
          (let old = later k z get in keeps.calls k old.0 s old.1 (sym old.4 ∙ up));
    }
      where
        more : (j : ℕ) → AtMost (versions_of w j) (versions_of (record w { sites = sites }) j)
        more j = subst (AtMost (versions_of w j)) (sym (same j)) (at_most_same (versions_of w j))

        by : (k : ℕ) (z : Site) (s : Server) → z.node ≡ Up s →
            (y : Site) × (slice_get w.sites k ≡ Some y) × (y.clock ≤ z.clock) × (z.durable ≡ y.durable) × (z.node ≡ y.node) →
            ServerKeeps w.hosts (versions_of (record w { sites = sites })) w.packets (versions_in before) k z.clock s
        by k z s up old =
            clock_on w.hosts (versions_of (record w { sites = sites })) w.packets (versions_in before) k old.0.clock z.clock s old.2
            (server_map w.hosts (versions_of w) (versions_of (record w { sites = sites })) w.packets (versions_in before) k old.0.clock s
            more (keeps.servers k old.0 s old.1 (sym old.4 ∙ up)))

    pub happens_orders : (e : Event) → ((k id : ℕ) (call : List ℕ) → AsksIn e k id call → Called k id call) → Keeps (happens db w e)
    happens_orders (Tick server seconds) asks = λ once. (
      ticked_keeps (tick_at w.sites server seconds) (ticked_one w.sites server seconds) (tick_version w.sites server seconds)
          (tick_clock w.sites server seconds),
      tt,
      tt,
      λ j. subst (AtMost (versions_of w j)) (sym (tick_version w.sites server seconds j)) (at_most_same (versions_of w j)),
      tt,
    )
    happens_orders (Tick_all seconds) asks = λ once. (
      ticked_keeps (map (ticked seconds) w.sites) (ticked_each w.sites seconds) (each_version w.sites seconds)
          (each_clock w.sites seconds),
      tt,
      tt,
      λ j. subst (AtMost (versions_of w j)) (sym (each_version w.sites seconds j)) (at_most_same (versions_of w j)),
      tt,
    )
    happens_orders (Step trigger short) asks =
        at_trigger trigger asks (λ m e site. step_at db m trigger e short site site.node)
        (λ k e site get comes. step_leaves k site get trigger e short comes)
    happens_orders (Stop trigger short made) asks =
        at_trigger trigger asks (λ m e site. stop_at db m e short made site site.node)
        (λ k e site get comes. stop_leaves k site get e short made comes)
    happens_orders (Fault trigger short made) asks =
        at_trigger trigger asks (λ m e site. fault_at db m e short made site site.node)
        (λ k e site get comes. fault_leaves k site get e short made comes)
    happens_orders (Crash server) asks = at_server server crash_at (λ site get. crash_leaves server site get)
    happens_orders (Restart server failed) asks =
        at_server server (restart_at (length w.hosts) server failed) (λ site get. restart_leaves server site get failed)
