-- What a run is worth: the book of versions, the announcements, the order, what was acknowledged, the votes and the replies
-- that were given, and which server is a ready sync site (own). No rule of a server reads any of it.
use Rattle.std.specs.Prelude.{ℕ, ◌-◌, Bool, true, false, ◌&&◌, if◌then◌else◌, Option, Some, None, unwrap_or, List, [], ◌∷◌, ◌++◌, length, drop}
use Rattle.db_image.specs.Database.{Database}
use Rattle.ubik_types.specs.declared.versions.Version.{Version}
use Rattle.ubik_types.specs.Version.{zero_version, version_eq}
use Rattle.ubik_types.specs.Lease.{is_in_lease}
use Rattle.ubik_types.specs.Votes.{beacon_is_due}
use Rattle.ubik_calls.specs.declared.packets.Packet.{Packet}
use Rattle.ubik_calls.specs.declared.packets.Body.{Body}
use Rattle.ubik_calls.specs.declared.packets.Body.TheVariants as body
use Rattle.ubik_calls.specs.declared.replies.Reply.{Reply}
use Rattle.ubik_calls.specs.declared.replies.Reply.TheVariants as reply
use Rattle.cell_model.specs.Durable.{Transaction, Reason, Own_relabelling, Committed, Received, version_after}
use Rattle.cell_model.specs.Lapse.{lapsed}
use Rattle.cell_model.specs.Node.{Node, Down, Halted, Up, Server}
use Rattle.cell_model.specs.NodeRule.{place_of}
use Rattle.cell_model.specs.Step.{Member, Basis, Commit_on, Evaluation, cell_size, leased, is_ready}
use Rattle.cell_model.specs.World.{World, Site, Event, Beacon_turn, Step, Happening, Sent, Announced, Replied, Happened, Entry, happens, member, site_of}
use Rattle.cell_model.specs.Writes.{announced_image}

-- A version in the book: itself, the one before it, which transaction led from there, if one did, which server made it, and all
-- transactions that lead to it.
pub record BookVersion : Type 0 where
  pub version : Version
  pub before : Version
  pub transaction : Option Transaction
  pub maker : ℕ
  pub transactions : List Transaction

-- the book of versions, the newest one first
abbrev pub Book : Type 0
Book = List BookVersion

-- the list of a version, where the book has it; nothing leads to the first version
abbrev pub list_of : Book → Version → Option (List Transaction)
list_of [] v = if version_eq zero_version v then Some [] else None
list_of (first ∷ book) v = if version_eq first.version v then Some first.transactions else list_of book v

abbrev pub list_or_none : Book → Version → List Transaction
list_or_none book v = unwrap_or (list_of book v) []

-- The book with a new version: a relabelling of its own gives it the list of the version before, a commit that list and then
-- the transaction. What a server received adds none.
abbrev pub with_version : Book → ℕ → Version → Version → Reason → Book
with_version book k old new Own_relabelling =
    record { version = new; before = old; transaction = None; maker = k; transactions = list_or_none book old } ∷ book
with_version book k old new (Committed t) =
    record { version = new; before = old; transaction = Some t; maker = k; transactions = list_or_none book old ++ t ∷ [] } ∷ book
with_version book k old new Received = book

abbrev pub entered : Book → List Entry → Book
entered book [] = book
entered book (e ∷ entries) =
    entered (with_version book e.server e.before (version_after e.made.call) e.made.reason) entries

-- an announcement: which server announced which version, and the list of that version
pub record Announcement : Type 0 where
  pub server : ℕ
  pub version : Version
  pub transactions : List Transaction

-- with the announcements that were seen, the last one first
abbrev pub announced : Book → List Happening → List Announcement → List Announcement
announced book [] before = before
announced book (Announced server version ∷ seen) before =
    announced book seen (record { server = server; version = version; transactions = list_or_none book version } ∷ before)
announced book (_ ∷ seen) before = announced book seen before

-- the committed transactions in their order: those of the newest announcement
abbrev pub order_of : List Announcement → List Transaction
order_of [] = []
order_of (last ∷ _) = last.transactions

-- A transaction that was answered Ok, the version that its commit made, and its place: the last one of the list of that version.
pub record Acknowledgement : Type 0 where
  pub transaction : Transaction
  pub version : Version
  pub place : ℕ

abbrev pub acknowledged_by : Book → Evaluation → Basis → List Acknowledgement
acknowledged_by book e (Commit_on old new) =
    record {
      transaction = record { moment = e.moment; call = e.call };
      version = new;
      place = length (list_or_none book new) - 1;
    } ∷ []
acknowledged_by book e _ = []

-- what a reply acknowledges: an Ok to a call that a commit was made for
abbrev pub acknowledged_in : Book → Reply → Option Evaluation → List Acknowledgement
acknowledged_in book (reply.Ok answer) (Some e) = acknowledged_by book e e.basis
acknowledged_in book _ _ = []

-- with what was acknowledged in what was seen, the last one first
abbrev pub acknowledged : Book → List Happening → List Acknowledgement → List Acknowledgement
acknowledged book [] before = before
acknowledged book (Replied server id r e ∷ seen) before = acknowledged book seen (acknowledged_in book r e ++ before)
acknowledged book (_ ∷ seen) before = acknowledged book seen before

-- A reply that a database gave: at which server, to which call, on what it was evaluated, and the order at that moment.
pub record Given : Type 0 where
  pub server : ℕ
  pub id : ℕ
  pub reply : Reply
  pub evaluation : Evaluation
  pub order : List Transaction

-- The order at which a reply was evaluated, by the announcements before it: the Ok of a commit comes right behind its own
-- announcement, and was evaluated on the order before that.
abbrev pub order_at : Basis → List Announcement → List Transaction
order_at (Commit_on old new) announcements = order_of (drop 1 announcements)
order_at _ announcements = order_of announcements

abbrev pub given_with : List Announcement → ℕ → ℕ → Reply → Option Evaluation → List Given → List Given
given_with announcements server id r None before = before
given_with announcements server id r (Some e) before =
    record { server = server; id = id; reply = r; evaluation = e; order = order_at e.basis announcements } ∷ before

-- with the replies that were seen, the last one first
abbrev pub given : Book → List Happening → List Announcement → List Given → List Given
given book [] announcements before = before
given book (Announced server version ∷ seen) announcements before =
    given book seen (announced book (Announced server version ∷ []) announcements) before
given book (Replied server id r e ∷ seen) announcements before =
    given book seen announcements (given_with announcements server id r e before)
given book (_ ∷ seen) announcements before = given book seen announcements before

-- A yes: of which voter to which server, for the beacon of which start, and when by the clock of the voter.
pub record Yes : Type 0 where
  pub voter : ℕ
  pub asker : ℕ
  pub start : ℕ
  pub at : ℕ

abbrev pub clock_in : Option Site → ℕ
clock_in None = 0
clock_in (Some site) = site.clock

abbrev pub clock_at : World → ℕ → ℕ
clock_at w k = clock_in (site_of w k)

abbrev pub yes_between : World → ℕ → Option ℕ → Option ℕ → List Yes
yes_between w start (Some voter) (Some asker) =
    record { voter = voter; asker = asker; start = start; at = clock_at w voter } ∷ []
yes_between w start _ _ = []

-- the yes that a packet carries, if it carries one
abbrev pub yes_in : World → Packet → Body → List Yes
yes_in w p (body.Vote start true) = yes_between w start (place_of w.hosts p.from) (place_of w.hosts p.to)
yes_in w p _ = []

abbrev pub yeses_sent : World → List Happening → List Yes → List Yes
yeses_sent w [] before = before
yeses_sent w (Sent number p ∷ seen) before = yeses_sent w seen (yes_in w p p.body ++ before)
yeses_sent w (_ ∷ seen) before = yeses_sent w seen before

-- the yes of a server to itself, where it takes its own beacon
abbrev pub own_yes_up : Member → ℕ → Server → List Yes
own_yes_up m clock s =
    if beacon_is_due s.votes clock m.me (leased m s clock)
    then record { voter = m.me; asker = m.me; start = clock; at = clock } ∷ []
    else []

abbrev pub own_yes_at : Member → ℕ → Node → List Yes
own_yes_at m clock (Up s) = own_yes_up m clock (lapsed m s clock).server
own_yes_at m clock _ = []

abbrev pub own_yes_of : World → ℕ → Option Site → List Yes
own_yes_of w k None = []
own_yes_of w k (Some site) = own_yes_at (member w k) site.clock site.node

abbrev pub own_yes : World → Event → List Yes
own_yes w (Step (Beacon_turn k) short) = own_yes_of w k (site_of w k)
own_yes w _ = []

-- a run: the world, and of the past the book, the announcements, what was acknowledged, the replies that a database gave, and
-- the yeses; of each the newest first
pub record Run : Type 0 where
  pub world : World
  pub book : Book
  pub announcements : List Announcement
  pub acknowledged : List Acknowledgement
  pub given : List Given
  pub yeses : List Yes

abbrev pub first_run : World → Run
first_run w = record { world = w; book = []; announcements = []; acknowledged = []; given = []; yeses = [] }

-- the run after what happened in an event
abbrev pub run_with : Run → Event → Happened → Run
run_with r e h =
    let book = entered r.book h.entries in
    record {
      world = h.world;
      book = book;
      announcements = announced book h.seen r.announcements;
      acknowledged = acknowledged book h.seen r.acknowledged;
      given = given book h.seen r.announcements r.given;
      yeses = yeses_sent h.world h.seen (own_yes r.world e ++ r.yeses);
    }

abbrev pub run_after : Database → Run → Event → Run
run_after db r e = run_with r e (happens db r.world e)

-- the run after these events
abbrev pub run_through : Database → Run → List Event → Run
run_through db r [] = r
run_through db r (e ∷ events) = run_through db (run_after db r e) events

-- A server is in lease: it is up, or halted, where its starts from before that count.
abbrev pub is_leased_node : Member → ℕ → Node → Bool
is_leased_node m clock Down = false
is_leased_node m clock (Halted h) = is_in_lease (cell_size m) h.starts clock
is_leased_node m clock (Up s) = leased m s clock

-- a ready sync site: up, not halted, in lease, and ready
abbrev pub is_ready_site : Member → ℕ → Node → Bool
is_ready_site m clock (Up s) = leased m s clock && is_ready s.phase
is_ready_site m clock _ = false

-- the database of a ready sync site: during a write in flight the one before it
abbrev pub site_database : Server → List ℕ
site_database s = announced_image s
