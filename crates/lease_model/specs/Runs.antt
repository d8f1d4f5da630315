-- What may happen to votes, leases and clocks: ticks, beacons, yeses that are given and counted, and servers that start, halt and
-- stop. Every free choice is a field of the event (own).
use Rattle.std.specs.Prelude.{◌≡◌, ℕ, zero, suc, ◌+◌, Bool, true, false, ◌||◌, nat_lt, nat_le, if◌then◌else◌, Option, Some, None, List, []}
use Rattle.std.specs.Prelude.{◌∷◌, length, map, slice_get}
use Rattle.std.specs.List.{list_all}
use Rattle.ubik_types.specs.Lease.{no_starts, with_start}
use Rattle.ubik_types.specs.Votes.{is_server}
use Rattle.lease_model.specs.Leases.{Voter, Standing, Down, Halted, Up, Server, Beacon, Yes, Leases, IsIn}
use Rattle.lease_model.specs.Rules.{Rules}

pub data Event : Type 0 where
  -- one clock goes forward by so many seconds, or all do
  Tick : (server seconds : ℕ) → Event
  Tick_all : (seconds : ℕ) → Event
  -- a server asks for votes, and gives itself its own
  Ask : (server : ℕ) → Event
  -- a server says yes to a beacon
  Answer : (voter : ℕ) → (beacon : Beacon) → Event
  -- the asker counts a yes
  Count : (yes : Yes) → Event
  -- a server starts, halts, stops
  Start : (server : ℕ) → Event
  Halt : (server : ℕ) → Event
  Stop : (server : ℕ) → Event

-- server k is another one
abbrev pub at_server : List Server → ℕ → (Server → Server) → List Server
at_server [] k f = []
at_server (x ∷ xs) zero f = f x ∷ xs
at_server (x ∷ xs) (suc k) f = x ∷ at_server xs k f

abbrev pub ticked : ℕ → Server → Server
ticked seconds x = record x { clock = x.clock + seconds }

-- a server that starts: nothing is counted, and nobody knows to whom its last yes went
abbrev pub started_voter : Rules → ℕ → ℕ → Voter
started_voter r n now = record { yes_to = None; yes_at = if r.start_binds then now else 0; starts = no_starts n }

abbrev pub started : Rules → ℕ → Server → Server
started r n x = record x { standing = Up (started_voter r n x.clock) }

abbrev pub said : ℕ → ℕ → Voter → Voter
said asker now v = record v { yes_to = Some asker; yes_at = now }

abbrev pub counts : ℕ → ℕ → Voter → Voter
counts voter start v = record v { starts = with_start v.starts voter start }

-- only a server that is up votes and counts
abbrev pub if_up : (Voter → Voter) → Standing → Standing
if_up f (Up v) = Up (f v)
if_up f Down = Down
if_up f (Halted starts) = Halted starts

abbrev pub votes : ℕ → Server → Server
votes asker x = record x { standing = if_up (said asker x.clock) x.standing }

abbrev pub asks : ℕ → Server → Server
asks k x = record x { standing = if_up (λ v. counts k x.clock (said k x.clock v)) x.standing }

abbrev pub counting : Yes → Server → Server
counting y x = record x { standing = if_up (counts y.voter y.start) x.standing }

abbrev pub halted : Standing → Standing
halted (Up v) = Halted v.starts
halted Down = Down
halted (Halted starts) = Halted starts

abbrev pub halts : Server → Server
halts x = record x { standing = halted x.standing }

abbrev pub stops : Server → Server
stops x = record x { standing = Down }

abbrev pub asked_by : Leases → ℕ → Option Server → Leases
asked_by s k None = s
asked_by s k (Some x) =
    record {
      servers = at_server s.servers k (asks k);
      beacons = record { asker = k; start = x.clock } ∷ s.beacons;
      yeses = record { voter = k; asker = k; start = x.clock; at = x.clock } ∷ s.yeses;
    }

abbrev pub answered_by : Leases → ℕ → Beacon → Option Server → Leases
answered_by s k b None = s
answered_by s k b (Some x) =
    record s {
      servers = at_server s.servers k (votes b.asker);
      yeses = record { voter = k; asker = b.asker; start = b.start; at = x.clock } ∷ s.yeses;
    }

-- after one event
abbrev pub after : Rules → Leases → Event → Leases
after r s (Tick k seconds) = record s { servers = at_server s.servers k (ticked seconds) }
after r s (Tick_all seconds) = record s { servers = map (ticked seconds) s.servers }
after r s (Ask k) = asked_by s k (slice_get s.servers k)
after r s (Answer k b) = answered_by s k b (slice_get s.servers k)
after r s (Count y) = record s { servers = at_server s.servers y.asker (counting y) }
after r s (Start k) = record s { servers = at_server s.servers k (started r (length s.servers)) }
after r s (Halt k) = record s { servers = at_server s.servers k halts }
after r s (Stop k) = record s { servers = at_server s.servers k stops }

abbrev pub clocks_of : List Server → List ℕ
clocks_of servers = map (λ (x : Server). x.clock) servers

-- no clock is past another one by more than the skew
abbrev pub are_near : ℕ → List ℕ → Bool
are_near skew clocks = list_all (λ a. list_all (λ b. nat_le a (b + skew)) clocks) clocks

-- a voter may say yes: its last yes is past, or went to the same server
abbrev pub is_free : Rules → ℕ → ℕ → Voter → Bool
is_free r asker now v = nat_lt (v.yes_at + r.keep) now || is_server asker v.yes_to

abbrev pub is_free_in : Rules → ℕ → ℕ → Standing → Bool
is_free_in r asker now (Up v) = is_free r asker now v
is_free_in r asker now _ = false

abbrev pub is_free_at : Rules → ℕ → Option Server → Bool
is_free_at r asker None = false
is_free_at r asker (Some x) = is_free_in r asker x.clock x.standing

-- What is an event: no tick parts two clocks by more than the skew; a yes is given to a beacon that there was, by a voter that is
-- free; and a yes is counted that was given.
abbrev pub IsEvent : Rules → Leases → Event → Type 0
IsEvent r s (Tick k seconds) = are_near r.skew (clocks_of (after r s (Tick k seconds)).servers) ≡ true
IsEvent r s (Tick_all seconds) = are_near r.skew (clocks_of (after r s (Tick_all seconds)).servers) ≡ true
IsEvent r s (Ask k) = is_free_at r k (slice_get s.servers k) ≡ true
IsEvent r s (Answer k b) = IsIn s.beacons b × (is_free_at r b.asker (slice_get s.servers k) ≡ true)
IsEvent r s (Count y) = IsIn s.yeses y
IsEvent r s _ = Unit {0}

abbrev pub after_all : Rules → Leases → List Event → Leases
after_all r s [] = s
after_all r s (e ∷ events) = after_all r (after r s e) events

abbrev pub IsRun : Rules → Leases → List Event → Type 0
IsRun r s [] = Unit {0}
IsRun r s (e ∷ events) = IsEvent r s e × IsRun r (after r s e) events

-- at first all servers start at one clock, but for those that stay down
abbrev pub first_server : Rules → ℕ → ℕ → Bool → Server
first_server r n clock failed = record { clock = clock; standing = if failed then Down else Up (started_voter r n clock) }

abbrev pub first : Rules → ℕ → List Bool → Leases
first r clock failed = record { servers = map (first_server r (length failed) clock) failed; beacons = []; yeses = [] }
