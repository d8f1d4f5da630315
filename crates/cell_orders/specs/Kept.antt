-- What every run keeps of the order, of the world and the past (own).
use Rattle.std.specs.Prelude.{◌≡◌, ℕ, true, Option, Some, None, List, [], ◌∷◌, length, map}
use Rattle.ubik_types.specs.declared.versions.Version.{Version}
use Rattle.ubik_types.specs.Lease.{is_in_lease, lease_end}
use Rattle.ubik_types.specs.Version.{zero_version}
use Rattle.ubik_calls.specs.declared.packets.Packet.{Packet}
use Rattle.db_image.specs.Database.{Database}
use Rattle.cell_model.specs.Book.{Book, Announcement, clock_at, list_of}
use Rattle.cell_model.specs.Node.{Up, Server}
use Rattle.cell_model.specs.World.{World, Site, site_of}
use Rattle.ubik_types.specs.declared.hosts.Host.{Host}
use Rattle.cell_orders.specs.Asked.{CallsKnown}
use Rattle.cell_orders.specs.Acknowledged.{FlightMade, IsLevel}
use Rattle.cell_orders.specs.Histories.{number_of}
use Rattle.cell_orders.specs.Orders.{IsOrdered, HasMajority, WasSent, IsAsked, IsAnswered, KeptIsKept, AnswersAsked, NumbersPast, HasOpened}
use Rattle.cell_orders.specs.Orders.{NumbersUpTo, HeldSince}
use Rattle.cell_orders.specs.Orders.{PhaseKeeps, IsLeading}
use Rattle.cell_orders.specs.Served.{Names, IsNamed}

abbrev pub version_in : Option Site → Version
version_in None = zero_version
version_in (Some site) = site.durable.version

-- the durable version of each server
abbrev pub versions_of : World → ℕ → Version
versions_of w j = version_in (site_of w j)

-- Of server k that is up, among packets and durable versions.
pub record ServerKeeps (hosts : List Host) (V : ℕ → Version) (packets : List Packet) (announced : List Version) (k clock : ℕ) (s : Server) :
    Type 0 where
  pub opened : HasOpened (length hosts) clock s.opened s.votes s.starts
  pub own : NumbersUpTo (IsAsked hosts packets k) s.opened clock (number_of s.phase)
  pub held : HeldSince clock (lease_end (length hosts) s.starts) (number_of s.phase)
  pub holders : PhaseKeeps (length hosts) V s.version s.phase
  pub leading : is_in_lease (length hosts) s.starts clock ≡ true →
      IsLeading (length hosts) k V (IsAnswered hosts packets k) announced s.version s.phase
  pub level : IsLevel s.version s.phase s.flight

-- `Called`: which calls were asked at which server, under which ids.
pub record OrderKept (db : Database) (Called : ℕ → ℕ → List ℕ → Type 0) (w : World) (book : Book) (announced : List Version) : Type 0 where
  pub ordered : IsOrdered book announced
  pub kept : KeptIsKept w.hosts w.packets (versions_of w)
  pub asked : AnswersAsked w.hosts w.packets
  pub numbers : NumbersPast w.hosts w.packets (clock_at w)
  pub majority : HasMajority (length w.hosts) (versions_of w) announced
  pub servers : (k : ℕ) (site : Site) (s : Server) → site_of w k ≡ Some site → site.node ≡ Up s →
      ServerKeeps w.hosts (versions_of w) w.packets announced k site.clock s
  pub flights : (k : ℕ) (site : Site) (s : Server) → site_of w k ≡ Some site → site.node ≡ Up s →
      FlightMade db book s.version s.phase s.flight
  pub names : (p : Packet) → WasSent w.packets p → Names announced p.body
  pub beacons : (k : ℕ) (site : Site) (s : Server) → site_of w k ≡ Some site → site.node ≡ Up s → IsNamed announced s.beacon
  pub calls : (k : ℕ) (site : Site) (s : Server) → site_of w k ≡ Some site → site.node ≡ Up s → CallsKnown (Called k) s.flight s.waiting

-- the announcements of a run: each has the list of its version
abbrev pub ListsOf : Book → List Announcement → Type 0
ListsOf book [] = Unit {0}
ListsOf book (a ∷ announcements) = (list_of book a.version ≡ Some a.transactions) × ListsOf book announcements

abbrev pub versions_in : List Announcement → List Version
versions_in announcements = map (λ (a : Announcement). a.version) announcements
