-- What every run keeps of a cell, beside the model of leases, part by part: why epochs rise (own).
use Rattle.std.specs.Prelude.{◌≡◌, ℕ, ◌<◌, ◌≤◌, true, Bool, Option, Some, None, List, [], ◌∷◌, length, map, slice_get}
use Rattle.ubik_types.specs.declared.hosts.Host.{Host}
use Rattle.ubik_types.specs.declared.versions.Version.{Version}
use Rattle.ubik_calls.specs.declared.packets.Packet.{Packet}
use Rattle.ubik_calls.specs.declared.packets.Body.{Body}
use Rattle.ubik_calls.specs.declared.packets.Body.TheVariants as body
use Rattle.lease_model.specs.Invariant.{Invariant, WereGiven}
use Rattle.lease_model.specs.Leases.{Leases, IsIn}
use Rattle.lease_model.specs.Rules.{cell_rules}
use Rattle.cell_model.specs.Book.{BookVersion, Book}
use Rattle.cell_model.specs.Durable.{Durable}
use Rattle.cell_model.specs.Node.{Node, Down, Halted, Up, Server, KeptWrite}
use Rattle.cell_model.specs.NodeRule.{place_of}
use Rattle.cell_model.specs.Receiver.{is_sending}
use Rattle.cell_model.specs.Step.{host_at}
use Rattle.cell_model.specs.World.{World, Site}
use Rattle.cell_laws.specs.Laws.{Rises}
use Rattle.cell_laws.specs.View.{view}

-- a beacon of server `from` with this start is one that the model knows
abbrev pub TellsBeacon : Leases → ℕ → Option ℕ → Type 0
TellsBeacon x start from = (h : ℕ) → from ≡ Some h → IsIn x.beacons (record { asker = h; start = start })

-- voter v said yes to server h for this start
abbrev pub IsGiven : Leases → ℕ → ℕ → ℕ → Type 0
IsGiven x v h start = (at : ℕ) × IsIn x.yeses (record { voter = v; asker = h; start = start; at = at })

-- a yes from one server to another was given
abbrev pub TellsVote : Leases → ℕ → Bool → Option ℕ → Option ℕ → Type 0
TellsVote x start granted from to = granted ≡ true → (v h : ℕ) → from ≡ Some v → to ≡ Some h → IsGiven x v h start

-- so of each packet; all others tell nothing of votes
abbrev pub Tells : Leases → Body → Option ℕ → Option ℕ → Type 0
Tells x (body.Beacon start claim ready version) from to = TellsBeacon x start from
Tells x (body.Vote start granted) from to = TellsVote x start granted from to
Tells x _ from to = Unit {0}

abbrev pub IsTold : List Host → Leases → Packet → Type 0
IsTold hosts x p = Tells x p.body (place_of hosts p.from) (place_of hosts p.to)

abbrev pub AllTold : List Host → Leases → List Packet → Type 0
AllTold hosts x [] = Unit {0}
AllTold hosts x (p ∷ packets) = IsTold hosts x p × AllTold hosts x packets

-- a kept write leads no further back
abbrev pub KeptRises : Version → Option KeptWrite → Type 0
KeptRises v None = Unit {0}
KeptRises v (Some w) = v.epoch ≤ w.new.epoch

-- Of a server that is up: whoever sends a version to others has the claim to its epoch, and a kept write leads no further back.
pub record Claims (Claim : ℕ → Type 0) (s : Server) : Type 0 where
  pub sending : is_sending s.phase ≡ true → Claim s.version.epoch
  pub kept : KeptRises s.version s.kept

-- What holds of a server of the world beside what the model of leases knows: its version is durable, and where it sends, a quorum
-- has given it the votes of its epoch.
abbrev pub NodeHolds : Leases → ℕ → Durable → Node → Type 0
NodeHolds x k d Down = Unit {0}
NodeHolds x k d (Halted h) = Unit {0}
NodeHolds x k d (Up s) = (d.version ≡ s.version) × Claims (WereGiven cell_rules x k) s

-- of a version in the book: a vote quorum has given its maker the votes of its epoch, and the maker has gone on from there
abbrev pub VersionHolds : List Site → Leases → BookVersion → Type 0
VersionHolds sites x b =
    WereGiven cell_rules x b.maker b.version.epoch
    × ((site : Site) → slice_get sites b.maker ≡ Some site → b.version.epoch ≤ site.durable.version.epoch)

abbrev pub AllVersions : (BookVersion → Type 0) → Book → Type 0
AllVersions P [] = Unit {0}
AllVersions P (b ∷ book) = P b × AllVersions P book

-- All of it: the model has the same servers; packets tell what it knows; each host stands at its own place, and clocks show
-- moments; each server holds, and so does each version in the book; and the epoch of each relabelling is above all before it.
pub record CellInvariant (w : World) (x : Leases) (book : Book) : Type 0 where
  pub servers : x.servers ≡ map view w.sites
  pub told : AllTold w.hosts x w.packets
  pub own : (k : ℕ) → k < length w.hosts → place_of w.hosts (host_at w.hosts k) ≡ Some k
  pub size : length w.sites ≡ length w.hosts
  pub moments : (k : ℕ) (site : Site) → slice_get w.sites k ≡ Some site → 0 < site.clock
  pub holds : (k : ℕ) (site : Site) → slice_get w.sites k ≡ Some site → NodeHolds x k site.durable site.node
  pub kept : Invariant cell_rules x
  pub versions : AllVersions (VersionHolds w.sites x) book
  pub rises : Rises book
