-- What holds in the midst of a step: the parts, with the version that the server has by then (own).
use Rattle.std.specs.Prelude.{◌≡◌, ℕ, ◌<◌, ◌≤◌, ◌==◌, ◌⊎◌, Bool, true, false, if◌then◌else◌, Option, Some, None, List}
use Rattle.ubik_types.specs.declared.versions.Version.{Version}
use Rattle.ubik_types.specs.Lease.{lease_end}
use Rattle.ubik_types.specs.Phase.{PhaseRecord}
use Rattle.ubik_calls.specs.declared.packets.Packet.{Packet}
use Rattle.cell_model.specs.Book.{Book}
use Rattle.cell_model.specs.Receiver.{is_sending}
use Rattle.cell_model.specs.Step.{Member, cell_size}
use Rattle.cell_laws.specs.Invariant.{AllVersions}
use Rattle.cell_pages.specs.Parts.{AtMost, IsGreatest}
use Rattle.cell_orders.specs.Histories.{Stand, History, number_of}
use Rattle.cell_orders.specs.Orders.{IsListed, IsOrdered, HasMajority, WasSent, IsAsked, IsAnswered, KeptIsKept, AnswersAsked, NumbersPast}
use Rattle.cell_orders.specs.Orders.{HasOpened, NumbersUpTo, PhaseKeeps, IsLeading}

-- the durable versions, with this one at server me
abbrev pub version_at : (ℕ → Version) → ℕ → Version → ℕ → Version
version_at V me v j = if j == me then v else V j

-- a leader has gone on from all versions, or their epochs are past; where it sends, its own is in the book, and the greatest one
pub record IsAhead (now : ℕ) (book : Book) (version : Version) (phase : PhaseRecord) : Type 0 where
  pub near : AllVersions (λ b. AtMost b.version version ⊎ (b.version.epoch < now)) book
  pub greatest : is_sending phase ≡ true → IsGreatest version book
  pub listed : is_sending phase ≡ true → IsListed book version

-- a poll is not past the clock, and before it where the lease is over
abbrev pub HeldInStep : Bool → ℕ → Option ℕ → Type 0
HeldInStep lease now None = Unit {0}
HeldInStep lease now (Some poll) = (poll ≤ now) × (lease ≡ false → poll < now)

-- What the step adds: only this server has asked, and has told of versions, and of none below the one that it had; without the lease it
-- announces nothing. `V` and `before`: the durable versions and the history before the step.
pub record HasGrown (m : Member) (lease : Bool) (V : ℕ → Version) (before : History) (announced : List Version) (packets : List Packet)
    (version : Version) :
    Type 0 where
  pub more : (p : Packet) → WasSent before.packets p → WasSent packets p
  pub asked : (j number : ℕ) → (j ≡ m.me → ⊥) → IsAsked m.hosts packets j number → IsAsked m.hosts before.packets j number
  pub told : (j k number : ℕ) (v : Version) → IsAnswered m.hosts packets j k number v →
      IsAnswered m.hosts before.packets j k number v ⊎ ((k ≡ m.me) × AtMost (V m.me) v)
  pub past : AtMost (V m.me) version
  pub still : lease ≡ false → announced ≡ before.announced

pub record MidStep (m : Member) (now : ℕ) (lease : Bool) (V : ℕ → Version) (C : ℕ → ℕ) (before : History) (h : History) (c : Stand) :
    Type 0 where
  pub ordered : IsOrdered h.book h.announced
  pub kept : KeptIsKept m.hosts h.packets (version_at V m.me c.version)
  pub asked : AnswersAsked m.hosts h.packets
  pub numbers : NumbersPast m.hosts h.packets C
  pub majority : HasMajority (cell_size m) (version_at V m.me c.version) h.announced
  pub opened : HasOpened (cell_size m) now c.opened c.votes c.starts
  pub own : NumbersUpTo (IsAsked m.hosts h.packets m.me) c.opened now (number_of c.phase)
  pub held : HeldInStep lease now (number_of c.phase)
  pub until : lease ≡ true → now ≤ lease_end (cell_size m) c.starts
  pub holders : PhaseKeeps (cell_size m) (version_at V m.me c.version) c.version c.phase
  pub leading : lease ≡ true →
      IsLeading (cell_size m) m.me (version_at V m.me c.version) (IsAnswered m.hosts h.packets m.me) h.announced c.version c.phase
  pub ahead : lease ≡ true → IsAhead now h.book c.version c.phase
  pub grew : HasGrown m lease V before h.announced h.packets c.version
