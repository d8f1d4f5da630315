-- What every run keeps, part by part, beside leases and epochs: why no version is made twice (own).
use Rattle.std.specs.Prelude.{◌≡◌, ℕ, Bool, ◌<◌, ◌≤◌, ◌⊎◌, true, false, Option, Some, None}
use Rattle.ubik_types.specs.declared.versions.Version.{Version}
use Rattle.ubik_types.specs.Version.{version_lt}
use Rattle.cell_model.specs.Book.{BookVersion, Book}
use Rattle.cell_model.specs.Durable.{Durable}
use Rattle.cell_model.specs.Node.{Server, KeptWrite}
use Rattle.cell_model.specs.Receiver.{is_sending}
use Rattle.cell_model.specs.Step.{is_ready}
use Rattle.cell_laws.specs.Invariant.{AllVersions}
use Rattle.cell_pages.specs.Growth.{OwnsEpoch}

-- a version is at most another one
abbrev pub AtMost : Version → Version → Type 0
AtMost a b = (a.epoch < b.epoch) ⊎ ((a.epoch ≡ b.epoch) × (a.counter ≤ b.counter))

-- what this server made is at most this version
abbrev pub IsReached : ℕ → Version → BookVersion → Type 0
IsReached k v b = b.maker ≡ k → AtMost b.version v

-- Makers: a server has gone on from each version that it made.
abbrev pub MakerWentOn : ℕ → Book → Durable → Type 0
MakerWentOn k book d = AllVersions (IsReached k d.version) book

-- a kept write leads on
abbrev pub KeptLeadsOn : Version → Option KeptWrite → Type 0
KeptLeadsOn v None = Unit {0}
KeptLeadsOn v (Some w) = version_lt v w.new ≡ true

-- each version in the book is at most this one
abbrev pub IsGreatest : Version → Book → Type 0
IsGreatest v book = AllVersions (λ b. AtMost b.version v) book

-- Of a server that is up: it has gone on from what it made; where it sends its database, it made the epoch of it, and in its lease no
-- version in the book is above its own; a write is in flight in Ready alone; and a kept write leads on.
pub record MakesVersions (k : ℕ) (lease : Bool) (book : Book) (s : Server) : Type 0 where
  pub went_on : AllVersions (IsReached k s.version) book
  pub owns : is_sending s.phase ≡ true → OwnsEpoch k book s.version.epoch
  pub greatest : lease ≡ true → is_sending s.phase ≡ true → IsGreatest s.version book
  pub no_flight : is_ready s.phase ≡ false → s.flight ≡ None
  pub kept : KeptLeadsOn s.version s.kept

-- Epochs rise: what other servers made is of epochs below this moment, where this server is in lease.
abbrev pub OthersBelow : ℕ → ℕ → Bool → Book → Type 0
OthersBelow k now lease book = AllVersions (λ b. (b.maker ≡ k → ⊥) → lease ≡ true → b.version.epoch < now) book
