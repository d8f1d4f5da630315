-- The phase record of a server: how far its recovery has come, and what it knows of the others (Kazar,
-- "Ubik": the recovery marks; that the relabelling is made in recovery is own). Servers are their places
-- in the cell; answers and holders are lists in the order of the servers.
use Rattle.std.specs.Prelude.{ℕ, Bool, Option, List}
use Rattle.ubik_types.specs.declared.versions.Version.{Version}
use Rattle.ubik_types.specs.declared.phases.Phase.{Phase}
use Rattle.ubik_types.specs.declared.phases.Phase.TheVariants as phase

-- a poll: the moment at which it began, and the versions that the servers answered
pub record Polled : Type 0 where
  pub number : ℕ
  pub answers : List (Option Version)

-- what is known from the relabelling on: the version before it, and who has the present one
pub record Spread : Type 0 where
  pub old : Version
  pub holders : List Bool

pub data PhaseRecord : Type 0 where
  NoPhase : PhaseRecord
  Poll : (poll : Polled) → PhaseRecord
  -- the best version is fetched from a server
  Fetch : (poll : Polled) → (best : Version) → (host : ℕ) → PhaseRecord
  Relabel : (poll : Polled) → PhaseRecord
  Send : (poll : Polled) → (spread : Spread) → PhaseRecord
  -- a majority has the announced version
  Ready : (poll : Polled) → (spread : Spread) → (announced : Version) → PhaseRecord

abbrev pub phase_of : PhaseRecord → Phase
phase_of NoPhase = phase.None
phase_of (Poll _) = phase.Poll
phase_of (Fetch _ _ _) = phase.Fetch
phase_of (Relabel _) = phase.Relabel
phase_of (Send _ _) = phase.Send
phase_of (Ready _ _ _) = phase.Ready
