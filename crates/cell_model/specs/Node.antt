-- An abstract server of a cell (own).
use Rattle.std.specs.Prelude.{ℕ, Option, None, List, [], length}
use Rattle.ubik_types.specs.declared.images.Change.{Change}
use Rattle.ubik_types.specs.declared.versions.Version.{Version}
use Rattle.ubik_types.specs.declared.phases.Phase.{Phase}
use Rattle.ubik_types.specs.Votes.{VoteState, fresh_votes}
use Rattle.ubik_types.specs.Lease.{no_starts}
use Rattle.ubik_types.specs.Phase.{PhaseRecord, NoPhase, phase_of}
use Rattle.cell_model.specs.Durable.{Durable}

-- a beacon of a server that claimed the lease and was ready to serve: under which version, and when it was received
pub record ReadyBeacon : Type 0 where
  pub server : ℕ
  pub version : Version
  pub at : ℕ

-- a write that a sync site has begun at this server: between which versions, and of its text so many bytes in so many pieces,
-- those that have come at their places
pub record KeptWrite : Type 0 where
  pub old : Version
  pub new : Version
  pub len : ℕ
  pub pieces : List (Option (List ℕ))

-- the front of an image that a server sends piece by piece: of which version, how long the whole is, and the bytes so far
pub record ReceivedText : Type 0 where
  pub server : ℕ
  pub version : Version
  pub total : ℕ
  pub bytes : List ℕ

-- A write in flight at the sync site: which call, evaluated when, with which answer, and the image before it. The image after
-- it is the server's own. Its holders are those of the phase record, where its commit leaves this server alone.
pub record Flight : Type 0 where
  pub id : ℕ
  pub began : ℕ
  pub call : List ℕ
  pub answer : List ℕ
  pub old_image : List ℕ
  pub changes : List Change

-- a call that waits for the write in flight
pub record Waiting : Type 0 where
  pub id : ℕ
  pub call : List ℕ

-- a server that is up
pub record Server : Type 0 where
  pub version : Version
  pub image : List ℕ
  pub votes : VoteState
  -- for each server of the cell the greatest start for which its yes was counted
  pub starts : List (Option ℕ)
  pub opened : ℕ
  pub phase : PhaseRecord
  pub beacon : Option ReadyBeacon
  pub kept : Option KeptWrite
  pub received : Option ReceivedText
  pub flight : Option Flight
  -- the calls that wait, in their order
  pub waiting : List Waiting

-- what a server keeps that met a fault of its disk: no more than this, and as it was before that step
pub record HaltedServer : Type 0 where
  pub version : Version
  pub len : ℕ
  pub phase : Phase
  pub votes : VoteState
  pub starts : List (Option ℕ)

pub data Node : Type 0 where
  Down : Node
  Halted : (server : HaltedServer) → Node
  Up : (server : Server) → Node

-- a server of a cell of n, opened at a moment on a durable state
abbrev pub opened_server : ℕ → Durable → ℕ → Server
opened_server n durable now =
    record {
      version = durable.version;
      image = durable.image;
      votes = fresh_votes now;
      starts = no_starts n;
      opened = now;
      phase = NoPhase;
      beacon = None;
      kept = None;
      received = None;
      flight = None;
      waiting = [];
    }

-- the server after a step in which its disk failed
abbrev pub halted_from : Server → HaltedServer
halted_from s =
    record {
      version = s.version;
      len = length s.image;
      phase = phase_of s.phase;
      votes = s.votes;
      starts = s.starts;
    }
