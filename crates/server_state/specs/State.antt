-- What the state of a node stands for: the abstract server, and its place in the cell.
use Rattle.std.specs.Prelude.{◌≡◌, List, [], ◌++◌}
use Rattle.ubik_types.specs.declared.versions.Version.{Version}
use Rattle.cell_model.specs.declared.events.Output.{Output}
use Rattle.cell_model.specs.Node as model
use Rattle.cell_model.specs.Step.{Member, Stepped, outputs_of}
use Rattle.ubik_recovery.specs.Record.{RecoveryRecord, phase_record}
use Rattle.ubik_recovery.specs.Rules.{recovering}
use Rattle.server_state.specs.declared.state.State.{State}
use Rattle.server_state.specs.Beacons.{beacon_of}
use Rattle.server_state.specs.Writing.{announced_of, flight_of, own_of, waiting_of}

abbrev pub member_of : State → Member
member_of s = record { hosts = s.cell; me = s.me }

-- the version that is announced: during a write in flight the one before it
abbrev pub announced : State → Version
announced s = announced_of s.version (own_of s.writes)

abbrev pub server_of : State → model.Server
server_of s =
    record {
      version = s.version;
      image = s.image;
      votes = s.votes.votes;
      starts = s.votes.starts;
      opened = s.votes.opened;
      phase = phase_record (announced s) s.recovery;
      beacon = beacon_of s.beacon;
      kept = s.pending;
      received = s.recovery.text;
      flight = flight_of s.writes;
      waiting = waiting_of s.writes;
    }

-- the server with another recovery
abbrev pub server_with : State → RecoveryRecord → model.Server
server_with s r = recovering (announced s) r (server_of s)

-- the place in the cell and the database stay
pub record Keeps (before after : State) : Type 0 where
  pub member : member_of after ≡ member_of before
  pub version : after.version ≡ before.version
  pub image : after.image ≡ before.image

-- a step without a durable call: the server after it, and what it puts out behind what stood there
pub record ShowsBehind (t : Stepped) (after : model.Server) (old new : List Output) : Type 0 where
  pub server : t.server ≡ after
  pub calls : t.calls ≡ []
  pub outputs : new ≡ old ++ outputs_of t.shown
