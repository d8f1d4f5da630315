-- The ready beacon that a server keeps, and the only server of a cell.
use Rattle.std.specs.Prelude.{Option, Some, None, [], ◌∷◌}
use Rattle.ubik_types.specs.declared.hosts.Host.{Host}
use Rattle.cell_model.specs.Node as model
use Rattle.cell_model.specs.Step.{Member}
use Rattle.server_state.specs.declared.beacons.ReadyBeacon.{ReadyBeacon}

-- the only server of its cell
abbrev pub alone : Host → Member
alone host = record { hosts = host ∷ []; me = 0 }

abbrev pub beacon_of : Option ReadyBeacon → Option model.ReadyBeacon
beacon_of None = None
beacon_of (Some b) = Some (record { server = b.server; version = b.version; at = b.at })
