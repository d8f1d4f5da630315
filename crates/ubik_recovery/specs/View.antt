-- How what the code keeps stands for a server's recovery.
use Rattle.std.specs.Prelude.{◌≡◌, ◌≤◌, length, take}
use Rattle.std.specs.Option.{option_map}
use Rattle.ubik_types.specs.declared.limits.TheConstants.{MAXSERVERS}
use Rattle.ubik_recovery.specs.declared.records.Recovery.TheInside.{Inside}
use Rattle.ubik_recovery.specs.Record.{RecoveryRecord}
use Rattle.ubik_recovery.specs.Text.{text_in}

abbrev pub record_of : Inside → RecoveryRecord
record_of r = record {
  servers = r.servers;
  phase = r.phase;
  poll = r.poll;
  answers = take r.servers r.answers;
  old_version = r.old_version;
  holders = take r.servers r.holders;
  text = option_map text_in r.text;
}

-- there is room for each server
pub record IsInOrder (r : Inside) : Type 0 where
  pub few : r.servers ≤ MAXSERVERS
  pub answers : length r.answers ≡ MAXSERVERS
  pub holders : length r.holders ≡ MAXSERVERS
