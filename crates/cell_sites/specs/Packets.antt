-- What is kept true of the packets of a cell.
use Rattle.std.specs.Prelude.{◌≡◌, ◌≤◌, length}
use Rattle.cell_runs.specs.declared.limits.TheConstants.{MAX_PACKETS, MAX_PACKET_BYTES}
use Rattle.cell_runs.specs.Script.{bytes_of}
use Rattle.cell_sites.specs.declared.packets.Packets.TheInside.{Inside}
use Rattle.cell_sites.specs.Swept.{NoneWaits}
use Rattle.cell_sites.specs.SweptTo.{AreSwept, AreWithin}

-- they stay within the limits, their bytes are counted, and no packet below the places that are kept waits
pub record IsKept (a : Inside) : Type 0 where
  pub each : length a.handed.items ≡ length a.sent.items
  pub few : length a.sent.items ≤ MAX_PACKETS
  pub bytes : a.bytes ≡ bytes_of a.sent.items
  pub light : a.bytes ≤ MAX_PACKET_BYTES
  pub low : a.low ≤ length a.sent.items
  pub none : NoneWaits a.handed.items a.low
  pub within : AreWithin (length a.sent.items) a.swept.items
  pub swept : AreSwept a.sent.items a.handed.items a.swept.items
