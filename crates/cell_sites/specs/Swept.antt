-- Which packets wait no longer.
use Rattle.std.specs.Prelude.{◌≡◌, ◌<◌, ℕ, Bool, true, false, List, Some, slice_get, slice_index_or}
use Rattle.ubik_types.specs.declared.hosts.Host.{Host}
use Rattle.ubik_calls.specs.declared.packets.Packet.{Packet}
use Rattle.cell_runs.specs.Script.{is_of_host}

-- no packet below a place waits
abbrev pub NoneWaits : List Bool → ℕ → Type 0
NoneWaits handed low = (k : ℕ) → k < low → slice_index_or handed k false ≡ true

-- no packet below a place that goes to or comes from a host waits
abbrev pub HasSwept : List Packet → List Bool → Host → ℕ → Type 0
HasSwept sent handed host below =
    (k : ℕ) (p : Packet) → k < below → slice_get sent k ≡ Some p → is_of_host host p ≡ true → slice_index_or handed k false ≡ true
