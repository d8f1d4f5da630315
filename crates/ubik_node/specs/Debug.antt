-- What a server tells of itself (own).
use Rattle.std.specs.Prelude.{ℕ, Option, Some, None}
use Rattle.ubik_types.specs.declared.hosts.Host.{Host}
use Rattle.ubik_types.specs.Lease.{lease_end}
use Rattle.ubik_types.specs.Votes.{sync_heard}
use Rattle.ubik_calls.specs.declared.replies.DebugIs.{DebugIs}
use Rattle.cell_model.specs.Node.{HaltedServer}
use Rattle.cell_model.specs.Step.{Member, cell_size, host_at}

-- the host of a server, 0 for none
abbrev pub host_or_none : Member → Option ℕ → Host
host_or_none m None = record { 0 = 0 }
host_or_none m (Some k) = host_at m.hosts k

-- the host of a server that was heard, 0 for none
abbrev pub heard_host : Member → Option (ℕ × ℕ) → Host
heard_host m None = record { 0 = 0 }
heard_host m (Some heard) = host_at m.hosts heard.0

-- of a server that is up it is what it would keep if its disk failed
abbrev pub debug_of : Member → HaltedServer → ℕ → DebugIs
debug_of m h now =
    record {
      host = host_at m.hosts m.me;
      now = now;
      version = h.version;
      phase = h.phase;
      until = lease_end (cell_size m) h.starts;
      sync = heard_host m (sync_heard now h.votes);
      voted = host_or_none m h.votes.yes_to;
      voted_at = h.votes.yes_at;
    }
