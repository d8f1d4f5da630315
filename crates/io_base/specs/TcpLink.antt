-- What a link over TCP has stored.
use Rattle.std.specs.Prelude.{ℕ, List}
use Rattle.ubik_types.specs.declared.hosts.Host.{Host}
use Rattle.io_base.specs.declared.links.Exchange.{Exchange}
use Rattle.io_base.specs.declared.tcp_links.Address.{Address}
use Rattle.io_base.specs.declared.tcp_links.Kept.{Kept}
use Rattle.io_base.specs.declared.tcp_links.TcpLink.{TcpLink}

-- what was exchanged
abbrev pub sent_over : {N L : Type 0} → TcpLink N L → List Exchange
sent_over link = link.exchanges.items

-- where a host is reached
abbrev pub address : Host → ℕ → Address
address host port = record { host = host; port = port }

-- the addresses that took no connection
abbrev pub dead_at : {N L : Type 0} → TcpLink N L → List Address
dead_at link = link.dead.items

-- the connections that are kept
abbrev pub kept_by : {N L : Type 0} → TcpLink N L → List Kept
kept_by link = link.kept.items
