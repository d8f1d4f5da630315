use Rattle.std.proofs.Common.{[], drop}
use Rattle.tool_base.specs.Asking.{asks_hosts}
use Rattle.tool_base.specs.Running.{Led}
use Rattle.tool_base.proofs.settling.ask_hosts.Given as goal

abbrev pub invariant-loop-host : goal.invariant-loop-host
invariant-loop-host g l =
    let read = g.R.Reads.reads l.reader in
    Led (asks_hosts l.writes read l.frame l.hosts) l.client (g.L.Link.exchanges l.initial.link) []
    (asks_hosts l.writes read l.frame (drop l.host-index l.hosts)) l.client (g.L.Link.exchanges l.link)
