use Rattle.std.proofs.Common.{◌≡◌, ◌∙◌, ap, sym, length, arith}
use Rattle.cell_runs.specs.Script.{hosts_of}
use Rattle.cell_sites.proofs.Hosts.{length-hosts_of}
use Rattle.cell_sites.proofs.cells.OpenCell.new.Goals as goal

pub returns-clause-room : goal.returns-clause-room
returns-clause-room g c =
    let len : length c.in_ok-hosts.hosts.items ≡ c.args.servers = ap length c.in_ok-hosts.ensures ∙ length-hosts_of c.args.servers in
    record {
      some = omega (arith, c.requires.some, len);
      few = omega (arith, c.requires.few, len);
      hosts = c.in_ok-hosts.ensures ∙ ap hosts_of (sym len);
      room = omega (arith, c.in_ok-sites.ensures.capacity, len);
    }
