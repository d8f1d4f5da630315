use Rattle.std.proofs.Common.{◌≡◌, take}
use Rattle.std.specs.List.{flat_map}
use Rattle.vos_tool.specs.Addresses.{address_line}
use Rattle.vos_tool.proofs.addresses.address_lines.Given as goal

abbrev pub invariant-loop-host : goal.invariant-loop-host
invariant-loop-host l = l.text.items ≡ flat_map address_line (take l.host-index l.hosts)
