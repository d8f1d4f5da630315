use Rattle.std.proofs.Common.{◌≡◌, ◌≤◌, eqb, not, length, take}
use Rattle.std.specs.Prelude.{filter}
use Rattle.vl_service.proofs.looks.used_of.Given as goal

abbrev pub invariant-loop-host : goal.invariant-loop-host
invariant-loop-host l =
    (l.hosts.items ≡ filter (λ host. not (eqb host 0)) (take l.host-index l.addresses)) × (length l.hosts.items ≤ l.host-index)
