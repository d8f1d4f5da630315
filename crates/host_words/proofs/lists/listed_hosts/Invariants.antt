use Rattle.std.proofs.Common.{◌≡◌, map, true}
use Rattle.std.specs.List.{list_all}
use Rattle.host_words.specs.Hosts.{is_address, named_host}
use Rattle.host_words.proofs.lists.listed_hosts.Given as goal

abbrev pub invariant-loop-part : goal.invariant-loop-part
invariant-loop-part l =
    (l.hosts.items ≡ map named_host (map (λ x. x.now) l.yielded)) × (list_all is_address (map (λ x. x.now) l.yielded) ≡ true)
