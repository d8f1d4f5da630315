use Rattle.std.proofs.Common.{◌∙◌, ◌+◌, ◌++◌, [], ◌∷◌, ap, List}
use Rattle.ubik_types.specs.declared.hosts.Host.{Host}
use Rattle.cell_sites.proofs.Hosts.{next_host}
use Rattle.cell_sites.proofs.cells.first_hosts.Goals as goal

pub loop-k-preserved : goal.loop-k-preserved
loop-k-preserved c =
    c.in_ok-push.ensures.items
    ∙ ap (λ (l : List Host). l ++ record { 0 = 167772161 + c.loop-k.k } ∷ []) c.loop-k.invariant
    ∙ next_host c.loop-k.k
