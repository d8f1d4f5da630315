use Rattle.std.proofs.Common.{◌≡◌, true, List, [], refl, ap, sym, subst}
use Rattle.ubik_node.specs.Node.{own_member}
use Rattle.server_journal.specs.declared.items.JournalItem.{JournalItem}
use Rattle.server_station.specs.Fit.{are_numbered, are_taken}
use Rattle.server_station.specs.Replaying.{IsJustOpened}
use Rattle.server_station.proofs.Replaying.{replays_at, replays_none}
use Rattle.server_station.proofs.station.Station.make.Goals as goal

pub invariant_of-result-clause-numbered : goal.invariant_of-result-clause-numbered
invariant_of-result-clause-numbered g c = subst (λ (items : List JournalItem). are_numbered 0 items ≡ true) (sym c.requires.empty) refl

pub invariant_of-result-clause-taken : goal.invariant_of-result-clause-taken
invariant_of-result-clause-taken g c =
    subst (λ (items : List JournalItem). are_taken (own_member c.args.node) items ≡ true) (sym c.requires.empty) refl

pub invariant_of-result-clause-opened : goal.invariant_of-result-clause-opened
invariant_of-result-clause-opened g c = subst (λ node. IsJustOpened node) (sym c.of-past.ensures.opened) c.requires.opened

pub invariant_of-result-clause-member : goal.invariant_of-result-clause-member
invariant_of-result-clause-member g c = ap (λ node. own_member node) (sym c.of-past.ensures.opened)

pub invariant_of-result-clause-replays : goal.invariant_of-result-clause-replays
invariant_of-result-clause-replays g c =
    let node = c.args.node in
    replays_at g.D.Disk g.V.DraftService.standing node c.of-past.result.opened.value node []
    (g.J.Keeper.items c.args.journal) [] c.of-past.result.outputs.value
    c.of-past.ensures.opened c.requires.empty c.of-past.ensures.outputs
    (replays_none g.D.Disk g.V.DraftService.standing node c.requires.opened)
