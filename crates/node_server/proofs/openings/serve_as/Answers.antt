use Rattle.std.proofs.Common.{ℕ, ◌<◌, ◌≤◌, ◌⊎◌, sym, subst}
use Rattle.node_server.specs.Ends.{IsQuiet}
use Rattle.node_server.specs.Moments.{AreTimed, moments_of}
use Rattle.server_station.specs.Fit.{IsOwnJournal}
use Rattle.node_server.specs.Replays.{IsReplayed}
use Rattle.node_server.proofs.Explaining.{quiet_or_failed}
use Rattle.node_server.proofs.Replaying.{leaves, own_journal}
use Rattle.node_server.proofs.openings.serve_as.Goals as goal

pub returns-clause-disk : goal.returns-clause-disk
returns-clause-disk g c =
    let bench = c.run_crew-bench.result.0 in
    let before = g.L.Running.failed_before in
    subst (λ disk. (before ≤ g.D.Disk.faults disk) × ((before < g.D.Disk.faults disk) ⊎ IsQuiet g.D.Disk disk))
    (sym c.close-disk.ensures.disk)
    (bench.failed, quiet_or_failed g.D.Disk bench.station.recorded.node before bench.halted)

pub returns-clause-timed : goal.returns-clause-timed
returns-clause-timed g c =
    let bench = c.run_crew-bench.result.0 in
    let by = g.L.Running.gave in
    subst (λ (opened : ℕ). AreTimed by (moments_of opened (g.J.Keeper.items c.close-disk.result.1))) (sym c.requires.opened.0)
    (subst (λ journal. AreTimed by (moments_of g.L.Running.opened (g.J.Keeper.items journal)))
    (sym c.close-disk.ensures.journal) bench.timed)

pub returns-clause-replays : goal.returns-clause-replays
returns-clause-replays g c = λ known.
    (let bench = c.run_crew-bench.result.0 in
    let station = bench.station.recorded in
    let d = g.V.DraftService.standing in
    let named = g.L.Running in
    let all = leaves g.D.Disk d station.past.opened.value station.node (g.J.Keeper.items station.journal) station.past.outputs.value
    named.server named.member named.tells named.failed_before bench.halted bench.opened station.replays known in
    subst (λ disk. ∥ IsReplayed g.D.Disk d named.member named.server named.failed_before
    (g.J.Keeper.items c.close-disk.result.1) disk ∥₁) (sym c.close-disk.ensures.disk)
    (subst (λ journal. ∥ IsReplayed g.D.Disk d named.member named.server named.failed_before
    (g.J.Keeper.items journal) station.node.store.disk ∥₁) (sym c.close-disk.ensures.journal) all))

pub returns-clause-own : goal.returns-clause-own
returns-clause-own g c =
    let bench = c.run_crew-bench.result.0 in
    let station = bench.station.recorded in
    let named = g.L.Running in
    subst (λ journal. IsOwnJournal named.member (g.J.Keeper.items journal)) (sym c.close-disk.ensures.journal)
    (own_journal station.past.opened.value station.node
    (g.J.Keeper.items station.journal) named.server named.member named.tells station.member station.numbered station.taken
    bench.opened)
