use Rattle.std.proofs.Common.{sym, subst}
use Rattle.node_server.specs.Replays.{IsOpenedAs}
use Rattle.node_server.proofs.Seeing.{goes_on, seen_stays}
use Rattle.node_server.proofs.Timing.{goes_by, stays_timed}
use Rattle.server_station.specs.Turns.{seen}
use Rattle.node_server.proofs.benches.StationBenchBench.turn.Goals as goal

pub returns-clause-stays : goal.returns-clause-stays
returns-clause-stays g c = λ end is. seen_stays g.D.Disk _ _ _ _ end (goes_on g.D.Disk _ _ _ _ _ _ _ _ c.turn.ensures.turned) is

pub invariant_of-self-clause-timed : goal.invariant_of-self-clause-timed
invariant_of-self-clause-timed g c =
    let bench = c.args.self.now in
    let was = bench.station in
    let is = c.turn.new.self in
    let items = g.J.Keeper.items in
    let timed = stays_timed g.L.Running.gave g.L.Running.opened c.args.now
    (seen was.recorded.node (items was.recorded.journal) was.askers was.recorded.past.outputs.value)
    (seen is.recorded.node (items is.recorded.journal) is.askers is.recorded.past.outputs.value)
    (goes_by g.D.Disk _ _ _ _ _ _ _ _ c.turn.ensures.turned) c.requires.clocked
    (record { timed = bench.timed; last_is = bench.last }) in timed.timed

pub invariant_of-self-clause-last : goal.invariant_of-self-clause-last
invariant_of-self-clause-last g c =
    let bench = c.args.self.now in
    let was = bench.station in
    let is = c.turn.new.self in
    let items = g.J.Keeper.items in
    let timed = stays_timed g.L.Running.gave g.L.Running.opened c.args.now
    (seen was.recorded.node (items was.recorded.journal) was.askers was.recorded.past.outputs.value)
    (seen is.recorded.node (items is.recorded.journal) is.askers is.recorded.past.outputs.value)
    (goes_by g.D.Disk _ _ _ _ _ _ _ _ c.turn.ensures.turned) c.requires.clocked
    (record { timed = bench.timed; last_is = bench.last }) in timed.last_is

pub invariant_of-self-clause-opened : goal.invariant_of-self-clause-opened
invariant_of-self-clause-opened g c =
    subst (λ node. ∥ IsOpenedAs g.D.Disk node g.L.Running.server g.L.Running.member g.L.Running.tells ∥₁)
    (sym c.turn.ensures.opened) c.args.self.now.opened
