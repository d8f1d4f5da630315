use Rattle.ubik_node.specs.Node.{node_of, own_member}
use Rattle.node_server.proofs.Explaining.{opened_reads, refused, served}
use Rattle.node_server.proofs.Replaying.{run_replays}
use Rattle.node_server.proofs.openings.open_and_serve.Goals as goal

pub returns-in-Ok-clause-explained : goal.returns-in-Ok-clause-explained
returns-in-Ok-clause-explained g c =
    served g.D.Disk g.J.Keeper.items g.J.Keeper.limits _ _ _ _ c.in-Ok.node.store.disk _ c.in-Ok.ensures.opened.0 _ _
    c.in-Ok.ensures.opening
    (opened_reads g.D.Disk c.args.disk c.in-Ok.node _ _ c.in-Ok.ensures.opened.0 c.in-Ok.ensures.opened.1 c.in-Ok.ensures.opened.2
    c.in-Ok.ensures.told) c.in-Ok.ensures.opened.2
    (record {
      closed = c.serve_as.ensures.closed;
      refused = c.serve_as.ensures.refused;
      journal_full = c.serve_as.ensures.journal_full;
      kept = c.serve_as.ensures.limits;
      disk_fault = c.serve_as.ensures.disk_fault;
      files = c.serve_as.ensures.files;
      short = c.serve_as.ensures.short;
      disk = c.serve_as.ensures.disk;
    })

pub returns-in-Err-clause-explained : goal.returns-in-Err-clause-explained
returns-in-Err-clause-explained g c =
    refused g.D.Disk g.J.Keeper.items g.J.Keeper.limits _ _ _ _ _ _ _ c.kind_of_fault.ensures.kind c.in-Err.ensures.refused
    c.in-Err.ensures.unchanged c.in-Err.ensures.settled c.in-Err.ensures.opening

pub returns-in-Ok-clause-replays : goal.returns-in-Ok-clause-replays
returns-in-Ok-clause-replays g c =
    let node = c.in-Ok.node in
    run_replays g.D.Disk g.J.Keeper.items g.V.DraftService.standing c.args.words.cell c.args.words.me c.now-now.result
    (g.D.Disk.faults node.store.disk) c.args.disk
    c.serve_as.result.disk (g.D.Disk.files node.store.disk) c.serve_as.result.run c.in-Ok.ensures.opened.0 (node_of node) (own_member node)
    c.in-Ok.ensures.opened.1 c.in-Ok.ensures.opened.2 c.in-Ok.ensures.member c.in-Ok.ensures.opening.calls.cause.never_falls
    c.in-Ok.ensures.told
    c.serve_as.ensures.moment c.serve_as.ensures.own c.serve_as.ensures.replays
