use Rattle.std.specs.Prelude.{is_some}
use Rattle.ubik_node.specs.Node.{node_of, own_member}
use Rattle.node_server.proofs.openings.open_and_serve.Given as goal

abbrev pub ghosts-serve_as-L-Ledger : goal.ghosts-serve_as-L-Ledger
ghosts-serve_as-L-Ledger g a = record { name = a.blank.name; parts = a.blank.parts }

abbrev pub ghosts-serve_as-L-Running : goal.ghosts-serve_as-L-Running
ghosts-serve_as-L-Running g a =
    record {
      limits = g.J.Keeper.limits a.journal;
      failed_before = g.D.Disk.faults a.node.store.disk;
      opened = a.opened;
      gave =
          g.C.Clock.gave a.outside.now.clock.now;
      server = node_of a.node;
      member = own_member a.node;
      tells = is_some
          (g.D.Disk.files a.node.store.disk);
    }
