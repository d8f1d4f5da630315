use Rattle.std.proofs.Common.{◌≤◌, IfSome}
use Rattle.client_shell.specs.Standing.{stands}
use Rattle.client_shell.proofs.Lines.{SoFar}
use Rattle.client_shell.proofs.sources.run_source.Given as goal

abbrev pub invariant-loop-number : goal.invariant-loop-number
invariant-loop-number g l = record {
  so_far : IfSome (g.S.Source.left l.fn.source) (λ text.
      SoFar g.L.CommandLink.begun l.shell.tool l.shell.hosts.now text l.number l.reader.ended (g.S.Source.left l.source)
      (stands g.L.Link.exchanges g.K.Sink.written g.K.Sink.faults l.fn.link l.fn.out l.fn.err)
      (stands g.L.Link.exchanges g.K.Sink.written g.K.Sink.faults l.link l.out l.err));
  faults : g.S.Source.faults l.fn.source ≤ g.S.Source.faults l.source;
}
