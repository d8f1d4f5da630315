use Rattle.std.proofs.Common.{◌<◌, false, refl, ap, arith}
use Rattle.cell_script.specs.Reader.{ReaderState}
use Rattle.client_shell.specs.Standing.{stands}
use Rattle.client_shell.proofs.Lines.{first_so_far, ran_short, ran_to, read_whole, so_far_on}
use Rattle.client_shell.proofs.sources.run_source.Goals as goal

pub returns-in_default-clause-ran : goal.returns-in_default-clause-ran
returns-in_default-clause-ran g c =
    let left = g.S.Source.left c.args.source.now in
    let at = stands g.L.Link.exchanges g.K.Sink.written g.K.Sink.faults c.args.link.now c.args.out.now c.args.err.now in
    ran_short g.L.CommandLink.begun c.args.shell.now.tool c.args.shell.now.hosts.now left 1
    (g.S.Source.faults c.args.source.now < g.S.Source.faults c.args.source.now)
    false left at at _ c.status.ensures
    (first_so_far g.L.CommandLink.begun c.args.shell.now.tool c.args.shell.now.hosts.now left false at refl)

pub loop-number-init : goal.loop-number-init
loop-number-init g c = record {
  so_far =
      first_so_far g.L.CommandLink.begun c.args.shell.now.tool c.args.shell.now.hosts.now
      (g.S.Source.left c.args.source.now) c.in-Ok.reader.ended
      (stands g.L.Link.exchanges g.K.Sink.written g.K.Sink.faults c.args.link.now c.args.out.now c.args.err.now)
      (ap (λ (r : ReaderState). r.ended) c.in-Ok.ensures);
  faults = omega arith;
}

pub loop-number-preserved : goal.loop-number-preserved
loop-number-preserved g c =
    let l = c.loop-number in
    let next = c.run_next in
    record {
      so_far = so_far_on g.L.CommandLink.begun c.args.shell.now.tool c.args.shell.now.hosts.now (g.S.Source.left c.args.source.now) l.number
          (g.S.Source.faults l.source < g.S.Source.faults next.new.source) l.reader.ended next.new.reader.ended
          (g.S.Source.left l.source) (g.S.Source.left next.new.source)
          (stands g.L.Link.exchanges g.K.Sink.written g.K.Sink.faults c.args.link.now c.args.out.now c.args.err.now)
          (stands g.L.Link.exchanges g.K.Sink.written g.K.Sink.faults l.link l.out l.err)
          (stands g.L.Link.exchanges g.K.Sink.written g.K.Sink.faults next.new.link next.new.out next.new.err)
          next.result c.in_default-run_next.is l.invariant.so_far next.ensures.turned;
      faults = omega (arith, l.invariant.faults, next.ensures.read_faults);
    }

pub returns-in-Some-clause-ran : goal.returns-in-Some-clause-ran
returns-in-Some-clause-ran g c =
    let l = c.loop-number in
    let next = c.run_next in
    ran_to g.L.CommandLink.begun c.args.shell.now.tool c.args.shell.now.hosts.now (g.S.Source.left c.args.source.now) l.number
    (g.S.Source.faults l.source < g.S.Source.faults next.new.source)
    (g.S.Source.faults c.args.source.now < g.S.Source.faults next.new.source) l.reader.ended
    (g.S.Source.left l.source) (g.S.Source.left next.new.source)
    (stands g.L.Link.exchanges g.K.Sink.written g.K.Sink.faults c.args.link.now c.args.out.now c.args.err.now)
    (stands g.L.Link.exchanges g.K.Sink.written g.K.Sink.faults l.link l.out l.err)
    (stands g.L.Link.exchanges g.K.Sink.written g.K.Sink.faults next.new.link next.new.out next.new.err)
    c.in-Some.status (λ since. omega (arith, l.invariant.faults, since)) l.invariant.so_far c.in-Some.ensures.turned

pub returns-in-Some-clause-whole : goal.returns-in-Some-clause-whole
returns-in-Some-clause-whole g c = λ well.
    let next = c.run_next in
    read_whole g.L.CommandLink.begun c.args.shell.now.tool c.args.shell.now.hosts.now (g.S.Source.left c.args.source.now)
    (g.S.Source.faults c.args.source.now < g.S.Source.faults next.new.source) (g.S.Source.left next.new.source)
    (stands g.L.Link.exchanges g.K.Sink.written g.K.Sink.faults c.args.link.now c.args.out.now c.args.err.now)
    (stands g.L.Link.exchanges g.K.Sink.written g.K.Sink.faults next.new.link next.new.out next.new.err)
    c.in-Some.status well (returns-in-Some-clause-ran g c)
