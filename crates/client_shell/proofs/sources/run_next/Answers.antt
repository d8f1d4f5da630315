use Rattle.std.proofs.Common.{◌≢◌, ◌<◌, refl, ap}
use Rattle.cell_script.specs.declared.readers.LineEnd.TheVariants as line_end
use Rattle.client_shell.specs.Standing.{stands}
use Rattle.client_shell.specs.declared.refusals.TheConstants.{LONG_LINE, NO_READ}
use Rattle.client_shell.proofs.Telling.{declines_bad, refused_at}
use Rattle.client_shell.proofs.Turning.{turned_end, turned_fault, turned_line, turned_long, was_going}
use Rattle.client_shell.proofs.sources.run_next.Goals as goal

line_is_no_end : line_end.Line ≢ line_end.End
line_is_no_end = λ same. cc

long_is_no_end : line_end.TooLong ≢ line_end.End
long_is_no_end = λ same. cc

fault_is_no_end : line_end.Failed ≢ line_end.End
fault_is_no_end = λ same. cc

pub returns-in-End-clause-turned : goal.returns-in-End-clause-turned
returns-in-End-clause-turned g c =
    turned_end g.L.CommandLink.begun c.args.shell.now.tool c.args.shell.now.hosts.now c.args.number
    (g.S.Source.faults c.args.source.now < g.S.Source.faults c.next_line.new.source) c.next_line.new.self.ended
    (g.S.Source.left c.next_line.new.source) c.args.reader.now.ended (g.S.Source.left c.args.source.now) c.next_line.new.self.line
    (stands g.L.Link.exchanges g.K.Sink.written g.K.Sink.faults c.args.link.now c.args.out.now c.args.err.now)
    c.in-End.ensures.told (λ was. ap g.S.Source.left (c.in-End.ensures.ended was).1)

pub returns-in-Line-clause-turned : goal.returns-in-Line-clause-turned
returns-in-Line-clause-turned g c =
    let ran = c.run_line-own in
    let named = c.name_unless_well in
    turned_line g.L.CommandLink.begun c.args.shell.now.tool c.args.shell.now.hosts.now c.args.number
    (g.S.Source.faults c.args.source.now < g.S.Source.faults c.next_line.new.source) c.next_line.new.self.ended
    (g.S.Source.left c.next_line.new.source) c.args.reader.now.ended (g.S.Source.left c.args.source.now)
    c.next_line.new.self.line c.line.result.now
    (stands g.L.Link.exchanges g.K.Sink.written g.K.Sink.faults c.args.link.now c.args.out.now c.args.err.now)
    (g.L.Link.exchanges ran.new.link) (g.K.Sink.written ran.new.out) (g.K.Sink.written ran.new.err) (g.K.Sink.written named.new.err)
    (g.K.Sink.faults ran.new.out) (g.K.Sink.faults ran.new.err) (g.K.Sink.faults named.new.err) ran.result named.result
    (was_going _ _ line_is_no_end (λ was. (c.in-Line.ensures.ended was).0)) c.in-Line.ensures.told c.line.ensures.line ran.ensures
    named.ensures

pub returns-in-TooLong-clause-turned : goal.returns-in-TooLong-clause-turned
returns-in-TooLong-clause-turned g c =
    let said = c.say_refused-own in
    let named = c.name_unless_well-in-TooLong in
    let kept = g.L.Link.exchanges c.args.link.now in
    let out = g.K.Sink.written c.args.out.now in
    let others = g.K.Sink.faults c.args.out.now in
    turned_long g.L.CommandLink.begun c.args.shell.now.tool c.args.shell.now.hosts.now c.args.number
    (g.S.Source.faults c.args.source.now < g.S.Source.faults c.next_line.new.source) c.next_line.new.self.ended
    (g.S.Source.left c.next_line.new.source) c.args.reader.now.ended (g.S.Source.left c.args.source.now) c.next_line.new.self.line
    (stands g.L.Link.exchanges g.K.Sink.written g.K.Sink.faults c.args.link.now c.args.out.now c.args.err.now)
    kept out (g.K.Sink.written said.new.err) (g.K.Sink.written named.new.err)
    others (g.K.Sink.faults said.new.err) (g.K.Sink.faults named.new.err) said.result named.result
    (was_going _ _ long_is_no_end (λ was. (c.in-TooLong.ensures.ended was).0)) c.in-TooLong.ensures.told
    (declines_bad _ _ _ _ said.ensures.said)
    (refused_at c.args.shell.now.tool LONG_LINE.now kept out _ _ others _ _ _ said.ensures.said said.ensures.cause) named.ensures

pub returns-in-Failed-clause-turned : goal.returns-in-Failed-clause-turned
returns-in-Failed-clause-turned g c =
    let said = c.say_refused-own-in-Failed in
    let named = c.name_unless_well-in-Failed in
    let kept = g.L.Link.exchanges c.args.link.now in
    let out = g.K.Sink.written c.args.out.now in
    let others = g.K.Sink.faults c.args.out.now in
    turned_fault g.L.CommandLink.begun c.args.shell.now.tool c.args.shell.now.hosts.now c.args.number
    (g.S.Source.faults c.args.source.now < g.S.Source.faults c.next_line.new.source) c.next_line.new.self.ended
    (g.S.Source.left c.next_line.new.source) c.args.reader.now.ended (g.S.Source.left c.args.source.now) c.next_line.new.self.line
    (stands g.L.Link.exchanges g.K.Sink.written g.K.Sink.faults c.args.link.now c.args.out.now c.args.err.now)
    kept out (g.K.Sink.written said.new.err) (g.K.Sink.written named.new.err)
    others (g.K.Sink.faults said.new.err) (g.K.Sink.faults named.new.err) said.result named.result
    (was_going _ _ fault_is_no_end (λ was. (c.in-Failed.ensures.ended was).0)) c.in-Failed.ensures.told
    (c.in-Failed.ensures.cause.rose refl) (declines_bad _ _ _ _ said.ensures.said)
    (refused_at c.args.shell.now.tool NO_READ.now kept out _ _ others _ _ _ said.ensures.said said.ensures.cause) named.ensures
