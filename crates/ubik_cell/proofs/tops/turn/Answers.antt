use Rattle.std.proofs.Common.{◌≢◌, ◌+◌, ◌∙◌, ℕ, List, Option, Some, sym, ap, subst, take}
use Rattle.std.specs.Prelude.{IfSome}
use Rattle.cell_script.specs.Lines.{TakesLine}
use Rattle.cell_script.specs.declared.readers.LineEnd.TheVariants as line_end
use Rattle.cell_runs.specs.Script.{told}
use Rattle.script_promises.specs.Databases.{databases}
use Rattle.ubik_cell.specs.declared.cells.CellKind.TheVariants as kind
use Rattle.ubik_cell.specs.Lines.{ShortLine}
use Rattle.ubik_cell.specs.ScriptRuns.{script_helds, script_sites}
use Rattle.ubik_cell.specs.Turns.{Ran, SoFar}
use Rattle.ubik_cell.proofs.Ends.{ends_line, goes_line, retold, as_written}
use Rattle.ubik_cell.proofs.Turning.{at_line, at_long, ran_to_fault, ran_to_the_end, was_going}
use Rattle.ubik_cell.proofs.Settling.{script_settled}
use Rattle.ubik_cell.proofs.tops.turn.Goals as goal

line_is_no_end : line_end.Line ≢ line_end.End
line_is_no_end = λ same. cc

long_is_no_end : line_end.TooLong ≢ line_end.End
long_is_no_end = λ same. cc

fault_is_no_end : line_end.Failed ≢ line_end.End
fault_is_no_end = λ same. cc

pub returns-in-End-clause-ends : goal.returns-in-End-clause-ends
returns-in-End-clause-ends g c =
    let run = c.args.run.now in
    as_written (λ (written : List ℕ) (after : Option (List ℕ)). (given script before : List ℕ) →
    SoFar g.D.Disk given script c.args.reader.now.ended (g.S.Source.left c.args.input.now) before (Some written) run →
    Ran kind.Done databases given script (g.S.Source.left c.next_line.new.source) before after (script_sites run)
    (script_helds g.D.Disk run)) _
    (λ written given script before so. ran_to_the_end g.D.Disk given script _ c.next_line.new.self.ended _ _ before (Some written) run so
    c.requires.sound c.in-End.ensures.told (λ was. ap g.S.Source.left (c.in-End.ensures.ended was).1))

pub returns-in-Failed-clause-ends : goal.returns-in-Failed-clause-ends
returns-in-Failed-clause-ends g c =
    let run = c.args.run.now in
    let going = was_going _ _ fault_is_no_end (λ was. (c.in-Failed.ensures.ended was).0) in
    as_written (λ (written : List ℕ) (after : Option (List ℕ)). (given script before : List ℕ) →
    SoFar g.D.Disk given script c.args.reader.now.ended (g.S.Source.left c.args.input.now) before (Some written) run →
    Ran kind.ReadFault databases given script (g.S.Source.left c.next_line.new.source) before after (script_sites run)
    (script_helds g.D.Disk run)) _
    (λ written given script before so. ran_to_fault g.D.Disk given script _ c.next_line.new.self.ended _ _ before (Some written) run so
    c.requires.sound going (c.in-Failed.ensures.told going))

pub returns-in-TooLong-clause-ends : goal.returns-in-TooLong-clause-ends
returns-in-TooLong-clause-ends g c =
    let run = c.args.run.now in
    let left = g.S.Source.left c.next_line.new.source in
    let after = g.K.Sink.written c.write_line.new.out in
    let going = was_going _ _ long_is_no_end (λ was. (c.in-TooLong.ensures.ended was).0) in
    ends_line g.D.Disk left after run run (c.lines-line.result + 1)
    (ap (λ (n : ℕ). n + 1) c.lines-line.ensures) c.deref.result.now
    (λ given script before written. SoFar g.D.Disk given script c.args.reader.now.ended (g.S.Source.left c.args.input.now) before
    (Some written) run)
    c.long_line-told.result c.write_line.result (g.K.Sink.written c.args.out.now)
    (record {
      unwritten = λ none. ((c.write_line.ensures.unwritten none).0, ap g.K.Sink.written (c.write_line.ensures.unwritten none).1);
      whole = c.write_line.ensures.whole;
      part = c.write_line.ensures.part;
    })
    (λ is. c.requires.sound)
    (λ written given script before so.
    let long = at_long g.D.Disk given script _ c.next_line.new.self.ended _ left before (Some written) run so going
    (c.in-TooLong.ensures.told going) in
    record {
      line = long.line;
      at = long.at;
      line_told = λ goes. retold g.D.Disk left after run run given long.line (told databases long.at.readings) _ _ _ _ c.clear.ensures.bytes
          c.deref.ensures
          (c.long_line-told.ensures.told goes given long.line (told databases long.at.readings) long.long long.at.at long.at.good);
      short =
          λ none. c.long_line-told.ensures.short none given (take 1025 long.line)
          (told databases long.at.readings) long.long_part long.at.at;
    })

pub returns-in-Line-clause-goes : goal.returns-in-Line-clause-goes
returns-in-Line-clause-goes g c = λ none.
    let run = c.args.run.now in
    let next = c.line-told.new.self in
    let left = g.S.Source.left c.next_line.new.source in
    let after = g.K.Sink.written c.write_line-in-Line.new.out in
    let going = was_going _ _ line_is_no_end (λ was. (c.in-Line.ensures.ended was).0) in
    let now = c.next_line.new.self.ended in
    goes_line g.D.Disk left after run next (c.lines-line.result + 1)
    (ap (λ (n : ℕ). n + 1) c.lines-line.ensures) c.deref-in-Line.result.now
    (λ given script before written. SoFar g.D.Disk given script c.args.reader.now.ended (g.S.Source.left c.args.input.now) before
    (Some written) run)
    now c.line-told.result c.write_line-in-Line.result (g.K.Sink.written c.args.out.now) none
    (record {
      unwritten = λ short. (
        (c.write_line-in-Line.ensures.unwritten short).0,
        ap g.K.Sink.written
            (c.write_line-in-Line.ensures.unwritten short).1,
      );
      whole = c.write_line-in-Line.ensures.whole;
      part = c.write_line-in-Line.ensures.part;
    })
    (λ ok given script before written so.
    let takes = subst (λ (l : List ℕ). IfSome (g.S.Source.left c.args.input.now) (λ text. TakesLine text left l now))
    (sym c.line.ensures.line) (c.in-Line.ensures.told going) in
    let at = at_line g.D.Disk given script _ now _ left before (Some written) run so c.line.result.now going takes in
    record {
      line = c.line.result.now;
      at = at;
      line_told = retold g.D.Disk left after run next given c.line.result.now (told databases at.at.readings) _ _ _ _ c.clear.ensures.bytes
          c.deref-in-Line.ensures
          (c.line-told.ensures.told (λ short. let never = sym ok ∙ short in cc) given (told databases at.at.readings) at.at.at at.at.good);
    })

pub returns-in-Line-clause-ends : goal.returns-in-Line-clause-ends
returns-in-Line-clause-ends g c =
    let run = c.args.run.now in
    let next = c.line-told.new.self in
    let left = g.S.Source.left c.next_line.new.source in
    let after = g.K.Sink.written c.write_line-in-Line.new.out in
    let going = was_going _ _ line_is_no_end (λ was. (c.in-Line.ensures.ended was).0) in
    let now = c.next_line.new.self.ended in
    ends_line g.D.Disk left after run next (c.lines-line.result + 1)
    (ap (λ (n : ℕ). n + 1) c.lines-line.ensures) c.deref-in-Line.result.now
    (λ given script before written. SoFar g.D.Disk given script c.args.reader.now.ended (g.S.Source.left c.args.input.now) before
    (Some written) run)
    c.line-told.result c.write_line-in-Line.result (g.K.Sink.written c.args.out.now)
    (record {
      unwritten = λ none. (
        (c.write_line-in-Line.ensures.unwritten none).0,
        ap g.K.Sink.written
            (c.write_line-in-Line.ensures.unwritten none).1,
      );
      whole = c.write_line-in-Line.ensures.whole;
      part = c.write_line-in-Line.ensures.part;
    })
    c.line-told.ensures.sound
    (λ written given script before so.
    let takes = subst (λ (l : List ℕ). IfSome (g.S.Source.left c.args.input.now) (λ text. TakesLine text left l now))
    (sym c.line.ensures.line) (c.in-Line.ensures.told going) in
    let at = at_line g.D.Disk given script _ now _ left before (Some written) run so c.line.result.now going takes in
    record {
      line = c.line.result.now;
      at = at.at;
      line_told = λ goes. retold g.D.Disk left after run next given c.line.result.now (told databases at.at.readings) _ _ _ _
          c.clear.ensures.bytes c.deref-in-Line.ensures
          (c.line-told.ensures.told goes given (told databases at.at.readings) at.at.at at.at.good);
      short =
          λ none. subst (λ (l : List ℕ). ShortLine databases given l (told databases at.at.readings) (script_helds g.D.Disk next))
          (sym at.bound)
          (c.line-told.ensures.short none given (told databases at.at.readings) at.at.at at.at.good);
    })

pub returns-in-End-clause-settled : goal.returns-in-End-clause-settled
returns-in-End-clause-settled g c = script_settled g.D.Disk c.args.run.now c.requires.sound

pub returns-in-Failed-clause-settled : goal.returns-in-Failed-clause-settled
returns-in-Failed-clause-settled g c = script_settled g.D.Disk c.args.run.now c.requires.sound

pub returns-in-TooLong-clause-settled : goal.returns-in-TooLong-clause-settled
returns-in-TooLong-clause-settled g c = script_settled g.D.Disk c.args.run.now c.requires.sound
