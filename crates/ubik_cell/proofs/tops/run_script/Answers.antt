use Rattle.std.proofs.Common.{ℕ, List, [], IfSome, sym, ap, subst, ◌∙◌, drop, arith}
use Rattle.cell_script.specs.Reader.{ReaderState}
use Rattle.script_promises.specs.Databases.{databases}
use Rattle.cell_sites.specs.Opened.{counts_of}
use Rattle.ubik_cell.specs.declared.cells.CellKind.TheVariants as kind
use Rattle.ubik_cell.specs.ScriptRuns.{script_helds, script_sites}
use Rattle.ubik_cell.specs.Turns.{Ran, RanOver, SoFar}
use Rattle.ubik_cell.proofs.ScriptKinds.{sound_disks, sound_few}
use Rattle.ubik_cell.proofs.Starting.{closed, first_so_far, of_both, over_both, short_at_once, so_far_on, unreached}
use Rattle.cell_sites.specs.Disks.{AreSettled}
use Rattle.ubik_cell.proofs.tops.run_script.Goals as goal

pub returns-in_default-clause-ran : goal.returns-in_default-clause-ran
returns-in_default-clause-ran g c =
    let disks = c.args.disks.now.items in
    of_both (λ script left before written. RanOver g.D.Disk kind.NoMemory databases script left before written disks disks) _ _
    (short_at_once g.D.Disk databases disks c.requires.empty)

pub returns-in_default-new-clause-ran : goal.returns-in_default-new-clause-ran
returns-in_default-new-clause-ran g c =
    let disks = c.args.disks.now.items in
    let kept = ap (λ d. d.items) c.in_default-new.ensures.kept in
    subst (λ (after : List _). IfSome (g.S.Source.left c.args.input.now) (λ script. IfSome (g.K.Sink.written c.args.out.now) (λ before.
    RanOver g.D.Disk kind.NoMemory databases script (g.S.Source.left c.args.input.now) before (g.K.Sink.written c.args.out.now) disks
    after))) (sym kept)
    (of_both (λ script left before written. RanOver g.D.Disk kind.NoMemory databases script left before written disks disks) _ _
    (short_at_once g.D.Disk databases disks c.requires.empty))

pub loop-kind-init : goal.loop-kind-init
loop-kind-init g c =
    let run = c.in-Ok-new.run' in
    let spare = c.in-Ok-new.ensures.spare in
    let given = counts_of g.D.Disk c.args.disks.now.items in
    record {
      so_far = of_both (λ script left before written. SoFar g.D.Disk given script c.in-Ok.reader.ended left before written run) _ _
          (first_so_far g.D.Disk given c.in-Ok.reader.ended run (ap (λ (r : ReaderState). r.ended) c.in-Ok.ensures)
          c.in-Ok-new.ensures.at);
      sound = c.in-Ok-new.ensures.sound;
      few = sound_few g.D.Disk run c.in-Ok-new.ensures.sound;
      spare = spare.0 ∙ ap (λ (n : ℕ). drop n c.args.disks.now.items) (sym spare.1);
      empty = c.in-Ok-new.ensures.taken.0;
      room = omega (arith, c.in-Ok-new.ensures.taken.1, c.requires.twenty, c.args.disks.now.ok);
      read = omega arith;
      wrote = omega arith;
    }

pub returns-in-Some-clause-ran : goal.returns-in-Some-clause-ran
returns-in-Some-clause-ran g c =
    let l = c.loop-kind in
    let next = c.turn.new.run in
    let left = g.S.Source.left c.turn.new.input in
    let after = g.K.Sink.written c.turn.new.out in
    let disks = c.args.disks.now.items in
    let spare = unreached g.D.Disk l.run next disks c.close.new.disks.items
    (sound_disks g.D.Disk l.run l.invariant.sound) c.turn.ensures.disks
    l.invariant.spare c.turn.ensures.spare in
    let given = counts_of g.D.Disk disks in
    let ran = so_far_on g.D.Disk given l.reader.ended (g.S.Source.left l.input) (g.K.Sink.written l.out) l.run
    (λ given script before. Ran c.in-Some.kind databases given script left before after (script_sites next) (script_helds g.D.Disk next))
    _ _
    l.invariant.so_far c.in-Some.ensures.ends in
    over_both (λ script before. Ran c.in-Some.kind databases given script left before after (script_sites next)
    (script_helds g.D.Disk next))
    (λ script before. RanOver g.D.Disk c.in-Some.kind databases script left before after disks c.close.new.disks.items) _ _ ran
    (λ script before is. closed g.D.Disk c.in-Some.kind script left before after next disks c.close.new.disks.items
    c.close.ensures.held c.close.ensures.others spare is)

pub loop-kind-preserved : goal.loop-kind-preserved
loop-kind-preserved g c =
    let l = c.loop-kind in
    let next = c.turn.new.run in
    let none = c.in_default-turn.is in
    record {
      so_far =
          so_far_on g.D.Disk (counts_of g.D.Disk c.args.disks.now.items) l.reader.ended (g.S.Source.left l.input)
          (g.K.Sink.written l.out) l.run
          (λ given script before. SoFar g.D.Disk given script c.turn.new.reader.ended (g.S.Source.left c.turn.new.input) before
          (g.K.Sink.written c.turn.new.out) next)
          _ _ l.invariant.so_far (c.turn.ensures.goes none);
      sound = c.turn.ensures.sound none;
      few = sound_few g.D.Disk next (c.turn.ensures.sound none);
      spare = unreached g.D.Disk l.run next c.args.disks.now.items [] (sound_disks g.D.Disk l.run l.invariant.sound) c.turn.ensures.disks
          l.invariant.spare c.turn.ensures.spare;
      empty = l.invariant.empty;
      room = l.invariant.room;
      read = omega (arith, l.invariant.read, c.turn.ensures.read_cause.never_falls);
      wrote = omega (arith, l.invariant.wrote, c.turn.ensures.write_cause.never_falls);
    }

pub returns-in_default-new-clause-settled : goal.returns-in_default-new-clause-settled
returns-in_default-new-clause-settled g c =
    subst (AreSettled g.D.Disk) (sym (ap (λ d. d.items) c.in_default-new.ensures.kept)) c.requires.settled

pub returns-in-Some-clause-settled : goal.returns-in-Some-clause-settled
returns-in-Some-clause-settled g c = subst (AreSettled g.D.Disk) (sym c.close.ensures.disks) c.turn.ensures.settled
