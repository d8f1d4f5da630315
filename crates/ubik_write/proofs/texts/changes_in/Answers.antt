use Rattle.std.proofs.Common.{rules, ◌≡◌, ◌+◌, ◌-◌, suc, false, Some, None, List, [], length, ap, sym, ◌∙◌, arith}
use Rattle.std.specs.Result.{is_ok}
use Rattle.ubik_types.specs.declared.images.Change.{Change}
use Rattle.cell_model.specs.Pieces.{change_at, changes_at}
use Rattle.ubik_write.proofs.ChangeReading.{with_rest, some-left, changes-end, changes-none, changes-next}
use Rattle.ubik_write.proofs.texts.changes_in.Goals as goal

pub returns-then-is_ok : goal.returns-then-is_ok
returns-then-is_ok c =
    let none : c.loop-count.reader.rest ≡ [] = search rules in
    sym (c.loop-count.invariant ∙ changes-end (length c.args.text.now - c.loop-count._count) c.loop-count.reader c.loop-count.changes none)

pub returns-in_default : goal.returns-in_default
returns-in_default c =
    let next : length c.args.text.now - c.loop-count._count ≡ suc (length c.args.text.now - (c.loop-count._count + 1)) = omega arith in
    let refused : is_ok c.end.result ≡ false = cc in
    let some = some-left c.end.result c.loop-count.reader.rest refused c.end.ensures.done.1 in
    let read : change_at c.loop-count.reader ≡ None = rw c.in_default.is at c.in_ok-change.ensures in
    sym (c.loop-count.invariant ∙ changes-none (length c.args.text.now - c.loop-count._count) (length c.args.text.now - (c.loop-count._count + 1)) c.loop-count.reader c.loop-count.changes next some read)

pub loop-count-preserved : goal.loop-count-preserved
loop-count-preserved c =
    let next : length c.args.text.now - c.loop-count._count ≡ suc (length c.args.text.now - (c.loop-count._count + 1)) = omega arith in
    let refused : is_ok c.end.result ≡ false = cc in
    let some = some-left c.end.result c.loop-count.reader.rest refused c.end.ensures.done.1 in
    let read : change_at c.loop-count.reader ≡ Some (c.in-Some.change, c.read_change.new.reader) = rw c.in-Some.is at c.in_ok-change.ensures in
    c.loop-count.invariant
    ∙ changes-next (length c.args.text.now - c.loop-count._count) (length c.args.text.now - (c.loop-count._count + 1)) c.loop-count.reader c.read_change.new.reader c.loop-count.changes c.in-Some.change next some read
    ∙ sym (ap (λ (those : List Change). with_rest those (changes_at (length c.args.text.now - (c.loop-count._count + 1)) c.read_change.new.reader)) c.in_ok-changes_push.ensures.ok)
