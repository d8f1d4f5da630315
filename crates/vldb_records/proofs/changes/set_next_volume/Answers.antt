use Rattle.std.proofs.Common.{◌∙◌, arith}
use Rattle.std.proofs.lemmas.Bool.{eq-eqb}
use Rattle.db_blocks.proofs.Maps.{test_other}
use Rattle.vldb_records.proofs.Becoming.{next_ok, next_same, next_makes, next_makes_ok}
use Rattle.vldb_records.proofs.changes.set_next_volume.Goals as goal

pub returns-then-branch-id-clause-bytes : goal.returns-then-branch-id-clause-bytes
returns-then-branch-id-clause-bytes g c =
    c.next_volume.ensures.frame.looks.same.bytes ∙ next_same c.args.d.now.bytes c.args.id c.in_ok-next_volume.field-0
    c.in_ok-next_volume.ensures.exact
    (eq-eqb c.in_ok-next_volume.field-0 c.args.id c.if-branch-id.true)

pub returns-then-branch-id-clause-holds : goal.returns-then-branch-id-clause-holds
returns-then-branch-id-clause-holds g c =
    next_makes c.args.d.now.bytes c.next_volume.new.d.bytes c.args.id (omega arith) (returns-then-branch-id-clause-bytes g c)

pub returns-clause-bytes : goal.returns-clause-bytes
returns-clause-bytes g c =
    next_ok c.put_whole.result c.args.d.now.bytes c.next_volume.new.d.bytes c.put_whole.new.d.bytes c.args.id
    c.in_ok-next_volume.field-0 c.to_be_bytes.result
    c.next_volume.ensures.frame.looks.same.bytes c.in_ok-next_volume.ensures.exact
    (test_other c.in_ok-next_volume.field-0 c.args.id c.if-branch-id.false) c.to_be_bytes.ensures c.put_whole.ensures.bytes

pub returns-clause-holds : goal.returns-clause-holds
returns-clause-holds g c = next_makes_ok c.put_whole.result c.args.d.now.bytes c.put_whole.new.d.bytes c.args.id (omega arith)
    (returns-clause-bytes g c)
