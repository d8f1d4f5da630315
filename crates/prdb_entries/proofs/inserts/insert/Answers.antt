use Rattle.std.proofs.Common.{◌+◌, arith}
use Rattle.db_image.specs.Draft.{put_cost}
use Rattle.db_image.specs.declared.services.Layout.{Layout}
use Rattle.db_chains.specs.Free.{take_cost}
use Rattle.db_chains.proofs.Results.{err_so, ok_so}
use Rattle.db_chains.proofs.Drafted.{drafts_after}
use Rattle.prdb_layout.specs.RecordEnds.{seen}
use Rattle.prdb_entries.specs.Changes.{enter_cost, insert_cost}
use Rattle.prdb_entries.proofs.InsertClauses.{enter_fault, insert_makes, inserted, whole_len}
use Rattle.prdb_entries.proofs.inserts.insert.Goals as goal

pub returns-clause-bytes : goal.returns-clause-bytes
returns-clause-bytes g c =
    ok_so c.enter.result _ _ c.enter.ensures.bytes (λ made.
    inserted c.args.d.now.bytes c.make_whole.new.d.bytes c.take_block.new.d.bytes c.enter.new.d.bytes (seen c.args.e.now)
    c.in_ok-number.number c.in_ok-block.block c.in_ok-block.ensures c.in_ok-make_whole.ensures.bytes
    (rw c.free_blocks.ensures.is at c.in_ok-number.ensures.number) (rw c.free_blocks.ensures.is at c.in_ok-number.ensures.bytes) made)

pub returns-clause-holds : goal.returns-clause-holds
returns-clause-holds g c =
    ok_so c.enter.result _ _ (returns-clause-bytes g c)
    (insert_makes c.args.d.now.bytes c.enter.new.d.bytes (seen c.args.e.now) c.requires.entry)

pub returns-clause-fault : goal.returns-clause-fault
returns-clause-fault g c =
    err_so c.enter.result _ _ c.enter.ensures.fault (λ x cause.
    enter_fault c.args.d.now.bytes c.make_whole.new.d.bytes c.take_block.new.d.bytes (seen c.args.e.now)
    c.in_ok-number.number c.in_ok-block.block x c.requires.entry c.in_ok-block.ensures
    c.in_ok-make_whole.ensures.bytes (rw c.free_blocks.ensures.is at c.in_ok-number.ensures.number)
    (rw c.free_blocks.ensures.is at c.in_ok-number.ensures.bytes) cause)

pub returns-clause-frame : goal.returns-clause-frame
returns-clause-frame g c =
    let layout = c.args.d.now.layout in
    let len = c.take_block.new.d.len in
    let fits =
    whole_len c.args.d.now.len c.make_whole.new.d.len c.in_ok-make_whole.ensures.empty c.in_ok-make_whole.ensures.stays in
    drafts_after g.I.ImageRead (put_cost layout 3264 + take_cost layout) (λ (l : Layout). enter_cost l len)
    (insert_cost layout c.args.d.now.len) c.args.d.now c.take_block.new.d c.enter.new.d _ _
    (drafts_after g.I.ImageRead (put_cost layout 3264) take_cost (put_cost layout 3264 + take_cost layout) c.args.d.now c.make_whole.new.d
    c.take_block.new.d _ _ c.make_whole.ensures.frame c.take_block.ensures.frame (omega arith))
    c.enter.ensures.frame
    (omega (arith, c.in_ok-number.ensures.grows, fits))
