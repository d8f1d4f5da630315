use Rattle.std.proofs.Common.{◌+◌, ◌∙◌, ap, arith}
use Rattle.std.specs.Option.{option_map}
use Rattle.std.proofs.lemmas.Result.{err_from_is_err_and}
use Rattle.db_image.specs.Draft.{put_cost}
use Rattle.db_image.specs.declared.services.Layout.{Layout}
use Rattle.db_chains.specs.Free.{take_cost}
use Rattle.db_chains.proofs.Results.{drafts_so, err_same, ok_so}
use Rattle.db_chains.proofs.Drafted.{drafts_after, looks_draft}
use Rattle.vldb_entries.specs.Forms.{whole}
use Rattle.vldb_records.specs.Changes.{enter_cost, insert_cost}
use Rattle.vldb_records.proofs.InsertClauses.{free_fault, insert_makes, inserted}
use Rattle.vldb_records.proofs.inserts.insert.Goals as goal

pub returns-in_err-number-clause-frame : goal.returns-in_err-number-clause-frame
returns-in_err-number-clause-frame g c =
    let p = err_from_is_err_and c.from_residual-in_err-number.result c.from_residual-in_err-number.ensures.1 in
    let layout = c.args.d.now.layout in
    drafts_so g.I.ImageRead (insert_cost layout) c.args.d.now c.take_block.new.d _ _
    (drafts_after g.I.ImageRead (1020 + put_cost layout 3132) take_cost (insert_cost layout) c.args.d.now c.make_whole.new.d
    c.take_block.new.d _ _
    (drafts_after g.I.ImageRead 1020 (λ (l : Layout). put_cost l 3132) (1020 + put_cost layout 3132) c.args.d.now c.addresses.new.d
    c.make_whole.new.d _ _ (looks_draft g.I.ImageRead 1020 c.args.d.now c.addresses.new.d _ c.addresses.ensures.frame)
    record { drafts = c.make_whole.ensures.frame; cost = c.make_whole.ensures.cost } (omega arith))
    c.take_block.ensures.frame (omega arith))
    (λ h. err_same c.take_block.result c.from_residual-in_err-number.result c.in_err-number.field-0.0 _ _ c.in_err-number.was p.1 p.2 h)

pub returns-in_err-number-clause-fault : goal.returns-in_err-number-clause-fault
returns-in_err-number-clause-fault g c =
    let p = err_from_is_err_and c.from_residual-in_err-number.result c.from_residual-in_err-number.ensures.1 in
    rw (p.1, p.2) (free_fault c.args.d.now.bytes c.make_whole.new.d.bytes c.in_err-number.field-0.0
    (c.in_ok-make_whole.ensures.bytes ∙ ap (option_map whole) c.addresses.ensures.frame.looks.same.bytes)
    (rw c.free_blocks.ensures.is at c.in_err-number.ensures.fault))

pub returns-clause-bytes : goal.returns-clause-bytes
returns-clause-bytes g c =
    ok_so c.enter.result _ _ c.enter.ensures.bytes (λ made.
    inserted c.args.d.now.bytes c.make_whole.new.d.bytes c.take_block.new.d.bytes c.enter.new.d.bytes c.args.e.now c.in_ok-number.number
    c.in_ok-places.places c.in_ok-block.block c.in_ok-places.ensures.exact c.in_ok-block.ensures
    (c.in_ok-make_whole.ensures.bytes ∙ ap (option_map whole) c.addresses.ensures.frame.looks.same.bytes)
    (rw c.free_blocks.ensures.is at c.in_ok-number.ensures.number) (rw c.free_blocks.ensures.is at c.in_ok-number.ensures.bytes) made)

pub returns-clause-holds : goal.returns-clause-holds
returns-clause-holds g c =
    ok_so c.enter.result _ _ (returns-clause-bytes g c)
    (insert_makes c.args.d.now.bytes c.enter.new.d.bytes c.args.e.now c.requires.entry)

pub returns-clause-frame : goal.returns-clause-frame
returns-clause-frame g c =
    let layout = c.args.d.now.layout in
    drafts_after g.I.ImageRead (1020 + put_cost layout 3132 + take_cost layout) enter_cost (insert_cost layout) c.args.d.now
    c.take_block.new.d c.enter.new.d _ _
    (drafts_after g.I.ImageRead (1020 + put_cost layout 3132) take_cost (1020 + put_cost layout 3132 + take_cost layout) c.args.d.now
    c.make_whole.new.d c.take_block.new.d _ _
    (drafts_after g.I.ImageRead 1020 (λ (l : Layout). put_cost l 3132) (1020 + put_cost layout 3132) c.args.d.now c.addresses.new.d
    c.make_whole.new.d _ _ (looks_draft g.I.ImageRead 1020 c.args.d.now c.addresses.new.d _ c.addresses.ensures.frame)
    record { drafts = c.make_whole.ensures.frame; cost = c.make_whole.ensures.cost } (omega arith))
    c.take_block.ensures.frame (omega arith))
    c.enter.ensures.frame (omega arith)
