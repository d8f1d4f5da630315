use Rattle.std.proofs.Common.{ℕ, ◌+◌, List, get_or, arith, ◌∙◌}
use Rattle.std.proofs.lemmas.Result.{err_from_is_err_and}
use Rattle.db_blocks.proofs.Scanned.{drafts_then}
use Rattle.db_chains.specs.Free.{with_freed as with_free_block}
use Rattle.prdb_lists.proofs.Written.{drafts_so}
use Rattle.prdb_finds.specs.Places.{free_blocks}
use Rattle.prdb_members.specs.Sides.{HasFreeChain}
use Rattle.prdb_members.proofs.PartingEnds.{chain_cause, freed_step, going_done, going_fault, going_more, going_none, number_at, number_same}
use Rattle.prdb_members.proofs.partings.free_all.Goals as goal

abbrev may : ℕ → List ℕ → Type 0
may k image = HasFreeChain image

abbrev change : ℕ → List ℕ → List ℕ
change k image = with_free_block free_blocks (k + 1) image

pub loop-number-init : goal.loop-number-init
loop-number-init g c = going_none g.I.ImageRead c.args.d.now may change c.args.blocks.now

pub free_block-requires-clause-len : goal.free_block-requires-clause-len
free_block-requires-clause-len g c = omega (arith, c.requires.len, c.loop-number.invariant.len)

pub free_block-requires-clause-block : goal.free_block-requires-clause-block
free_block-requires-clause-block g c =
    rw (c.free_blocks.ensures.is)
    (number_at c.args.d.now.len c.loop-number.d.len c.args.blocks.now c.loop-number.number-index _ c.loop-number.invariant.len
    c.requires.within c.loop-number-test.true (omega arith))

pub returns-in_err-free_block-clause-len : goal.returns-in_err-free_block-clause-len
returns-in_err-free_block-clause-len g c = c.free_block.ensures.len ∙ c.loop-number.invariant.len

pub returns-in_err-free_block-clause-fault : goal.returns-in_err-free_block-clause-fault
returns-in_err-free_block-clause-fault g c =
    let p = err_from_is_err_and c.from_residual.result c.from_residual.ensures.1 in
    rw (p.1, p.2)
    (going_fault g.I.ImageRead c.args.d.now c.loop-number.d may change c.args.blocks.now c.loop-number.number-index
    (get_or c.args.blocks.now c.loop-number.number-index 0) c.in_err-free_block.field-0.0
    (chain_cause c.loop-number.d.bytes c.free_blocks.result c.in_err-free_block.field-0.0 c.free_blocks.ensures.is
    c.in_err-free_block.ensures.fault)
    (number_same c.args.blocks.now c.loop-number.number-index c.loop-number-test.true) c.loop-number-test.true c.loop-number.invariant)

pub returns-in_err-free_block-clause-frame : goal.returns-in_err-free_block-clause-frame
returns-in_err-free_block-clause-frame g c =
    let p = err_from_is_err_and c.from_residual.result c.from_residual.ensures.1 in
    rw (p.1, p.2)
    (drafts_then g.I.ImageRead c.args.d.now c.loop-number.d c.free_block.new.d _ _ c.loop-number.invariant.frame
    c.in_err-free_block.ensures.frame.drafts)

pub loop-number-preserved : goal.loop-number-preserved
loop-number-preserved g c =
    going_more g.I.ImageRead c.args.d.now c.loop-number.d c.free_block.new.d may change c.args.blocks.now c.loop-number.number-index
    (get_or c.args.blocks.now c.loop-number.number-index 0) _ c.in_ok-free_block.ensures.frame.drafts c.free_block.ensures.len
    (freed_step c.loop-number.d.bytes c.free_block.new.d.bytes c.free_blocks.result _
    (get_or c.args.blocks.now c.loop-number.number-index 0) c.free_blocks.ensures.is (omega arith) c.in_ok-free_block.ensures.bytes)
    (number_same c.args.blocks.now c.loop-number.number-index c.loop-number-test.true) c.loop-number-test.true c.loop-number.invariant

pub returns-clause-bytes : goal.returns-clause-bytes
returns-clause-bytes g c =
    going_done g.I.ImageRead c.args.d.now c.loop-number.d may change c.args.blocks.now c.loop-number.number-index
    c.loop-number-test.false c.loop-number.invariant

pub returns-clause-len : goal.returns-clause-len
returns-clause-len g c = c.loop-number.invariant.len

pub returns-clause-frame : goal.returns-clause-frame
returns-clause-frame g c = drafts_so g.I.ImageRead c.args.d.now c.loop-number.d _ _ c.loop-number.invariant.frame (λ h. absurd cc)
