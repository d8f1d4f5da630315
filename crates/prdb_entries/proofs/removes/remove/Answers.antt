use Rattle.std.proofs.Common.{◌+◌, max, arith}
use Rattle.std.specs.Int.{w32}
use Rattle.std.proofs.lemmas.Int.{to_z-of_z}
use Rattle.std.proofs.lemmas.Result.{err_from_is_err_and}
use Rattle.db_image.specs.Draft.{put_cost}
use Rattle.db_image.specs.declared.faults.RecordFault.TheVariants.{BadRecord}
use Rattle.db_image.specs.declared.services.Layout.{Layout}
use Rattle.db_chains.specs.Ends.{walk_cost}
use Rattle.db_chains.specs.Free.{free_cost}
use Rattle.db_chains.proofs.Results.{drafts_so, err_same, err_so, ok_so, cause_at}
use Rattle.db_chains.proofs.Drafted.{drafts_after, looks_draft}
use Rattle.prdb_finds.specs.Places.{free_blocks, id_links}
use Rattle.prdb_finds.specs.Records.{whole}
use Rattle.prdb_entries.specs.Changes.{leave_cost, remove_cost}
use Rattle.prdb_entries.specs.Ends.{HasLink}
use Rattle.prdb_entries.proofs.InsertClauses.{none_fault, whole_len}
use Rattle.prdb_entries.proofs.RemoveClauses.{HasOne, find_cause, free_cause, leave_cause, link_held, remove_makes, removed}
use Rattle.prdb_entries.proofs.removes.remove.Goals as goal

pub returns-in_err-link-clause-fault : goal.returns-in_err-link-clause-fault
returns-in_err-link-clause-fault g c =
    let p = err_from_is_err_and c.from_residual-in_err-link.result c.from_residual-in_err-link.ensures.1 in
    rw (p.1, p.2) (find_cause c.args.d.now.bytes c.make_whole.new.d.bytes c.args.id (HasOne c.args.id) c.in_err-link.field-0.0
    c.in_ok-make_whole.ensures.bytes (λ image one. link_held image c.args.id one)
    (rw (to_z-of_z w32 c.args.id c.ranges.id) at c.in_err-link.ensures.fault))

pub returns-in_default-clause-fault : goal.returns-in_default-clause-fault
returns-in_default-clause-fault g c =
    cause_at c.args.d.now.bytes c.make_whole.new.d.bytes whole (HasOne c.args.id) (HasLink c.args.id) (BadRecord 0)
    c.in_ok-make_whole.ensures.bytes (λ image one. link_held image c.args.id one)
    (none_fault c.make_whole.new.d.bytes c.args.id 0 c.in_ok-link.field-0 c.in_default.is
    (rw (to_z-of_z w32 c.args.id c.ranges.id) at c.in_ok-link.ensures.found))

pub returns-in_err-leave-clause-fault : goal.returns-in_err-leave-clause-fault
returns-in_err-leave-clause-fault g c =
    let p = err_from_is_err_and c.from_residual-in_err-leave.result c.from_residual-in_err-leave.ensures.1 in
    let exact = rw (to_z-of_z w32 c.args.id c.ranges.id) at c.in_ok-link.ensures.exact in
    rw (p.1, p.2) (leave_cause c.args.d.now.bytes c.make_whole.new.d.bytes c.find_link.new.d.bytes c.args.id c.in-Some.link
    c.in_err-leave.field-0.0 c.in_ok-make_whole.ensures.bytes c.find_link.ensures.frame.looks.same.bytes (rw c.in-Some.is at exact)
    c.in_err-leave.ensures.fault)

pub returns-clause-bytes : goal.returns-clause-bytes
returns-clause-bytes g c =
    let exact = rw (to_z-of_z w32 c.args.id c.ranges.id) at c.in_ok-link.ensures.exact in
    ok_so c.free_block.result _ _ (rw c.free_blocks.ensures.is at c.free_block.ensures.bytes) (λ made.
    removed c.args.d.now.bytes c.make_whole.new.d.bytes c.find_link.new.d.bytes c.leave.new.d.bytes c.free_block.new.d.bytes c.args.id
    c.in-Some.link c.in_ok-make_whole.ensures.bytes c.find_link.ensures.frame.looks.same.bytes (rw c.in-Some.is at exact)
    c.in_ok-leave.ensures.bytes made)

pub returns-clause-holds : goal.returns-clause-holds
returns-clause-holds g c =
    ok_so c.free_block.result _ _ (returns-clause-bytes g c) (remove_makes c.args.d.now.bytes c.free_block.new.d.bytes c.args.id)

pub returns-clause-fault : goal.returns-clause-fault
returns-clause-fault g c =
    let exact = rw (to_z-of_z w32 c.args.id c.ranges.id) at c.in_ok-link.ensures.exact in
    err_so c.free_block.result _ _ (rw c.free_blocks.ensures.is at c.free_block.ensures.fault) (λ x cause.
    free_cause c.args.d.now.bytes c.make_whole.new.d.bytes c.find_link.new.d.bytes c.leave.new.d.bytes c.args.id c.in-Some.link x
    c.in_ok-make_whole.ensures.bytes c.find_link.ensures.frame.looks.same.bytes (rw c.in-Some.is at exact) c.in_ok-leave.ensures.bytes
    cause)

pub returns-in_err-leave-clause-frame : goal.returns-in_err-leave-clause-frame
returns-in_err-leave-clause-frame g c =
    let p = err_from_is_err_and c.from_residual-in_err-leave.result c.from_residual-in_err-leave.ensures.1 in
    let layout = c.args.d.now.layout in
    let most = max c.args.d.now.len 3264 in
    let from = c.make_whole.new.d.len in
    let len = c.find_link.new.d.len in
    let fits = whole_len c.args.d.now.len from c.in_ok-make_whole.ensures.empty c.in_ok-make_whole.ensures.stays in
    drafts_so g.I.ImageRead (remove_cost layout most) c.args.d.now c.leave.new.d _ _
    (drafts_after g.I.ImageRead (put_cost layout 3264 + walk_cost id_links most) (λ (l : Layout). leave_cost l len)
    (remove_cost layout most) c.args.d.now c.find_link.new.d c.leave.new.d _ _
    (drafts_after g.I.ImageRead (put_cost layout 3264) (λ (l : Layout). walk_cost id_links from)
    (put_cost layout 3264 + walk_cost id_links most) c.args.d.now c.make_whole.new.d c.find_link.new.d _ _ c.make_whole.ensures.frame
    (looks_draft g.I.ImageRead (walk_cost id_links from) c.make_whole.new.d c.find_link.new.d _ c.find_link.ensures.frame)
    (omega (arith, fits)))
    c.leave.ensures.frame (omega (arith, fits, c.find_link.ensures.frame.looks.same.len)))
    (λ h. err_same c.leave.result c.from_residual-in_err-leave.result c.in_err-leave.field-0.0 _ _ c.in_err-leave.was p.1 p.2 h)

pub returns-clause-frame : goal.returns-clause-frame
returns-clause-frame g c =
    let layout = c.args.d.now.layout in
    let most = max c.args.d.now.len 3264 in
    let from = c.make_whole.new.d.len in
    let len = c.find_link.new.d.len in
    let last = c.leave.new.d.len in
    let fits = whole_len c.args.d.now.len from c.in_ok-make_whole.ensures.empty c.in_ok-make_whole.ensures.stays in
    drafts_after g.I.ImageRead (put_cost layout 3264 + walk_cost id_links most + leave_cost layout most)
    (λ (l : Layout). free_cost free_blocks l last) (remove_cost layout most) c.args.d.now c.leave.new.d c.free_block.new.d _ _
    (drafts_after g.I.ImageRead (put_cost layout 3264 + walk_cost id_links most) (λ (l : Layout). leave_cost l len)
    (put_cost layout 3264 + walk_cost id_links most + leave_cost layout most) c.args.d.now c.find_link.new.d c.leave.new.d _ _
    (drafts_after g.I.ImageRead (put_cost layout 3264) (λ (l : Layout). walk_cost id_links from)
    (put_cost layout 3264 + walk_cost id_links most) c.args.d.now c.make_whole.new.d c.find_link.new.d _ _ c.make_whole.ensures.frame
    (looks_draft g.I.ImageRead (walk_cost id_links from) c.make_whole.new.d c.find_link.new.d _ c.find_link.ensures.frame)
    (omega (arith, fits)))
    c.leave.ensures.frame (omega (arith, fits, c.find_link.ensures.frame.looks.same.len)))
    c.free_block.ensures.frame
    (omega (arith, fits, c.find_link.ensures.frame.looks.same.len, c.leave.ensures.len))
