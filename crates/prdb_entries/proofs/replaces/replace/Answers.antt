use Rattle.std.proofs.Common.{◌+◌, max, arith}
use Rattle.std.specs.Int.{w32}
use Rattle.std.proofs.lemmas.Int.{to_z-of_z}
use Rattle.std.proofs.lemmas.Result.{err_from_is_err_and}
use Rattle.db_image.specs.Draft.{put_cost}
use Rattle.db_image.specs.declared.faults.RecordFault.TheVariants.{BadRecord}
use Rattle.db_image.specs.declared.services.Layout.{Layout}
use Rattle.db_chains.specs.Ends.{walk_cost}
use Rattle.db_chains.proofs.Results.{drafts_so, err_same, ok_so, cause_at}
use Rattle.db_chains.proofs.Drafted.{drafts_after, looks_draft}
use Rattle.prdb_layout.specs.RecordEnds.{seen}
use Rattle.prdb_finds.specs.Places.{id_links}
use Rattle.prdb_finds.specs.Records.{whole}
use Rattle.prdb_entries.specs.Ends.{HasLink}
use Rattle.prdb_entries.specs.Changes.{fields_cost, moved_cost, replace_cost}
use Rattle.prdb_entries.proofs.InsertClauses.{none_fault, whole_len}
use Rattle.prdb_entries.proofs.RemoveClauses.{find_cause}
use Rattle.prdb_entries.proofs.Empty.{fitted_after, kept_empty, replace_makes}
use Rattle.prdb_entries.proofs.ReplaceClauses.{HasFit, link_fit, move_cause, replaced}
use Rattle.prdb_entries.proofs.replaces.replace.Goals as goal

pub returns-in_err-link-clause-fault : goal.returns-in_err-link-clause-fault
returns-in_err-link-clause-fault g c =
    let p = err_from_is_err_and c.from_residual-in_err-link.result c.from_residual-in_err-link.ensures.1 in
    let e = seen c.args.e.now in
    rw (p.1, p.2) (find_cause c.args.d.now.bytes c.make_whole.new.d.bytes c.args.id (HasFit c.args.id e) c.in_err-link.field-0.0
    c.in_ok-make_whole.ensures.bytes (λ image one. link_fit image c.args.id e c.requires.entry one)
    (rw (to_z-of_z w32 c.args.id c.ranges.id) at c.in_err-link.ensures.fault))

pub returns-in_default-clause-fault : goal.returns-in_default-clause-fault
returns-in_default-clause-fault g c =
    let e = seen c.args.e.now in
    cause_at c.args.d.now.bytes c.make_whole.new.d.bytes whole (HasFit c.args.id e) (HasLink c.args.id) (BadRecord 0)
    c.in_ok-make_whole.ensures.bytes (λ image one. link_fit image c.args.id e c.requires.entry one)
    (none_fault c.make_whole.new.d.bytes c.args.id 0 c.in_ok-link.field-0 c.in_default.is
    (rw (to_z-of_z w32 c.args.id c.ranges.id) at c.in_ok-link.ensures.found))

pub returns-in_err-move_to-clause-fault : goal.returns-in_err-move_to-clause-fault
returns-in_err-move_to-clause-fault g c =
    let p = err_from_is_err_and c.from_residual-in_err-move_to.result c.from_residual-in_err-move_to.ensures.1 in
    let exact = rw (to_z-of_z w32 c.args.id c.ranges.id) at c.in_ok-link.ensures.exact in
    rw (p.1, p.2) (move_cause c.args.d.now.bytes c.make_whole.new.d.bytes c.find_link.new.d.bytes c.args.id (seen c.args.e.now)
    c.in-Some.link c.in_err-move_to.field-0.0 c.requires.entry c.in_ok-make_whole.ensures.bytes c.find_link.ensures.frame.looks.same.bytes
    (rw c.in-Some.is at exact) c.in_err-move_to.ensures.fault)

pub returns-clause-bytes : goal.returns-clause-bytes
returns-clause-bytes g c =
    let exact = rw (to_z-of_z w32 c.args.id c.ranges.id) at c.in_ok-link.ensures.exact in
    ok_so c.put_fields.result _ _ c.put_fields.ensures.bytes (λ made.
    fitted_after c.args.d.now.bytes c.put_fields.new.d.bytes c.args.id (seen c.args.e.now) c.len.result c.in_ok-stays.stays
    (rw c.len.ensures.size c.len.ensures.told) (rw (to_z-of_z w32 c.args.id c.ranges.id) at c.in_ok-stays.ensures.value) c.if-stays.false
    (replaced c.args.d.now.bytes c.make_whole.new.d.bytes c.find_link.new.d.bytes c.move_to.new.d.bytes c.put_fields.new.d.bytes c.args.id
    (seen c.args.e.now) c.in-Some.link c.in_ok-block.block c.in_ok-make_whole.ensures.bytes c.find_link.ensures.frame.looks.same.bytes
    (rw c.in-Some.is at exact) c.in_ok-move_to.ensures.bytes c.in_ok-block.ensures made))

pub returns-clause-holds : goal.returns-clause-holds
returns-clause-holds g c =
    ok_so c.put_fields.result _ _ (returns-clause-bytes g c)
    (replace_makes c.args.d.now.bytes c.put_fields.new.d.bytes c.args.id (seen c.args.e.now) c.requires.entry)

pub returns-then-stays-clause-bytes : goal.returns-then-stays-clause-bytes
returns-then-stays-clause-bytes g c =
    kept_empty c.args.d.now.bytes c.args.id (seen c.args.e.now) c.len.result c.in_ok-stays.stays (rw c.len.ensures.size c.len.ensures.told)
    (rw (to_z-of_z w32 c.args.id c.ranges.id) at c.in_ok-stays.ensures.value) c.if-stays.true

pub returns-then-stays-clause-holds : goal.returns-then-stays-clause-holds
returns-then-stays-clause-holds g c =
    replace_makes c.args.d.now.bytes c.args.d.now.bytes c.args.id (seen c.args.e.now) c.requires.entry (returns-then-stays-clause-bytes g c)

pub returns-in_err-move_to-clause-frame : goal.returns-in_err-move_to-clause-frame
returns-in_err-move_to-clause-frame g c =
    let p = err_from_is_err_and c.from_residual-in_err-move_to.result c.from_residual-in_err-move_to.ensures.1 in
    let layout = c.args.d.now.layout in
    let most = max c.args.d.now.len 3264 in
    let from = c.make_whole.new.d.len in
    let len = c.find_link.new.d.len in
    let fits = whole_len c.args.d.now.len from c.in_ok-make_whole.ensures.empty c.in_ok-make_whole.ensures.stays in
    drafts_so g.I.ImageRead (replace_cost layout most) c.args.d.now c.move_to.new.d _ _
    (drafts_after g.I.ImageRead (put_cost layout 3264 + walk_cost id_links most) (λ (l : Layout). moved_cost l len)
    (replace_cost layout most) c.args.d.now c.find_link.new.d c.move_to.new.d _ _
    (drafts_after g.I.ImageRead (put_cost layout 3264) (λ (l : Layout). walk_cost id_links from)
    (put_cost layout 3264 + walk_cost id_links most) c.args.d.now c.make_whole.new.d c.find_link.new.d _ _ c.make_whole.ensures.frame
    (looks_draft g.I.ImageRead (walk_cost id_links from) c.make_whole.new.d c.find_link.new.d _ c.find_link.ensures.frame)
    (omega (arith, fits)))
    c.move_to.ensures.frame (omega (arith, fits, c.find_link.ensures.frame.looks.same.len)))
    (λ h. err_same c.move_to.result c.from_residual-in_err-move_to.result c.in_err-move_to.field-0.0 _ _ c.in_err-move_to.was p.1 p.2 h)

pub returns-clause-frame : goal.returns-clause-frame
returns-clause-frame g c =
    let layout = c.args.d.now.layout in
    let most = max c.args.d.now.len 3264 in
    let from = c.make_whole.new.d.len in
    let len = c.find_link.new.d.len in
    let fits = whole_len c.args.d.now.len from c.in_ok-make_whole.ensures.empty c.in_ok-make_whole.ensures.stays in
    drafts_after g.I.ImageRead (put_cost layout 3264 + walk_cost id_links most + moved_cost layout most) fields_cost
    (replace_cost layout most) c.args.d.now c.move_to.new.d c.put_fields.new.d _ _
    (drafts_after g.I.ImageRead (put_cost layout 3264 + walk_cost id_links most) (λ (l : Layout). moved_cost l len)
    (put_cost layout 3264 + walk_cost id_links most + moved_cost layout most) c.args.d.now c.find_link.new.d c.move_to.new.d _ _
    (drafts_after g.I.ImageRead (put_cost layout 3264) (λ (l : Layout). walk_cost id_links from)
    (put_cost layout 3264 + walk_cost id_links most) c.args.d.now c.make_whole.new.d c.find_link.new.d _ _ c.make_whole.ensures.frame
    (looks_draft g.I.ImageRead (walk_cost id_links from) c.make_whole.new.d c.find_link.new.d _ c.find_link.ensures.frame)
    (omega (arith, fits)))
    c.move_to.ensures.frame (omega (arith, fits, c.find_link.ensures.frame.looks.same.len)))
    c.put_fields.ensures.frame (omega arith)
