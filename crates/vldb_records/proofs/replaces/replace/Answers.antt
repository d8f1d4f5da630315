use Rattle.std.proofs.Common.{◌+◌, ◌∙◌, ℕ, arith}
use Rattle.std.proofs.lemmas.Result.{err_from_is_err_and}
use Rattle.db_image.specs.declared.faults.RecordFault.TheVariants.{BadRecord}
use Rattle.db_image.specs.declared.services.Layout.{Layout}
use Rattle.db_chains.proofs.Results.{drafts_so, err_same, ok_so}
use Rattle.db_chains.specs.Ends.{walk_cost}
use Rattle.db_chains.proofs.Drafted.{drafts_on, looks_draft}
use Rattle.vldb_chains.specs.Places.{id_links}
use Rattle.vldb_entries.specs.Location.{MayReplace}
use Rattle.vldb_records.specs.Changes.{fields_cost, moves_cost, replace_cost}
use Rattle.vldb_records.proofs.RemoveClauses.{find_cause, leave_cause, looks_on, none_cause}
use Rattle.vldb_records.proofs.ReplaceClauses.{may_cause, replaced_bytes, replaced_makes}
use Rattle.vldb_records.proofs.replaces.replace.Goals as goal

pub returns-in_err-link-clause-fault : goal.returns-in_err-link-clause-fault
returns-in_err-link-clause-fault g c =
    let p = err_from_is_err_and c.from_residual.result c.from_residual.ensures.1 in
    rw (p.1, p.2) (may_cause c.args.d.now.bytes c.args.own (MayReplace c.args.own c.args.e.now) c.in_err-link.field-0.0 (λ s may. may.0)
    (find_cause c.args.d.now.bytes c.args.own c.in_err-link.field-0.0
    (rw (c.id_links.ensures.is, c.id_chain.ensures.place) at c.in_err-link.ensures.fault)))

pub returns-in_default-clause-fault : goal.returns-in_default-clause-fault
returns-in_default-clause-fault g c =
    let first = rw (c.id_links.ensures.is, c.id_chain.ensures.place) at c.in_ok-link.ensures.found in
    may_cause c.args.d.now.bytes c.args.own (MayReplace c.args.own c.args.e.now) (BadRecord c.len.result) (λ s may. may.0)
    (none_cause c.args.d.now.bytes c.args.own c.len.result (rw c.in_default.is at first))

pub returns-in_err-move_to-clause-fault : goal.returns-in_err-move_to-clause-fault
returns-in_err-move_to-clause-fault g c =
    let p = err_from_is_err_and c.from_residual-in_err-move_to.result c.from_residual-in_err-move_to.ensures.1 in
    let first = rw (c.id_links.ensures.is, c.id_chain.ensures.place) at c.in_ok-link.ensures.found in
    let within = c.in_ok-link.ensures.within in
    let fits = rw c.in-Some.is at within in
    rw (p.1, p.2) (may_cause c.args.d.now.bytes c.args.own (MayReplace c.args.own c.args.e.now) c.in_err-move_to.field-0.0 (λ s may. may.0)
    (leave_cause c.args.d.now.bytes c.addresses.new.d.bytes c.args.own c.args.d.now.len c.in-Some.link
    c.in_err-move_to.field-0.0 (c.addresses.ensures.frame.looks.same.bytes ∙ c.find_link.ensures.frame.same.bytes)
    c.find_link.ensures.told (omega (arith, fits)) (rw c.in-Some.is at first) c.in_err-move_to.ensures.fault))

pub returns-in_err-move_to-clause-frame : goal.returns-in_err-move_to-clause-frame
returns-in_err-move_to-clause-frame g c =
    let p = err_from_is_err_and c.from_residual-in_err-move_to.result c.from_residual-in_err-move_to.ensures.1 in
    let layout = c.args.d.now.layout in
    let len = c.args.d.now.len in
    let most = rw c.id_links.ensures.is at c.find_link.ensures.most in
    let looked = walk_cost id_links len + 1020 in
    drafts_so g.I.ImageRead (replace_cost layout len) c.args.d.now c.move_to.new.d _ _
    (drafts_on g.I.ImageRead looked moves_cost (replace_cost layout len) c.args.d.now c.addresses.new.d c.move_to.new.d _ _
    (drafts_on g.I.ImageRead (walk_cost id_links len) (λ (l : Layout) (n : ℕ). 1020) looked c.args.d.now c.find_link.new.d
    c.addresses.new.d _ _
    (looks_on g.I.ImageRead (walk_cost id_links len) c.args.d.now c.find_link.new.d _ c.find_link.ensures.frame most)
    c.find_link.ensures.frame.same.len
    (looks_draft g.I.ImageRead 1020 c.find_link.new.d c.addresses.new.d _ c.addresses.ensures.frame) (omega arith))
    (c.addresses.ensures.frame.looks.same.len ∙ c.find_link.ensures.frame.same.len) c.move_to.ensures.frame (omega arith))
    (λ h. err_same c.move_to.result c.from_residual-in_err-move_to.result c.in_err-move_to.field-0.0 _ _ c.in_err-move_to.was
    p.1 p.2 h)

pub returns-clause-bytes : goal.returns-clause-bytes
returns-clause-bytes g c =
    let first = rw (c.id_links.ensures.is, c.id_chain.ensures.place) at c.in_ok-link.ensures.found in
    let last = rw (c.id_links.ensures.is, c.id_chain.ensures.place) at c.in_ok-link.ensures.exact in
    let within = c.in_ok-link.ensures.within in
    let fits = rw c.in-Some.is at within in
    ok_so c.put_fields.result _ _ c.put_fields.ensures.bytes (λ made.
    replaced_bytes c.args.d.now.bytes c.find_link.new.d.bytes c.addresses.new.d.bytes c.move_to.new.d.bytes c.put_fields.new.d.bytes
    c.args.own c.args.d.now.len c.in-Some.link c.args.e.now c.in_ok-places.places c.in_ok-block.block
    c.find_link.ensures.frame.same.bytes (c.addresses.ensures.frame.looks.same.bytes ∙ c.find_link.ensures.frame.same.bytes)
    c.find_link.ensures.told (omega (arith, fits)) (rw c.in-Some.is at first) (rw c.in-Some.is at last) c.in_ok-places.ensures.exact
    c.in_ok-block.ensures c.in_ok-move_to.ensures.bytes made)

pub returns-clause-holds : goal.returns-clause-holds
returns-clause-holds g c =
    ok_so c.put_fields.result _ _ (returns-clause-bytes g c)
    (replaced_makes c.args.d.now.bytes c.put_fields.new.d.bytes c.args.own c.args.e.now c.requires.entry)

pub returns-clause-frame : goal.returns-clause-frame
returns-clause-frame g c =
    let layout = c.args.d.now.layout in
    let len = c.args.d.now.len in
    let most = rw c.id_links.ensures.is at c.find_link.ensures.most in
    let looked = walk_cost id_links len + 1020 in
    drafts_on g.I.ImageRead (looked + moves_cost layout len) (λ (l : Layout) (n : ℕ). fields_cost l) (replace_cost layout len)
    c.args.d.now c.move_to.new.d c.put_fields.new.d _ _
    (drafts_on g.I.ImageRead looked moves_cost (looked + moves_cost layout len) c.args.d.now c.addresses.new.d c.move_to.new.d _ _
    (drafts_on g.I.ImageRead (walk_cost id_links len) (λ (l : Layout) (n : ℕ). 1020) looked c.args.d.now c.find_link.new.d
    c.addresses.new.d _ _
    (looks_on g.I.ImageRead (walk_cost id_links len) c.args.d.now c.find_link.new.d _ c.find_link.ensures.frame most)
    c.find_link.ensures.frame.same.len
    (looks_draft g.I.ImageRead 1020 c.find_link.new.d c.addresses.new.d _ c.addresses.ensures.frame) (omega arith))
    (c.addresses.ensures.frame.looks.same.len ∙ c.find_link.ensures.frame.same.len) c.move_to.ensures.frame (omega arith))
    (omega (arith, c.move_to.ensures.len, c.addresses.ensures.frame.looks.same.len, c.find_link.ensures.frame.same.len))
    c.put_fields.ensures.frame (omega arith)
