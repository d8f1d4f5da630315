use Rattle.std.proofs.Common.{◌∙◌}
use Rattle.std.proofs.lemmas.Int.{to_z-of_z}
use Rattle.std.proofs.lemmas.Result.{err_from_is_err_and}
use Rattle.pt_looks.proofs.Paged.{page_cause, page_told}
use Rattle.pt_looks.proofs.pages.page.Goals as goal

pub returns-in_err-entries-clause-fault : goal.returns-in_err-entries-clause-fault
returns-in_err-entries-clause-fault g c =
    let p = err_from_is_err_and c.from_residual-in_err-entries.result c.from_residual-in_err-entries.ensures.1 in
    let cause = c.in_err-entries.ensures.fault in
    rw (p.1, p.2)
    (page_cause c.args.d.now.bytes c.in_ok-blocks.blocks.items c.in_err-entries.field-0.0 c.in_ok-blocks.ensures.there
    (rw c.deref.ensures.value at cause))

pub returns-clause-found : goal.returns-clause-found
returns-clause-found g c =
    let fits = c.ranges.after in
    let found = c.in_ok-blocks.ensures.found in
    let told = c.in_ok-entries.ensures.told in
    page_told c.args.d.now.bytes c.args.kinds c.args.after c.in_ok-blocks.blocks.items c.new.result (simp to_z-of_z at found)
    c.in_ok-blocks.ensures.there (c.new.ensures ∙ rw c.deref.ensures.value at told)
