use Rattle.std.proofs.Common.{◌≡◌, IfSome, length}
use Rattle.std.proofs.lemmas.Result.{err_from_is_err_and}
use Rattle.db_chains.proofs.Ended.{bad_cause, bad_count}
use Rattle.prdb_layout.specs.RecordEnds.{seen}
use Rattle.prdb_finds.specs.Sought.{is_sought}
use Rattle.prdb_finds.proofs.Ended.{ended, looks_well, read_some}
use Rattle.prdb_finds.proofs.finds.walk_to.Goals as goal

pub returns-in_err-block_count-clause-bad : goal.returns-in_err-block_count-clause-bad
returns-in_err-block_count-clause-bad g c =
    let p = err_from_is_err_and c.from_residual.result c.from_residual.ensures.1 in
    let told : IfSome c.args.d.now.bytes (λ image. length image ≡ c.len.result) = rw c.len.ensures.size c.len.ensures.told in
    rw (p.1, p.2) (bad_count c.args.d.now.bytes c.args.links (is_sought c.args.sought) c.args.at c.len.result
    c.in_err-block_count.field-0.0 c.in_err-block_count.ensures.fault.0 told c.in_err-block_count.ensures.fault.1)

pub returns-in_err-block_count-clause-fault : goal.returns-in_err-block_count-clause-fault
returns-in_err-block_count-clause-fault g c =
    let p = err_from_is_err_and c.from_residual.result c.from_residual.ensures.1 in
    let told : IfSome c.args.d.now.bytes (λ image. length image ≡ c.len.result) = rw c.len.ensures.size c.len.ensures.told in
    rw (p.1, p.2) (bad_cause c.args.d.now.bytes c.args.links (is_sought c.args.sought) c.args.at c.in_err-block_count.field-0.0
    c.requires.links.step (bad_count c.args.d.now.bytes c.args.links (is_sought c.args.sought) c.args.at c.len.result
    c.in_err-block_count.field-0.0 c.in_err-block_count.ensures.fault.0 told c.in_err-block_count.ensures.fault.1))

pub returns-clause-found : goal.returns-clause-found
returns-clause-found g c =
    read_some c.args.d.now.bytes c.args.links (is_sought c.args.sought) c.args.at c.in_ok-link.field-0 c.in-Some.link
    (seen c.in_ok-read_entry.field-0) c.in-Some.is c.in_ok-link.ensures.exact c.in_ok-read_entry.ensures

pub returns-clause-frame : goal.returns-clause-frame
returns-clause-frame g c = looks_well g.I.ImageRead c.args.d.now c.find.new.d _ _ c.find.ensures.frame.looks (λ e. cc)

pub returns-in_default-clause-ended : goal.returns-in_default-clause-ended
returns-in_default-clause-ended g c = λ none.
    ended c.args.d.now.bytes c.args.links (is_sought c.args.sought) c.args.at c.in_ok-link.field-0 c.in_default.is c.in_ok-link.ensures.exact
