use Rattle.std.proofs.Common.{arith}
use Rattle.std.proofs.lemmas.Result.{err_from_is_err_and}
use Rattle.db_chains.specs.declared.changes.Until.TheVariants.{Above}
use Rattle.db_chains.specs.Changes.{is_until, put_in}
use Rattle.db_chains.specs.Ends.{HasSome}
use Rattle.db_chains.specs.Walks.{IsBad}
use Rattle.db_chains.proofs.Clauses.{bytes_stop, between_put}
use Rattle.db_chains.proofs.Ended.{bad_cause}
use Rattle.db_chains.proofs.Results.{after_looks, err_so, image_cause, of_image, ok_so}
use Rattle.db_chains.proofs.changes.put_between.Goals as goal

pub returns-in_err-stop-clause-fault : goal.returns-in_err-stop-clause-fault
returns-in_err-stop-clause-fault g c =
    let p = err_from_is_err_and c.from_residual.result c.from_residual.ensures.1 in
    rw (p.1, p.2) (bad_cause c.args.d.now.bytes c.args.links (is_until
    (Above c.args.word)) c.args.at c.in_err-stop.field-0.0 c.requires.links.step
    c.in_err-stop.ensures.fault)

pub returns-clause-bytes : goal.returns-clause-bytes
returns-clause-bytes g c =
    ok_so c.put_in.result _ _ c.put_in.ensures.bytes
    (bytes_stop c.args.d.now.bytes c.walk.new.d.bytes c.put_in.new.d.bytes (λ p image. put_in c.args.links p c.args.word image) c.args.links
    (is_until (Above c.args.word)) c.args.at c.in_ok-stop.stop c.in_ok-stop.ensures.stop c.walk.ensures.frame.looks.same.bytes)

pub returns-clause-chain : goal.returns-clause-chain
returns-clause-chain g c =
    ok_so c.put_in.result _ _ c.put_in.ensures.bytes
    (between_put c.args.d.now.bytes c.walk.new.d.bytes c.put_in.new.d.bytes c.args.links c.args.at c.args.d.now.len c.args.word
    c.in_ok-stop.stop
    c.requires.links c.requires.apart c.walk.ensures.told c.requires.at c.in_ok-stop.ensures.stop
    c.walk.ensures.frame.looks.same.bytes)

pub returns-clause-bad : goal.returns-clause-bad
returns-clause-bad g c =
    err_so c.put_in.result _ _ c.put_in.ensures.fault
    (of_image c.args.d.now.bytes (IsBad c.args.links (is_until (Above c.args.word)) c.args.at))

pub returns-clause-fault : goal.returns-clause-fault
returns-clause-fault g c =
    err_so c.put_in.result _ _ c.put_in.ensures.fault (image_cause c.args.d.now.bytes (HasSome c.args.links c.args.at))

pub returns-clause-frame : goal.returns-clause-frame
returns-clause-frame g c =
    after_looks g.I.ImageRead _ _ c.args.d.now c.walk.new.d c.put_in.new.d _ _ c.walk.ensures.frame c.put_in.ensures.frame (omega arith)
