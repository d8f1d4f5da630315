use Rattle.std.proofs.Common.{arith}
use Rattle.std.proofs.lemmas.Result.{err_from_is_err_and}
use Rattle.db_chains.specs.declared.changes.Until.TheVariants.{Word}
use Rattle.db_chains.specs.Changes.{is_until, taken_out}
use Rattle.db_chains.specs.Ends.{HasWord, IsBadOrLacks}
use Rattle.db_chains.proofs.Clauses.{bytes_stop, lacks, lacks_cause, stands_there, stop_none, stop_some, walk_cause, walk_lacks, word_taken}
use Rattle.db_chains.proofs.Results.{after_looks, err_so, image_cause, of_image, ok_so}
use Rattle.db_chains.proofs.changes.take_out.Goals as goal

pub returns-in_err-stop-clause-bad : goal.returns-in_err-stop-clause-bad
returns-in_err-stop-clause-bad g c =
    let p = err_from_is_err_and c.from_residual.result c.from_residual.ensures.1 in
    rw (p.1, p.2) (walk_lacks c.args.d.now.bytes c.args.links c.args.at c.args.word c.in_err-stop.field-0.0 c.in_err-stop.ensures.fault)

pub returns-in_err-stop-clause-fault : goal.returns-in_err-stop-clause-fault
returns-in_err-stop-clause-fault g c =
    let p = err_from_is_err_and c.from_residual.result c.from_residual.ensures.1 in
    rw (p.1, p.2) (walk_cause c.args.d.now.bytes c.args.links c.args.at c.args.word c.in_err-stop.field-0.0 c.requires.links.step
    c.in_err-stop.ensures.fault)

pub returns-in_default-clause-bad : goal.returns-in_default-clause-bad
returns-in_default-clause-bad g c =
    lacks c.args.d.now.bytes c.args.links c.args.at c.args.word c.in_ok-stop.stop.place
    (stop_none c.args.d.now.bytes c.args.links (is_until (Word c.args.word)) c.args.at c.in_ok-stop.stop c.in_default.is
    c.in_ok-stop.ensures.stop)

pub returns-in_default-clause-fault : goal.returns-in_default-clause-fault
returns-in_default-clause-fault g c =
    lacks_cause c.args.d.now.bytes c.args.links c.args.at c.args.word c.in_ok-stop.stop.place c.requires.links
    (stop_none c.args.d.now.bytes c.args.links (is_until (Word c.args.word)) c.args.at c.in_ok-stop.stop c.in_default.is
    c.in_ok-stop.ensures.stop)

pub take_at-requires-clause-stands : goal.take_at-requires-clause-stands
take_at-requires-clause-stands g c =
    stands_there c.args.d.now.bytes c.walk.new.d.bytes c.args.links (is_until (Word c.args.word)) c.args.at c.in_ok-stop.stop.place
    c.in-Some.link
    c.walk.ensures.frame.looks.same.bytes
    (stop_some c.args.d.now.bytes c.args.links (is_until (Word c.args.word)) c.args.at c.in_ok-stop.stop c.in-Some.link c.in-Some.is
    c.in_ok-stop.ensures.stop)

pub returns-clause-bytes : goal.returns-clause-bytes
returns-clause-bytes g c =
    ok_so c.take_at.result _ _ c.take_at.ensures.bytes
    (bytes_stop c.args.d.now.bytes c.walk.new.d.bytes c.take_at.new.d.bytes (λ p image. taken_out c.args.links p image) c.args.links
    (is_until (Word c.args.word)) c.args.at c.in_ok-stop.stop c.in_ok-stop.ensures.stop c.walk.ensures.frame.looks.same.bytes)

pub returns-clause-chain : goal.returns-clause-chain
returns-clause-chain g c =
    ok_so c.take_at.result _ _ c.take_at.ensures.bytes
    (word_taken c.args.d.now.bytes c.walk.new.d.bytes c.take_at.new.d.bytes c.args.links c.args.at c.args.d.now.len c.args.word
    c.in_ok-stop.stop.place c.in-Some.link c.requires.links c.requires.apart c.walk.ensures.told c.requires.at
    (stop_some c.args.d.now.bytes c.args.links (is_until (Word c.args.word)) c.args.at c.in_ok-stop.stop c.in-Some.link c.in-Some.is
    c.in_ok-stop.ensures.stop)
    c.walk.ensures.frame.looks.same.bytes)

pub returns-clause-bad : goal.returns-clause-bad
returns-clause-bad g c =
    err_so c.take_at.result _ _ c.take_at.ensures.fault (of_image c.args.d.now.bytes (IsBadOrLacks c.args.links c.args.at c.args.word))

pub returns-clause-fault : goal.returns-clause-fault
returns-clause-fault g c =
    err_so c.take_at.result _ _ c.take_at.ensures.fault (image_cause c.args.d.now.bytes (HasWord c.args.links c.args.at c.args.word))

pub returns-clause-frame : goal.returns-clause-frame
returns-clause-frame g c =
    after_looks g.I.ImageRead _ _ c.args.d.now c.walk.new.d c.take_at.new.d _ _ c.walk.ensures.frame c.take_at.ensures.frame (omega arith)
