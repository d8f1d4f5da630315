use Rattle.std.proofs.Common.{◌∙◌, arith}
use Rattle.std.proofs.lemmas.Result.{err_from_is_err_and}
use Rattle.db_chains.proofs.First.{bad_count, bad_link, first_cause, none_bytes, none_chain, none_word, some_bytes, some_chain}
use Rattle.db_chains.proofs.Results.{after_looks, drafts_so, err_same}
use Rattle.db_chains.proofs.Walked.{looks_on}
use Rattle.db_chains.proofs.changes.take_first.Goals as goal

pub returns-in_err-count-clause-bad : goal.returns-in_err-count-clause-bad
returns-in_err-count-clause-bad g c =
    let p = err_from_is_err_and c.from_residual.result c.from_residual.ensures.1 in
    rw (p.1, p.2) (bad_count c.args.d.now.bytes c.args.links c.args.at c.len.result c.in_err-count.field-0.0 c.in_err-count.ensures.fault.0
    (rw c.len.ensures.size c.len.ensures.told) c.in_err-count.ensures.fault.1)

pub returns-in_err-count-clause-fault : goal.returns-in_err-count-clause-fault
returns-in_err-count-clause-fault g c =
    let p = err_from_is_err_and c.from_residual.result c.from_residual.ensures.1 in
    rw (p.1, p.2) (first_cause c.args.d.now.bytes c.args.links c.args.at c.in_err-count.field-0.0
    (bad_count c.args.d.now.bytes c.args.links c.args.at c.len.result c.in_err-count.field-0.0 c.in_err-count.ensures.fault.0
    (rw c.len.ensures.size c.len.ensures.told) c.in_err-count.ensures.fault.1))

pub returns-then-word-eq0-clause-word : goal.returns-then-word-eq0-clause-word
returns-then-word-eq0-clause-word g c =
    none_word c.args.d.now.bytes c.args.at c.in_ok-word.word c.in_ok-word.ensures.word c.if-word-eq0.true

pub returns-then-word-eq0-clause-bytes : goal.returns-then-word-eq0-clause-bytes
returns-then-word-eq0-clause-bytes g c =
    none_bytes c.args.d.now.bytes c.read_word.new.d.bytes c.args.links c.args.at c.in_ok-word.word
    c.read_word.ensures.frame.looks.same.bytes
    c.in_ok-word.ensures.word c.if-word-eq0.true

pub returns-then-word-eq0-clause-chain : goal.returns-then-word-eq0-clause-chain
returns-then-word-eq0-clause-chain g c =
    none_chain c.args.d.now.bytes c.read_word.new.d.bytes c.args.links c.args.at c.in_ok-word.word c.requires.links.step
    c.read_word.ensures.frame.looks.same.bytes c.in_ok-word.ensures.word c.if-word-eq0.true

pub returns-in_err-link-clause-fault : goal.returns-in_err-link-clause-fault
returns-in_err-link-clause-fault g c =
    let p = err_from_is_err_and c.from_residual-in_err-link.result c.from_residual-in_err-link.ensures.1 in
    rw (p.1, p.2) (first_cause c.args.d.now.bytes c.args.links c.args.at c.in_err-link.field-0.0
    (bad_link c.args.d.now.bytes c.read_word.new.d.bytes c.args.links c.args.at c.in_ok-word.word c.in_err-link.field-0.0
    c.read_word.ensures.frame.looks.same.bytes c.in_ok-word.ensures.word c.if-word-eq0.false c.in_err-link.ensures.fault))

pub returns-in_err-take_at-clause-frame : goal.returns-in_err-take_at-clause-frame
returns-in_err-take_at-clause-frame g c =
    let p = err_from_is_err_and c.from_residual-in_err-take_at.result c.from_residual-in_err-take_at.ensures.1 in
    drafts_so g.I.ImageRead _ c.args.d.now c.take_at.new.d _ _
    (after_looks g.I.ImageRead 196 _ c.args.d.now c.read_link.new.d c.take_at.new.d _ _
    (looks_on g.I.ImageRead 4 192 196 c.args.d.now c.read_word.new.d c.read_link.new.d _ _ c.read_word.ensures.frame
    c.read_link.ensures.frame (omega arith))
    c.take_at.ensures.frame (omega arith))
    (λ h. err_same c.take_at.result c.from_residual-in_err-take_at.result c.in_err-take_at.field-0.0 _ _ c.in_err-take_at.was p.1 p.2 h)

pub returns-clause-bytes : goal.returns-clause-bytes
returns-clause-bytes g c =
    some_bytes c.args.d.now.bytes c.read_link.new.d.bytes c.take_at.new.d.bytes c.args.links c.args.at c.in_ok-word.word
    (c.read_link.ensures.frame.looks.same.bytes ∙ c.read_word.ensures.frame.looks.same.bytes) c.in_ok-word.ensures.word c.if-word-eq0.false
    c.in_ok-take_at.ensures.bytes

pub returns-clause-chain : goal.returns-clause-chain
returns-clause-chain g c =
    let named = c.in_ok-link.ensures.names.word in
    rw named
    (some_chain c.args.d.now.bytes c.read_link.new.d.bytes c.take_at.new.d.bytes c.args.links c.args.at c.args.d.now.len c.in_ok-word.word
    c.requires.links
    c.requires.apart c.read_word.ensures.told c.requires.at
    (c.read_link.ensures.frame.looks.same.bytes ∙ c.read_word.ensures.frame.looks.same.bytes) c.in_ok-word.ensures.word c.if-word-eq0.false
    c.in_ok-take_at.ensures.bytes)

pub returns-clause-frame : goal.returns-clause-frame
returns-clause-frame g c =
    drafts_so g.I.ImageRead _ c.args.d.now c.take_at.new.d _ _
    (after_looks g.I.ImageRead 196 _ c.args.d.now c.read_link.new.d c.take_at.new.d _ _
    (looks_on g.I.ImageRead 4 192 196 c.args.d.now c.read_word.new.d c.read_link.new.d _ _ c.read_word.ensures.frame
    c.read_link.ensures.frame (omega arith))
    c.take_at.ensures.frame (omega arith))
    (λ h. absurd cc)
