use Rattle.std.proofs.Common.{ap, sym, ◌∙◌, arith}
use Rattle.std.specs.Prelude.{is_some}
use Rattle.db_image.proofs.Decided.{decided_grammar, decided_reads, decided_short, fault_grammar, no_writer}
use Rattle.db_image.specs.declared.draft_services.CallEnd.TheVariants as end
use Rattle.pt_service.specs.Meaning.{asked}
use Rattle.pt_database.proofs.Costs.{cost_of, looks_free}
use Rattle.pt_database.proofs.Served.{asked_is, call_done, meant, no_call_done, writes_as}
use Rattle.pt_database.proofs.service.serve_protection.Goals as goal

pub returns-in_default-read-clause-meant : goal.returns-in_default-read-clause-meant
returns-in_default-read-clause-meant g c =
    meant c.args.image.now.bytes c.args.image.now.bytes 0 c.args.call.now end.Malformed
    (no_call_done c.args.image.now.bytes (asked c.args.call.now)
    (asked_is c.args.call.now (λ i. omega (arith, c.type_inv.call i)) ∙ sym c.in-Ok.ensures.exact ∙ c.in_default-read.is))

pub returns-in_default-read-clause-grammar : goal.returns-in_default-read-clause-grammar
returns-in_default-read-clause-grammar g c =
    writes_as c.args.call.now _ (λ i. omega (arith, c.type_inv.call i)) (sym c.in_default-read.is ∙ c.in-Ok.ensures.exact)

pub returns-in-Ok-answer-clause-meant : goal.returns-in-Ok-answer-clause-meant
returns-in-Ok-answer-clause-meant g c =
    meant c.args.image.now.bytes c.answer.new.d.bytes 0 c.args.call.now c.in-Ok-answer.end
    (call_done c.args.image.now.bytes c.answer.new.d.bytes (asked c.args.call.now) _ c.in-Ok-answer.end
    (asked_is c.args.call.now (λ i. omega (arith, c.type_inv.call i)) ∙ sym c.in-Ok.ensures.exact ∙ c.in-Some.is)
    c.in-Ok-answer.ensures.meant)

pub returns-in-Ok-answer-clause-grammar : goal.returns-in-Ok-answer-clause-grammar
returns-in-Ok-answer-clause-grammar g c =
    let asks = writes_as c.args.call.now _ (λ i. omega (arith, c.type_inv.call i)) (sym c.in-Some.is ∙ c.in-Ok.ensures.exact) in
    decided_grammar c.in-Ok-answer.end _ (ap is_some asks) c.in-Ok-answer.ensures.short

pub returns-in-Ok-answer-clause-rests : goal.returns-in-Ok-answer-clause-rests
returns-in-Ok-answer-clause-rests g c =
    let asks = writes_as c.args.call.now _ (λ i. omega (arith, c.type_inv.call i)) (sym c.in-Some.is ∙ c.in-Ok.ensures.exact) in
    λ reads. c.answer.ensures.rests (no_writer _ (λ e. reads (asks ∙ e)))

pub returns-in-Ok-answer-clause-short : goal.returns-in-Ok-answer-clause-short
returns-in-Ok-answer-clause-short g c = decided_short c.in-Ok-answer.end c.in-Ok-answer.ensures.short

pub returns-in-Ok-answer-clause-reads : goal.returns-in-Ok-answer-clause-reads
returns-in-Ok-answer-clause-reads g c =
    decided_reads g.I.ImageRead c.args.image.now.image c.answer.new.d.image _ c.in-Ok-answer.end c.in-Ok-answer.ensures.short
    c.answer.ensures.frame.reads

pub returns-in-Err-clause-grammar : goal.returns-in-Err-clause-grammar
returns-in-Err-clause-grammar g c =
    let asks = writes_as c.args.call.now _ (λ i. omega (arith, c.type_inv.call i)) (sym c.in-Some.is ∙ c.in-Ok.ensures.exact) in
    fault_grammar c.in-Err.fault c.into.result _ (ap is_some asks) c.into.ensures

pub returns-in-Err-clause-rests : goal.returns-in-Err-clause-rests
returns-in-Err-clause-rests g c =
    let asks = writes_as c.args.call.now _ (λ i. omega (arith, c.type_inv.call i)) (sym c.in-Some.is ∙ c.in-Ok.ensures.exact) in
    λ reads. c.answer.ensures.rests (no_writer _ (λ e. reads (asks ∙ e)))

pub returns-in_default-read-clause-cost : goal.returns-in_default-read-clause-cost
returns-in_default-read-clause-cost g c = looks_free g.I.ImageRead (asked c.args.call.now) c.args.image.now

pub returns-in-Ok-answer-clause-cost : goal.returns-in-Ok-answer-clause-cost
returns-in-Ok-answer-clause-cost g c =
    cost_of g.I.ImageRead (asked c.args.call.now) _ c.args.image.now c.answer.new.d
    (asked_is c.args.call.now (λ i. omega (arith, c.type_inv.call i)) ∙ sym c.in-Ok.ensures.exact ∙ c.in-Some.is)
    c.answer.ensures.cost

pub returns-in-Err-clause-cost : goal.returns-in-Err-clause-cost
returns-in-Err-clause-cost g c =
    cost_of g.I.ImageRead (asked c.args.call.now) _ c.args.image.now c.answer.new.d
    (asked_is c.args.call.now (λ i. omega (arith, c.type_inv.call i)) ∙ sym c.in-Ok.ensures.exact ∙ c.in-Some.is)
    c.answer.ensures.cost
