use Rattle.std.proofs.Common.{ap, ◌∙◌, arith}
use Rattle.std.specs.Prelude.{is_some}
use Rattle.db_image.proofs.Decided.{decided_grammar, decided_reads, decided_short, fault_grammar}
use Rattle.node_sessions.proofs.Appended.{is_call, no_bytes}
use Rattle.node_sessions.proofs.appending.AppendingDraftService.call.Goals as goal

pub returns-in-Ok-clause-grammar : goal.returns-in-Ok-clause-grammar
returns-in-Ok-clause-grammar g c =
    decided_grammar c.in-Ok.end _ (ap is_some (is_call c.args.call.now (omega arith))) c.in-Ok.ensures.short

pub returns-in-Ok-clause-rests : goal.returns-in-Ok-clause-rests
returns-in-Ok-clause-rests g c =
    let asks = is_call c.args.call.now (omega arith) in
    λ reads. c.append.ensures.rests (no_bytes c.args.call.now (λ e. reads (asks ∙ e)))

pub returns-in-Ok-clause-short : goal.returns-in-Ok-clause-short
returns-in-Ok-clause-short g c = decided_short c.in-Ok.end c.in-Ok.ensures.short

pub returns-in-Ok-clause-reads : goal.returns-in-Ok-clause-reads
returns-in-Ok-clause-reads g c =
    decided_reads g.I.ImageRead c.args.image.now.image c.append.new.d.image _ c.in-Ok.end c.in-Ok.ensures.short c.append.ensures.reads

pub returns-in-Err-clause-grammar : goal.returns-in-Err-clause-grammar
returns-in-Err-clause-grammar g c =
    fault_grammar c.in-Err.fault c.into.result _ (ap is_some (is_call c.args.call.now (omega arith))) c.into.ensures

pub returns-in-Err-clause-rests : goal.returns-in-Err-clause-rests
returns-in-Err-clause-rests g c =
    let asks = is_call c.args.call.now (omega arith) in
    λ reads. c.append.ensures.rests (no_bytes c.args.call.now (λ e. reads (asks ∙ e)))
