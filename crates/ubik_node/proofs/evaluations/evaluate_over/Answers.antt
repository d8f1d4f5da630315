use Rattle.std.proofs.Common.{◌≡◌, ◌∙◌, sym, ap, rules}
use Rattle.db_image.specs.Ends.{end_of}
use Rattle.ubik_node.proofs.MadeOver.{made_over}
use Rattle.ubik_node.proofs.evaluations.evaluate_over.Goals as goal
use Rattle.ubik_node.proofs.evaluations.evaluate_over.Goals.{in-Done, in-Rule, in-Malformed, in-BadRecord}

pub returns-clause-made : goal.returns-clause-made
returns-clause-made g c =
    let is : c.call-end.result ≡ end_of c.match-end.reply = elim c.match-end.branch [
      | in-Done w ↦ w.in-Done.is ∙ ap end_of (sym w.reply-is)
      | in-Rule w ↦ w.in-Rule.is ∙ ap end_of (sym w.reply-is)
      | in-Malformed w ↦ w.in-Malformed.is ∙ ap end_of (sym w.reply-is)
      | in-BadRecord w ↦ w.in-BadRecord.is ∙ ap end_of (sym w.reply-is)
    ] in
    let first = c.draft-draft.result in
    let last = c.call-end.new.image in
    let e = c.call-end.ensures in
    made_over g.V.DraftService.standing (g.I.ImageRead.held c.args.image) first.bytes (g.I.ImageRead.held last.image) last.bytes _ last.len last.layout.head last.layout.block c.args.now c.args.call.now c.call-end.result
    _ is c.draft-draft.ensures.bytes
    (e.reads.held ∙ ap g.I.ImageRead.held c.draft-draft.ensures.image) (search rules) (search rules)
    e.meant e.grammar (λ reads. (e.rests reads).bytes) e.short (search rules) c.len-len.ensures.told c.finish-image.ensures.told (search rules)
