use Rattle.std.proofs.Common.{arith}
use Rattle.server_state.specs.State.{server_of}
use Rattle.state_laws.specs.Over.{over}
use Rattle.ubik_node.proofs.Committing.{refused}
use Rattle.ubik_node.proofs.verdicts.verdict_of.Goals as goal

pub returns-in_default-clause-judged : goal.returns-in_default-clause-judged
returns-in_default-clause-judged g c = λ old image same grows made m now id call.
    refused g.V.DraftService.standing.database m (over (server_of c.args.state.now) old) now id call image c.args.made.reply c.reply_of.result c.in_default.not-Done c.reply_of.ensures.reply

pub returns-in-Done-clause-some : goal.returns-in-Done-clause-some
returns-in-Done-clause-some g c = rw c.in-Done.is c.verdict_of_write.ensures.some

pub returns-in_default-clause-some : goal.returns-in_default-clause-some
returns-in_default-clause-some g c = λ m now id call old same.
    (old, omega arith, refused g.V.DraftService.standing.database m (over (server_of c.args.state.now) old) now id call old c.args.made.reply c.reply_of.result c.in_default.not-Done c.reply_of.ensures.reply)
