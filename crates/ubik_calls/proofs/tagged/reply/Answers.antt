use Rattle.ubik_calls.proofs.Taken.{took_nothing}
use Rattle.ubik_calls.proofs.tagged.reply.Goals as goal

pub returns-in-6-clause-found : goal.returns-in-6-clause-found
returns-in-6-clause-found c = took_nothing c.args.reader.now

pub returns-in-7-clause-found : goal.returns-in-7-clause-found
returns-in-7-clause-found c = took_nothing c.args.reader.now

pub returns-in-8-clause-found : goal.returns-in-8-clause-found
returns-in-8-clause-found c = took_nothing c.args.reader.now
