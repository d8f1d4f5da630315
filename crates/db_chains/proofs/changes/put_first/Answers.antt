use Rattle.db_chains.proofs.Clauses.{first_chain}
use Rattle.db_chains.proofs.Results.{ok_so}
use Rattle.db_chains.proofs.changes.put_first.Goals as goal

pub returns-clause-chain : goal.returns-clause-chain
returns-clause-chain g c =
    ok_so c.put_in.result _ _ c.put_in.ensures.bytes
    (first_chain c.args.d.now.bytes c.put_in.new.d.bytes c.args.links c.args.at c.args.d.now.len c.args.word c.requires.links
    c.requires.apart c.put_in.ensures.told c.requires.at)
