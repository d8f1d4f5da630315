use Rattle.prdb_scans.proofs.FirstPage.{ok_found, ok_there}
use Rattle.prdb_scans.proofs.pages.first_where.Goals as goal

pub returns-clause-found : goal.returns-clause-found
returns-clause-found g c =
    ok_found c.find_first.result (λ blocks. blocks.items) c.args.d.now.bytes (g.S.Sought.test c.args.sought.now) c.args.most
    c.find_first.ensures.found

pub returns-clause-there : goal.returns-clause-there
returns-clause-there g c =
    ok_there c.find_first.result (λ blocks. blocks.items) c.args.d.now.bytes (g.S.Sought.test c.args.sought.now) c.args.most
    c.find_first.ensures.found
