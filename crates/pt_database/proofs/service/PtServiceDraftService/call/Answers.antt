use Rattle.pt_database.proofs.Served.{state_meant}
use Rattle.pt_database.proofs.service.PtServiceDraftService.call.Goals as goal

pub returns-clause-meant : goal.returns-clause-meant
returns-clause-meant g c =
    state_meant c.args.image.now.bytes c.serve_protection.new.image.bytes c.args._now c.args.call.now c.serve_protection.result
    c.serve_protection.ensures.meant
