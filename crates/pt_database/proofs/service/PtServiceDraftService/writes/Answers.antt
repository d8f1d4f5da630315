use Rattle.std.proofs.Common.{refl, sym, ◌∙◌, arith}
use Rattle.pt_calls.specs.Reading.{call_of}
use Rattle.pt_database.proofs.Served.{writes_as}
use Rattle.pt_database.proofs.service.PtServiceDraftService.writes.Goals as goal

pub returns : goal.returns
returns c = c.writes.ensures ∙ sym (writes_as c.args.call.now (call_of c.args.call.now) (λ i. omega (arith, c.type_inv.call i)) refl)
