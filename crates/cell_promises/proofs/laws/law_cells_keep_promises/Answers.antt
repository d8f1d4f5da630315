use Rattle.script_promises.specs.Databases.{standings}
use Rattle.script_promises.specs.Lawful.{IsLawful}
use Rattle.script_promises.proofs.Worth.{by_kind}
use Rattle.cell_promises.proofs.Worth.{cells_keep_promises}
use Rattle.cell_promises.proofs.laws.law_cells_keep_promises.Goals as goal

pub returns : goal.returns
returns c =
    cells_keep_promises (by_kind (λ k. IsLawful (standings k)) c.law_protection_is_lawful.ensures c.law_location_is_lawful.ensures)
    c.law_scripts_have_order.ensures c.law_words_are_calls.ensures
