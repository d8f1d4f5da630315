use Rattle.pt_database.specs.ServiceLaws.{empty_stands}
use Rattle.pt_database.proofs.Lawful.{holds_one}
use Rattle.pt_database.proofs.laws.an_image_holds_one_protection_state.Goals as goal

pub returns-clause-first : goal.returns-clause-first
returns-clause-first c = empty_stands

pub returns-clause-one : goal.returns-clause-one
returns-clause-one c = holds_one
