use Rattle.vl_database.specs.ServiceLaws.{empty_stands}
use Rattle.vl_database.proofs.Lawful.{holds_one}
use Rattle.vl_database.proofs.laws.an_image_holds_one_location.Goals as goal

pub returns-clause-first : goal.returns-clause-first
returns-clause-first c = empty_stands

pub returns-clause-one : goal.returns-clause-one
returns-clause-one c = holds_one
