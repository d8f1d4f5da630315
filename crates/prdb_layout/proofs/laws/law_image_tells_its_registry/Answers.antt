use Rattle.prdb_layout.proofs.Told.{registry_told}
use Rattle.prdb_layout.proofs.laws.law_image_tells_its_registry.Goals as goal

pub returns : goal.returns
returns c = registry_told
