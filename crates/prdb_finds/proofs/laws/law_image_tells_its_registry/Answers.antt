use Rattle.prdb_finds.proofs.Told.{registry_is}
use Rattle.prdb_finds.proofs.laws.law_image_tells_its_registry.Goals as goal

pub returns : goal.returns
returns c = registry_is
