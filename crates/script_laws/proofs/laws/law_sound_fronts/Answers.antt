use Rattle.script_laws.proofs.SoundTelling.{sound_fronts}
use Rattle.script_laws.proofs.laws.law_sound_fronts.Goals as goal

pub returns : goal.returns
returns c = sound_fronts
