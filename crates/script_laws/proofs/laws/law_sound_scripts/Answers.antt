use Rattle.script_laws.proofs.SoundTelling.{sound_scripts}
use Rattle.script_laws.proofs.laws.law_sound_scripts.Goals as goal

pub returns : goal.returns
returns c = sound_scripts
