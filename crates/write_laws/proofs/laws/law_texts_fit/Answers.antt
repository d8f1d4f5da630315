use Rattle.write_laws.proofs.Texts.{texts_fit}
use Rattle.write_laws.proofs.laws.law_texts_fit.Goals as goal

pub returns : goal.returns
returns c = texts_fit
