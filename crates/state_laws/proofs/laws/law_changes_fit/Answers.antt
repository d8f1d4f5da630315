use Rattle.state_laws.proofs.Fitting.{image_within, short_text}
use Rattle.state_laws.proofs.laws.law_changes_fit.Goals as goal

pub returns : goal.returns
returns c = record { image = image_within; text = short_text }
