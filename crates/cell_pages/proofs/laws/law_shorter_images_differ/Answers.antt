use Rattle.cell_pages.proofs.Shorter.{shorter_images_differ}
use Rattle.cell_pages.proofs.laws.law_shorter_images_differ.Goals as goal

pub returns : goal.returns
returns c = shorter_images_differ
