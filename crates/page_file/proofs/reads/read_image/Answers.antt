use Rattle.page_file.proofs.Reading.{within_file, image_read}
use Rattle.page_file.proofs.reads.read_image.Goals as goal

pub read-requires : goal.read-requires
read-requires g c = within_file _ _ _ c.requires.some c.requires.within

pub returns-in-Done-clause-bytes : goal.returns-in-Done-clause-bytes
returns-in-Done-clause-bytes g c = image_read _ _ _ _ c.in-Done.ensures.bytes
