use Rattle.std.proofs.Common.{ℕ, List, replicate, arith}
use Rattle.page_file.proofs.Reading.{page_read, length_front}
use Rattle.page_file.proofs.reads.read_page.Goals as goal

pub returns-clause-bytes : goal.returns-clause-bytes
returns-clause-bytes g c =
    let zeros : List ℕ = replicate 1024 0 in
    page_read _ _ _ _ _ _ c.requires.within c.min-there.ensures
    (length_front zeros _ (omega arith)) c.requires.len c.in_ok-read_image.ensures.bytes
