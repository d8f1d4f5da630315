use Rattle.std.proofs.lemmas.Bool.{false≢true}
use Rattle.page_file.proofs.Opening.{over_agrees}
use Rattle.page_file.proofs.pages.Pages.over.Goals as goal

pub returns-clause-agrees : goal.returns-clause-agrees
returns-clause-agrees g c =
    over_agrees _ _ _ _ _ c.new.ensures (c.in_ok-len.ensures.reads.files false≢true) c.saturating_sub.ensures c.in_ok-len.ensures.len
