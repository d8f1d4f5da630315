use Rattle.std.proofs.Common.{◌+◌, ◌∙◌, max, length, ap}
use Rattle.page_file.specs.Kept.{apart_from}
use Rattle.page_file.specs.Pages.{Known}
use Rattle.page_file.proofs.Writing.{within_image, laid_agrees}
use Rattle.page_file.proofs.pages.Pages.write_range.Goals as goal

pub write_at-requires-clause-begins : goal.write_at-requires-clause-begins
write_at-requires-clause-begins g c = within_image _ _ _ c.requires.agrees c.requires.begins c.requires.headed

pub returns-in-Done-clause-agrees : goal.returns-in-Done-clause-agrees
returns-in-Done-clause-agrees g c =
    laid_agrees _ _ _ _ _ _ c.requires.begins
    (ap (λ (k : Known). k.version) c.self.view_is)
    (c.max-self-inside.ensures ∙ ap (λ (k : Known). max k.len (c.args.at + length c.args.bytes.now)) c.self.view_is)
    (c.forget.ensures ∙ ap (λ (k : Known). apart_from c.args.at (c.args.at + length c.args.bytes.now) k.cache) c.self.view_is)
    c.requires.agrees c.requires.headed c.in-Done.ensures.written
