use Rattle.std.proofs.Common.{◌∙◌, refl, ap}
use Rattle.page_file.specs.Kept.{apart_from}
use Rattle.page_file.specs.Pages.{Known}
use Rattle.page_file.proofs.Writing.{within_image, cut_agrees}
use Rattle.page_file.proofs.pages.Pages.cut.Goals as goal

pub cut-requires : goal.cut-requires
cut-requires g c = within_image _ _ _ c.requires.agrees c.requires.within c.requires.headed

pub returns-in-Done-clause-agrees : goal.returns-in-Done-clause-agrees
returns-in-Done-clause-agrees g c =
    cut_agrees _ _ _ _ _ c.requires.within (ap (λ (k : Known). k.version) c.self.view_is) refl
    (c.forget.ensures ∙ ap (λ (k : Known). apart_from c.args.len k.len k.cache) c.self.view_is) c.requires.agrees c.requires.headed
    c.in-Done.ensures.cut
