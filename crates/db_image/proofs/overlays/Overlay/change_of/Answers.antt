use Rattle.std.proofs.Common.{sym, ap, ◌∙◌, arith}
use Rattle.std.specs.Option.{option_copied}
use Rattle.db_image.proofs.Differing.{change_changed, change_empty, change_none, change_zero, map_ok}
use Rattle.db_image.proofs.overlays.Overlay.change_of.Goals as goal

pub returns-in-Some-clause-change : goal.returns-in-Some-clause-change
returns-in-Some-clause-change c =
    map_ok c.changed_bytes.result _ _ (λ found change beneath laid.
    change_changed c.args.self.now c.args.size c.args.number c.args.at c.min-count.result beneath _ found laid c.requires.at
    (sym c.get.ensures.value ∙ ap option_copied c.in-Some.is) (omega arith) change)
    c.changed_bytes.ensures.change

pub returns-in-None-clause-change : goal.returns-in-None-clause-change
returns-in-None-clause-change c = λ beneath laid.
    change_none c.args.self.now c.args.size c.args.number c.args.at beneath laid c.requires.at
    (sym c.get.ensures.value ∙ ap option_copied c.in-None.is) (omega arith)

pub returns-in-None-2-clause-change : goal.returns-in-None-2-clause-change
returns-in-None-2-clause-change c =
    map_ok c.zero_bytes.result _ _ (λ found change beneath laid.
    change_zero c.args.self.now c.args.size c.args.number c.args.at c.min-count.result beneath found laid c.requires.at
    (sym c.get.ensures.value ∙ ap option_copied c.in-None-2.is) (omega arith) (omega arith) change)
    c.zero_bytes.ensures.change

pub returns-then-count-eq0-clause-change : goal.returns-then-count-eq0-clause-change
returns-then-count-eq0-clause-change c = λ beneath laid. change_empty c.args.self.now c.args.size c.args.number c.args.at beneath laid (omega arith)
