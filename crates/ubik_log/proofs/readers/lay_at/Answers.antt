use Rattle.std.proofs.Common.{◌++◌, List, ℕ, ap, ◌∙◌, sym, arith}
use Rattle.ubik_log.specs.LogGrammar.{field}
use Rattle.ubik_log.proofs.Fronts.{put_is_far}
use Rattle.ubik_log.proofs.readers.lay_at.Goals as goal

pub returns-then-end-gt-MAX_IMAGE-clause-none : goal.returns-then-end-gt-MAX_IMAGE-clause-none
returns-then-end-gt-MAX_IMAGE-clause-none c = λ position bytes after le e.
    let at = c.in_ok-at.at in
    let len = c.in_ok-len.len in
    let there = c.in_ok-fields.ensures.found ∙ ap (λ (x : List ℕ). field 0 ++ x) (c.in_ok-at.ensures.found ∙ ap (λ (x : List ℕ). field at ++ x) c.in_ok-len.ensures.found) in
    put_is_far at len c.in_ok-len.fields.now position bytes after c.in_ok-at.ensures.fits c.in_ok-len.ensures.fits (omega arith) le (sym there ∙ e)
