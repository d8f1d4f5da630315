use Rattle.std.proofs.Common.{◌≡◌, ◌+◌, ◌∷◌, ◌∙◌, List, drop, sym, ap, subst}
use Rattle.std.proofs.lemmas.List.{drop_more}
use Rattle.ubik_types.specs.declared.images.Change.{Change}
use Rattle.ubik_types.specs.Logged.{too_large}
use Rattle.ubik_store.proofs.Measured.{AreSeamlessFrom, seamless_more, too_large_more}
use Rattle.ubik_store.proofs.measures.measure.Goals as goal

pub loop-change-preserved : goal.loop-change-preserved
loop-change-preserved c =
    let i = c.loop-change.invariant in
    let m = c.loop-change.measures in
    let item = c.change-item.result in
    let changes = c.args.changes.now in
    let rest : List Change = drop (c.loop-change.change-index + 1) changes in
    let split : drop c.loop-change.change-index changes ≡ item ∷ rest =
    drop_more changes c.loop-change.change-index item c.loop-change-test.true ∙ ap (λ (x : Change). x ∷ rest) (sym c.change-item.is) in
    let then = c.in_ok-measures.measures in
    let is = c.in_ok-measures.ensures in
    let more = seamless_more c.loop-change.seamless c.is_seam-seamless.result m.len then.len item rest c.is_seam-seamless.ensures is.len in
    record {
      large = too_large_more m.sum m.len then.sum then.len item rest is.fits is.sum is.len
          ∙ ap (λ (xs : List Change). too_large m.sum m.len xs) (sym split) ∙ i.large;
      seamless = (
        λ all. i.seamless.0 (subst (λ (xs : List Change). AreSeamlessFrom c.loop-change.seamless m.len xs) (sym split) (more.0 all)),
        λ all. more.1 (subst (λ (xs : List Change). AreSeamlessFrom c.loop-change.seamless m.len xs) split (i.seamless.1 all)),
      );
    }
