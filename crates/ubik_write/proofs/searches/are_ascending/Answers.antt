use Rattle.std.proofs.Common.{◌≡◌, ap, ◌∙◌, List, take, subst, arith, rules}
use Rattle.std.proofs.lemmas.List.{take_all}
use Rattle.std.specs.List.Sorted.{IsNonDecreasingBy}
use Rattle.ubik_write.specs.declared.undo.Patch.{Patch}
use Rattle.ubik_write.specs.Undo.{AreAscending, patch_end}
use Rattle.ubik_write.proofs.Searched.{ascends-more, falls, last-is}
use Rattle.ubik_write.proofs.searches.are_ascending.Goals as goal
use Rattle.ubik_write.proofs.searches.are_ascending.Goals.{then-patch-at-via-then-patch-at, then-patch-at-via-else-patch-at+then-end_of-end}

pub returns-then-patch-at : goal.returns-then-patch-at
returns-then-patch-at c =
    let undo = c.args.undo.now in
    let kept = c.loop-patch.invariant in (
      λ no. absurd cc,
      λ (up : AreAscending undo). elim c.then-patch-at.branch [
        | then-patch-at-via-then-patch-at w ↦ absurd (falls (λ (patch : Patch). patch.at) undo c.patch-item.result c.loop-patch.patch-index c.loop-patch.at c.loop-patch-test.true c.patch-item.is kept.at_first kept.at_last w.if-patch-at.true up.at)
        | then-patch-at-via-else-patch-at+then-end_of-end w ↦ absurd (falls patch_end undo c.patch-item.result c.loop-patch.patch-index c.loop-patch.end c.loop-patch-test.true c.patch-item.is kept.end_first kept.end_last (omega (arith, w.end_of.ensures, w.if-end_of-end.true)) up.end)
      ],
    )

pub loop-patch-preserved : goal.loop-patch-preserved
loop-patch-preserved c =
    let undo = c.args.undo.now in
    let kept = c.loop-patch.invariant in
    record {
      at_order = ascends-more (λ (patch : Patch). patch.at) undo c.patch-item.result c.loop-patch.patch-index c.loop-patch.at c.loop-patch-test.true c.patch-item.is kept.at_order kept.at_last (omega (arith, c.if-patch-at.false));
      end_order = ascends-more patch_end undo c.patch-item.result c.loop-patch.patch-index c.loop-patch.end c.loop-patch-test.true c.patch-item.is kept.end_order kept.end_last (omega (arith, c.end_of.ensures, c.if-end_of-end.false));
      at_first = λ none. absurd (omega (arith, none));
      end_first = λ none. absurd (omega (arith, none));
      at_last = λ d some. ap (λ (patch : Patch). patch.at) (last-is undo c.patch-item.result d c.loop-patch.patch-index c.loop-patch-test.true c.patch-item.is);
      end_last = λ d some. c.end_of-end.ensures ∙ ap patch_end (last-is undo c.patch-item.result d c.loop-patch.patch-index c.loop-patch-test.true c.patch-item.is);
    }

pub returns : goal.returns
returns c =
    let undo = c.args.undo.now in
    let kept = c.loop-patch.invariant in
    let all : take c.loop-patch.patch-index undo ≡ undo = take_all c.loop-patch.patch-index undo (omega (arith, c.loop-patch-test.false)) in (
      λ yes. record {
        at = subst (λ (those : List Patch). IsNonDecreasingBy (λ (patch : Patch). patch.at) those) all kept.at_order;
        end = subst (λ (those : List Patch). IsNonDecreasingBy patch_end those) all kept.end_order;
      },
      λ up. search rules,
    )
