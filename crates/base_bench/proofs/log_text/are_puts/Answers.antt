use Rattle.std.proofs.Common.{◌≡◌, refl, sym, ap, subst, ◌∙◌, arith, length, get_or}
use Rattle.std.specs.Prelude.{IsTrue}
use Rattle.std.proofs.lemmas.List.{take_more_same}
use Rattle.base_bench.specs.Puts.{put_at, puts}
use Rattle.base_bench.proofs.Puts.{puts-length, puts-get, same_taken, never_true}
use Rattle.base_bench.proofs.log_text.are_puts.Goals as goal

pub returns-then-changes-count : goal.returns-then-changes-count
returns-then-changes-count c = (λ never. never_true never, λ is. absurd (c.if-changes-count.true (ap length is ∙ puts-length c.args.count)))

pub returns-then-not-is_put : goal.returns-then-not-is_put
returns-then-not-is_put c = (
  λ never. never_true never,
  λ is.
      let put : c.index-changes-at.result ≡ put_at c.loop-at.at =
      c.index-changes-at.is ∙ ap (λ xs. get_or xs c.loop-at.at c.index-changes-at.result) is
      ∙ puts-get c.args.count c.loop-at.at c.index-changes-at.result c.loop-at-test.true
      in
      subst IsTrue c.if-not-is_put.true (c.is_put.ensures.1 put),
)

pub loop-at-preserved : goal.loop-at-preserved
loop-at-preserved c =
    let long : length (puts c.args.count) ≡ c.args.count = puts-length c.args.count in
    let put = c.is_put.ensures.0 c.if-not-is_put.false in
    take_more_same c.args.changes.now (puts c.args.count) c.loop-at.at c.index-changes-at.result
    (omega (arith, c.if-changes-count.false, c.loop-at-test.true)) (omega (arith, long, c.loop-at-test.true)) c.loop-at.invariant
    (sym c.index-changes-at.is ∙ put ∙ sym (puts-get c.args.count c.loop-at.at c.index-changes-at.result c.loop-at-test.true))

pub returns : goal.returns
returns c =
    (λ _. same_taken c.args.changes.now c.args.count c.loop-at.at c.if-changes-count.false c.loop-at-test.false c.loop-at.invariant, λ _. refl)
