use Rattle.std.proofs.Common.{◌≡◌, ◌<◌, ℕ, subst, sym, ap, ◌∙◌, ◌++◌, List, rules, arith}
use Rattle.std.specs.Map.Iter.{deref_pair}
use Rattle.std.proofs.lemmas.List.Elements.{All-nil}
use Rattle.std.proofs.lemmas.Map.Iter.{rest_all, rest_more}
use Rattle.std.proofs.lemmas.Map.Views.{All-turn}
use Rattle.ubik_types.specs.declared.images.Change.{Change}
use Rattle.db_image.specs.declared.overlays.ChangedBlock.{ChangedBlock}
use Rattle.db_image.specs.Blocks.{PutsSome, PutSome}
use Rattle.db_image.specs.Draft.{bytes_over}
use Rattle.db_image.proofs.Walked.{changes_at, first_walked, none_left, pushed_at, range_below}
use Rattle.db_image.proofs.overlays.Overlay.first_changes.Goals as goal

pub loop-number-init : goal.loop-number-init
loop-number-init c =
    let o = c.args.self.now in
    let start : c.into_iter-number-iterator.result ≡ c.range-number-items.result = search rules in
    record {
      rest = λ beneath laid.
          ap (λ (xs : List Change). xs ++ changes_at o.layout beneath (bytes_over o beneath) c.into_iter-number-iterator.result) c.changes_new-changes.ensures
          ∙ ap (changes_at o.layout beneath (bytes_over o beneath)) (start ∙ c.range-number-items.ensures.between tt)
          ∙ first_walked o c.args.size c.args.count beneath laid c.range-number-items.ensures.ordered c.requires.begin;
      puts = subst PutSome (sym c.changes_new-changes.ensures) (All-nil PutsSome);
    }

pub push_change-requires-clause-begins : goal.push_change-requires-clause-begins
push_change-requires-clause-begins c =
    let start : c.into_iter-number-iterator.result ≡ c.range-number-items.result = search rules in
    let below : c.in-Some.number.now < c.args.count =
    All-turn deref_pair (λ (e : ℕ × ChangedBlock). e.0 < c.args.count) _ _ _ _ _ _ _
    (range_below c.args.self.now c.args.count _ (c.range-number-items.ensures.in_range tt)) start
    c.loop-number.yielded_by c.in-Some.is c.next.ensures.steps in
    omega (arith, c.requires.begin c.in-Some.number.now below)

pub loop-number-preserved : goal.loop-number-preserved
loop-number-preserved c =
    let o = c.args.self.now in
    record {
      rest = λ beneath laid.
          pushed_at o.layout beneath (bytes_over o beneath) _ _ _ _ _ _ (c.loop-number.invariant.rest beneath laid)
          (rest_more deref_pair _ _ _ _ c.in-Some.is c.next.ensures.steps) (c.in_ok-push_change.ensures.change beneath laid);
      puts = c.in_ok-push_change.ensures.puts c.loop-number.invariant.puts;
    }

pub returns-clause-changes : goal.returns-clause-changes
returns-clause-changes c = λ beneath laid.
    let o = c.args.self.now in
    none_left o.layout beneath (bytes_over o beneath) _ _ _ (c.loop-number.invariant.rest beneath laid)
    (rest_all deref_pair _ _ _ c.in-None.is c.next.ensures.steps)
