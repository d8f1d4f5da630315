use Rattle.std.proofs.Common.{◌≡◌, ◌∷◌, [], ◌++◌, ◌∙◌, ℕ, List, length, refl, sym, ap, subst, append_assoc, append-nil, arith}
use Rattle.std.specs.List.{All}
use Rattle.std.specs.Vec.Iter.{into_iter_items}
use Rattle.std.proofs.lemmas.List.Elements.{All-head, All-tail}
use Rattle.ubik_types.specs.declared.images.Change.{Change}
use Rattle.ubik_types.specs.Logged.{logged}
use Rattle.ubik_log.specs.LogGrammar.{IsWithinImage}
use Rattle.ubik_store.specs.Redo.{changed_len}
use Rattle.ubik_store.proofs.AsMade.{logged_more, within_ends}
use Rattle.ubik_store.proofs.logged.as_made.Goals as goal

nothing_left : {X : Type 0} (xs : List X) → length xs ≡ 0 → xs ≡ []
nothing_left [] none = refl
nothing_left (x ∷ xs) none = absurd (omega arith)

pub push_made-requires : goal.push_made-requires
push_made-requires c = record {
  ends = within_ends c.in-Some.change
      (All-head IsWithinImage c.in-Some.change (into_iter_items c.next.new.self)
      (subst (All IsWithinImage) c.in-Some.ensures.steps.0 c.loop-change.invariant.within));
}

pub loop-change-preserved : goal.loop-change-preserved
loop-change-preserved c =
    let i = c.loop-change.invariant in
    let change = c.in-Some.change in
    let rest : List Change = into_iter_items c.next.new.self in
    let steps : into_iter_items c.loop-change.change-iterator ≡ change ∷ rest = c.in-Some.ensures.steps.0 in
    let pushed = c.in_ok-len.ensures in
    record {
      made =
          ap (λ (xs : List Change). xs ++ logged c.in_ok-len.len rest) pushed.made
          ∙ ap (λ (n : ℕ). (c.loop-change.made ++ logged c.loop-change.len (change ∷ [])) ++ logged n rest) pushed.len
          ∙ append_assoc c.loop-change.made (logged c.loop-change.len (change ∷ [])) (logged (changed_len c.loop-change.len change) rest)
          ∙ ap (λ (xs : List Change). c.loop-change.made ++ xs)
          (sym (logged_more change c.loop-change.len rest) ∙ ap (logged c.loop-change.len) (sym steps))
          ∙ i.made;
      within = All-tail IsWithinImage change rest (subst (All IsWithinImage) steps i.within);
      count = let was = i.count in let gone = c.in-Some.ensures.steps.1 in let short = ap length steps in omega arith;
    }

pub returns : goal.returns
returns c =
    let i = c.loop-change.invariant in
    let empty : into_iter_items c.loop-change.change-iterator ≡ [] = nothing_left _ (sym i.count ∙ c.in-None.ensures.steps.0) in
    sym (append-nil c.loop-change.made) ∙ ap (λ (xs : List Change). c.loop-change.made ++ logged c.loop-change.len xs) (sym empty) ∙ i.made
    ∙ ap (logged c.args.len) (c.into_iter-change-iterator.ensures.into_iter_gives.0 ∙ c.into_vec-change-items.ensures)
