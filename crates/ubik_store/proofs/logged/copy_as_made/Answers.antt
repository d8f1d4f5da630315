use Rattle.std.proofs.Common.{◌≡◌, ◌+◌, ◌∷◌, [], ◌++◌, ◌∙◌, ℕ, List, drop, sym, ap, append_assoc, append-nil}
use Rattle.std.proofs.lemmas.List.{drop_more, drop_all}
use Rattle.ubik_types.specs.declared.images.Change.{Change}
use Rattle.ubik_types.specs.Logged.{logged}
use Rattle.ubik_store.specs.Redo.{changed_len}
use Rattle.ubik_store.proofs.AsMade.{logged_more}
use Rattle.ubik_store.proofs.logged.copy_as_made.Goals as goal

pub loop-change-preserved : goal.loop-change-preserved
loop-change-preserved c =
    let i = c.loop-change.invariant in
    let item = c.change-item.result in
    let len = c.loop-change.len in
    let rest : List Change = drop (c.loop-change.change-index + 1) c.args.changes.now in
    let split : drop c.loop-change.change-index c.args.changes.now ≡ item ∷ rest =
    drop_more c.args.changes.now c.loop-change.change-index item c.loop-change-test.true
    ∙ ap (λ (x : Change). x ∷ rest) (sym c.change-item.is) in
    let pushed = c.in_ok-len.ensures in
    let copied = c.in_ok-copy.ensures in
    ap (λ (xs : List Change). xs ++ logged c.in_ok-len.len rest) pushed.made
    ∙ ap (λ (n : ℕ). (c.loop-change.made ++ logged len (c.in_ok-copy.copy ∷ [])) ++ logged n rest) pushed.len
    ∙ ap (λ (x : Change). (c.loop-change.made ++ logged len (x ∷ [])) ++ logged (changed_len len x) rest) copied
    ∙ append_assoc c.loop-change.made (logged len (item ∷ [])) (logged (changed_len len item) rest)
    ∙ ap (λ (xs : List Change). c.loop-change.made ++ xs) (sym (logged_more item len rest) ∙ ap (logged len) (sym split))
    ∙ i

pub returns : goal.returns
returns c =
    let made = c.loop-change.made in
    let none : drop c.loop-change.change-index c.args.changes.now ≡ [] =
    drop_all c.loop-change.change-index c.args.changes.now c.loop-change-test.false in
    sym (append-nil made) ∙ ap (λ (xs : List Change). made ++ logged c.loop-change.len xs) (sym none) ∙ c.loop-change.invariant
