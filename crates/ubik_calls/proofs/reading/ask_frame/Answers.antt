use Rattle.std.proofs.Common.{drop, sym, ap, ◌∙◌, refl}
use Rattle.std.proofs.lemmas.List.{drop-drop}
use Rattle.ubik_calls.proofs.Taken.{behind_rest}
use Rattle.ubik_calls.proofs.reading.ask_frame.Goals as goal

pub returns-clause-found : goal.returns-clause-found
returns-clause-found c =
    let left = c.in_ok-number.ensures.rest ∙ ap (drop 4) c.requires ∙ drop-drop 4 8 c.args.frame.now ∙ sym c.in_ok-call.ensures.ok in
    behind_rest _ _ _ _ _ _ c.in_ok-number.ensures.found left refl
