use Rattle.std.proofs.Common.{◌≡◌, arith, ℕ, drop, sym, ap, ◌∙◌, ◌∷◌, []}
use Rattle.std.proofs.lemmas.List.{drop-drop}
use Rattle.ubik_calls.specs.Fields.{Number, AsTheyAre}
use Rattle.ubik_calls.proofs.Taken.{behind_rest, took_then, reply_whole}
use Rattle.ubik_calls.proofs.reading.reply_frame.Goals as goal

pub returns-then-tag-eq0-clause-found : goal.returns-then-tag-eq0-clause-found
returns-then-tag-eq0-clause-found c =
    let zero : c.in_ok-tag.tag ≡ 0 = omega arith in
    let frame = c.args.frame.now in
    let first = c.in_ok-asked.ensures.rest ∙ ap (drop 4) c.requires ∙ drop-drop 4 8 frame in
    let left = c.in_ok-tag.ensures.rest ∙ ap (drop 4) first ∙ drop-drop 4 12 frame ∙ sym c.in_ok-answer.ensures.ok in
    let asked = c.in_ok-asked.asked in
    let same = ap (λ (tag : ℕ). Number 2 ∷ Number asked ∷ Number tag ∷ AsTheyAre c.in_ok-answer.answer ∷ []) (sym zero) in
    behind_rest _ _ _ _ _ _ (took_then c.in_ok-asked.ensures.found c.in_ok-tag.ensures.found) left same

pub returns-clause-found : goal.returns-clause-found
returns-clause-found c = reply_whole _ _ _ _ _ (took_then c.in_ok-asked.ensures.found c.in_ok-tag.ensures.found) c.other_reply.ensures.found
