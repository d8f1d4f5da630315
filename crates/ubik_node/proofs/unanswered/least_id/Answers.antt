use Rattle.std.proofs.Common.{◌<◌, ◌++◌, ◌∷◌, [], ℕ, Option, List, length, take, sym, subst, ◌∙◌, arith}
use Rattle.cell_model.specs.Node.{Waiting}
use Rattle.site_writes.specs.Site.{flight_in}
use Rattle.server_state.proofs.Writes.{waits_there}
use Rattle.ubik_node.specs.Unanswered.{IsLeastOf, ids_of}
use Rattle.ubik_node.proofs.Least.{ids_more}
use Rattle.ubik_node.proofs.unanswered.least_id.Goals as goal
use Rattle.ubik_node.proofs.unanswered.least_id.Goals.{in-Some, in_default}

pub loop-place-preserved : goal.loop-place-preserved
loop-place-preserved c =
    let flight = flight_in c.args.writes.now in
    let waiting : List Waiting = c.args.writes.now.waiting in
    let place = c.loop-place.place in
    let inside : place < length waiting = omega (arith, c.loop-place-test.true, c.waiting-place-end.ensures.len) in
    elim c.match-waits_at.branch [
      | in-Some w ↦
          let id = w.in-Some.id in
          subst (λ (ids : List ℕ). IsLeastOf c.match-waits_at.least ids) (sym (ids_more flight waiting place id inside (sym c.waits_at.ensures ∙ w.in-Some.is)))
          (subst (λ (least : Option ℕ). IsLeastOf least (ids_of flight (take place waiting) ++ id ∷ [])) (sym w.least-is) (w.lesser-least.ensures (ids_of flight (take place waiting)) c.loop-place.invariant))
      | in_default w ↦ waits_there waiting place _ inside (sym c.waits_at.ensures ∙ w.in_default.is)
    ]
