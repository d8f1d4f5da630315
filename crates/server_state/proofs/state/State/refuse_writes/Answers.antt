use Rattle.std.proofs.Common.{◌≡◌, ◌+◌, ◌<◌, ◌∷◌, [], ◌++◌, List, length, option_map, slice_get, ap, sym, ◌∙◌, length-append, arith}
use Rattle.ubik_types.specs.declared.phases.Applied.TheVariants as applied
use Rattle.ubik_calls.specs.declared.replies.Reply.{Reply}
use Rattle.cell_model.specs.declared.events.Output.{Output}
use Rattle.cell_model.specs.declared.events.Output.TheVariants as output
use Rattle.cell_model.specs.Lapse.{no_quorum, writes_refused}
use Rattle.cell_model.specs.Node.{Waiting}
use Rattle.cell_model.specs.Step.{outputs_of}
use Rattle.server_state.specs.State.{member_of, server_of}
use Rattle.server_state.specs.Writing.{waiting_of}
use Rattle.server_state.proofs.Writes.{one_refused, refused_from, waits_there}
use Rattle.server_state.proofs.state.State.refuse_writes.Goals as goal
use Rattle.server_state.proofs.state.State.refuse_writes.Goals.{in-Some-waits_at, in_default-waits_at}

pub loop-place-preserved : goal.loop-place-preserved
loop-place-preserved c =
    let st = c.args.self.now in
    let waiting : List Waiting = waiting_of st.writes in
    let r : Reply = no_quorum (member_of st) (server_of st) c.args.now c.args.phase applied.No in
    let place = c.loop-place.place in
    let all : List Output = outputs_of (writes_refused (member_of st) (server_of st) c.args.now c.args.phase) in
    let same : waiting ≡ c.in-Some.writes.waiting = ap waiting_of c.in-Some.is in
    let inside : place < length waiting = omega (arith, ap length same) in
    let there = ap (λ (those : List Waiting). option_map (λ (w : Waiting). w.id) (slice_get those place)) same ∙ sym c.waits_at.ensures in
    elim c.match-waits_at.branch [
      | in-Some-waits_at w ↦
          let id = w.in-Some-waits_at.id in
          let out : c.match-waits_at.out ≡ c.loop-place.out ++ output.Reply id r ∷ [] =
          w.out-is ∙ w.put-in-Some-waits_at.ensures
          ∙ ap (λ (x : Reply). c.loop-place.out ++ output.Reply id x ∷ []) w.no_quorum-reply-in-Some-waits_at.ensures.reply in
          record {
            few = omega (arith, ap length out, length-append c.loop-place.out (output.Reply id r ∷ []), c.loop-place.invariant.few);
            rest = ap (λ (o : List Output). o ++ refused_from waiting (place + 1) r) out
                ∙ one_refused waiting place id r c.loop-place.out all inside (there ∙ w.in-Some-waits_at.is) c.loop-place.invariant.rest;
          }
      | in_default-waits_at w ↦ waits_there waiting place _ inside (there ∙ w.in_default-waits_at.is)
    ]
