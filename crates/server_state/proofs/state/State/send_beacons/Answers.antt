use Rattle.std.proofs.Common.{◌≡◌, ◌+◌, ◌<◌, ◌∷◌, [], ◌++◌, List, length, drop, ap, ◌∙◌, eq-eqb, ne_eqb, length-append, arith}
use Rattle.cell_model.specs.declared.events.Output.{Output}
use Rattle.cell_model.specs.declared.events.Output.TheVariants.{Send}
use Rattle.cell_model.specs.Step.{outputs_of, packet_to, sends_to_all}
use Rattle.cell_model.specs.Voting.{own_beacon}
use Rattle.ubik_calls.specs.declared.packets.Packet.{Packet}
use Rattle.ubik_calls.specs.declared.packets.Body.{Body}
use Rattle.server_state.specs.State.{server_of, member_of}
use Rattle.server_state.proofs.Sending.{left, one_sent, one_skipped}
use Rattle.server_state.proofs.state.State.send_beacons.Goals as goal
use Rattle.server_state.proofs.state.State.send_beacons.Goals.{then-k-self, else-k-self}

pub loop-k-preserved : goal.loop-k-preserved
loop-k-preserved c =
    let m = member_of c.args.self.now in
    let body = own_beacon (server_of c.args.self.now) c.args.now c.args.claim in
    let all = c.args.out.now ++ outputs_of (sends_to_all m body) in
    let inside : c.loop-k.k < length c.args.self.now.cell = omega arith in
    elim c.if-k-self.branch [
      | then-k-self w ↦
          let out : c.if-k-self.out ≡ c.loop-k.out ++ Send (packet_to m w.host.result body) ∷ [] =
          w.out-is ∙ w.put.ensures
          ∙ ap (λ (p : Packet). c.loop-k.out ++ Send p ∷ [])
          (w.packet_to-beacon.ensures.packet ∙ ap (λ (b : Body). packet_to m w.host.result b) w.own_beacon.ensures.beacon) in
          record {
            few = omega (
              arith,
              ap length out,
              length-append c.loop-k.out
                  (Send (packet_to m w.host.result body) ∷ []),
              c.loop-k.invariant.few,
            );
            rest = ap (λ (o : List Output). o ++ left m body (c.loop-k.k + 1) (drop (c.loop-k.k + 1) m.hosts)) out
                ∙ one_sent m body c.loop-k.k w.host.result c.loop-k.out all inside w.host.ensures
                (ne_eqb _ _ w.if-k-self.true) c.loop-k.invariant.rest;
          }
      | else-k-self w ↦
          record {
            few = omega (arith, ap length w.out-is, c.loop-k.invariant.few);
            rest = ap (λ (o : List Output). o ++ left m body (c.loop-k.k + 1) (drop (c.loop-k.k + 1) m.hosts)) w.out-is
                ∙ one_skipped m body c.loop-k.k c.loop-k.out all inside (eq-eqb _ _ w.if-k-self.false) c.loop-k.invariant.rest;
          }
    ]
