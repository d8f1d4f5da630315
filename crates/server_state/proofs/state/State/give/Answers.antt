use Rattle.std.proofs.Common.{◌≡◌, ◌+◌, ◌<◌, ◌++◌, ◌∷◌, [], ℕ, Option, List, length, drop, ap, sym, ◌∙◌, eq-eqb, ne_eqb, length-append, arith}
use Rattle.ubik_types.specs.declared.versions.Version.{Version}
use Rattle.ubik_calls.specs.declared.packets.Body.{Body}
use Rattle.ubik_calls.specs.declared.packets.Packet.{Packet}
use Rattle.cell_model.specs.declared.events.Output.{Output}
use Rattle.cell_model.specs.declared.events.Output.TheVariants.{Send}
use Rattle.cell_model.specs.Polls.{entry_at}
use Rattle.cell_model.specs.Step.{packet_to}
use Rattle.server_state.specs.Spreading.{given_bodies, given_body}
use Rattle.server_state.specs.State.{member_of}
use Rattle.server_state.proofs.Sending.{gave_none, gave_one, gave_own, left_of}
use Rattle.server_state.proofs.state.State.give.Goals as goal
use Rattle.server_state.proofs.state.State.give.Goals.{in-Some+in_ok-body, in_default}

pub loop-k-preserved-then-k-self : goal.loop-k-preserved-then-k-self
loop-k-preserved-then-k-self c =
    let st = c.args.self.now in
    let m = member_of st in
    let bodies = λ (k : ℕ). given_bodies c.args.given.now (entry_at c.args.next.now.answers k) in
    let inside : c.loop-k.k < length st.cell = omega arith in
    record {
      few = omega (arith, c.loop-k.invariant.few);
      rest =
          gave_own m bodies c.loop-k.k c.loop-k.out (c.args.out.now ++ left_of m bodies 0 st.cell) inside c.loop-k.invariant.rest
          (eq-eqb _ _ c.if-k-self.true);
    }

pub loop-k-preserved : goal.loop-k-preserved
loop-k-preserved c =
    let st = c.args.self.now in
    let m = member_of st in
    let given = c.args.given.now in
    let bodies = λ (k : ℕ). given_bodies given (entry_at c.args.next.now.answers k) in
    let k = c.loop-k.k in
    let inside : k < length st.cell = omega arith in
    let all = c.args.out.now ++ left_of m bodies 0 st.cell in
    let other = ne_eqb _ _ c.if-k-self.false in
    elim c.match-answered_version.branch [
      | in-Some+in_ok-body w ↦
          let body = given_body given w.in-Some.answer in
          let out : c.match-answered_version.out ≡ c.loop-k.out ++ Send (packet_to m w.host.result body) ∷ [] =
          w.out-is ∙ w.put.ensures
          ∙ ap (λ (p : Packet). c.loop-k.out ++ Send p ∷ [])
          (w.packet_to.ensures.packet ∙ ap (λ (b : Body). packet_to m w.host.result b) w.in_ok-body.ensures.body) in
          record {
            few = omega (
              arith,
              ap length out,
              length-append c.loop-k.out
                  (Send (packet_to m w.host.result body) ∷ []),
              c.loop-k.invariant.few,
            );
            rest =
                ap (λ (o : List Output). o ++ left_of m bodies (k + 1) (drop (k + 1) m.hosts)) out
                ∙ gave_one m bodies k c.loop-k.out all inside c.loop-k.invariant.rest w.host.result body w.host.ensures other
                (ap (λ (a : Option Version). given_bodies given a) (sym c.answered_version.ensures ∙ w.in-Some.is));
          }
      | in_default w ↦ record {
        few = omega (arith, ap length w.out-is, c.loop-k.invariant.few);
        rest =
            ap (λ (o : List Output). o ++ left_of m bodies (k + 1) (drop (k + 1) m.hosts)) w.out-is
            ∙ gave_none m bodies k c.loop-k.out all inside c.loop-k.invariant.rest other
            (ap (λ (a : Option Version). given_bodies given a) (sym c.answered_version.ensures ∙ w.in_default.is));
      }
    ]
