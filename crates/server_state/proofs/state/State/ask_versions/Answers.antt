use Rattle.std.proofs.Common.{◌≡◌, ◌+◌, ◌<◌, ◌++◌, ◌∷◌, [], ℕ, Bool, true, false, if◌then◌else◌, List, length, drop, ap, sym, ◌∙◌, eq-eqb, ne_eqb, length-append, arith, rules}
use Rattle.ubik_types.specs.Quorum.{marked}
use Rattle.ubik_calls.specs.declared.packets.Body.{Body}
use Rattle.ubik_calls.specs.declared.packets.Body.TheVariants as body
use Rattle.ubik_calls.specs.declared.packets.Packet.{Packet}
use Rattle.cell_model.specs.declared.events.Output.{Output}
use Rattle.cell_model.specs.declared.events.Output.TheVariants.{Send}
use Rattle.cell_model.specs.Polls.{is_marked}
use Rattle.cell_model.specs.Step.{packet_to}
use Rattle.server_state.specs.State.{member_of}
use Rattle.server_state.proofs.Sending.{gave_none, gave_one, gave_own, left_of}
use Rattle.server_state.proofs.state.State.ask_versions.Goals as goal
use Rattle.server_state.proofs.state.State.ask_versions.Goals.{then-k-self+then-not-is_in, else-k-self, else-k-self-via-then-k-self+else-not-is_in, else-k-self-via-else-k-self}

asks : Bool → ℕ → List Body
asks marked poll = if marked then [] else body.GetVersion poll ∷ []

pub loop-k-preserved : goal.loop-k-preserved
unfolding asks
loop-k-preserved c =
    let st = c.args.self.now in
    let m = member_of st in
    let n = length st.cell in
    let bodies = λ (k : ℕ). if is_marked (marked n c.args.but.now.set) k then [] else body.GetVersion c.args.poll ∷ [] in
    let k = c.loop-k.k in
    let inside : k < n = omega arith in
    let all = c.args.out.now ++ left_of m bodies 0 st.cell in
    elim c.if-k-self.branch [
      | then-k-self+then-not-is_in w ↦
          let out : c.if-k-self.out ≡ c.loop-k.out ++ Send (packet_to m w.host.result (body.GetVersion c.args.poll)) ∷ [] =
          w.out-is ∙ w.put.ensures ∙ ap (λ (p : Packet). c.loop-k.out ++ Send p ∷ []) w.packet_to-question.ensures.packet in
          let none : w.is_in.result ≡ false = search rules in
          record {
            few = omega (
              arith,
              ap length out,
              length-append c.loop-k.out
                  (Send (packet_to m w.host.result (body.GetVersion c.args.poll)) ∷ []),
              c.loop-k.invariant.few,
            );
            rest =
                ap (λ (o : List Output). o ++ left_of m bodies (k + 1) (drop (k + 1) m.hosts)) out
                ∙ gave_one m bodies k c.loop-k.out all inside c.loop-k.invariant.rest w.host.result
                (body.GetVersion c.args.poll) w.host.ensures (ne_eqb _ _ w.if-k-self.true)
                (ap (λ (b : Bool). asks b c.args.poll) (sym (w.is_in.ensures n inside) ∙ none));
          }
      | else-k-self w ↦ record {
        few = omega (arith, ap length w.out-is, c.loop-k.invariant.few);
        rest = ap (λ (o : List Output). o ++ left_of m bodies (k + 1) (drop (k + 1) m.hosts)) w.out-is ∙ elim w.else-k-self.branch [
          | else-k-self-via-then-k-self+else-not-is_in v ↦
              let some : v.is_in.result ≡ true = search rules in
              gave_none m bodies k c.loop-k.out all inside c.loop-k.invariant.rest (ne_eqb _ _ v.if-k-self.true)
              (ap (λ (b : Bool). asks b c.args.poll) (sym (v.is_in.ensures n inside) ∙ some))
          | else-k-self-via-else-k-self v ↦ gave_own m bodies k c.loop-k.out all inside c.loop-k.invariant.rest
              (eq-eqb _ _ v.if-k-self.false)
        ];
      }
    ]
