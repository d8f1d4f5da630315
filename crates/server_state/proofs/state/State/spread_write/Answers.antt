use Rattle.std.proofs.Common.{◌≡◌, ◌+◌, ◌<◌, ◌++◌, [], ℕ, Bool, true, false, if◌then◌else◌, List, length, take, drop, ap, sym, ◌∙◌, eq-eqb, ne_eqb, length-append, arith, rules}
use Rattle.ubik_types.specs.Quorum.{marked}
use Rattle.ubik_calls.specs.declared.packets.Body.{Body}
use Rattle.cell_model.specs.declared.events.Output.{Output}
use Rattle.cell_model.specs.Polls.{is_marked}
use Rattle.cell_model.specs.Writes.{write_bodies}
use Rattle.server_state.specs.State.{member_of}
use Rattle.server_state.proofs.Sending.{gave_none, gave_own, left_of}
use Rattle.server_state.proofs.WritePackets.{front_stays, gave_all, packets}
use Rattle.server_state.proofs.state.State.spread_write.Goals as goal
use Rattle.server_state.proofs.state.State.spread_write.Goals.{then-k-self+then-not-is_in+in_ok-send_write, else-k-self, else-k-self-via-then-k-self+else-not-is_in, else-k-self-via-else-k-self}

but : Bool → List Body → List Body
but marked those = if marked then [] else those

pub loop-k-preserved : goal.loop-k-preserved
unfolding but
loop-k-preserved c =
    let m = member_of c.args.self.now in
    let n = length c.args.self.now.cell in
    let those : List Body = write_bodies c.args.flight.now.old_version c.args.new c.args.flight.now.text in
    let bodies = λ (k : ℕ). if is_marked
    (marked n c.args.but.now.set) k then [] else write_bodies c.args.flight.now.old_version c.args.new c.args.flight.now.text in
    let k = c.loop-k.k in
    let old = c.args.out.now in
    let inside : k < n = omega arith in
    let all = old ++ left_of m bodies 0 m.hosts in
    elim c.if-k-self.branch [
      | then-k-self+then-not-is_in+in_ok-send_write w ↦
          let sent : List Output = packets m w.host.result those in
          let out : c.if-k-self.out ≡ c.loop-k.out ++ sent = w.out-is ∙ w.in_ok-send_write.ensures.sent in
          let none : w.is_in.result ≡ false = search rules in
          record {
            long = omega (arith, ap length out, length-append c.loop-k.out sent, c.loop-k.invariant.long);
            front = ap (λ (o : List Output). take (length old) o) out
                ∙ front_stays old c.loop-k.out sent c.loop-k.invariant.long c.loop-k.invariant.front;
            rest =
                ap (λ (o : List Output). o ++ left_of m bodies (k + 1) (drop (k + 1) m.hosts)) out
                ∙ gave_all m bodies k c.loop-k.out all inside c.loop-k.invariant.rest w.host.result those w.host.ensures
                (ne_eqb _ _ w.if-k-self.true) (ap (λ (b : Bool). but b those) (sym (w.is_in.ensures n inside) ∙ none));
          }
      | else-k-self w ↦ record {
        long = omega (arith, ap length w.out-is, c.loop-k.invariant.long);
        front = ap (λ (o : List Output). take (length old) o) w.out-is ∙ c.loop-k.invariant.front;
        rest = ap (λ (o : List Output). o ++ left_of m bodies (k + 1) (drop (k + 1) m.hosts)) w.out-is ∙ elim w.else-k-self.branch [
          | else-k-self-via-then-k-self+else-not-is_in v ↦
              let some : v.is_in.result ≡ true = search rules in
              gave_none m bodies k c.loop-k.out all inside c.loop-k.invariant.rest (ne_eqb _ _ v.if-k-self.true)
              (ap (λ (b : Bool). but b those) (sym (v.is_in.ensures n inside) ∙ some))
          | else-k-self-via-else-k-self v ↦ gave_own m bodies k c.loop-k.out all inside c.loop-k.invariant.rest
              (eq-eqb _ _ v.if-k-self.false)
        ];
      }
    ]
