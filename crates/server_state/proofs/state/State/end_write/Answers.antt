use Rattle.std.proofs.Common.{◌≡◌, Some, length, sym, ap, ◌∙◌, arith}
use Rattle.ubik_calls.specs.declared.replies.Reply.TheVariants as reply
use Rattle.server_state.specs.Writing.{own_of}
use Rattle.server_state.proofs.Plain.{spelled_reply}
use Rattle.server_state.proofs.state.State.end_write.Goals as goal

pub put-requires-2-clause-spelled : goal.put-requires-2-clause-spelled
put-requires-2-clause-spelled c =
    let st = c.args.self.now in
    let write = c.in-Some-end.write in
    let own : own_of st.writes ≡ Some write = ap own_of c.in-Some.is ∙ sym c.end.ensures.value ∙ c.in-Some-end.is in
    spelled_reply (reply.Ok c.into_answer.result) (omega (arith, ap length c.into_answer.ensures, (st.written.plain write own).answer))
