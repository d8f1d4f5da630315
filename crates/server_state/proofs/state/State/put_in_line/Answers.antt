use Rattle.std.proofs.Common.{Option, IsSome, length, subst}
use Rattle.site_writes.specs.Site.{SiteRecord}
use Rattle.server_state.specs.Writing.{AreOfCell, own_of}
use Rattle.server_state.proofs.Plain.{spelled_as}
use Rattle.server_state.proofs.Writes.{written_waits}
use Rattle.server_state.proofs.state.State.put_in_line.Goals as goal
use Rattle.server_state.proofs.state.State.put_in_line.Goals.{in-Err-LineFull, in-Err-NoMemory}

pub invariant_of-self-2-clause-written : goal.invariant_of-self-2-clause-written
invariant_of-self-2-clause-written c =
    let st = c.args.self.now in
    written_waits c.wait.result (length st.cell) c.args.id c.args.call.now st.image c.in-Some.writes c.wait.new.self
    (subst (λ (w : Option SiteRecord). IsSome (own_of w)) c.in-Some.is c.requires.writing)
    c.wait.ensures.ok c.wait.ensures.err c.wait.ensures.full
    (subst (λ (w : Option SiteRecord). AreOfCell (length st.cell) st.image w) c.in-Some.is st.written)

pub invariant_of-self-2-clause-line : goal.invariant_of-self-2-clause-line
invariant_of-self-2-clause-line c = λ rests. absurd (rests (c.args.self.now.serving c.requires.writing))

pub put-requires-clause-spelled : goal.put-requires-clause-spelled
put-requires-clause-spelled c = elim c.match-this.branch [
  | in-Err-LineFull w ↦ spelled_as _ _ w.reply-is tt
  | in-Err-NoMemory w ↦ spelled_as _ _ w.reply-is tt
]
