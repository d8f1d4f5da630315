use Rattle.std.proofs.Common.{Option, Some, List, length, drop, sym, ap, subst, ◌∙◌}
use Rattle.cell_model.specs.Node.{Waiting}
use Rattle.site_writes.specs.Site.{SiteRecord}
use Rattle.server_state.specs.Writing.{AreOfCell, waiting_of}
use Rattle.server_state.proofs.Writes.{written_next}
use Rattle.server_state.proofs.state.State.next_asked.Goals as goal

pub invariant_of-self-clause-written : goal.invariant_of-self-clause-written
invariant_of-self-clause-written c =
    let st = c.args.self.now in
    subst (λ (site : SiteRecord). AreOfCell (length st.cell) st.image (Some site)) (sym c.next.ensures.after)
    (written_next (length st.cell) st.image c.in-Some.writes
    (subst (λ (w : Option SiteRecord). AreOfCell (length st.cell) st.image w) c.in-Some.is st.written))

pub invariant_of-self-clause-line : goal.invariant_of-self-clause-line
invariant_of-self-clause-line c = λ rests.
    let st = c.args.self.now in
    ap (λ (site : SiteRecord). site.waiting) c.next.ensures.after
    ∙ ap (λ (those : List Waiting). drop 1 those) (sym (ap waiting_of c.in-Some.is) ∙ st.line rests)
