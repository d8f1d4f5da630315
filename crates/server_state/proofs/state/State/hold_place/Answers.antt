use Rattle.std.proofs.Common.{◌≡◌, [], Option, Some, length, sym, ap, subst, ◌∙◌}
use Rattle.site_writes.specs.Site.{SiteRecord, no_writes}
use Rattle.server_state.specs.Writing.{AreOfCell, waiting_of}
use Rattle.server_state.proofs.Writes.{line_held, written_empty, written_held}
use Rattle.server_state.proofs.state.State.hold_place.Goals as goal
use Rattle.server_state.proofs.state.State.hold_place.Goals.{in-Some, in-None+in_ok-writes-in-None}

pub invariant_of-self-2-clause-written : goal.invariant_of-self-2-clause-written
invariant_of-self-2-clause-written c =
    let st = c.args.self.now in
    let are : AreOfCell (length st.cell) st.image (Some c.match-take.writes) = elim c.match-take.branch [
      | in-Some w ↦ let is : st.writes ≡ Some c.match-take.writes = cc in subst
          (λ (writes : Option SiteRecord). AreOfCell (length st.cell) st.image writes) is st.written
      | in-None+in_ok-writes-in-None w ↦ let is : c.match-take.writes ≡ no_writes = cc
          (w.in_ok-writes-in-None.ensures, w.writes-is) in subst (λ (s : SiteRecord). AreOfCell (length st.cell) st.image (Some s)) (sym is)
          (written_empty (length st.cell) st.image)
    ] in
    written_held c.hold-held.result
    (length st.cell) c.args.id st.image c.match-take.writes c.release.new.self c.hold-held.new.self c.release.ensures
    c.hold-held.ensures.ok c.hold-held.ensures.err are

pub invariant_of-self-2-clause-line : goal.invariant_of-self-2-clause-line
invariant_of-self-2-clause-line c = λ rests.
    let st = c.args.self.now in
    let none : c.match-take.writes.waiting ≡ [] = elim c.match-take.branch [
      | in-Some w ↦ let is : st.writes ≡ Some c.match-take.writes = cc in sym (ap waiting_of is) ∙ st.line rests
      | in-None+in_ok-writes-in-None w ↦ let is : c.match-take.writes ≡ no_writes = cc
          (w.in_ok-writes-in-None.ensures, w.writes-is) in ap (λ (s : SiteRecord). s.waiting) is
    ] in
    line_held c.hold-held.result c.args.id c.match-take.writes c.release.new.self c.hold-held.new.self c.release.ensures
    c.hold-held.ensures.ok c.hold-held.ensures.err ∙ none
