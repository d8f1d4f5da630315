use Rattle.std.proofs.Common.{◌≡◌, ◌∙◌, ℕ, List, length, IsErrOf, sym, ap, subst}
use Rattle.std.specs.Result.{is_ok}
use Rattle.std.proofs.lemmas.Bool.{false≢true}
use Rattle.ubik_types.specs.declared.versions.Version.{Version}
use Rattle.ubik_store.specs.declared.faults.StoreFault.TheVariants.{DiskFault}
use Rattle.cell_model.specs.Durable.{durable}
use Rattle.cell_model.specs.Node.{Server, halted_from}
use Rattle.cell_model.specs.Step.{Member}
use Rattle.cell_model.specs.Writes.{next_turns, settled}
use Rattle.ubik_node.specs.Choices.{dbs_of}
use Rattle.ubik_node.specs.Node.{durable_in, held}
use Rattle.server_state.specs.State.{announced, member_of, server_of}
use Rattle.state_laws.specs.Waiting.{short_behind}
use Rattle.state_laws.proofs.Waiting.{settled_comes, settled_comes_over, settled_halts, settled_line}
use Rattle.ubik_node.specs.Alike.{Frees, free_dbs}
use Rattle.ubik_node.proofs.Alike.{alike_behind, alike_same, on_made}
use Rattle.ubik_node.proofs.TurnsAlike.{WaitAlike}
use Rattle.ubik_node.proofs.Endings.{behind_ends, same_ends}
use Rattle.server_state.proofs.Polled.{ready_phase}
use Rattle.ubik_node.proofs.Turns.{went_on}
use Rattle.ubik_node.proofs.nodes.Node.settle_with_turns.Goals as goal

pub returns-clause-ends : goal.returns-clause-ends
returns-clause-ends g c =
    let n = c.args.self.now in
    let st = n.state in
    let mid = c.settle.new.self in
    let m = member_of st in
    let s = server_of st in
    let shows = c.settle.ensures.shows in
    let kept = c.settle.ensures.kept in
    let turns = c.take_turns.ensures.ends in
    let r = c.take_turns.result in
    let same : durable_in (server_of mid) ≡ durable_in s = ap (λ (v : Version). durable v mid.image) kept.version ∙ ap (λ (image : List ℕ). durable st.version image) kept.image in
    let keeps : IsErrOf r DiskFault → halted_from (server_of mid) ≡ halted_from s = λ failed.
    settled_halts m s (server_of mid) shows.server (λ rests.
    let waiting = ap (λ (x : Server). x.waiting) (sym shows.server) ∙ settled_line m s ∙ st.line (λ serves. false≢true (sym rests ∙ ready_phase (announced st) st.recovery serves)) in
    absurd (false≢true (sym (ap is_ok failed) ∙ c.take_turns.ensures.nobody waiting))) in (
      record turns.0 { short = short_behind (settled m s).shown turns.0.short },
      same_ends g.D.Disk (settled_comes (dbs_of turns.0) m s (server_of mid) c.args.now turns.0.short shows.server shows.calls) (behind_ends g.D.Disk (settled m s).shown r shows.outputs
          (went_on g.D.Disk (held n) (server_of mid) (member_of mid) (held c.take_turns.new.self) r same keeps kept.member c.take_turns.ensures.memory
          (same_ends g.D.Disk (ap (λ (k : Member). next_turns (dbs_of turns.0) k c.args.now (server_of mid).waiting (server_of mid) turns.0.short) (sym kept.member)) turns.1))),
    )

pub returns-clause-alike : goal.returns-clause-alike
returns-clause-alike g c =
    let db = g.V.DraftService.standing.database in
    let st = c.args.self.now.state in
    let mid = server_of c.settle.new.self in
    let m = member_of st in
    let s = server_of st in
    let shows = c.settle.ensures.shows in
    on_made c.take_turns.result c.take_turns.ensures.alike
    (λ (so : WaitAlike db (member_of c.settle.new.self) c.args.now mid (server_of c.take_turns.new.self.state) c.settle.new.out c.take_turns.new.out).
    let after = subst (λ (k : Member). WaitAlike db k c.args.now mid (server_of c.take_turns.new.self.state) c.settle.new.out c.take_turns.new.out) c.settle.ensures.kept.member so in
    let o : Frees db = record after.2 { short = short_behind (settled m s).shown after.2.short } in (
      after.0,
      after.1 ∙ ap length c.settle.ensures.kept.image,
      o,
      alike_same (settled_comes_over (free_dbs db o) m s mid c.args.now after.2.short after.0 shows.server shows.calls) (alike_behind (settled m s).shown shows.outputs after.3),
    ))
