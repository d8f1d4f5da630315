use Rattle.state_laws.specs.Over.{over}
use Rattle.ubik_node.specs.Alike.{AlikeSo, Frees, StepsAlike, free_dbs}
use Rattle.ubik_node.proofs.Alike.{alike_behind, closed_alike, on_made}
use Rattle.std.proofs.Common.{◌≡◌, ◌∙◌, ◌++◌, [], List, sym, ap, subst}
use Rattle.cell_model.specs.Durable.{durable}
use Rattle.ubik_types.specs.declared.versions.Version.{Version}
use Rattle.cell_model.specs.declared.events.Output.{Output}
use Rattle.cell_model.specs.Evaluating.{KeepsStates}
use Rattle.cell_model.specs.Lapse.{lapsed}
use Rattle.cell_model.specs.Node as model
use Rattle.cell_model.specs.NodeRule.{handled}
use Rattle.cell_model.specs.Step.{Member, Stepped, outputs_of}
use Rattle.server_state.specs.Lapsing.{returned}
use Rattle.ubik_node.specs.Choices.{dbs_of}
use Rattle.ubik_node.specs.Node.{HoldsStates, Needs, NeedsThen, StepsFreely, durable_in, held, node_of}
use Rattle.server_state.specs.State.{member_of, server_of}
use Rattle.ubik_node.proofs.Closing.{closed, closed_memory, closed_step, err_map}
use Rattle.ubik_node.proofs.Endings.{behind_ends}
use Rattle.state_laws.specs.Waiting.{short_behind}
use Rattle.state_laws.proofs.Waiting.{step_comes, step_comes_over}
use Rattle.ubik_node.proofs.Rested.{back_keeps, back_same, lapsed_there}
use Rattle.ubik_node.proofs.Stepping.{steps_keep, steps_meant, up_if}
use Rattle.ubik_node.proofs.nodes.Node.step_up.Goals as goal

pub returns : goal.returns
returns g c =
    let n = c.args.self.now in
    let st = n.state in
    let d = g.V.DraftService.standing in
    let e = c.args.event.now in
    let now = c.args.now in
    let mid = c.lapse-given.new.self in
    let shows = c.lapse-given.ensures.shows in
    let kept = c.lapse-given.ensures.kept in
    let later = c.handle-end.new.self in
    let o = c.handle-end.ensures.ends.0 in
    let dbs = dbs_of o in
    let shown = (lapsed (member_of st) (server_of st) now).shown in
    let at : Member → Stepped = λ m. let u = handled dbs m (server_of mid) now e o.short in record { server = u.server; calls = u.calls; shown = shown ++ u.shown } in
    let first = record (held n) { server = server_of mid; member = member_of mid } in
    let up = up_if _ _ _ c.requires.not_halted in
    let empty : c.lapse-given.new.out ≡ [] ++ outputs_of shown = shows.outputs ∙ ap (λ (o : List Output). o ++ outputs_of shown) c.requires.empty in
    let ends = behind_ends g.D.Disk {before = []} shown c.handle-end.result empty c.handle-end.ensures.ends.1 in
    let comes = step_comes dbs (member_of st) (server_of st) (server_of mid) now e o.short shows.server shows.calls ∙ ap at (sym kept.member) in
    let back = returned c.lapse-given.result later.state in
    let same : durable_in (server_of mid) ≡ durable_in (server_of st) = ap (λ (v : Version). durable v mid.image) kept.version ∙ ap (durable st.version) kept.image in
    let returns = err_map c.handle-end.result _ (back ≡ server_of st) ends.state (λ same. back_same c.lapse-given.result later.state mid same ∙ sym c.lapse-given.ensures.back) in
    let so = closed g.D.Disk e first (held later) (held c.end.new.self) c.handle-end.new.out c.end.new.out back c.end.result c.requires.not_halted c.handle-end.result ends c.end.ensures in
    let step : Needs d.database (member_of st) (node_of n) e now (g.D.Disk.files n.store.disk)
    → StepsFreely g.D.Disk d (member_of st) c.end.result e now (node_of n) (node_of c.end.new.self) c.end.new.out n.store.disk c.end.new.self.store.disk = λ needs.
    rw up
    (closed_step g.D.Disk d (member_of st) (server_of st) e now (at (member_of mid)) first (held later) (held c.end.new.self) c.handle-end.new.out c.end.new.out back c.end.result
    c.requires.not_halted (record o { short = short_behind shown o.short }) comes same c.handle-end.result ends
    (lapsed_there (λ (k : Member) (s : model.Server). NeedsThen d.database k s e now (g.D.Disk.files n.store.disk)) shows.server kept.member
    (subst (λ (x : model.Node). Needs d.database (member_of st) x e now (g.D.Disk.files n.store.disk)) up needs)) returns
    (λ failed. back_keeps c.lapse-given.result later.state mid (ends.keeps failed) ∙ sym (ap model.halted_from c.lapse-given.ensures.back)) c.end.ensures) in
    let keeps : KeepsStates d = λ image s now call stands.
    ((d.meaning.call s now call).state, (g.met.V.DraftService.is_meant image s now call stands).stands) in
    let meant = λ (needs : Needs d.database (member_of st) (node_of n) e now (g.D.Disk.files n.store.disk)) (holds : HoldsStates d (node_of n)).
    steps_meant g.D.Disk d keeps (member_of st) c.end.result e now (node_of n) (node_of c.end.new.self) c.end.new.out n.store.disk c.end.new.self.store.disk holds (step needs) in
    record {
      step = step;
      meant = meant;
      keeps = λ needs brings holds. steps_keep g.D.Disk d keeps (member_of st) c.end.result e now (node_of n) (node_of c.end.new.self) c.end.new.out n.store.disk c.end.new.self.store.disk holds brings (meant needs holds);
      alike =
          subst (λ (x : model.Node). StepsAlike d.database (member_of st) c.end.result e now x (node_of c.end.new.self) c.end.new.out) (sym up)
          (closed_alike g.D.Disk d.database (member_of st) (server_of st) back e now shown (λ (x : model.Server) (free : Frees d.database). let u = handled (free_dbs d.database free) (member_of mid) x now e free.short in record { server = u.server; calls = u.calls; shown = shown ++ u.shown })
          first (held later) (held c.end.new.self) c.handle-end.new.out c.end.new.out c.end.result
          (λ image free. step_comes_over (free_dbs d.database free) (member_of st) (server_of st) (server_of mid) now e free.short image shows.server shows.calls ∙ ap (λ (k : Member). let u = handled (free_dbs d.database free) k (over (server_of mid) image) now e free.short in record { server = u.server; calls = u.calls; shown = shown ++ u.shown }) (sym kept.member))
          kept.image c.handle-end.result ends
          (on_made c.handle-end.result c.handle-end.ensures.alike
          (λ (made : AlikeSo d.database (server_of mid) (λ x free. handled (free_dbs d.database free) (member_of mid) x now e free.short) (server_of later.state) c.lapse-given.new.out c.handle-end.new.out). (made.0, made.1, made.2, alike_behind {before = []} shown empty made.3)))
          returns (λ failed. back_keeps c.lapse-given.result later.state mid (ends.keeps failed) ∙ sym (ap model.halted_from c.lapse-given.ensures.back)) c.end.ensures);
      member = so.member ∙ kept.member;
      memory = λ none. closed_memory e (held later) (held c.end.new.self) c.handle-end.new.out c.end.new.out back c.end.result c.handle-end.result (c.handle-end.ensures.memory none) c.end.ensures;
      halts = so.halts;
      told = so.told;
      calls = so.calls;
      last = so.last;
    }
