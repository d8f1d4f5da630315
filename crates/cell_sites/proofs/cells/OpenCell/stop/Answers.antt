use Rattle.std.proofs.Common.{[], ◌≡◌, ◌∙◌, ℕ, Some, Err, set, refl, ap, arith}
use Rattle.std.proofs.lemmas.List.Elements.{All-nil}
use Rattle.std.proofs.lemmas.Option.{slice_get_within}
use Rattle.std.proofs.lemmas.Result.{err_from_is_err_and}
use Rattle.cell_runs.specs.ScriptDatabase.{script_database}
use Rattle.cell_runs.specs.Script.{Cell_run, resting, run_in}
use Rattle.cell_script.specs.declared.lines.Line.TheVariants as line
use Rattle.server_state.specs.declared.state.State.{State}
use Rattle.server_state.specs.State.{server_of}
use Rattle.cell_sites.proofs.Behind.{runs_on}
use Rattle.cell_sites.proofs.AtPlace.{rises_same}
use Rattle.cell_sites.proofs.Downtimes.{arm_disk, arm_node, arm_told, sound_at_place}
use Rattle.cell_sites.proofs.Keeping.{keeps_set, same_keeps}
use Rattle.cell_sites.proofs.Lining.{size_of}
use Rattle.cell_sites.proofs.Running.{rises_set}
use Rattle.cell_sites.proofs.Soundly.{found_up, here, none_sent, not_down}
use Rattle.cell_sites.specs.Stepped.{member_at, up_site}
use Rattle.cell_sites.proofs.cells.OpenCell.stop.Goals as goal

pub returns-in_err-k-clause-refused : goal.returns-in_err-k-clause-refused
returns-in_err-k-clause-refused g c = λ why is.
    let db = script_database g.V.DraftService.standing.database g.V.DraftWords.words in
    let p = err_from_is_err_and c.from_residual.result c.from_residual.ensures.1 in
    let same : c.in_err-k.field-0.0 ≡ why = let given = p.2 in let left = p.1 in cc (given, left, is) in (
      refl,
      λ given cell stands choices.
          let does : ℕ → Cell_run = λ k. resting
          (record cell { armed = set cell.armed k (Some (record { calls = c.args.calls; made = 0 })) }) in
          c.in_err-k.ensures.up cell does
          (size_of g.D.Disk c.requires.0.clock c.args.self.now cell c.requires.1.steady stands) stands.sites ∙ ap Err same,
    )

pub returns-in_err-k-clause-never_falls : goal.returns-in_err-k-clause-never_falls
returns-in_err-k-clause-never_falls g c = rises_same _ _ refl

pub index_mut-requires : goal.index_mut-requires
index_mut-requires g c =
    let within = slice_get_within c.args.self.now.sites.items c.in_ok-k.k _ c.in_ok-k.ensures.place.1.there in
    omega (arith, within, c.args.self.now.sites.ok.0)

pub unreachable-requires : goal.unreachable-requires
unreachable-requires g c =
    not_down c.args.self.now c.in_ok-k.k c.index_mut.result.now c.in_default.field-0 c.in_ok-k.ensures.place.1 c.index_mut.ensures.value
    c.in_default.is

pub returns-clause-told : goal.returns-clause-told
returns-clause-told g c = λ ok given cell text stands.
    let db = script_database g.V.DraftService.standing.database g.V.DraftWords.words in
    let site = c.index_mut.result.now in
    let there = found_up c.args.self.now c.in_ok-k.k site c.in-Up.node c.in_ok-k.ensures.place.1 c.index_mut.ensures.value c.in-Up.is in
    let does : ℕ → Cell_run = λ k. resting (record cell { armed = set cell.armed k (Some (record { calls = c.args.calls; made = 0 })) }) in
    arm_told g.D.Disk c.args.self.now _ c.in_ok-k.k site.clock c.args.calls c.args.fill c.in-Up.node c.arm.new.self there refl refl refl
    c.arm.ensures.disk
    c.arm.ensures.same db given cell
    (λ choices. run_in db cell choices (line.Stop c.args.server c.args.calls c.args.fill)) text stands
    (λ choices. c.in_ok-k.ensures.up cell does
    (size_of g.D.Disk c.requires.0.clock c.args.self.now cell c.requires.1.steady stands) stands.sites)

pub returns-clause-sound : goal.returns-clause-sound
returns-clause-sound g c = λ bounds still.
    let site = c.index_mut.result.now in
    let k = c.in_ok-k.k in
    let there = found_up c.args.self.now k site c.in-Up.node c.in_ok-k.ensures.place.1 c.index_mut.ensures.value c.in-Up.is in
    let at = here g.D.Disk bounds.clock c.args.self.now k site.clock c.in-Up.node still.steady there in
    record {
      steady =
          sound_at_place g.D.Disk c.args.self.now _ k (up_site site.clock c.in-Up.node)
          (up_site site.clock c.arm.new.self) there refl bounds.clock
          still.steady refl
          (arm_node g.D.Disk site.clock c.args.calls c.args.fill c.in-Up.node c.arm.new.self c.arm.ensures.disk c.arm.ensures.same
          (member_at c.args.self.now k) at.sound)
          (arm_disk g.D.Disk site.clock c.args.calls c.args.fill c.in-Up.node c.arm.new.self c.arm.ensures.disk c.arm.ensures.same at.disk)
          refl refl;
      keeps =
          keeps_set g.V.DraftService.standing.database c.args.self.now _ still.keeps refl k (up_site site.clock c.arm.new.self) [] refl refl
          (none_sent c.args.self.now.packets)
          (same_keeps g.V.DraftService.standing.database c.args.self.now.hosts.items c.args.self.now.calls c.in-Up.node c.arm.new.self
          (still.keeps.servers k (up_site site.clock c.in-Up.node) there) (ap (λ (s : State). server_of s) c.arm.ensures.same.0)
          c.arm.ensures.same.1)
          (All-nil _);
      calls = still.calls;
      run = runs_on g.D.Disk (script_database g.V.DraftService.standing.database g.V.DraftWords.words) bounds.asks c.args.self.now
          _ (line.Stop c.args.server c.args.calls c.args.fill) [] [] c.law_cells_go_on.ensures tt still.run
          (returns-clause-told g c refl still.run.given still.run.cell [] still.run.stands);
      blocks = still.blocks;
    }

pub returns-clause-never_falls : goal.returns-clause-never_falls
returns-clause-never_falls g c =
    let site = c.index_mut.result.now in
    let there = found_up c.args.self.now c.in_ok-k.k site c.in-Up.node c.in_ok-k.ensures.place.1 c.index_mut.ensures.value c.in-Up.is in
    let same = c.arm.ensures.disk.faults in
    rises_set g.D.Disk [] 0 c.in_ok-k.k c.args.self.now.sites.items (up_site site.clock c.in-Up.node)
    (up_site site.clock c.arm.new.self) there
    (omega (arith, same)) (λ j other. refl)
