use Rattle.std.proofs.Common.{◌≡◌, Some, refl, arith}
use Rattle.std.proofs.lemmas.List.Elements.{All-weaker}
use Rattle.disk_base.specs.Files.{no_files}
use Rattle.disk_base.specs.Stops.DiskStop.{Unarmed}
use Rattle.script_promises.specs.Databases.{databases}
use Rattle.ubik_cell.specs.declared.cells.CellKind.TheVariants as kind
use Rattle.ubik_cell.specs.Disks.{IsFresh}
use Rattle.ubik_cell.specs.Headline.{Headline}
use Rattle.ubik_cell.specs.Runs.{IsDoneOrShort, IsInside}
use Rattle.ubik_cell.specs.Turns.{RanOver}
use Rattle.ubik_cell.proofs.Completeness.{complete}
use Rattle.ubik_cell.proofs.Headlines.{headline}
use Rattle.ubik_cell.proofs.Settling.{fresh_settled}
use Rattle.ubik_cell.proofs.Starting.{at_once, of_both, over_both}
use Rattle.ubik_cell.proofs.tops.cell_top.Goals as goal

pub returns-then-not-is_empty-clause-headline : goal.returns-then-not-is_empty-clause-headline
returns-then-not-is_empty-clause-headline g c =
    let disks = c.args.disks.now.items in
    of_both (λ script left before written. Headline g.D.Disk (kind.Words 1) script left before written disks disks) _ _
    (λ script before. headline c.law_scripts_are_runs.ensures c.law_memory_is_found.ensures c.law_words_are_calls.ensures
    c.law_scripts_keep_promises.ensures c.law_cells_keep_promises.ensures
    g.D.Disk (kind.Words 1) script (Some script) before (Some before) disks disks
    (at_once g.D.Disk databases (kind.Words 1) script (Some script) before (Some before) disks
    (All-weaker (λ d. IsFresh g.D.Disk.files g.D.Disk.may_leave g.D.Disk.stop g.D.Disk.faults d)
    (λ d. g.D.Disk.files d ≡ Some no_files) (λ d fresh. fresh.empty) disks c.requires.fresh)
    (record { none = refl; unread = refl; unwritten = refl }))
    (fresh_settled g.D.Disk disks c.requires.fresh))

pub returns-then-not-is_empty-clause-settled : goal.returns-then-not-is_empty-clause-settled
returns-then-not-is_empty-clause-settled g c = fresh_settled g.D.Disk c.args.disks.now.items c.requires.fresh

pub run_script-kind-requires-clause-settled : goal.run_script-kind-requires-clause-settled
run_script-kind-requires-clause-settled g c = fresh_settled g.D.Disk c.args.disks.now.items c.requires.fresh

pub run_script-kind-requires-clause-unarmed : goal.run_script-kind-requires-clause-unarmed
run_script-kind-requires-clause-unarmed g c =
    All-weaker (λ d. IsFresh g.D.Disk.files g.D.Disk.may_leave g.D.Disk.stop g.D.Disk.faults d)
    (λ d. g.D.Disk.stop d ≡ Unarmed) (λ d fresh. fresh.unarmed) c.args.disks.now.items c.requires.fresh

pub returns-clause-headline : goal.returns-clause-headline
returns-clause-headline g c =
    let k = c.run_script-kind.result in
    let left = g.S.Source.left c.run_script-kind.new.input in
    let after = g.K.Sink.written c.run_script-kind.new.out in
    let disks = c.args.disks.now.items in
    let later = c.run_script-kind.new.disks.items in
    over_both (λ script before. RanOver g.D.Disk k databases script left before after disks later)
    (λ script before. Headline g.D.Disk k script left before after disks later) _ _ c.run_script-kind.ensures.ran
    (λ script before ran. headline c.law_scripts_are_runs.ensures c.law_memory_is_found.ensures c.law_words_are_calls.ensures
    c.law_scripts_keep_promises.ensures c.law_cells_keep_promises.ensures
    g.D.Disk k script left before after disks later ran c.run_script-kind.ensures.settled)

pub returns-clause-complete : goal.returns-clause-complete
returns-clause-complete g c = λ empty read wrote sound.
    let k = c.run_script-kind.result in
    let left = g.S.Source.left c.run_script-kind.new.input in
    let after = g.K.Sink.written c.run_script-kind.new.out in
    let disks = c.args.disks.now.items in
    let later = c.run_script-kind.new.disks.items in
    over_both (λ script before. RanOver g.D.Disk k databases script left before after disks later)
    (λ script before. IsInside databases script → IsDoneOrShort k) _ _ c.run_script-kind.ensures.ran
    (λ script before ran inside. complete c.law_sound_fronts.ensures c.law_faults_have_servers.ensures c.law_words_are_calls.ensures
    g.D.Disk k script left before after disks later ran sound inside
    (λ is. let rose = c.run_script-kind.ensures.read_cause.rose is in omega (arith, rose, read))
    (λ is. let rose = c.run_script-kind.ensures.write_cause.rose is in omega (arith, rose, wrote))
    c.run_script-kind.ensures.no_words)
