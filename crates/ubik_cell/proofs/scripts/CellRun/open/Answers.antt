use Rattle.std.proofs.Common.{◌≡◌, None, length, take, drop, Ok, refl, sym, ap, ◌∙◌, arith}
use Rattle.std.specs.String.{string_bytes}
use Rattle.cell_script.specs.declared.lines.Kind.TheVariants.{Protection}
use Rattle.cell_script.specs.declared.lines.Line.TheVariants as line
use Rattle.cell_runs.specs.Script.{hosts_of}
use Rattle.cell_runs.specs.ScriptDatabase.{script_database}
use Rattle.cell_sites.specs.declared.faults.LineFault.TheVariants.{NoMemory}
use Rattle.ubik_cell.specs.LineRuns.{LineDone}
use Rattle.ubik_cell.specs.Lines.{sites_in}
use Rattle.ubik_cell.proofs.CellLines.{handed_on}
use Rattle.ubik_cell.proofs.Lifting.{short_same}
use Rattle.ubik_cell.proofs.LineDisks.{hosts_count}
use Rattle.ubik_cell.proofs.Opened.{opened_keeps, opened_line, opened_short, rest_empty, taken_count}
use Rattle.ubik_cell.proofs.Settling.{opened_settled, run_settled}
use Rattle.ubik_cell.proofs.scripts.CellRun.open.Goals as goal

pub returns-in_err-cell-clause-done : goal.returns-in_err-cell-clause-done
returns-in_err-cell-clause-done g c = λ kind.
    let db = script_database g.V.DraftService.standing.database g.V.DraftWords.words in
    let run = c.args.self.now in
    let text = string_bytes c.args.text.now in
    let l = line.Cell c.args.servers c.args.clock kind in
    handed_on (λ r. LineDone g.D.Disk db l r run run text text) c.from_residual.result NoMemory c.from_residual.ensures.1
    (short_same g.D.Disk db l run text text c.requires.sound)

pub open_servers-opened-requires-clause-servers : goal.open_servers-opened-requires-clause-servers
open_servers-opened-requires-clause-servers g c = sym (ap length c.in_ok-cell.ensures.hosts ∙ hosts_count c.args.servers)

pub returns-in_err-opened-in-None-clause-done : goal.returns-in_err-opened-in-None-clause-done
returns-in_err-opened-in-None-clause-done g c = λ kind.
    let db = script_database g.V.DraftService.standing.database g.V.DraftWords.words in
    let run = c.args.self.now in
    let after = record run { cell = c.replace.new.self; spare = c.open_servers-opened.new.spare } in
    let text = string_bytes c.args.text.now in
    let later = string_bytes c.open_servers-opened.new.text in
    let none : run.cell ≡ None = sym c.replace.ensures.value ∙ c.in-None.is in
    handed_on (λ r. LineDone g.D.Disk db (line.Cell c.args.servers c.args.clock kind) r run after text later)
    c.from_residual-in_err-opened-in-None.result NoMemory c.from_residual-in_err-opened-in-None.ensures.1
    (opened_short g.D.Disk db c.args.servers c.args.clock kind run c.open_servers-opened.new.cell after c.replace.ensures.after none refl
    refl
    text later c.open_servers-opened.ensures.unwritten
    (rest_empty g.D.Disk.files run.spare.items after.spare.items _ c.open_servers-opened.ensures.spare c.requires.sound.spare)
    c.open_servers-opened.ensures.spare)

pub returns-clause-done : goal.returns-clause-done
returns-clause-done g c = λ kind.
    let db = script_database g.V.DraftService.standing.database g.V.DraftWords.words in
    let run = c.args.self.now in
    let after = record run { cell = c.replace.new.self; spare = c.open_servers-opened.new.spare } in
    let text = string_bytes c.args.text.now in
    let later = string_bytes c.open_servers-opened.new.text in
    let none : run.cell ≡ None = sym c.replace.ensures.value ∙ c.in-None.is in
    let given = take c.args.servers run.spare.items in
    let no_sites : sites_in run.cell ≡ 0 = ap sites_in none in
    let count : length given ≡ c.args.servers = taken_count run.spare.items c.args.servers
    (omega (arith, c.requires.few, c.requires.sound.disks, no_sites)) in
    let hosts : c.open_servers-opened.new.cell.hosts.items ≡ hosts_of c.args.servers = c.open_servers-opened.ensures.hosts
    ∙ c.in_ok-cell.ensures.hosts in
    let all : length given ≡ length c.open_servers-opened.new.cell.hosts.items = count
    ∙ sym (ap length hosts ∙ hosts_count c.args.servers) in
    opened_line g.D.Disk db c.args.servers c.args.clock kind run c.open_servers-opened.new.cell after c.replace.ensures.after none refl refl
    text later count
    (c.law_cell_opened.ensures db c.args.clock kind given c.open_servers-opened.new.cell text later c.requires.moment
    c.open_servers-opened.ensures.room all
    c.in_ok-opened-in-None.ensures.opened) hosts
    (rest_empty g.D.Disk.files run.spare.items after.spare.items _ c.open_servers-opened.ensures.spare c.requires.sound.spare)
    (c.open_servers-opened.ensures.spare ∙ ap (λ n. drop n run.spare.items) c.in_ok-opened-in-None.ensures.all)

pub returns-clause-kept : goal.returns-clause-kept
returns-clause-kept g c =
    let db = script_database g.V.DraftService.standing.database g.V.DraftWords.words in
    let run = c.args.self.now in
    let after = record run { cell = c.replace.new.self; spare = c.open_servers-opened.new.spare } in
    let text = string_bytes c.args.text.now in
    let later = string_bytes c.open_servers-opened.new.text in
    let none : run.cell ≡ None = sym c.replace.ensures.value ∙ c.in-None.is in
    let given = take c.args.servers run.spare.items in
    let no_sites : sites_in run.cell ≡ 0 = ap sites_in none in
    let count : length given ≡ c.args.servers = taken_count run.spare.items c.args.servers
    (omega (arith, c.requires.few, c.requires.sound.disks, no_sites)) in
    let hosts : c.open_servers-opened.new.cell.hosts.items ≡ hosts_of c.args.servers = c.open_servers-opened.ensures.hosts
    ∙ c.in_ok-cell.ensures.hosts in
    let all : length given ≡ length c.open_servers-opened.new.cell.hosts.items = count
    ∙ sym (ap length hosts ∙ hosts_count c.args.servers) in
    let opened = c.law_cell_opened.ensures db c.args.clock Protection given c.open_servers-opened.new.cell text later c.requires.moment
    c.open_servers-opened.ensures.room all c.in_ok-opened-in-None.ensures.opened in
    opened_keeps g.D.Disk db c.args.servers c.args.clock Protection run c.open_servers-opened.new.cell after c.replace.ensures.after none
    refl refl
    (Ok tt) c.requires.sound c.requires.room
    (omega (arith, c.open_servers-opened.ensures.few, c.requires.few)) c.open_servers-opened.ensures.spare
    (λ done. opened.sound) c.requires.early

-- ---- nothing stays pending

pub returns-then-is_some-clause-settled : goal.returns-then-is_some-clause-settled
returns-then-is_some-clause-settled g c = run_settled g.D.Disk c.args.self.now c.requires.sound

pub returns-in_err-cell-clause-settled : goal.returns-in_err-cell-clause-settled
returns-in_err-cell-clause-settled g c = run_settled g.D.Disk c.args.self.now c.requires.sound

pub returns-in_err-opened-in-None-clause-settled : goal.returns-in_err-opened-in-None-clause-settled
returns-in_err-opened-in-None-clause-settled g c =
    opened_settled g.D.Disk c.replace.new.self c.open_servers-opened.new.cell c.args.self.now.spare.items
    c.open_servers-opened.new.spare.items _
    c.replace.ensures.after c.open_servers-opened.ensures.settled c.open_servers-opened.ensures.spare c.requires.sound.settled

pub returns-clause-settled : goal.returns-clause-settled
returns-clause-settled g c =
    opened_settled g.D.Disk c.replace.new.self c.open_servers-opened.new.cell c.args.self.now.spare.items
    c.open_servers-opened.new.spare.items _
    c.replace.ensures.after c.open_servers-opened.ensures.settled c.open_servers-opened.ensures.spare c.requires.sound.settled
