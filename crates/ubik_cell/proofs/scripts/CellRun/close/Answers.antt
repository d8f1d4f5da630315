use Rattle.std.proofs.Common.{rules, ◌≡◌, ◌++◌, List, sym, ap, ◌∙◌}
use Rattle.cell_sites.specs.Sites.{disks_of}
use Rattle.ubik_cell.specs.Lines.{cell_disks}
use Rattle.ubik_cell.proofs.Closing.{closed_helds}
use Rattle.ubik_cell.proofs.scripts.CellRun.close.Goals as goal
use Rattle.ubik_cell.proofs.scripts.CellRun.close.Goals.{in-Some, in_default}

pub returns-clause-disks : goal.returns-clause-disks
returns-clause-disks g c =
    let spare = c.args.self.spare.items in
    let of_cell : c.match-cell.disks.items ≡ cell_disks c.args.self.cell =
    elim c.match-cell.branch [
      | in-Some w ↦ ap (λ d. d.items) w.disks-is ∙ w.close.ensures.disks
          ∙ ap (λ (l : List _). l ++ disks_of w.in-Some.cell) c.requires.empty ∙ sym (ap cell_disks w.in-Some.is)
      | in_default w ↦ ap (λ d. d.items) w.disks-is ∙ c.requires.empty ∙ sym (ap cell_disks w.in_default.is)
    ] in
    let joined : c.append.new.self.items ≡ c.match-cell.disks.items ++ spare =
    search (rules, c.append.ensures, c.unwrap.ensures) in
    joined ∙ ap (λ (l : List _). l ++ spare) of_cell

pub returns-clause-held : goal.returns-clause-held
returns-clause-held g c = closed_helds g.D.Disk c.args.self.cell c.args.self.spare.items c.append.new.self.items (returns-clause-disks g c)
