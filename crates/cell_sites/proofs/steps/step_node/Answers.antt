use Rattle.std.proofs.Common.{◌∙◌, sym}
use Rattle.std.proofs.lemmas.Bool.{false≢true}
use Rattle.cell_sites.proofs.Nodes.{done_now, halted_now, halts, rested_now, short_now, stopped_now}
use Rattle.cell_sites.proofs.steps.step_node.Goals as goal

pub returns-in-Done : goal.returns-in-Done
returns-in-Done g c =
    let e = c.in-Done.ensures in
    done_now g.D.Disk g.V.DraftService.standing.database _ _ _ _ _ c.requires.sound c.requires.disk c.requires.cuts _
    (e.meant c.requires.needs c.requires.holds) e.member
    (e.told (λ is. cc)) e.calls e.last

pub returns-in-NoMemory : goal.returns-in-NoMemory
returns-in-NoMemory g c =
    let e = c.in-NoMemory.ensures in
    short_now g.D.Disk g.V.DraftService.standing.database _ _ _ _ _ c.requires.sound c.requires.disk c.requires.cuts _
    (e.meant c.requires.needs c.requires.holds) e.member e.last

pub returns-in-Halted : goal.returns-in-Halted
returns-in-Halted g c =
    let e = c.in-Halted.ensures in
    let halted = sym c.halted-was_halted.ensures ∙ c.if-was_halted.true in
    rested_now g.D.Disk g.V.DraftService.standing.database _ _ _ _ _ c.requires.sound c.requires.disk c.requires.cuts _ halted
    (e.meant c.requires.needs c.requires.holds) e.member
    e.calls e.last

pub returns-in-Halted-2 : goal.returns-in-Halted-2
returns-in-Halted-2 g c =
    let e = c.in-Halted-2.ensures in
    let up = sym c.halted-was_halted.ensures ∙ c.if-was_halted.false in
    stopped_now g.D.Disk g.V.DraftService.standing.database _ _ _ _ _ c.requires.sound c.requires.disk c.requires.cuts _ up
    (e.meant c.requires.needs c.requires.holds) e.calls
    (c.stopped.ensures.0 c.if-stopped.true)

pub returns-in-Halted-3 : goal.returns-in-Halted-3
returns-in-Halted-3 g c =
    let e = c.in-Halted-3.ensures in
    let up = sym c.halted-was_halted.ensures ∙ c.if-was_halted.false in
    halted_now g.D.Disk g.V.DraftService.standing.database _ _ _ _ _ c.requires.sound c.requires.disk c.requires.cuts c.step_on.new.self
    c.revive.new.self up (e.meant
    c.requires.needs c.requires.holds) e.calls
    (λ stopped. absurd (false≢true (sym c.if-stopped.false ∙ c.stopped.ensures.1 stopped)))
    c.revive.ensures.disk c.revive.ensures.same e.member e.last
