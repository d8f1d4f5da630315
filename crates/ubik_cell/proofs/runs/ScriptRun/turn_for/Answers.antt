use Rattle.std.proofs.Common.{◌∙◌, sym}
use Rattle.ubik_cell.proofs.ScriptKinds.{opens_none, script_no_sites, script_none_stands}
use Rattle.ubik_cell.proofs.runs.ScriptRun.turn_for.Goals as goal

pub turn_to-requires-clause-none : goal.turn_to-requires-clause-none
turn_to-requires-clause-none g c =
    script_none_stands c.args.self.now c.args.line.now c.in-Some.kind (sym c.in_ok-kind.ensures ∙ c.in-Some.is)

pub returns-in-Some-clause-opens : goal.returns-in-Some-clause-opens
returns-in-Some-clause-opens g c = c.turn_to.ensures.kind c.args.line.now (sym c.in_ok-kind.ensures ∙ c.in-Some.is)

pub returns-in-Some-clause-sites : goal.returns-in-Some-clause-sites
returns-in-Some-clause-sites g c =
    let run = c.args.self.now in
    let none = script_none_stands run c.args.line.now c.in-Some.kind (sym c.in_ok-kind.ensures ∙ c.in-Some.is) in
    (c.turn_to.ensures.none.0 ∙ sym (script_no_sites run none), c.turn_to.ensures.none.1)

pub returns-in-None-clause-opens : goal.returns-in-None-clause-opens
returns-in-None-clause-opens g c = opens_none c.args.self.now c.args.line.now (sym c.in_ok-kind.ensures ∙ c.in-None.is)
