use Rattle.std.proofs.Common.{◌≡◌, ◌∙◌, ℕ, List, Some, Err, sym, ap, subst}
use Rattle.std.proofs.lemmas.Result.{err_from_is_err_and}
use Rattle.std.specs.Prelude.{is_some}
use Rattle.std.specs.Prelude.{All}
use Rattle.std.specs.String.{string_bytes}
use Rattle.std.proofs.lemmas.List.Elements.{All-head}
use Rattle.cell_model.specs.declared.events.Output.{Output}
use Rattle.cell_runs.specs.declared.endings.Ending.TheVariants as ending
use Rattle.cell_runs.specs.ScriptDatabase.{script_database}
use Rattle.cell_sites.specs.declared.faults.LineFault.TheVariants as fault
use Rattle.cell_sites.specs.Telling.{MayBeTold}
use Rattle.cell_sites.specs.Traffic.{Traffic}
use Rattle.cell_sites.proofs.TellingOn.{TellsOn, telling, tells_more, tells_part, tells_all}
use Rattle.cell_sites.proofs.telling.tell_outputs.Goals as goal

pub tell_one-requires-clause-short : goal.tell_one-requires-clause-short
tell_one-requires-clause-short g c =
    All-head MayBeTold c.in-Some.output c.take.new.self
    (subst (λ (o : List Output). All MayBeTold o) c.in-Some.ensures.first c.loop-output.invariant.votes)

pub loop-output-preserved : goal.loop-output-preserved
loop-output-preserved g c =
    let db = script_database g.V.DraftService.standing.database g.V.DraftWords.words in
    let P : List Output → Type 0 = λ o. TellsOn db c.args.hosts.now c.args.server c.args.calls.now
    (string_bytes c.args.text.now) c.args.packets.now
    c.args.out.now (string_bytes c.loop-output.text) c.loop-output.packets o in
    tells_more db c.args.hosts.now c.args.server c.args.calls.now (string_bytes c.args.text.now) c.args.packets.now c.args.out.now
    (string_bytes c.loop-output.text) c.loop-output.packets c.in-Some.output c.take.new.self
    (subst P c.in-Some.ensures.first c.loop-output.invariant) (string_bytes c.tell_one.new.text) c.tell_one.new.packets
    c.in_ok-tell_one.ensures.told c.in_ok-tell_one.ensures.sends

pub returns-in_err-tell_one-clause-limit : goal.returns-in_err-tell_one-clause-limit
returns-in_err-tell_one-clause-limit g c = λ which is shown outputs answers.
    let db = script_database g.V.DraftService.standing.database g.V.DraftWords.words in
    let P : List Output → Type 0 = λ o. TellsOn db c.args.hosts.now c.args.server c.args.calls.now
    (string_bytes c.args.text.now) c.args.packets.now
    c.args.out.now (string_bytes c.loop-output.text) c.loop-output.packets o in
    let p = err_from_is_err_and c.from_residual.result c.from_residual.ensures.1 in
    let e : c.in_err-tell_one.field-0.0 ≡ fault.Limit which = let from = p.2 in let left = p.1 in cc (from, left, is) in
    let passed = c.in_err-tell_one.ensures.limit which (ap Err e) in
    tells_part db c.args.hosts.now c.args.server c.args.calls.now (string_bytes c.args.text.now) c.args.packets.now c.args.out.now
    (string_bytes c.loop-output.text) c.loop-output.packets c.in-Some.output c.take.new.self
    (subst P c.in-Some.ensures.first c.loop-output.invariant) (ending.Limit which) passed.0 shown outputs answers
    ∙ ap (λ (text : List ℕ). record { after = telling text c.loop-output.packets; ending = Some (ending.Limit which) }) (sym passed.1)
    ∙ ap (λ (packets : Traffic).
    record { after = telling (string_bytes c.tell_one.new.text) packets; ending = Some (ending.Limit which) }) (sym passed.2)

pub returns-clause-told : goal.returns-clause-told
returns-clause-told g c = λ shown outputs answers.
    tells_all (script_database g.V.DraftService.standing.database g.V.DraftWords.words) c.args.hosts.now c.args.server c.args.calls.now
    (string_bytes c.args.text.now) c.args.packets.now c.args.out.now
    (string_bytes c.loop-output.text) c.loop-output.packets c.loop-output.out
    (c.take.ensures.none (ap is_some c.in_default.is)) c.loop-output.invariant shown outputs answers
