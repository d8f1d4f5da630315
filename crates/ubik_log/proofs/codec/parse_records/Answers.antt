use Rattle.std.proofs.Common.{◌++◌, subst, sym}
use Rattle.ubik_log.specs.LogGrammar.{new_record}
use Rattle.ubik_log.specs.Reading.{IsStateOf}
use Rattle.ubik_log.specs.declared.states.LogState.{LogState}
use Rattle.ubik_log.proofs.WholeLogs.{all_is_committed, all_is_discarded}
use Rattle.ubik_log.proofs.codec.parse_records.Goals.{in-Some-end_at, in-None}
use Rattle.ubik_log.proofs.codec.parse_records.Goals as goal

pub returns : goal.returns
returns c =
    let records = c.args.records.now in
    let rest = c.loop-edit.rest.now in
    let IsAnswer : LogState → Type 0 = λ state. IsStateOf (new_record ++ records) state in
    elim c.match-end_at.branch [
      | in-Some-end_at w ↦
          let found = w.in-Some-end_at.ensures.found in
          subst IsAnswer (sym w.result-is) (all_is_committed records rest c.loop-edit.changes w.in-Some-end_at.version c.loop-edit.invariant.0 c.loop-edit.invariant.1 found.0 found.1)
      | in-None w ↦
          subst IsAnswer (sym w.result-is) (all_is_discarded records rest c.loop-edit.changes c.loop-edit.invariant.0 c.loop-edit.invariant.1 c.in_default.ensures.none w.in-None.ensures.none)
    ]
