use Rattle.std.proofs.Common.{◌≡◌, ◌∙◌, ◌<◌, true, false, None, nat_lt, length, refl, sym, ap, subst, rules, arith}
use Rattle.std.proofs.lemmas.Bool.Decides.{nat_tests}
use Rattle.ubik_types.specs.declared.phases.Phase.TheVariants as phase
use Rattle.ubik_types.specs.declared.versions.Version.{Version}
use Rattle.ubik_types.specs.Version.{IsVersion, version_lt}
use Rattle.cell_model.specs.Recovery.{first_of_epoch, relabelled}
use Rattle.ubik_recovery.specs.Record.{RecoveryRecord, adopted, best_of, in_phase, is_fetch, polled_of, with_text}
use Rattle.ubik_recovery.specs.Text.{with_piece}
use Rattle.server_state.specs.declared.state.State.{State}
use Rattle.server_state.specs.Recovering.{IsOfCell}
use Rattle.server_state.specs.State.{announced, member_of, server_of, server_with}
use Rattle.server_state.proofs.Polled.{version_best}
use Rattle.server_rules.specs.Acts.{IsOver, MayTake}
use Rattle.server_rules.proofs.Fetches.{fetched_relabels, later_epoch, of_relabelling, past_newer}
use Rattle.server_rules.proofs.recovery.image_fetched.Goals as goal

-- the recovery that goes on
abbrev relabelling : State → RecoveryRecord
relabelling st = in_phase (with_text st.recovery None) phase.Relabel st.me

over : (st : State) (next : RecoveryRecord) → next ≡ relabelling st → IsOver st next
over st next is = record {
  of_cell = subst (IsOfCell (length st.cell)) (sym is) (of_relabelling (length st.cell) st.me st.recovery st.of_cell);
  phase = ap (λ (r : RecoveryRecord). is_fetch r.phase) is;
}

may : (st : State) (version : Version) → st.recovery.phase ≡ phase.Fetch → version ≡ best_of st.recovery → version_lt st.version version ≡ true → MayTake st version
may st version fetches best newer = record {
  rests = λ serves. let other : phase.Fetch ≡ phase.Ready = sym fetches ∙ serves in cc;
  version = subst IsVersion (sym best) (version_best st.recovery st.of_cell.answers);
  newer = newer;
}

pub returns-then-not-newer-clause-step : goal.returns-then-not-newer-clause-step
returns-then-not-newer-clause-step c = λ dbs short.
    let st = c.args.state.now in
    let m = member_of st in
    let r = st.recovery in
    let is : c.set_phase.new.self ≡ relabelling st = c.set_phase.ensures ∙ ap (λ (x : RecoveryRecord). in_phase x phase.Relabel st.me) c.marks-next.ensures in
    let less : version_lt st.version c.args.source.version ≡ false = search rules in
    let older : version_lt st.version (best_of r) ≡ false = ap (version_lt st.version) (sym c.requires.best) ∙ less in
    fetched_relabels m (server_of st) c.args.now st.me (with_piece c.args.source c.args.offset c.args.bytes.now r.text).bytes (announced st) r c.requires.phase older
    ∙ ap (λ (x : RecoveryRecord). relabelled m (server_with st (adopted x r)) (polled_of x) c.args.now) (sym is)
    ∙ c.relabelled.ensures.step dbs short

pub returns-then-early-clause-step : goal.returns-then-early-clause-step
returns-then-early-clause-step c = λ dbs short.
    let st = c.args.state.now in
    let is : c.set_phase.new.self ≡ relabelling st = c.set_phase.ensures ∙ ap (λ (x : RecoveryRecord). in_phase x phase.Relabel st.me) c.marks-next.ensures in
    let more : version_lt st.version c.args.source.version ≡ true = search rules in
    let early : nat_lt c.args.source.version.epoch c.args.now ≡ false = grind (arith, nat_tests) in
    rw (← c.requires.best, more, early, is) refl

pub returns-clause-step : goal.returns-clause-step
returns-clause-step c = λ dbs short.
    let st = c.args.state.now in
    let is : c.set_phase.new.self ≡ relabelling st = c.set_phase.ensures ∙ ap (λ (x : RecoveryRecord). in_phase x phase.Relabel st.me) c.marks-next.ensures in
    let more : version_lt st.version c.args.source.version ≡ true = search rules in
    let past : c.args.source.version.epoch < c.args.now = omega arith in
    rw (← c.requires.best, more, later_epoch c.args.source.version.epoch c.args.now past, is) refl

pub returns-then-early-clause-leaves : goal.returns-then-early-clause-leaves
returns-then-early-clause-leaves c =
    let st = c.args.state.now in
    let is : c.set_phase.new.self ≡ relabelling st = c.set_phase.ensures ∙ ap (λ (x : RecoveryRecord). in_phase x phase.Relabel st.me) c.marks-next.ensures in
    let more : version_lt st.version c.args.source.version ≡ true = search rules in
    record {
      can = (may st c.args.source.version c.requires.phase c.requires.best more, over st c.set_phase.new.self is, c.requires.ends);
      kept = record { member = refl; version = refl; image = refl };
      halts = λ fails. refl;
      stays = λ short. refl;
    }

pub returns-clause-leaves : goal.returns-clause-leaves
returns-clause-leaves c =
    let st = c.args.state.now in
    let is : c.set_phase.new.self ≡ relabelling st = c.set_phase.ensures ∙ ap (λ (x : RecoveryRecord). in_phase x phase.Relabel st.me) c.marks-next.ensures in
    let more : version_lt st.version c.args.source.version ≡ true = search rules in
    let past : c.args.source.version.epoch < c.args.now = omega arith in
    let new : IsVersion (first_of_epoch c.args.now) = record { epoch = omega (arith, c.requires.moment.fits); counter = omega arith } in
    record {
      can = (
        may st c.args.source.version c.requires.phase c.requires.best more,
        (over st c.set_phase.new.self is, new, past_newer c.args.source.version c.args.now past),
        c.requires.ends,
      );
      kept = record { member = refl; version = refl; image = refl };
      halts = λ fails. refl;
      stays = λ short. refl;
    }

pub relabelled-requires-clause-of_cell : goal.relabelled-requires-clause-of_cell
relabelled-requires-clause-of_cell c =
    let st = c.args.state.now in
    let is : c.set_phase.new.self ≡ relabelling st = c.set_phase.ensures ∙ ap (λ (x : RecoveryRecord). in_phase x phase.Relabel st.me) c.marks-next.ensures in
    (over st c.set_phase.new.self is).of_cell
