use Rattle.std.proofs.Common.{◌≡◌, true, false, Some, is_some, refl, sym, ap, ◌∙◌}
use Rattle.cell_model.specs.Asks.{asked_as, write_asked}
use Rattle.cell_model.specs.Step.{Announced_image, Beacon_image, told_version}
use Rattle.ubik_recovery.specs.Record.{phase_record}
use Rattle.server_state.specs.State.{announced, member_of, server_of}
use Rattle.server_state.specs.Writing.{own_of}
use Rattle.server_rules.proofs.Turns.{leased_here}
use Rattle.server_state.proofs.Polled.{ready_phase}
use Rattle.server_state.proofs.Writes.{none_in_flight}
use Rattle.ubik_node.proofs.serving.turn_of.Goals as goal
use Rattle.ubik_node.proofs.serving.turn_of.Goals.{then-leased+then-writes+else-is_writing, then-leased+else-writes, else-leased, then-leased-2+else-writes-2, else-leased-2}

pub returns-in-Ready-2-clause-turn : goal.returns-in-Ready-2-clause-turn
returns-in-Ready-2-clause-turn c = λ db id call short.
    let st = c.args.state.now in
    let writes : c.args.writes ≡ true = c.if-writes-2.true in
    let free : is_some (own_of st.writes) ≡ false = elim c.if-leased.branch [
      | then-leased+then-writes+else-is_writing w ↦ sym w.is_writing.ensures ∙ w.if-is_writing.false
      | then-leased+else-writes w ↦ absurd cc
      | else-leased w ↦ absurd cc
    ] in
    let asks : asked_as db (member_of st) (server_of st) c.args.now id call short (Some c.args.writes)
    ≡ write_asked db (member_of st) (server_of st) c.args.now id call short (server_of st).flight =
    rw (
      leased_here st c.args.now true st.voters (sym c.in_lease-leased.ensures ∙ c.if-leased-2.true),
      ready_phase (announced st) st.recovery (sym c.phase.ensures ∙ c.in-Ready-2.is),
      writes,
    ) refl in
    asks ∙ ap (write_asked db (member_of st) (server_of st) c.args.now id call short) (none_in_flight (own_of st.writes) free)

pub returns-in-Ready-3-clause-turn : goal.returns-in-Ready-3-clause-turn
returns-in-Ready-3-clause-turn c = λ db id call short.
    let st = c.args.state.now in
    let reads : c.args.writes ≡ false = elim c.if-leased-2.branch [ then-leased-2+else-writes-2 w ↦ w.if-writes-2.false | else-leased-2 w ↦ cc ] in (
      Announced_image (told_version (phase_record (announced st) st.recovery) st.version),
      rw (
        leased_here st c.args.now true st.voters (sym c.in_lease-leased.ensures ∙ c.if-leased-3.true),
        ready_phase (announced st) st.recovery (sym c.phase.ensures ∙ c.in-Ready-3.is),
        reads,
      ) refl,
    )

pub returns-in_default-2-clause-turn : goal.returns-in_default-2-clause-turn
returns-in_default-2-clause-turn c = λ db id call short.
    let st = c.args.state.now in
    let reads : c.args.writes ≡ false = c.if-not-writes.true in (
      Beacon_image st.version,
      rw (
        leased_here st c.args.now false st.voters (sym c.in_lease-leased.ensures ∙ c.if-leased-4.false),
        reads,
        sym c.allows_reads.ensures ∙ c.if-allows_reads.true,
      ) refl,
    )

pub returns-in-Ready-2-clause-evaluates : goal.returns-in-Ready-2-clause-evaluates
returns-in-Ready-2-clause-evaluates c = λ _.
    let st = c.args.state.now in
    let writes : c.args.writes ≡ true = c.if-writes-2.true in
    let free : is_some (own_of st.writes) ≡ false = elim c.if-leased.branch [
      | then-leased+then-writes+else-is_writing w ↦ sym w.is_writing.ensures ∙ w.if-is_writing.false
      | then-leased+else-writes w ↦ absurd cc
      | else-leased w ↦ absurd cc
    ] in
    rw (
      leased_here st c.args.now true st.voters (sym c.in_lease-leased.ensures ∙ c.if-leased-2.true),
      ready_phase (announced st) st.recovery (sym c.phase.ensures ∙ c.in-Ready-2.is),
      writes,
      none_in_flight (own_of st.writes) free,
    ) refl

pub returns-in-Ready-3-clause-evaluates : goal.returns-in-Ready-3-clause-evaluates
returns-in-Ready-3-clause-evaluates c = λ _.
    let st = c.args.state.now in
    let reads : c.args.writes ≡ false = elim c.if-leased-2.branch [ then-leased-2+else-writes-2 w ↦ w.if-writes-2.false | else-leased-2 w ↦ cc ] in
    rw (
      leased_here st c.args.now true st.voters (sym c.in_lease-leased.ensures ∙ c.if-leased-3.true),
      ready_phase (announced st) st.recovery (sym c.phase.ensures ∙ c.in-Ready-3.is),
      reads,
    ) refl

pub returns-in_default-2-clause-evaluates : goal.returns-in_default-2-clause-evaluates
returns-in_default-2-clause-evaluates c = λ _.
    let st = c.args.state.now in
    let reads : c.args.writes ≡ false = c.if-not-writes.true in
    rw (
      leased_here st c.args.now false st.voters (sym c.in_lease-leased.ensures ∙ c.if-leased-4.false),
      reads,
      sym c.allows_reads.ensures ∙ c.if-allows_reads.true,
    ) refl
