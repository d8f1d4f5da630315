-- What the lapse gave out, and comes back.
use Rattle.std.proofs.Common.{◌≡◌, Option, Some, None, refl, sym, ap, ◌∙◌}
use Rattle.std.proofs.lemmas.Bool.{cond_both}
use Rattle.ubik_types.specs.declared.phases.Phase.{Phase}
use Rattle.ubik_types.specs.declared.phases.Phase.TheVariants as phase
use Rattle.ubik_types.specs.declared.versions.Version.{Version}
use Rattle.ubik_types.specs.Phase.{phase_of}
use Rattle.cell_model.specs.Node.{HaltedServer, ReceivedText, Server, halted_from}
use Rattle.cell_model.specs.Step.{Member}
use Rattle.ubik_recovery.specs.Record.{RecoveryRecord, is_fetch, phase_record, record_in, restored}
use Rattle.server_state.specs.declared.lapse.Dropped.{Dropped}
use Rattle.server_state.specs.declared.state.State.{State}
use Rattle.server_state.specs.Lapsing.{returned}
use Rattle.server_state.specs.State.{server_of}
use Rattle.server_state.specs.Writing.{announced_of, flight_of, own_of, waiting_of}

-- what is so of the server that the lapse leaves, at its place
pub lapsed_there : (P : Member → Server → Type 0) {m at : Member} {s mid : Server} → s ≡ mid → at ≡ m → P m s → P at mid
lapsed_there P is same so = rw (same, ← is) so

-- what is given out comes back over what the server received since
abbrev left_over : RecoveryRecord → Option ReceivedText → RecoveryRecord
left_over given text = restored given (record given { text = text })

abbrev back_over : Dropped → Server → Server
back_over d s =
    record s {
      phase = phase_record (announced_of s.version (own_of d.writes)) (left_over d.recovery s.received);
      received = (left_over d.recovery s.received).text;
      flight = flight_of d.writes;
      waiting = waiting_of d.writes;
    }

restored_phase : (given left : RecoveryRecord) → (restored given left).phase ≡ given.phase
restored_phase given left = cond_both (is_fetch given.phase) _ _ (λ (r : RecoveryRecord). r.phase ≡ given.phase) (λ _. refl) (λ _. refl)

pub phase_is : (v : Version) (r : RecoveryRecord) → phase_of (phase_record v r) ≡ r.phase
phase_is v r = elim r.phase as (λ (p : Phase). phase_of (record_in p v r) ≡ p) [ phase.None ↦ refl | _ ↦ refl ]

abbrev in_phase : HaltedServer → Phase → HaltedServer
in_phase h p = record h { phase = p }

-- a state of which a halted server would keep the same goes back to one of which it would keep the same
pub back_keeps : (given : Option Dropped) (x y : State) → halted_from (server_of x) ≡ halted_from (server_of y) → halted_from (returned given x) ≡ halted_from (returned given y)
back_keeps None x y same = same
back_keeps (Some d) x y same =
    let at = λ (z : State). phase_is (announced_of z.version (own_of d.writes)) (restored d.recovery z.recovery) ∙ restored_phase d.recovery z.recovery in
    ap (in_phase (halted_from (server_of x))) (at x) ∙ ap (λ (h : HaltedServer). in_phase h d.recovery.phase) same ∙ sym (ap (in_phase (halted_from (server_of y))) (at y))

-- a state that stands for the same server goes back to the same one
pub back_same : (given : Option Dropped) (x y : State) → server_of x ≡ server_of y → returned given x ≡ returned given y
back_same None x y same = same
back_same (Some d) x y same = ap (back_over d) same
