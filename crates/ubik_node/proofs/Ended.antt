-- The end of another server's image: what it leads to is the same whatever text was received.
use Rattle.std.proofs.Common.{◌≡◌, ◌≢◌, ◌∙◌, true, Option, None, List, ℕ, length, refl, sym, ap, subst}
use Rattle.std.proofs.lemmas.Bool.{false≢true}
use Rattle.disk_base.specs.declared.disks.Disk.{Ghosts}
use Rattle.ubik_types.specs.declared.versions.Version.{Version}
use Rattle.ubik_types.specs.Version.{version_lt}
use Rattle.ubik_store.specs.declared.faults.StoreFault.{StoreFault}
use Rattle.ubik_store.specs.declared.faults.StoreFault.TheVariants.{DiskFault, BadLabel, TooLarge, NotNewer, NoMemory}
use Rattle.ubik_store.specs.declared.stores.Store.{Store}
use Rattle.ubik_store.specs.DurableCall.{EndsAs, IsNeverLong}
use Rattle.cell_model.specs.Node.{ReceivedText, Server}
use Rattle.cell_model.specs.Recovery.{installed}
use Rattle.cell_model.specs.Step.{Member, Stepped, followed, with_database}
use Rattle.ubik_recovery.specs.Record.{RecoveryRecord, with_text}
use Rattle.server_rules.specs.Acts.{CanFollow, IsOver, MayTake, then_ended}
use Rattle.server_rules.specs.declared.acts.TextEnd.{TextEnd}
use Rattle.server_rules.specs.declared.acts.TextEnd.TheVariants as text_end
use Rattle.server_state.specs.declared.state.State.{State}
use Rattle.server_state.specs.Recovering.{IsOfCell}
use Rattle.server_state.specs.State.{announced, member_of, server_of, server_with}
use Rattle.ubik_node.proofs.Fronts.{same_phase}

-- a database that is taken over drops the text
taken_with : (st : State) (text : Option ReceivedText) (version : Version) (image : List ℕ)
    → with_database (server_with st (with_text st.recovery text)) version image ≡ with_database (server_of st) version image
taken_with st text version image = rw (same_phase (announced st) st.recovery text) refl

-- also at a server that has given its text out
pub taken_from : (st mid : State) (version : Version) (image : List ℕ) → server_of mid ≡ server_with st (with_text st.recovery None)
    → with_database (server_of mid) version image ≡ with_database (server_of st) version image
taken_from st mid version image server = ap (λ (s : Server). with_database s version image) server ∙ taken_with st None version image

pub ended_with : (st : State) (text : Option ReceivedText) (mid : Server) (place : Member) (end : TextEnd) (version : Version) (image whole : List ℕ)
    → mid ≡ server_with st (with_text st.recovery text) → place ≡ member_of st → whole ≡ image
    → followed (installed (server_of st) version image) (then_ended (member_of st) end) ≡ followed (installed mid version whole) (then_ended place end)
ended_with st text mid place end version image whole server here same =
    rw (server, here, same)
    (ap (λ (s : Server). followed (record (installed (server_of st) version image) { server = s }) (then_ended (member_of st) end))
    (sym (taken_with st text version image)))

-- there it can end so too
pub may_after : (st mid : State) (text : Option ReceivedText) (version : Version) → mid.recovery ≡ with_text st.recovery text → mid.version ≡ st.version
    → MayTake st version → MayTake mid version
may_after st mid text version held same may = record {
  rests = λ serves. may.rests (sym (ap (λ (r : RecoveryRecord). r.phase) held) ∙ serves);
  version = may.version;
  newer = subst (λ (own : Version). version_lt own version ≡ true) (sym same) may.newer;
}

-- where the relabelling behind an install is not made, its disk has failed
pub disk_alone : {D : Type 0} (g : Ghosts D) (v : Version) (old new : Store D) (e : StoreFault) → EndsAs g IsNeverLong v old new e → e ≢ NoMemory
    → version_lt old.version v ≡ true → e ≡ DiskFault
disk_alone g v old new DiskFault ends some newer = refl
disk_alone g v old new (BadLabel len head) ends some newer = absurd ends
disk_alone g v old new (TooLarge bytes) ends some newer = absurd ends.0
disk_alone g v old new (NotNewer own given) ends some newer = absurd (false≢true (sym ends.0.not_newer ∙ newer))
disk_alone g v old new NoMemory ends some newer = absurd (some refl)

over_at : (st mid : State) (next : RecoveryRecord) → member_of mid ≡ member_of st → IsOver st next → IsOver mid next
over_at st mid next here over = record {
  of_cell = subst (λ (m : Member). IsOfCell (length m.hosts) next) (sym here) over.of_cell;
  phase = over.phase;
}

pub follow_after : (st mid : State) (version : Version) (end : TextEnd) → member_of mid ≡ member_of st → CanFollow st version end → CanFollow mid version end
follow_after st mid version (text_end.Told host) here can = tt
follow_after st mid version (text_end.Waits next) here can = over_at st mid next here can
follow_after st mid version (text_end.Relabelled next new) here can = (over_at st mid next here can.0, can.1, can.2)
