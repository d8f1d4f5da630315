-- The text that a last piece is taken into, and taken back from; and how rules end about which that is done.
use Rattle.std.proofs.Common.{◌≡◌, ◌≢◌, ◌++◌, ◌∙◌, false, List, Option, Some, Ok, Err, refl, sym, ap, subst}
use Rattle.disk_base.specs.declared.disks.Disk.{Ghosts}
use Rattle.ubik_types.specs.declared.phases.Phase.{Phase}
use Rattle.ubik_types.specs.declared.phases.Phase.TheVariants as phase
use Rattle.ubik_types.specs.declared.versions.Version.{Version}
use Rattle.ubik_types.specs.Phase.{PhaseRecord}
use Rattle.ubik_store.specs.declared.faults.StoreFault.{StoreFault}
use Rattle.ubik_store.specs.declared.faults.StoreFault.TheVariants.{DiskFault, NoMemory}
use Rattle.cell_model.specs.declared.events.Output.{Output}
use Rattle.cell_model.specs.Durable.{Durable, Made}
use Rattle.cell_model.specs.Node.{Server, ReceivedText, halted_from}
use Rattle.cell_model.specs.Step.{Member, Stepped, outputs_of}
use Rattle.ubik_recovery.specs.declared.texts.TextBefore.{TextBefore}
use Rattle.ubik_recovery.specs.Record.{RecoveryRecord, phase_record, record_in, with_text}
use Rattle.ubik_recovery.specs.Rules.{recovering}
use Rattle.ubik_recovery.specs.Text.{text_before}
use Rattle.server_state.specs.declared.state.State.{State}
use Rattle.ubik_node.specs.Disk.{FailsIn, Serves}
use Rattle.ubik_node.specs.Node.{Ends, Held, IsKept, durable_in}
use Rattle.server_state.specs.State.{announced, server_of, server_with}
use Rattle.ubik_node.proofs.Decided.{decided_ends}
use Rattle.ubik_node.proofs.Endings.{ends_as, fault_is, ok_not, short_ends}

pub same_phase : (v : Version) (r : RecoveryRecord) (text : Option ReceivedText) → phase_record v (with_text r text) ≡ phase_record v r
same_phase v r text = elim r.phase as (λ (p : Phase). record_in p v (with_text r text) ≡ record_in p v r) [ phase.None ↦ refl | _ ↦ refl ]

-- another text is another text of the server
pub text_put : (v : Version) (r : RecoveryRecord) (s : Server) (text : Option ReceivedText) → recovering v (with_text r text) s ≡ record (recovering v r s) { received = text }
text_put v r s text = ap (λ (p : PhaseRecord). record s { phase = p; received = text }) (same_phase v r text)

-- a piece that was taken into the text is taken back, at each server that is as the one with the piece
pub text_restored : (st x : State) (whole : ReceivedText) (before : TextBefore) → server_of x ≡ server_with st (with_text st.recovery (Some whole))
    → text_before before (Some whole) ≡ st.recovery.text → server_with x (with_text x.recovery (text_before before x.recovery.text)) ≡ server_of st
text_restored st x whole before server back =
    let text = text_before before x.recovery.text in
    let there : x.recovery.text ≡ Some whole = ap (λ (s : Server). s.received) server in
    text_put (announced x) x.recovery (server_of x) text
    ∙ ap (λ (s : Server). record s { received = text }) (server ∙ text_put (announced st) st.recovery (server_of st) (Some whole))
    ∙ ap (λ (t : Option ReceivedText). record (server_of st) { received = t }) (ap (text_before before) there ∙ back)

-- a halted server keeps the same with another text
pub text_kept : (x : State) (text : Option ReceivedText) → halted_from (server_with x (with_text x.recovery text)) ≡ halted_from (server_of x)
text_kept x text = ap halted_from (text_put (announced x) x.recovery (server_of x) text)

module _ {D : Type 0} (g : Ghosts D) {knows : Type 0} {t : Stepped} {before after : List Output} (n : Held D) where
  -- memory ran out, and what was given out has come back
  pub short_back : (server : Server) (member : Member) → IsKept g n → n.store.failed ≡ false → server ≡ n.server → member ≡ n.member → Ends g knows t before after n (record n { server = server; member = member }) (Err NoMemory)
  short_back server member stored up same place =
      subst (λ (s : Server). Ends g knows t before after n (record n { server = s; member = member }) (Err NoMemory)) (sym same)
      (subst (λ (m : Member). Ends g knows t before after n (record n { member = m }) (Err NoMemory)) (sym place) (short_ends g n stored up))

  module _ (mid : Server) (place : Member) (durable : durable_in mid ≡ durable_in n.server) (at : place ≡ n.member) (m : Held D) where
    -- a rule that was made at another server of the same database
    pub made_from : Ends g knows t before after (record n { server = mid; member = place }) m (Ok tt) → Ends g knows t before after n m (Ok tt)
    made_from ends = decided_ends g n mid place (Ok tt) refl (λ known. known) durable at (λ failed. absurd (ok_not tt failed)) tt ends

    -- or was not, and then the server comes back
    pub failed_from : (server : Server) (member : Member) (e : StoreFault) → (e ≢ DiskFault → server ≡ n.server) → (e ≡ DiskFault → halted_from server ≡ halted_from n.server) → member ≡ n.member → Ends g knows t before after (record n { server = mid; member = place }) m (Err e)
        → Ends g knows t before after n (record m { server = server; member = member }) (Err e)
    failed_from server member e same keeps here ends = record {
      made = λ known. tt;
      failed = λ known failed. subst (λ (d : Durable). FailsIn g d n.store.disk m.store.disk t.calls) durable (ends.failed known failed);
      leaves = ends.leaves;
      state = same;
      keeps = λ failed. keeps (fault_is e failed);
      last = ends.last;
      member = here;
    }

module _ {D : Type 0} (g : Ghosts D) {knows : Type 0} {t u : Stepped} {before after first final : List Output} (n m : Held D) (same : u.calls ≡ t.calls) where
  -- a rule with the durable calls of another one fails as that does
  pub fails_so : (e : StoreFault) → Ends g knows t before after n m (Err e) → Ends g knows u first final n m (Err e)
  fails_so e ends =
      ends_as g (λ known. tt) (λ known failed. subst (λ (calls : List Made). FailsIn g (durable_in n.server) n.store.disk m.store.disk calls) (sym same) (ends.failed known failed)) ends

  -- a rule that goes on without the disk
  pub goes_on : (server : Server) (member : Member) → member ≡ m.member → (t.server ≡ m.server → (u.server ≡ server) × (final ≡ first ++ outputs_of u.shown))
      → Ends g knows t before after n m (Ok tt) → Ends g knows u first final n (record m { server = server; member = member }) (Ok tt)
  goes_on server member here shows ends = record {
    made = λ known.
        let one = ends.made known in
        let shown = shows one.server in
        record { server = shown.0; outputs = shown.1; disk = subst (λ (calls : List Made). Serves g (durable_in n.server) n.store.disk m.store.disk calls) (sym same) one.disk };
    failed = λ known failed. subst (λ (calls : List Made). FailsIn g (durable_in n.server) n.store.disk m.store.disk calls) (sym same) (ends.failed known failed);
    leaves = ends.leaves;
    state = tt;
    keeps = λ failed. absurd (ok_not tt failed);
    last = ends.last;
    member = here ∙ ends.member;
  }
