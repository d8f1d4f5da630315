-- How a call ends that only reads an image.
use Rattle.std.proofs.Common.{◌≡◌, ◌++◌, ◌⊎◌, ◌↔◌, inl, inr, ℕ, false, List, [], ◌∷◌, Option, Some, None, IfOk, IfSome, IsSome, IsErrOf, IsOk, Result, Ok, Err, refl, sym, ap, subst, ◌∙◌}
use Rattle.std.specs.Option.{option_map}
use Rattle.std.specs.Prelude.{true, OnOk}
use Rattle.std.proofs.lemmas.Bool.{false≢true}
use Rattle.disk_base.specs.declared.disks.Disk.{Ghosts}
use Rattle.disk_base.specs.Files.{Files}
use Rattle.disk_base.specs.Runs.{OnlyReads}
use Rattle.db_image.specs.declared.services.CallReply.{CallReply}
use Rattle.db_image.specs.Standing.{Standing}
use Rattle.ubik_calls.specs.declared.replies.Reply.{Reply}
use Rattle.ubik_calls.specs.declared.replies.Reply.TheVariants as reply
use Rattle.ubik_store.specs.declared.faults.StoreFault.{StoreFault}
use Rattle.ubik_store.specs.declared.faults.StoreFault.TheVariants.{DiskFault}
use Rattle.ubik_store.specs.declared.stores.Store.{Store}
use Rattle.ubik_store.specs.DurableCall.{HasFailed}
use Rattle.ubik_store.specs.Store.{StaysAsItWas, image_in}
use Rattle.cell_model.specs.declared.events.Output.{Output}
use Rattle.cell_model.specs.declared.events.Output.TheVariants as output
use Rattle.cell_model.specs.Asks.{read_reply}
use Rattle.cell_model.specs.Evaluating.{Evaluated, MayCome, outcome_told}
use Rattle.cell_model.specs.Node.{Flight, Server}
use Rattle.cell_model.specs.Step.{Evaluation, Stepped}
use Rattle.site_writes.specs.OwnWrite.{OwnRecord}
use Rattle.ubik_node.specs.declared.evaluations.Evaluation as code
use Rattle.ubik_node.specs.Choices.{none_chosen}
use Rattle.ubik_node.specs.Evaluation.{IsOutcome}
use Rattle.ubik_node.specs.Node.{Held, IsKept}
use Rattle.ubik_node.specs.Serving.{IsReadReply, ReadsFrom}
use Rattle.server_state.specs.State.{ShowsBehind}
use Rattle.ubik_node.proofs.Durables.{IsThere}
use Rattle.ubik_node.proofs.Evaluated.{one_chosen}
use Rattle.ubik_node.proofs.Endings.{failed_ends, ok_not, read_ends}

-- what is told of an evaluation over an image that comes from the one in the files
pub made_from : (d : Standing) (one : Option Evaluated) (files : Option Files) (change : List ℕ → List ℕ) (own image : List ℕ) (now : ℕ) (call : List ℕ) (e : code.Evaluation) → IsSome files → IsThere own (image_in files)
    → change own ≡ image → IfSome (option_map change (image_in files)) (λ bytes. IsOutcome d bytes (outcome_told one d.database bytes now call) e) → IsOutcome d image (outcome_told one d.database image now call) e
made_from d one None change own image now call e tells there leads made = absurd (false≢true tells)
made_from d one (Some fs) change own image now call e tells there leads made =
    subst (λ (bytes : List ℕ). IsOutcome d bytes (outcome_told one d.database bytes now call) e) (ap change there ∙ leads) made

-- so of its reply, if it was made
pub replied_as : {E : Type 0} (d : Standing) (one : Option Evaluated) (image : List ℕ) (now : ℕ) (call : List ℕ) (read : Option (List ℕ)) (r : Result code.Evaluation E)
    → ((e : code.Evaluation) → IfSome read (λ bytes. IsOutcome d bytes (outcome_told one d.database bytes now call) e) → IsOutcome d image (outcome_told one d.database image now call) e)
    → IfOk r (λ e. IfSome read (λ bytes. IsOutcome d bytes (outcome_told one d.database bytes now call) e)) → IfOk r (λ e. e.reply ≡ (outcome_told one d.database image now call).reply)
replied_as d one image now call read (Ok e) so made = (so e made).reply
replied_as d one image now call read (Err why) so made = tt

module _ {D : Type 0} (g : Ghosts D) (d : Standing) (n : Held D) (s : Store D) (was : IsKept g n) (up : n.store.failed ≡ false) (image : List ℕ) (now id : ℕ) (call : List ℕ) (before after : List Output) (one : Option Evaluated) (may : IfSome one (MayCome d)) where
  answered : {F : Type 0} (e : code.Evaluation) (told : Reply) → StaysAsItWas n.store s → OnlyReads g n.store.disk s.disk F → ¬ F → (IsSome (g.files n.store.disk) → e.reply ≡ (outcome_told one d.database image now call).reply)
      → after ≡ before ++ output.Reply id told ∷ [] → IsReadReply (Ok e) told → ReadsFrom g d n (record n { store = s }) image now id call before after (Ok tt)
  answered e told stays reads went outcome put says = (
    one_chosen d one may [],
    λ basis.
        let on : Evaluation = record { call = call; moment = now; basis = basis } in
        read_ends g n (record n { store = s }) refl refl was up reads went (stays.failed ∙ up) refl (λ meant. (
          refl,
          put ∙ ap (λ (o : Output). before ++ o ∷ []) (sym (says id on) ∙ ap (λ (r : CallReply). (read_reply id on r).output) (outcome meant)),
        )),
  )

  -- it found no memory
  short_answered : {F : Type 0} → StaysAsItWas n.store s → OnlyReads g n.store.disk s.disk F → ¬ F → after ≡ before ++ output.Reply id reply.NoMemory ∷ [] → ReadsFrom g d n (record n { store = s }) image now id call before after (Ok tt)
  short_answered stays reads went put = (one_chosen d None tt (true ∷ []), λ basis. read_ends g n (record n { store = s }) refl refl was up reads went (stays.failed ∙ up) refl (λ meant. (refl, put)))

  -- the disk failed
  unanswered : {F : Type 0} → HasFailed n.store s → OnlyReads g n.store.disk s.disk F → F → ReadsFrom g d n (record n { store = s }) image now id call before after (Err DiskFault)
  unanswered has reads failed = (
    none_chosen d,
    λ basis.
        failed_ends g n (record n { store = s }) refl refl DiskFault (inl refl) was up reads (λ _. refl) (λ _. failed) (λ other. absurd (other refl)) (λ _. has.failed) refl,
  )

  pub read_ended : (made : Result code.Evaluation StoreFault) (r : Result (Unit {0}) StoreFault) → (¬ IsErrOf made DiskFault → StaysAsItWas n.store s) → (IsErrOf made DiskFault → HasFailed n.store s) → OnlyReads g n.store.disk s.disk (IsErrOf made DiskFault)
      → (IsSome (g.files n.store.disk) → IfOk made (λ e. e.reply ≡ (outcome_told one d.database image now call).reply)) → (IsErrOf r DiskFault ↔ IsErrOf made DiskFault) → IsErrOf r DiskFault ⊎ IsOk r
      → OnOk r ((told : Reply) × (after ≡ before ++ output.Reply id told ∷ []) × IsReadReply made told) → ReadsFrom g d n (record n { store = s }) image now id call before after r
  read_ended (Ok e) (Ok done) stays failed reads outcome fault memory told = answered e told.0 (stays (λ is. ok_not e is)) reads (λ is. ok_not e is) outcome told.1 told.2
  read_ended (Ok e) (Err why) stays failed reads outcome fault memory told = absurd (elim memory [ inl is ↦ ok_not e (fault.0 is) | inr ok ↦ false≢true ok ])
  read_ended (Err why) (Ok done) stays failed reads outcome fault memory told =
      short_answered (stays (λ is. ok_not done (fault.1 is))) reads (λ is. ok_not done (fault.1 is)) (told.1 ∙ ap (λ (r : Reply). before ++ output.Reply id r ∷ []) told.2)
  read_ended (Err why) (Err other) stays failed reads outcome fault memory told = elim memory [
    | inl is ↦ subst (λ (r : Result (Unit {0}) StoreFault). ReadsFrom g d n (record n { store = s }) image now id call before after r) (sym is) (unanswered (failed (fault.0 is)) reads (fault.0 is))
    | inr ok ↦ absurd (false≢true ok)
  ]

-- ---- the write in flight

-- a flight is there as the own write is
pub in_flight_so : (own : Option OwnRecord) → IsSome own → IsSome (option_map (λ (w : OwnRecord). w.flight) own)
in_flight_so None is = is
in_flight_so (Some w) is = refl

-- a call that was put into the line
pub line_shows : (o : Option Flight) (put : Flight → Stepped) (t : Stepped) (after : Server) (old new : List Output) → IsSome o → IfSome o (λ f. t ≡ put f) → IfSome o (λ f. ShowsBehind (put f) after old new) → ShowsBehind t after old new
line_shows None put t after old new some is shows = absurd (false≢true some)
line_shows (Some f) put t after old new some is shows = subst (λ (x : Stepped). ShowsBehind x after old new) (sym is) shows
