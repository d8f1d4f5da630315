-- What the database makes of a call where the disk tells the image.
use Rattle.std.proofs.Common.{◌≡◌, ◌≤◌, ℕ, false, List, [], length, Option, Some, None, Ok, IfSome, IsSome, refl, subst}
use Rattle.std.proofs.lemmas.Bool.{false≢true}
use Rattle.disk_base.specs.Files.{Files}
use Rattle.db_image.specs.declared.services.CallReply.{CallReply}
use Rattle.db_image.specs.Database.{changes_of}
use Rattle.db_image.specs.Standing.{Standing}
use Rattle.cell_model.specs.Evaluating.{Evaluated, outcome_told}
use Rattle.cell_model.specs.Step.{Member}
use Rattle.cell_model.specs.Writes.{turned, write_turn}
use Rattle.state_laws.specs.Over.{over}
use Rattle.ubik_store.specs.declared.faults.StoreFault.{StoreFault}
use Rattle.ubik_store.specs.Store.{image_in}
use Rattle.ubik_node.specs.declared.evaluations.Evaluation.{Evaluation}
use Rattle.server_state.specs.declared.state.State.{State}
use Rattle.ubik_node.specs.declared.verdicts.Verdict.{Verdict}
use Rattle.ubik_node.specs.Choices.{Choices, dbs_of}
use Rattle.ubik_node.specs.Evaluation.{IsMadeOf, IsOutcome}
use Rattle.server_state.specs.State.{server_of}
use Rattle.ubik_node.specs.Verdict.{Judges}
use Rattle.ubik_node.proofs.Durables.{IsThere}
use Rattle.ubik_node.proofs.Evaluated.{answers_of, never_less, one_chosen}

-- what is told of an evaluation over the image in the files, where the node has that image
pub made_here : (d : Standing) (one : Option Evaluated) (files : Option Files) (image : List ℕ) (now : ℕ) (call : List ℕ) (e : Evaluation) → IsSome files → IsThere image (image_in files)
    → IfSome (image_in files) (λ bytes. IsOutcome d bytes (outcome_told one d.database bytes now call) e) → IsOutcome d image (outcome_told one d.database image now call) e
made_here d one None image now call e tells there made = absurd (false≢true tells)
made_here d one (Some fs) image now call e tells there made = subst (λ (bytes : List ℕ). IsOutcome d bytes (outcome_told one d.database bytes now call) e) there made

-- what is chosen for a writing call that was evaluated, and what the verdict on it comes to where the disk tells the image
pub record Turned (d : Standing) (m : Member) (st : State) (now id : ℕ) (call : List ℕ) (tells : Type 0) (v : Verdict) : Type 0 where
  pub chosen : Choices d
  pub image : List ℕ
  pub judged : tells → Judges m (server_of st) now id call image v (write_turn (dbs_of chosen 0) m (server_of st) now id call false)

pub turned_so : (d : Standing) → ((image : List ℕ) (now : ℕ) (call : List ℕ) → length image ≤ length (d.database.call image now call).image)
    → (m : Member) (st : State) (files : Option Files) (now id : ℕ) (call : List ℕ) (e : Evaluation) (v : Verdict)
    → IsMadeOf d (image_in files) now call e
    → ((old image : List ℕ) → length old ≡ length st.image → length old ≤ length image → e.changes ≡ changes_of d.database old image → (m : Member) (now id : ℕ) (call : List ℕ)
    → Judges m (over (server_of st) old) now id call image v (turned d.database m (over (server_of st) old) now id call image e.reply))
    → IsThere st.image (image_in files) → Turned d m st now id call (IsSome files) v
turned_so d grows m st files now id call e v made judged there =
    let told = answers_of {E = StoreFault} d (image_in files) now call (Ok e) made in
    let image : List ℕ = (outcome_told told.one d.database st.image now call).image in
    record {
      chosen = one_chosen d told.one told.may [];
      image = image;
      judged = λ tells.
          let outcome = made_here d told.one files st.image now call e tells there told.says in
          subst (λ (r : CallReply). Judges m (server_of st) now id call image v (turned d.database m (server_of st) now id call image r)) outcome.reply
          (judged st.image image refl (never_less d grows told.one told.may st.image now call) outcome.changes m now id call);
    }
