-- What a call of its store leaves of what a node has there.
use Rattle.std.proofs.Common.{◌≡◌, ◌≢◌, ◌∙◌, ⊎_elim, ℕ, false, List, Option, Some, None, length, refl, sym, ap, subst}
use Rattle.std.proofs.lemmas.Bool.{false≢true}
use Rattle.disk_base.specs.declared.disks.Disk.{Ghosts}
use Rattle.disk_base.specs.Files.{Files}
use Rattle.disk_base.specs.Runs.{OnlyReads}
use Rattle.ubik_types.specs.declared.images.Change.{Change}
use Rattle.ubik_types.specs.declared.versions.Version.{Version}
use Rattle.ubik_store.specs.declared.faults.StoreFault.{StoreFault}
use Rattle.ubik_store.specs.declared.faults.StoreFault.TheVariants.{DiskFault}
use Rattle.ubik_store.specs.declared.stores.Store.{Store}
use Rattle.ubik_store.specs.declared.transactions.Transaction.{Transaction}
use Rattle.ubik_store.specs.DurableCall.{Commits, HasFailed, Refuses}
use Rattle.ubik_store.specs.Store.{IsSound, StaysAsItWas, changes_begun, image_in}
use Rattle.ubik_node.specs.Stored.{IsStoredAs}
use Rattle.ubik_node.proofs.Durables.{IsThere}
use Rattle.ubik_node.proofs.Endings.{disk_or}

begun_none : (begun : Option Transaction) → changes_begun begun ≡ None → begun ≡ None
begun_none None is = refl
begun_none (Some t) is = absurd cc

module _ {D : Type 0} (g : Ghosts D) {own : Version} {bytes : List ℕ} {s : Store D} (new : Store D) (sound : IsSound g new) where
  -- one that was read
  pub read_keeps : {F : Type 0} → IsStoredAs g s own bytes → StaysAsItWas s new → OnlyReads g s.disk new.disk F → ¬ F → IsStoredAs g new own bytes
  read_keeps was stays reads went =
      let up : new.failed ≡ false → s.failed ≡ false = λ runs. sym stays.failed ∙ runs in
      record {
        sound = sound;
        version = λ runs. stays.version ∙ was.version (up runs);
        len = λ runs. stays.len ∙ was.len (up runs);
        none_begun = λ runs. begun_none new.begun (stays.begun ∙ ap changes_begun (was.none_begun (up runs)));
        image = λ runs. subst (λ (files : Option Files). IsThere bytes (image_in files)) (sym (reads.files went)) (was.image (up runs));
      }

  -- one after a durable call that was made
  pub made_keeps : {changes : List Change} {v : Version} → Commits g changes v s new → own ≡ v → length bytes ≡ new.len → IsThere bytes (image_in (g.files new.disk)) → IsStoredAs g new own bytes
  made_keeps done version len there = record { sound = sound; version = λ _. done.version ∙ sym version; len = λ _. sym len; none_begun = λ _. done.begun; image = λ _. there }

  -- one after a durable call that was not made
  pub unmade_keeps : (e : StoreFault) → IsStoredAs g s own bytes → (e ≡ DiskFault → HasFailed s new) → (e ≢ DiskFault → Refuses g s new)
      → IsStoredAs g new own bytes
  unmade_keeps e was failed refused =
      ⊎_elim (λ is.
      let gone : new.failed ≡ false → ⊥ = λ runs. false≢true (sym runs ∙ (failed is).failed) in
      record { sound = sound; version = λ runs. absurd (gone runs); len = λ runs. absurd (gone runs); none_begun = λ runs. absurd (gone runs); image = λ runs. absurd (gone runs) })
      (λ other. let r = refused other in read_keeps was r.store r.disk (λ h. h)) (disk_or e)
