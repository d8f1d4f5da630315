-- What is known of a store that was lent to an image.
use Rattle.std.proofs.Common.{◌≡◌, ◌∙◌, ℕ, Bool, true, false, List, Option, Some, None, IsSome, IfOk, refl, sym, ap, subst}
use Rattle.std.specs.Prelude.{Result, Ok, Err}
use Rattle.std.proofs.lemmas.Bool.{false≢true}
use Rattle.disk_base.specs.declared.disks.Disk.{Ghosts}
use Rattle.disk_base.specs.Files.{Files}
use Rattle.disk_base.specs.Runs.{OnlyReads}
use Rattle.disk_base.proofs.Runs.{reads_as, reads_nothing}
use Rattle.db_image.specs.Standing.{Standing}
use Rattle.ubik_store.specs.declared.faults.StoreFault.{StoreFault}
use Rattle.ubik_store.specs.declared.stores.Store.{Store}
use Rattle.ubik_store.specs.Store.{image_in}
use Rattle.ubik_node.specs.declared.evaluations.Evaluation.{Evaluation}
use Rattle.ubik_node.specs.declared.faults.ImageFault.{ImageFault}
use Rattle.ubik_node.specs.Evaluation.{IsMadeOf}
use Rattle.ubik_node.specs.StoreImages.{ComesByReads, IsReadFrom, Lent, told_image}

-- of an image that was just made nothing was read
lent_first : {D : Type 0} (g : Ghosts D) (i : Lent D) → i.store.now.failed ≡ false → IsReadFrom g i.store.now i
lent_first g i fresh = record {
  version = refl;
  len = refl;
  begun = refl;
  reads = reads_as (λ none. absurd none) (λ failed. absurd (false≢true (sym fresh ∙ failed))) (reads_nothing i.store.now.disk);
}

-- the disk of a store that is known again was only read
pub lent_reads : {D : Type 0} (g : Ghosts D) (s : Store D) (first then last : Lent D) (d : D) {F : Type 0} → ComesByReads g first then
    → first.store.now ≡ s → s.failed ≡ false → last ≡ then → last.store.now.disk ≡ d
    → (last.store.now.failed ≡ true → F) → (F → last.store.now.failed ≡ true) → OnlyReads g s.disk d F
lent_reads {D} g s first then last d {F} came begins fresh ends is to from =
    let start : IsReadFrom g s first = subst (λ (t : Store D). IsReadFrom g t first) begins (lent_first g first (ap (λ (t : Store D). t.failed) begins ∙ fresh)) in
    let done : IsReadFrom g s last = subst (λ (i : Lent D). IsReadFrom g s i) (sym ends) (came.reads s start) in
    reads_as to from (subst (λ (e : D). OnlyReads g s.disk e (last.store.now.failed ≡ true)) is done.reads)

told_made : (d : Standing) (files : Option Files) (tells : Bool) (now : ℕ) (call : List ℕ) (e : Evaluation) → (IsSome files → tells ≡ true)
    → IsMadeOf d (told_image tells files) now call e → IsMadeOf d (image_in files) now call e
told_made d None tells now call e told made = tt
told_made d (Some fs) tells now call e told made = subst (λ (b : Bool). IsMadeOf d (told_image b (Some fs)) now call e) (told refl) made

-- what is made over the image that a disk tells is so over the image in its files
pub made_in : (d : Standing) (files : Option Files) (tells : Bool) (now : ℕ) (call : List ℕ) → (IsSome files → tells ≡ true)
    → (made : Result Evaluation ImageFault) (r : Result Evaluation StoreFault) → IfOk r (λ e. made ≡ Ok e)
    → IfOk made (IsMadeOf d (told_image tells files) now call) → IfOk r (IsMadeOf d (image_in files) now call)
made_in d files tells now call told made (Err why) is over = tt
made_in d files tells now call told made (Ok e) is over =
    told_made d files tells now call e told (subst (λ (m : Result Evaluation ImageFault). IfOk m (IsMadeOf d (told_image tells files) now call)) is over)
