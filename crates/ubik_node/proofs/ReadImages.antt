-- The image of a store that is lent, after a read of it.
use Rattle.std.proofs.Common.{◌≡◌, ◌∙◌, Bool, true, false, Option, refl, sym, ap, subst}
use Rattle.std.specs.Prelude.{Result, Ok, Err, OnOk, IfErr, IsErrOf}
use Rattle.std.proofs.lemmas.Bool.{false≢true}
use Rattle.disk_base.specs.declared.disks.Disk.{Ghosts}
use Rattle.disk_base.specs.Files.{Files}
use Rattle.disk_base.specs.Runs.{OnlyReads}
use Rattle.disk_base.proofs.Runs.{reads_as, reads_joined}
use Rattle.ubik_store.specs.declared.faults.StoreFault.{StoreFault}
use Rattle.ubik_store.specs.declared.faults.StoreFault.TheVariants.{DiskFault}
use Rattle.ubik_store.specs.declared.stores.Store.{Store}
use Rattle.ubik_store.specs.DurableCall.{HasFailed}
use Rattle.ubik_store.specs.Store.{StaysAsItWas, changes_begun}
use Rattle.ubik_node.specs.StoreImages.{ComesByReads, IsReadFrom, Lent, told_image}

-- what a read says of its store
pub record IsRead {D A : Type 0} (g : Ghosts D) (old new : Store D) (r : Result A StoreFault) : Type 0 where
  pub same : OnOk r (StaysAsItWas old new)
  pub kept : changes_begun new.begun ≡ changes_begun old.begun
  pub fault : IfErr r (λ fault. (fault ≡ DiskFault) × HasFailed old new)
  pub rests : old.failed ≡ true → (new ≡ old) × IsErrOf r DiskFault
  pub disk : old.failed ≡ false → OnlyReads g old.disk new.disk (IsErrOf r DiskFault)

-- how a store's version, length and mark of a failure go on in a read
record GoesOn {D A : Type 0} (old new : Store D) (r : Result A StoreFault) : Type 0 where
  version : new.version ≡ old.version
  len : new.len ≡ old.len
  to : IsErrOf r DiskFault → new.failed ≡ true
  from : new.failed ≡ true → old.failed ≡ false → IsErrOf r DiskFault

goes_on : {D A : Type 0} (g : Ghosts D) (old new : Store D) (r : Result A StoreFault) → IsRead g old new r → GoesOn old new r
goes_on g old new (Ok v) read = record {
  version = read.same.version;
  len = read.same.len;
  to = λ is. absurd (cc);
  from = λ failed fresh. absurd (false≢true (sym fresh ∙ sym read.same.failed ∙ failed));
}
goes_on g old new (Err why) read = record {
  version = read.fault.1.version;
  len = read.fault.1.len;
  to = λ _. read.fault.1.failed;
  from = λ _ _. ap Err read.fault.0;
}

pub read_comes : {D A : Type 0} (g : Ghosts D) (old new : Lent D) (r : Result A StoreFault) → new.store.ghost_name ≡ old.store.ghost_name
    → IsRead g old.store.now new.store.now r → ComesByReads g old new
read_comes g old new r name read = record { name = name; reads = λ s is. by s is old.store.now.failed refl }
  where
    goes : GoesOn old.store.now new.store.now r
    goes = goes_on g old.store.now new.store.now r read

    disk : (s : Store _) → IsReadFrom g s old → (b : Bool) → old.store.now.failed ≡ b → OnlyReads g s.disk new.store.now.disk (new.store.now.failed ≡ true)
    disk s is true failed = subst (λ (t : Store _). OnlyReads g s.disk t.disk (t.failed ≡ true)) (sym (read.rests failed).0) is.reads
    disk s is false fresh = reads_as goes.to (λ failed. goes.from failed fresh)
        (reads_joined is.reads (λ failed. false≢true (sym fresh ∙ failed)) (read.disk fresh))

    by : (s : Store _) → IsReadFrom g s old → (b : Bool) → old.store.now.failed ≡ b → IsReadFrom g s new
    by s is b at = record {
      version = goes.version ∙ is.version;
      len = goes.len ∙ is.len;
      begun = read.kept ∙ is.begun;
      reads = disk s is b at;
    }

-- the image that a disk tells stays, also where the read failed
pub told_stays : {D A : Type 0} (g : Ghosts D) (old new : Store D) (r : Result A StoreFault) → IsRead g old new r
    → told_image (g.tells new.disk) (g.files new.disk) ≡ told_image (g.tells old.disk) (g.files old.disk)
told_stays g old new r read = by old.failed refl
  where
    told : (b : Bool) → g.tells old.disk ≡ b → OnlyReads g old.disk new.disk (IsErrOf r DiskFault)
        → told_image (g.tells new.disk) (g.files new.disk) ≡ told_image (g.tells old.disk) (g.files old.disk)
    told true tells reads = ap (λ (t : Bool). told_image t (g.files new.disk)) reads.tells
        ∙ ap (λ (fs : Option Files). told_image (g.tells old.disk) fs) (reads.kept (g.tells_pending old.disk tells))
    told false tells reads = ap (λ (t : Bool). told_image t (g.files new.disk)) (reads.tells ∙ tells)
        ∙ sym (ap (λ (t : Bool). told_image t (g.files old.disk)) tells)

    by : (b : Bool) → old.failed ≡ b → told_image (g.tells new.disk) (g.files new.disk) ≡ told_image (g.tells old.disk) (g.files old.disk)
    by true failed = ap (λ (s : Store _). told_image (g.tells s.disk) (g.files s.disk)) (read.rests failed).0
    by false fresh = told (g.tells old.disk) refl (read.disk fresh)
