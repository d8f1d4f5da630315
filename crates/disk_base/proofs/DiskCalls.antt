-- What the calls of a disk in memory do to what a crash may leave of its files.
use Rattle.std.proofs.Common.{◌≡◌, Result, Ok, Err, OnOk, OnErr, ℕ, ◌≤◌, List, [], length, subst, sym, ap, ◌∙◌, refl, arith}
use Rattle.std.proofs.lemmas.List.{ext_get_or}
use Rattle.disk_base.specs.declared.disks.FileNo.{FileNo}
use Rattle.disk_base.specs.declared.disks.FileNo.TheVariants.{Database, Log, Incoming}
use Rattle.disk_base.specs.declared.disks.Fill.{Fill}
use Rattle.disk_base.specs.declared.disks.Fill.TheVariants.{Old, New, Byte}
use Rattle.disk_base.specs.declared.memory_files.MemFile.{MemFile}
use Rattle.disk_base.specs.declared.memory_disks.MemFiles.{MemFiles}
use Rattle.disk_base.specs.declared.touches.Touch.{Touch}
use Rattle.disk_base.specs.declared.touches.Touch.TheVariants.{Wrote, Cut}
use Rattle.disk_base.specs.Files.{Files, file_of, with_file}
use Rattle.disk_base.specs.Crash.{Torn, CutShort, InFile, Follows, LeavesOthers, Only, OnlyIn}
use Rattle.disk_base.specs.Touches.{MayBe}
use Rattle.disk_base.specs.MemFile.{content_of, synced_of, touches_of, state_in}
use Rattle.disk_base.specs.Stops.{IsLeft, IsLeftBy}
use Rattle.disk_base.specs.Pending.{FileState, Pending, MayLeave, file_state, with_state, touched, at_rest, all_at_rest}
use Rattle.disk_base.specs.MemDisk.{now_in, pending_in}
use Rattle.disk_base.proofs.Touched.{MayBe-synced, MayBe-filled}
use Rattle.disk_base.proofs.Idle.{Torn-idle, CutShort-idle, Follows-idle, LeavesOthers-idle}
use Rattle.disk_base.proofs.Left.{torn-left, cut-left}

-- what may be left of a file after a call that takes each of these states to this one
unfoldable pub Steps : (List ℕ → List ℕ → Type 0) → FileState → FileState → Type 0
Steps step old new = (c : List ℕ) → MayBe new.synced new.touches c → (d : List ℕ) × MayBe old.synced old.touches d × step d c

-- a call that changes one file
pub follows : (step : List ℕ → List ℕ → Type 0) (pending : Pending) (f : FileNo) (state : FileState) → Steps step (file_state pending f) state
    → Follows (InFile f step) (MayLeave pending) (MayLeave (with_state pending f state))
unfolding Steps
follows step pending Database state steps = λ c left.
    let r = steps c.database left.database in
    (record c { database = r.0 }, record { database = r.1; log = left.log; incoming = left.incoming }, (refl, r.2))
follows step pending Log state steps = λ c left.
    let r = steps c.log left.log in
    (record c { log = r.0 }, record { database = left.database; log = r.1; incoming = left.incoming }, (refl, r.2))
follows step pending Incoming state steps = λ c left.
    let r = steps c.incoming left.incoming in
    (record c { incoming = r.0 }, record { database = left.database; log = left.log; incoming = r.1 }, (refl, r.2))

-- the bytes of a file may be left of it
may_be_of : (files : MemFiles) (f : FileNo) → MayBe (file_state (pending_in files) f).synced (file_state (pending_in files) f).touches (file_of (now_in files) f)
may_be_of files Database = files.database.may_be
may_be_of files Log = files.log.may_be
may_be_of files Incoming = files.incoming.may_be

write-follows : (files : MemFiles) (f : FileNo) (at len : ℕ) → at ≤ length (file_of (now_in files) f)
    → Follows (InFile f (Torn at len)) (MayLeave (pending_in files)) (MayLeave (with_state (pending_in files) f (touched (file_state (pending_in files) f) (Wrote at len))))
unfolding Steps
write-follows files f at len begins =
    let state = file_state (pending_in files) f in
    follows (Torn at len) (pending_in files) f (touched state (Wrote at len))
    (λ c left. torn-left state.synced state.touches at len c (omega (arith, begins, (may_be_of files f).no_longer)) left)

cut-follows : (files : MemFiles) (f : FileNo) (len : ℕ)
    → Follows (InFile f (CutShort len)) (MayLeave (pending_in files)) (MayLeave (with_state (pending_in files) f (touched (file_state (pending_in files) f) (Cut len))))
unfolding Steps
cut-follows files f len =
    let state = file_state (pending_in files) f in
    follows (CutShort len) (pending_in files) f (touched state (Cut len))
    (λ c left. cut-left state.synced state.touches len c left)

-- a call that is done, or finds no memory
module _ (step : List ℕ → List ℕ → Type 0) (idle : (bytes : List ℕ) → step bytes bytes) (touch : Touch) (f : FileNo) where
  done_or_not : (old new : MemFiles) {T E : Type 0} (result : Result T E)
      → Follows (InFile f step) (MayLeave (pending_in old)) (MayLeave (with_state (pending_in old) f (touched (file_state (pending_in old) f) touch)))
      → OnOk result (pending_in new ≡ with_state (pending_in old) f (touched (file_state (pending_in old) f) touch))
      → OnErr result (pending_in new ≡ pending_in old)
      → Follows (InFile f step) (MayLeave (pending_in old)) (MayLeave (pending_in new))
  done_or_not old new (Ok v) done is same =
      subst (λ (m : Pending). Follows (InFile f step) (MayLeave (pending_in old)) (MayLeave m)) (sym is) done
  done_or_not old new (Err e) done is same =
      subst (λ (m : Pending). Follows (InFile f step) (MayLeave (pending_in old)) (MayLeave m)) (sym same) (Follows-idle step idle (MayLeave (pending_in old)) f)

  called : (old begun new : MemFiles) {T E : Type 0} (result : Result T E)
      → Follows (InFile f step) (MayLeave (pending_in old)) (MayLeave (with_state (pending_in old) f (touched (file_state (pending_in old) f) touch)))
      → begun ≡ old
      → OnOk result (pending_in new ≡ with_state (pending_in begun) f (touched (file_state (pending_in begun) f) touch))
      → OnErr result (pending_in new ≡ pending_in begun)
      → Follows (InFile f step) (MayLeave (pending_in old)) (MayLeave (pending_in new))
  called old begun new result done same ok err =
      done_or_not old new result done
      (subst (λ (x : MemFiles). OnOk result (pending_in new ≡ with_state (pending_in x) f (touched (file_state (pending_in x) f) touch))) same ok)
      (subst (λ (x : MemFiles). OnErr result (pending_in new ≡ pending_in x)) same err)

pub Follows-write : (old begun new : MemFiles) (f : FileNo) (at len : ℕ) {T E : Type 0} (result : Result T E) → at ≤ length (file_of (now_in old) f) → begun ≡ old
    → OnOk result (pending_in new ≡ with_state (pending_in begun) f (touched (file_state (pending_in begun) f) (Wrote at len)))
    → OnErr result (pending_in new ≡ pending_in begun)
    → Follows (InFile f (Torn at len)) (MayLeave (pending_in old)) (MayLeave (pending_in new))
Follows-write old begun new f at len result begins same ok err =
    called (Torn at len) (Torn-idle at len) (Wrote at len) f old begun new result (write-follows old f at len begins) same ok err

pub Follows-cut : (old begun new : MemFiles) (f : FileNo) (len : ℕ) {T E : Type 0} (result : Result T E) → begun ≡ old
    → OnOk result (pending_in new ≡ with_state (pending_in begun) f (touched (file_state (pending_in begun) f) (Cut len)))
    → OnErr result (pending_in new ≡ pending_in begun)
    → Follows (InFile f (CutShort len)) (MayLeave (pending_in old)) (MayLeave (pending_in new))
Follows-cut old begun new f len result same ok err =
    called (CutShort len) (CutShort-idle len) (Cut len) f old begun new result (cut-follows old f len) same ok err

-- another state of one file, of which something may be left, as before
pub others : (pending : Pending) (f : FileNo) (state : FileState) → LeavesOthers f (MayLeave pending) (MayLeave (with_state pending f state))
unfolding LeavesOthers
others pending Database state =
    let old = MayBe-synced pending.database.synced pending.database.touches in
    let new = MayBe-synced state.synced state.touches in record {
      no_more = λ c left. (record c { database = pending.database.synced }, record { database = old; log = left.log; incoming = left.incoming }, refl);
      no_less = λ d left. (record d { database = state.synced }, record { database = new; log = left.log; incoming = left.incoming }, refl);
    }
others pending Log state =
    let old = MayBe-synced pending.log.synced pending.log.touches in
    let new = MayBe-synced state.synced state.touches in record {
      no_more = λ c left. (record c { log = pending.log.synced }, record { database = left.database; log = old; incoming = left.incoming }, refl);
      no_less = λ d left. (record d { log = state.synced }, record { database = left.database; log = new; incoming = left.incoming }, refl);
    }
others pending Incoming state =
    let old = MayBe-synced pending.incoming.synced pending.incoming.touches in
    let new = MayBe-synced state.synced state.touches in record {
      no_more = λ c left. (record c { incoming = pending.incoming.synced }, record { database = left.database; log = left.log; incoming = old }, refl);
      no_less = λ d left. (record d { incoming = state.synced }, record { database = left.database; log = left.log; incoming = new }, refl);
    }

-- a call that did not begin
pub others-failed : (old begun : MemFiles) (f : FileNo) → begun ≡ old → LeavesOthers f (MayLeave (pending_in old)) (MayLeave (pending_in begun))
others-failed old begun f same =
    subst (λ (x : MemFiles). LeavesOthers f (MayLeave (pending_in old)) (MayLeave (pending_in x))) (sym same) (LeavesOthers-idle (MayLeave (pending_in old)) f)

-- a call that is done
pub others-done : (old begun new : MemFiles) (f : FileNo) (state : FileState) → begun ≡ old → pending_in new ≡ with_state (pending_in begun) f state
    → LeavesOthers f (MayLeave (pending_in old)) (MayLeave (pending_in new))
others-done old begun new f state same is =
    subst (λ (m : Pending). LeavesOthers f (MayLeave (pending_in old)) (MayLeave m))
    (ap (λ (x : MemFiles). with_state (pending_in x) f state) (sym same) ∙ sym is)
    (others (pending_in old) f state)

-- a call that is done, or finds no memory
pub others-called : (old begun new : MemFiles) (f : FileNo) (state : FileState) {T E : Type 0} (result : Result T E) → begun ≡ old
    → OnOk result (pending_in new ≡ with_state (pending_in begun) f state) → OnErr result (pending_in new ≡ pending_in begun)
    → LeavesOthers f (MayLeave (pending_in old)) (MayLeave (pending_in new))
others-called old begun new f state (Ok v) same is err = others-done old begun new f state same is
others-called old begun new f state (Err e) same ok is =
    subst (λ (m : Pending). LeavesOthers f (MayLeave (pending_in old)) (MayLeave m)) (sym is) (others-failed old begun f same)

-- of a file at rest its bytes alone may be left
only-rest : (bytes c : List ℕ) → MayBe bytes [] c → c ≡ bytes
only-rest bytes c left =
    let low = left.no_shorter in
    let high = left.no_longer in
    ext_get_or 0 c bytes (omega arith) (λ k h. left.untouched k h refl)

pub only_in_rest : (pending : Pending) (f : FileNo) (bytes : List ℕ) → OnlyIn f bytes (MayLeave (with_state pending f (at_rest bytes)))
only_in_rest pending Database bytes = λ c left. only-rest bytes c.database left.database
only_in_rest pending Log bytes = λ c left. only-rest bytes c.log left.log
only_in_rest pending Incoming bytes = λ c left. only-rest bytes c.incoming left.incoming

-- a sync that was done
pub OnlyIn-synced : (old files new : MemFiles) (f : FileNo) → files ≡ old
    → pending_in new ≡ with_state (pending_in files) f (at_rest (file_of (now_in files) f))
    → OnlyIn f (file_of (now_in old) f) (MayLeave (pending_in new))
OnlyIn-synced old files new f same is =
    subst (λ (m : Pending). OnlyIn f (file_of (now_in old) f) (MayLeave m))
    (ap (λ (x : MemFiles). with_state (pending_in x) f (at_rest (file_of (now_in x) f))) (sym same) ∙ sym is)
    (only_in_rest (pending_in old) f (file_of (now_in old) f))

-- files whose three contents are the same
pub same_files : (c fs : Files) → c.database ≡ fs.database → c.log ≡ fs.log → c.incoming ≡ fs.incoming → c ≡ fs
same_files c fs database log incoming =
    ap (λ (bytes : List ℕ). with_file c Database bytes) database
    ∙ ap (λ (bytes : List ℕ). with_file (with_file c Database fs.database) Log bytes) log
    ∙ ap (λ (bytes : List ℕ). with_file fs Incoming bytes) incoming

pub Only-rest : (fs : Files) → Only fs (MayLeave (all_at_rest fs))
Only-rest fs = λ c left.
    same_files c fs (only-rest fs.database c.database left.database) (only-rest fs.log c.log left.log)
    (only-rest fs.incoming c.incoming left.incoming)

-- what a stop leaves of a file may be left of it
left-by : (fill : Fill) (file : MemFile) (after : List ℕ) → IsLeft fill (state_in file) (content_of file) after → MayBe (synced_of file) (touches_of file) after
left-by Old file after is = subst (MayBe (synced_of file) (touches_of file)) (sym is) (MayBe-synced (synced_of file) (touches_of file))
left-by New file after is = subst (MayBe (synced_of file) (touches_of file)) (sym is) file.may_be
left-by (Byte byte) file after is = MayBe-filled byte (synced_of file) (touches_of file) (content_of file) after file.may_be is

MayLeave-left : (fill : Fill) (files : MemFiles) (after : Files) → IsLeftBy fill (pending_in files) (now_in files) after → MayLeave (pending_in files) after
MayLeave-left fill files after is = record {
  database = left-by fill files.database after.database is.database;
  log = left-by fill files.log after.log is.log;
  incoming = left-by fill files.incoming after.incoming is.incoming;
}

-- what a stop leaves, and what a crash may leave once it is all synced
pub left-alone : (fill : Fill) (old new : MemFiles) → IsLeftBy fill (pending_in old) (now_in old) (now_in new) → pending_in new ≡ all_at_rest (now_in new)
    → MayLeave (pending_in old) (now_in new) × Only (now_in new) (MayLeave (pending_in new))
left-alone fill old new left rest =
    (MayLeave-left fill old (now_in new) left, subst (λ (m : Pending). Only (now_in new) (MayLeave m)) (sym rest) (Only-rest (now_in new)))
