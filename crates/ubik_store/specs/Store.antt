-- A store as those see it who use it: a version and an image, changes begun or none, failed or not; and what it keeps to be that (own).
use Rattle.std.specs.Prelude.{◌≡◌, ◌+◌, ◌-◌, ◌^◌, ◌<◌, ◌≤◌, ℕ, min, true, false, List, [], ◌∷◌, ◌++◌, length, Option, Some, None, IfSome, Result, Ok, Err}
use Rattle.std.specs.List.{All}
use Rattle.std.specs.Option.{option_map}
use Rattle.ubik_types.specs.declared.images.Change.{Change}
use Rattle.ubik_types.specs.declared.images.Change.TheVariants.{Put, Cut}
use Rattle.ubik_types.specs.declared.limits.TheConstants.{MAX_CHANGES, MAX_IMAGE}
use Rattle.ubik_types.specs.declared.versions.Version.{Version}
use Rattle.ubik_types.specs.Logged.{logged, too_large}
use Rattle.ubik_types.specs.Version.{IsVersion, version_lt}
use Rattle.disk_base.specs.declared.disks.Disk.{Ghosts}
use Rattle.disk_base.specs.Crash.{IsSettled}
use Rattle.disk_base.specs.Files.{Files}
use Rattle.disk_base.specs.Stops.{IsStopped}
use Rattle.page_file.specs.Pages.{AgreesIn, image_of}
use Rattle.ubik_log.specs.LogGrammar.{IsWithinImage}
use Rattle.ubik_store.specs.declared.faults.StoreFault.{StoreFault}
use Rattle.ubik_store.specs.declared.faults.StoreFault.TheVariants.{DiskFault, BadLabel, TooLarge, NotNewer, NoMemory}
use Rattle.ubik_store.specs.declared.stores.Store.{Store}
use Rattle.ubik_store.specs.declared.transactions.Transaction.{Transaction}
use Rattle.ubik_store.specs.Redo.{len_after, IsSeamless}
use Rattle.ubik_store.specs.Rest.{IsAtRest}

-- how many bytes these changes put
abbrev pub put_bytes : List Change → ℕ
put_bytes [] = 0
put_bytes (Put at bytes ∷ changes) = length bytes + put_bytes changes
put_bytes (Cut to ∷ changes) = put_bytes changes

-- the image, where the disk tells its files
abbrev pub image_in : Option Files → Option (List ℕ)
image_in files = option_map (λ fs. image_of fs.database) files

-- the changes that were begun, in their order; none where none were
abbrev pub changes_begun : Option Transaction → Option (List Change)
changes_begun begun = option_map (λ t. t.changes) begun

-- changes begun over an image of a length: they leave no gap and go past no limit, and their sums are these
pub record IsBegunOver (before : ℕ) (t : Transaction) : Type 0 where
  pub start : t.start ≡ before
  pub seamless : IsSeamless before t.changes
  pub within : All IsWithinImage t.changes
  pub len : t.len ≡ len_after before t.changes
  pub sum : t.sum ≡ put_bytes t.changes
  pub few : t.sum ≤ MAX_CHANGES
  pub not_long : t.len ≤ MAX_IMAGE

-- The disk of a store that did not fail: its files are at rest, the pages agree with them, and nothing is pending.
pub record IsReady {D : Type 0} (g : Ghosts D) (s : Store D) : Type 0 where
  pub agrees : AgreesIn s.pages (g.files s.disk)
  pub label : s.pages.version ≡ Some s.version
  pub len : s.pages.len ≡ s.len
  pub rests : IfSome (g.files s.disk) (λ fs. IsAtRest s.version (image_of fs.database) fs)
  pub settled : IsSettled (g.files s.disk) (g.may_leave s.disk)
  pub runs : ¬ IsStopped (g.stop s.disk)

-- what a store keeps
pub record IsSound {D : Type 0} (g : Ghosts D) (s : Store D) : Type 0 where
  pub version : IsVersion s.version
  pub len : s.len ≤ MAX_IMAGE
  pub ready : s.failed ≡ false → IsReady g s
  pub begun : IfSome s.begun (IsBegunOver s.len)

-- version, length, changes begun and the mark of a failure stay
pub record StaysAsItWas {D : Type 0} (old new : Store D) : Type 0 where
  pub version : new.version ≡ old.version
  pub len : new.len ≡ old.len
  pub begun : changes_begun new.begun ≡ changes_begun old.begun
  pub failed : new.failed ≡ old.failed

-- a put is refused: with the number of bytes with which it passes a limit or, where it passes none, for want of memory
abbrev pub IsPutFault : (sum len : ℕ) → Change → StoreFault → Type 0
IsPutFault sum len change DiskFault = ⊥
IsPutFault sum len change (BadLabel bytes head) = ⊥
IsPutFault sum len change (TooLarge bytes) = too_large sum len (change ∷ []) ≡ Some bytes
IsPutFault sum len change (NotNewer own given) = ⊥
IsPutFault sum len change NoMemory = too_large sum len (change ∷ []) ≡ None

-- all but the changes that were begun stays
pub record SameButBegun {D : Type 0} (old new : Store D) : Type 0 where
  pub disk : new.disk ≡ old.disk
  pub version : new.version ≡ old.version
  pub len : new.len ≡ old.len
  pub failed : new.failed ≡ old.failed

-- a change was added to those that were begun, without a gap and not past the end
abbrev pub Adds : Change → (before after : Option Transaction) → Type 0
Adds change None after = ⊥
Adds change (Some before) after = changes_begun after ≡ Some (before.changes ++ logged before.len (change ∷ []))

-- a change is not added: the store has failed, or a limit would be passed, or memory ran out
abbrev pub IsPutRefused : {D : Type 0} → Store D → Change → StoreFault → Type 0
IsPutRefused s change DiskFault = s.failed ≡ true
IsPutRefused s change (BadLabel len head) = ⊥
IsPutRefused s change (TooLarge bytes) = IfSome s.begun (λ t. too_large t.sum t.len (change ∷ []) ≡ Some bytes)
IsPutRefused s change (NotNewer own given) = ⊥
IsPutRefused s change NoMemory = IfSome s.begun (λ t. too_large t.sum t.len (change ∷ []) ≡ None)

-- an image of so many bytes is too long
abbrev pub IsTooLong : List ℕ → ℕ → Type 0
IsTooLong image bytes = (MAX_IMAGE < length image) × (bytes ≡ length image)

-- a durable call under this version is refused at once: the store has failed, or the version is not newer
abbrev pub IsForbidden : {D : Type 0} → Store D → Version → StoreFault → Type 0
IsForbidden s v DiskFault = s.failed ≡ true
IsForbidden s v (BadLabel len head) = ⊥
IsForbidden s v (TooLarge bytes) = ⊥
IsForbidden s v (NotNewer own given) = (own ≡ s.version) × (given ≡ v) × (s.failed ≡ false) × (version_lt s.version v ≡ false)
IsForbidden s v NoMemory = ⊥

-- so is an image of so many bytes, which may be too long
abbrev pub IsImageForbidden : {D : Type 0} → Store D → ℕ → Version → StoreFault → Type 0
IsImageForbidden s long v (TooLarge bytes) = (MAX_IMAGE < long) × (bytes ≡ long)
IsImageForbidden s long v DiskFault = s.failed ≡ true
IsImageForbidden s long v (BadLabel len head) = ⊥
IsImageForbidden s long v (NotNewer own given) = (own ≡ s.version) × (given ≡ v) × (version_lt s.version v ≡ false)
IsImageForbidden s long v NoMemory = ⊥

-- how a store takes over the end of a durable call under this version: version and length after it, or the mark of a failure
abbrev pub taken_over : {D : Type 0} → Version → Store D → Result (Unit {0}) StoreFault → Store D
taken_over v s (Ok done) = record s { version = v; len = min s.pages.len (2 ^ 32 - 1); begun = None }
taken_over v s (Err DiskFault) = record s { failed = true }
taken_over v s (Err (BadLabel len head)) = s
taken_over v s (Err (TooLarge bytes)) = s
taken_over v s (Err (NotNewer own given)) = s
taken_over v s (Err NoMemory) = s
