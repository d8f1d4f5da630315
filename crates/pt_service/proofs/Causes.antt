-- A bad record of a change: in which states it may come.
use Rattle.std.proofs.Common.{◌≡◌, ℕ, List, Option, Some, None, IfSome, Result, Ok, Err, IfErr, subst}
use Rattle.std.specs.Prelude.{IsSomeAnd}
use Rattle.db_image.specs.declared.faults.RecordFault.{RecordFault}
use Rattle.db_image.specs.declared.faults.RecordFault.TheVariants.{DiskFault, BadRecord, NoMemory}
use Rattle.prdb_layout.specs.Registry.{IsRegistry, Registry}
use Rattle.prdb_lists.specs.Members.{Members}
use Rattle.prdb_finds.specs.Ends.{HasCauseWhere, HasItsCause, HoldsSome}
use Rattle.prdb_finds.specs.Records.{Holds}
use Rattle.pt_service.specs.Told.{Told}

none_held : (made : Option (List ℕ)) (r : Registry) (m : Members) → IsSomeAnd made (λ a. Holds a r m)
    → IfSome made (λ image. HoldsSome image → ⊥) → ⊥
none_held None r m held none = held
none_held (Some a) r m held none = none (r, m, held)

cause_then : (may : Registry → Members → Type 0) (change : Registry → Registry) (bytes made : Option (List ℕ)) (f : RecordFault)
    → IfSome bytes (λ image. (r : Registry) (m : Members) → Holds image r m → may r m → IsSomeAnd made (λ a. Holds a (change r) m))
    → HasItsCause made f → HasCauseWhere may bytes f
cause_then may change bytes made DiskFault makes cause = tt
cause_then may change bytes made NoMemory makes cause = tt
cause_then may change None made (BadRecord at) makes cause = tt
cause_then may change (Some image) made (BadRecord at) makes cause = λ h.
    none_held made (change h.0) h.1 (makes h.0 h.1 h.2 h.3) cause

-- a change was made, and what came behind it has a bad record only where the image then holds nothing
pub cause_then_err : {T : Type 0} (res : Result T RecordFault) (may : Registry → Members → Type 0) (change : Registry → Registry)
    (bytes made : Option (List ℕ))
    → IfSome bytes (λ image. (r : Registry) (m : Members) → Holds image r m → may r m → IsSomeAnd made (λ a. Holds a (change r) m))
    → IfErr res (HasItsCause made) → IfErr res (HasCauseWhere may bytes)
cause_then_err (Ok x) may change bytes made makes cause = tt
cause_then_err (Err f) may change bytes made makes cause = cause_then may change bytes made f makes cause

-- what a call found out of the registry, before it made a change
pub cause_told : (may : Registry → Members → Type 0) (bytes mid : Option (List ℕ)) (f : RecordFault) → mid ≡ bytes
    → IfSome bytes (λ image. (r : Registry) (m : Members) → Holds image r m → may r m) → HasCauseWhere may mid f → HasItsCause bytes f
cause_told may bytes mid DiskFault same told cause = tt
cause_told may bytes mid NoMemory same told cause = tt
cause_told may None mid (BadRecord at) same told cause = tt
cause_told may (Some image) mid (BadRecord at) same told cause = λ h.
    let none = subst (λ (b : Option (List ℕ)). HasCauseWhere may b (BadRecord at)) same cause in
    none (h.0, h.1, h.2, told h.0 h.1 h.2)

-- one state of affairs follows from another one
pub cause_of : (may can : Registry → Members → Type 0) (bytes : Option (List ℕ)) (f : RecordFault)
    → ((r : Registry) (m : Members) → IsRegistry r → can r m → may r m) → HasCauseWhere may bytes f → HasCauseWhere can bytes f
cause_of may can bytes DiskFault so cause = tt
cause_of may can bytes NoMemory so cause = tt
cause_of may can None (BadRecord at) so cause = tt
cause_of may can (Some image) (BadRecord at) so cause = λ h. cause (h.0, h.1, h.2, so h.0 h.1 h.2.pairs.holds.valid h.3)

pub cause_of_err : {T : Type 0} (res : Result T RecordFault) (may can : Registry → Members → Type 0) (bytes : Option (List ℕ))
    → ((r : Registry) (m : Members) → IsRegistry r → can r m → may r m) → IfErr res (HasCauseWhere may bytes)
    → IfErr res (HasCauseWhere can bytes)
cause_of_err (Ok x) may can bytes so cause = tt
cause_of_err (Err f) may can bytes so cause = cause_of may can bytes f so cause

-- what is told of each registry that the bytes hold, which is a valid one
pub told_valid : (bytes : Option (List ℕ)) (P Q : Registry → Type 0) → ((r : Registry) → IsRegistry r → P r → Q r) → Told bytes P
    → Told bytes Q
told_valid None P Q step told = tt
told_valid (Some image) P Q step told = λ r m holds. step r holds.pairs.holds.valid (told r m holds)
