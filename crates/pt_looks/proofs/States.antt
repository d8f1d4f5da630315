-- What is found of a registry is said of the states over it.
use Rattle.std.proofs.Common.{◌≡◌, ℕ, true, false, List, Option, Some, None, Result, Ok, Err, IfSome, IfOk, refl, sym, ap, subst, ◌∙◌}
use Rattle.std.specs.Prelude.{is_none}
use Rattle.db_image.specs.Draft.{Drafted}
use Rattle.db_image.specs.Ends.{end_of}
use Rattle.db_image.specs.declared.draft_services.CallEnd.{CallEnd}
use Rattle.db_image.specs.declared.faults.RecordFault.{RecordFault}
use Rattle.db_image.specs.declared.images.ImageRead.{Ghosts}
use Rattle.db_blocks.specs.Ends.{OnlyLooks}
use Rattle.db_blocks.proofs.Scanned.{looks_so, looks_then}
use Rattle.prdb_layout.specs.Registry.{Registry}
use Rattle.prdb_layout.specs.State.{PrEntry}
use Rattle.prdb_lists.specs.Members.{Members}
use Rattle.prdb_finds.specs.Records.{Holds}
use Rattle.pt_service.specs.Meaning.{Refuses, Verdict, of_entry, reply_by}
use Rattle.pt_service.specs.State.{State}
use Rattle.pt_service.specs.Told.{Told}
use Rattle.pt_looks.specs.States.{HoldsRecords, IsToldOf, OfStates, members_of}

-- ---- of the registry

pub told_so : (bytes : Option (List ℕ)) (P : Registry → Type 0) → Told bytes P → OfStates bytes (λ s. P s.registry)
told_so None P told = tt
told_so (Some image) P told = λ s holds. told s.registry (members_of s) holds

pub ok_so : {X : Type 0} (r : Result X RecordFault) (bytes : Option (List ℕ)) (P : X → Registry → Type 0) → IfOk r (λ x. Told bytes (P x))
    → IfOk r (λ x. OfStates bytes (λ s. P x s.registry))
ok_so (Err fault) bytes P told = tt
ok_so (Ok x) bytes P told = told_so bytes (P x) told

-- ---- of states

pub of_all : (bytes : Option (List ℕ)) (P : State → Type 0) → ((s : State) → P s) → OfStates bytes P
of_all None P all = tt
of_all (Some image) P all = λ s holds. all s

pub of_map : (bytes : Option (List ℕ)) (P Q : State → Type 0) → ((image : List ℕ) (s : State) → HoldsRecords image s → P s → Q s)
    → OfStates bytes P → OfStates bytes Q
of_map None P Q step told = tt
of_map (Some image) P Q step told = λ s holds. step image s holds (told s holds)

pub of_both : (bytes : Option (List ℕ)) (P Q R : State → Type 0) → ((image : List ℕ) (s : State) → HoldsRecords image s → P s → Q s → R s)
    → OfStates bytes P → OfStates bytes Q
    → OfStates bytes R
of_both None P Q R step first second = tt
of_both (Some image) P Q R step first second = λ s holds. step image s holds (first s holds) (second s holds)

-- a draft of the same bytes
pub of_same : (bytes mid : Option (List ℕ)) (P : State → Type 0) → mid ≡ bytes → OfStates mid P → OfStates bytes P
of_same bytes mid P same told = subst (λ (b : Option (List ℕ)). OfStates b P) same told

-- ---- what a call tells

pub ends_so : (bytes : Option (List ℕ)) (v : State → Verdict) (w : Verdict) (ended : CallEnd) → ended ≡ end_of (reply_by w)
    → OfStates bytes (λ s. v s ≡ w) → IsToldOf bytes v ended
ends_so bytes v w ended told is =
    of_map bytes (λ s. v s ≡ w) (λ s. ended ≡ end_of (reply_by (v s)))
    (λ image s holds same. told ∙ ap (λ (x : Verdict). end_of (reply_by x)) (sym same)) is

pub ends_ok : (r : Result CallEnd RecordFault) (bytes : Option (List ℕ)) (v : State → Verdict) (w : Verdict)
    → IfOk r (λ ended. ended ≡ end_of (reply_by w))
    → OfStates bytes (λ s. v s ≡ w) → IfOk r (IsToldOf bytes v)
ends_ok (Err fault) bytes v w told is = tt
ends_ok (Ok ended) bytes v w told is = ends_so bytes v w ended told is

pub unknown_is : (o : Option PrEntry) (goes : PrEntry → Verdict) → true ≡ is_none o → of_entry o goes ≡ Refuses 267268
unknown_is None goes is = refl
unknown_is (Some e) goes is = absurd cc

pub known_is : (o : Option PrEntry) (v : Verdict) → false ≡ is_none o → of_entry o (λ e. v) ≡ v
known_is None v is = absurd cc
known_is (Some e) v is = refl

pub known_some : (o : Option PrEntry) → false ≡ is_none o → (e : PrEntry) × (o ≡ Some e)
known_some None is = absurd cc
known_some (Some e) is = (e, refl)

-- ---- of the pairs

pub pairs_ok : {X : Type 0} (r : Result X RecordFault) (bytes : Option (List ℕ)) (P : X → Registry → Members → Type 0)
    → IfOk r (λ x. IfSome bytes (λ image. (r : Registry) (m : Members) → Holds image r m → P x r m))
    → IfOk r (λ x. OfStates bytes (λ s. P x s.registry (members_of s)))
pairs_ok (Err fault) bytes P told = tt
pairs_ok (Ok x) None P told = tt
pairs_ok (Ok x) (Some image) P told = λ s holds. told s.registry (members_of s) holds

-- ---- what looks leave

pub looked_then : {I : Type 0} (g : Ghosts I) (a b c : Drafted I) (first second failed : Type 0) → OnlyLooks g a b first
    → OnlyLooks g b c second → (failed → second) → OnlyLooks g a c failed
looked_then g a b c first second failed r s so = looks_so g a c second failed (looks_then g a b c first second r s) so
