-- What is left of a draft once an entry has another id, and why it is not.
use Rattle.std.proofs.Common.{◌≡◌, ℕ, ℤ, pos, ◌<◌, true, List, length, Option, Some, None, IfSome, IsSome, Result, Ok, Err, OnOk, IfErr, refl, sym, ap, subst, ◌∙◌, arith}
use Rattle.std.specs.Prelude.{IsSomeAnd}
use Rattle.std.specs.Option.{option_map}
use Rattle.db_image.specs.declared.faults.RecordFault.{RecordFault}
use Rattle.db_image.specs.declared.faults.RecordFault.TheVariants.{DiskFault, BadRecord, NoMemory}
use Rattle.db_blocks.specs.Blocks.{IsWhole}
use Rattle.prdb_layout.specs.Registry.{Registry}
use Rattle.entry_scans.specs.Lists.{IsListOf}
use Rattle.prdb_lists.specs.Layout.{HoldsPairs}
use Rattle.prdb_lists.specs.Members.{Members, are_paired}
use Rattle.prdb_lists.specs.Moves.{MayMove, moved_members, moved_registry}
use Rattle.prdb_finds.specs.Ends.{HasCauseWhere, HasItsCause, HoldsSome}
use Rattle.prdb_finds.specs.Records.{AreChains, Holds, whole}
use Rattle.prdb_finds.specs.Unchained.{unchained}
use Rattle.prdb_finds.proofs.Told.{whole_same}
use Rattle.prdb_members.specs.Moves.{IsMoved, after_move}
use Rattle.prdb_turns.specs.Ends.{Leaves}
use Rattle.prdb_turns.specs.Owners.{AreItsOwn, MayGive, after_gives, with_owners}
use Rattle.prdb_turns.specs.Renumbering.{IsRenumbered, MayRenumber, after_renumber, moved_back, renumbered}
use Rattle.prdb_turns.proofs.Owned.{one_own}
use Rattle.prdb_turns.proofs.Refits.{some_at}
use Rattle.prdb_turns.proofs.Left.{left, may_leave}
use Rattle.prdb_turns.proofs.Renumbered.{IsMoving, between, end_is, may_come, may_move, renumber_keeps, there}

-- ---- the first image in place of none

whole_some : (image : List ℕ) (r : Registry) (m : Members) → Holds image r m → 0 < length (whole image)
whole_some image r m h = omega (arith, h.size)

pub whole_holds : (image : List ℕ) (r : Registry) (m : Members) → Holds image r m → Holds (whole image) r m
whole_holds image r m h =
    let same = sym (whole_same (whole image) (whole_some image r m h)) in
    record {
      size = subst (IsWhole 2112) same h.size;
      pairs = subst (λ (i : List ℕ). HoldsPairs (unchained i) r m) same h.pairs;
      chains = subst AreChains same h.chains;
    }

-- ---- what the steps are given

-- of each state that the first bytes hold
abbrev pub InRenumber : Option (List ℕ) → (old new : ℤ) → ((image : List ℕ) → (r : Registry) → (m : Members) → Type 0) → Type 0
InRenumber bytes old new says =
    IfSome bytes (λ image. (r : Registry) (m : Members) → Holds image r m → MayRenumber old new r → says image r m)

abbrev pub FindsIts : Option (List ℕ) → ℤ → List ℤ → Type 0
FindsIts bytes old its =
    IfSome bytes
    (λ image. (r : Registry) (m : Members) → Holds image r m → IsSome (r.entry old) → 0 < length image → AreItsOwn image r old its)

abbrev pub Gives : (bytes after : Option (List ℕ)) → List ℤ → (owner : ℤ) → Type 0
Gives bytes after ids owner = Leaves bytes (λ r m. MayGive ids owner r) (after_gives owner ids) after

abbrev pub GivesHeld : (bytes after : Option (List ℕ)) → List ℤ → (owner : ℤ) → Type 0
GivesHeld bytes after ids owner =
    IfSome bytes
    (λ image. (r : Registry) (m : Members) → Holds image r m → MayGive ids owner r
    → IsSomeAnd after (λ behind. Holds behind (with_owners owner ids r) m))

abbrev pub Moves : (bytes after : Option (List ℕ)) → (old new : ℤ) → Type 0
Moves bytes after old new =
    IfSome bytes (λ image. (r : Registry) (m : Members) → Holds image r m → MayMove old new r → IsMoved old new m image after)

abbrev pub MovesHeld : (bytes after : Option (List ℕ)) → (old new : ℤ) → Type 0
MovesHeld bytes after old new =
    IfSome bytes
    (λ image. (r : Registry) (m : Members) → Holds image r m → MayMove old new r
    → IsSomeAnd after (λ behind. Holds behind (moved_registry old new r) (moved_members old new m)))

-- the first steps of a call that made the image whole, found what the entry owns, and gave it no owner
pub record IsLeft (a b c d : Option (List ℕ)) (old : ℤ) (its : List ℤ) : Type 0 where
  pub made : b ≡ option_map whole a
  pub found : FindsIts b old its
  pub same : c ≡ b
  pub gives : Gives c d its (pos 0)

-- ---- the image after each

pub moving_of : (image : List ℕ) (b : Option (List ℕ)) (r : Registry) (m : Members) (old new : ℤ) (its : List ℤ) → b ≡ Some (whole image)
    → FindsIts b old its → Holds image r m → MayRenumber old new r → IsMoving (whole image) r m old new its
moving_of image b r m old new its made found h may =
    let held = whole_holds image r m h in
    let some = whole_some image r m h in
    record {
      own = record {
        holds = held;
        there = may.there;
        some = some;
        are = some_at b (whole image) (λ i. (q : Registry) (n : Members) → Holds i q n → IsSome (q.entry old) → 0 < length i
            → AreItsOwn i q old its) made found r m held may.there some;
      };
      may = may;
    }

given_at : (image : List ℕ) (b c d : Option (List ℕ)) (r : Registry) (m : Members) (old new : ℤ) (its : List ℤ)
    → IsLeft (Some image) b c d old its → IsMoving (whole image) r m old new its → d ≡ Some (after_gives (pos 0) its r (whole image))
given_at image b c d r m old new its s t =
    some_at c (whole image) (λ i. (q : Registry) (n : Members) → Holds i q n → MayGive its (pos 0) q
    → d ≡ Some (after_gives (pos 0) its q i)) (s.same ∙ s.made) s.gives r m t.own.holds (may_leave (whole image) r m old its t.own)

-- an image in the midst
pub record IsHeld (now : Option (List ℕ)) (r : Registry) (m : Members) : Type 0 where
  pub at : List ℕ
  pub is : now ≡ Some at
  pub holds : Holds at r m

held_of : (o : Option (List ℕ)) (r : Registry) (m : Members) → IsSomeAnd o (λ i. Holds i r m) → IsHeld o r m
held_of None r m is = absurd is
held_of (Some i) r m is = record { at = i; is = refl; holds = is }

left_held : (image : List ℕ) (b c d : Option (List ℕ)) (r : Registry) (m : Members) (old new : ℤ) (its : List ℤ)
    → IsLeft (Some image) b c d old its → GivesHeld c d its (pos 0) → IsMoving (whole image) r m old new its → IsHeld d (left r its) m
left_held image b c d r m old new its s held t =
    held_of d (left r its) m
    (some_at c (whole image) (λ i. (q : Registry) (n : Members) → Holds i q n → MayGive its (pos 0) q
    → IsSomeAnd d (λ behind. Holds behind (with_owners (pos 0) its q) n)) (s.same ∙ s.made) held r m t.own.holds
    (may_leave (whole image) r m old its t.own))

gone_held : (image : List ℕ) (b c d e : Option (List ℕ)) (r : Registry) (m : Members) (old new : ℤ) (its : List ℤ)
    → IsLeft (Some image) b c d old its → GivesHeld c d its (pos 0) → MovesHeld d e old new → IsMoving (whole image) r m old new its
    → IsHeld e (there r old new its) (moved_members old new m)
gone_held image b c d e r m old new its s held moves t =
    let one = left_held image b c d r m old new its s held t in
    held_of e (there r old new its) (moved_members old new m)
    (some_at d one.at (λ i. (q : Registry) (n : Members) → Holds i q n → MayMove old new q
    → IsSomeAnd e (λ behind. Holds behind (moved_registry old new q) (moved_members old new n))) one.is moves (left r its) m one.holds
    (may_move (whole image) r m old new its t))

come_held : (image : List ℕ) (b c d e f : Option (List ℕ)) (r : Registry) (m : Members) (old new : ℤ) (its back : List ℤ)
    → IsLeft (Some image) b c d old its → GivesHeld c d its (pos 0) → MovesHeld d e old new → back ≡ moved_back old new its
    → GivesHeld e f back new → IsMoving (whole image) r m old new its
    → IsSomeAnd f (λ behind. Holds behind (renumbered old new r) (moved_members old new m))
come_held image b c d e f r m old new its back s held moves are last t =
    let w = whole image in
    let two = gone_held image b c d e r m old new its s held moves t in
    let may : MayGive back new (there r old new its) =
    subst (λ (xs : List ℤ). MayGive xs new (there r old new its)) (sym are) (may_come w r m old new its t) in
    let got : IsSomeAnd f (λ behind. Holds behind (with_owners new back (there r old new its)) (moved_members old new m)) =
    some_at e two.at (λ i. (q : Registry) (n : Members) → Holds i q n → MayGive back new q
    → IsSomeAnd f (λ behind. Holds behind (with_owners new back q) n)) two.is last (there r old new its) (moved_members old new m)
    two.holds may in
    subst (λ (q : Registry). IsSomeAnd f (λ behind. Holds behind q (moved_members old new m)))
    (ap (λ (xs : List ℤ). with_owners new xs (there r old new its)) are ∙ end_is w r m old new its t two.holds.pairs.holds.valid) got

come_at : (image : List ℕ) (b c d e f : Option (List ℕ)) (r : Registry) (m : Members) (old new : ℤ) (its others back : List ℤ)
    → IsLeft (Some image) b c d old its → Moves d e old new → back ≡ moved_back old new its → Gives e f back new
    → IsMoving (whole image) r m old new its → IsListOf (λ other. are_paired m old other ≡ true) others
    → f ≡ Some (after_renumber old new its others r image)
unfolding after_renumber
come_at image b c d e f r m old new its others back s moves are last t list =
    let w = whole image in
    let given = after_gives (pos 0) its r w in
    let mid = between w r m old new its others t list in
    let gone : e ≡ Some (after_move old new others given) =
    some_at d given (λ i. (q : Registry) (n : Members) → Holds i q n → MayMove old new q → IsMoved old new n i e)
    (given_at image b c d r m old new its s t) moves (left r its) m mid.left_holds (may_move w r m old new its t) others list in
    let may : MayGive back new (there r old new its) =
    subst (λ (xs : List ℤ). MayGive xs new (there r old new its)) (sym are) (may_come w r m old new its t) in
    some_at e (after_move old new others given) (λ i. (q : Registry) (n : Members) → Holds i q n → MayGive back new q
    → f ≡ Some (after_gives new back q i)) gone last (there r old new its) (moved_members old new m) mid.gone_holds may
    ∙ ap (λ (xs : List ℤ). Some (after_gives new xs (there r old new its) (after_move old new others given))) are

-- ---- by how the call ended

pub renumber_ok : {T E : Type 0} (res : Result T E) (a b c d e f : Option (List ℕ)) (old new : ℤ) (its back : List ℤ)
    → IsLeft a b c d old its → Moves d e old new → back ≡ moved_back old new its → OnOk res (Gives e f back new)
    → OnOk res (InRenumber a old new (λ image r m. IsRenumbered old new r m image f))
renumber_ok (Err x) a b c d e f old new its back s moves are last = tt
renumber_ok (Ok x) None b c d e f old new its back s moves are last = tt
renumber_ok (Ok x) (Some image) b c d e f old new its back s moves are last = λ r m h may those others own list.
    let t = moving_of image b r m old new its s.made s.found h may in
    come_at image b c d e f r m old new its others back s moves are last t list
    ∙ ap (λ (xs : List ℤ). Some (after_renumber old new xs others r image)) (one_own (whole image) r old its those t.own.are own)

pub renumber_holds : {T E : Type 0} (res : Result T E) (a b c d e f : Option (List ℕ)) (old new : ℤ) (its back : List ℤ)
    → IsLeft a b c d old its → GivesHeld c d its (pos 0) → MovesHeld d e old new → back ≡ moved_back old new its
    → OnOk res (GivesHeld e f back new)
    → OnOk res (InRenumber a old new (λ image r m. IsSomeAnd f (λ behind. Holds behind (renumbered old new r) (moved_members old new m))))
renumber_holds (Err x) a b c d e f old new its back s held moves are last = tt
renumber_holds (Ok x) None b c d e f old new its back s held moves are last = tt
renumber_holds (Ok x) (Some image) b c d e f old new its back s held moves are last = λ r m h may.
    come_held image b c d e f r m old new its back s held moves are last (moving_of image b r m old new its s.made s.found h may)

-- ---- faults

abbrev pub Cause : Option (List ℕ) → (old new : ℤ) → RecordFault → Type 0
Cause a old new fault = HasCauseWhere (λ r m. MayRenumber old new r) a fault

pub its_cause : (a b : Option (List ℕ)) (old new : ℤ) (fault : RecordFault) → b ≡ option_map whole a → HasItsCause b fault
    → Cause a old new fault
its_cause a b old new DiskFault made cause = tt
its_cause a b old new NoMemory made cause = tt
its_cause None b old new (BadRecord at) made cause = tt
its_cause (Some image) b old new (BadRecord at) made cause = λ q.
    some_at b (whole image) (λ i. HoldsSome i → ⊥) made cause (q.0, q.1, whole_holds image q.0 q.1 q.2)

pub leave_cause : (a b c : Option (List ℕ)) (old new : ℤ) (its : List ℤ) (fault : RecordFault) → b ≡ option_map whole a
    → FindsIts b old its → c ≡ b → HasCauseWhere (λ r m. MayGive its (pos 0) r) c fault → Cause a old new fault
leave_cause a b c old new its DiskFault made found same cause = tt
leave_cause a b c old new its NoMemory made found same cause = tt
leave_cause None b c old new its (BadRecord at) made found same cause = tt
leave_cause (Some image) b c old new its (BadRecord at) made found same cause = λ q.
    let t = moving_of image b q.0 q.1 old new its made found q.2 q.3 in
    some_at c (whole image) (λ i. ((r : Registry) × (m : Members) × Holds i r m × MayGive its (pos 0) r) → ⊥) (same ∙ made) cause
    (q.0, q.1, t.own.holds, may_leave (whole image) q.0 q.1 old its t.own)

pub move_cause : (a b c d : Option (List ℕ)) (old new : ℤ) (its : List ℤ) (fault : RecordFault) → IsLeft a b c d old its
    → GivesHeld c d its (pos 0) → HasCauseWhere (λ r m. MayMove old new r) d fault → Cause a old new fault
move_cause a b c d old new its DiskFault s held cause = tt
move_cause a b c d old new its NoMemory s held cause = tt
move_cause None b c d old new its (BadRecord at) s held cause = tt
move_cause (Some image) b c d old new its (BadRecord at) s held cause = λ q.
    let t = moving_of image b q.0 q.1 old new its s.made s.found q.2 q.3 in
    let one = left_held image b c d q.0 q.1 old new its s held t in
    some_at d one.at (λ i. ((r : Registry) × (m : Members) × Holds i r m × MayMove old new r) → ⊥) one.is cause
    (left q.0 its, q.1, one.holds, may_move (whole image) q.0 q.1 old new its t)

come_cause : (a b c d e : Option (List ℕ)) (old new : ℤ) (its back : List ℤ) (fault : RecordFault) → IsLeft a b c d old its
    → GivesHeld c d its (pos 0) → MovesHeld d e old new → back ≡ moved_back old new its
    → HasCauseWhere (λ r m. MayGive back new r) e fault → Cause a old new fault
come_cause a b c d e old new its back DiskFault s held moves are cause = tt
come_cause a b c d e old new its back NoMemory s held moves are cause = tt
come_cause None b c d e old new its back (BadRecord at) s held moves are cause = tt
come_cause (Some image) b c d e old new its back (BadRecord at) s held moves are cause = λ q.
    let t = moving_of image b q.0 q.1 old new its s.made s.found q.2 q.3 in
    let two = gone_held image b c d e q.0 q.1 old new its s held moves t in
    some_at e two.at (λ i. ((r : Registry) × (m : Members) × Holds i r m × MayGive back new r) → ⊥) two.is cause (
      there q.0 old new its,
      moved_members old new q.1,
      two.holds,
      subst (λ (xs : List ℤ). MayGive xs new (there q.0 old new its)) (sym are) (may_come (whole image) q.0 q.1 old new its t),
    )

pub come_err : {T : Type 0} (res : Result T RecordFault) (a b c d e : Option (List ℕ)) (old new : ℤ) (its back : List ℤ)
    → IsLeft a b c d old its → GivesHeld c d its (pos 0) → MovesHeld d e old new → back ≡ moved_back old new its
    → IfErr res (HasCauseWhere (λ r m. MayGive back new r) e) → IfErr res (Cause a old new)
come_err (Ok x) a b c d e old new its back s held moves are cause = tt
come_err (Err fault) a b c d e old new its back s held moves are cause =
    come_cause a b c d e old new its back fault s held moves are cause

-- ---- the image in the end

pub renumber_law : (image : List ℕ) (r : Registry) (m : Members) (old new : ℤ) (its others : List ℤ) → Holds image r m
    → MayRenumber old new r → AreItsOwn (whole image) r old its → IsListOf (λ other. are_paired m old other ≡ true) others
    → Holds (after_renumber old new its others r image) (renumbered old new r) (moved_members old new m)
renumber_law image r m old new its others h may are list =
    renumber_keeps image r m old new its others
    record {
      own = record { holds = whole_holds image r m h; there = may.there; some = whole_some image r m h; are = are };
      may = may;
    } list
