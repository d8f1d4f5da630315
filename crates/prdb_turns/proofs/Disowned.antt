-- What an entry owns has no owner: what is left of a draft, and why it is not.
use Rattle.std.proofs.Common.{◌≡◌, ◌≢◌, ℕ, ℤ, pos, negsuc, zero, suc, ◌<◌, Bool, true, false, cond, List, [], ◌∷◌, ◌++◌, length, Option, Some, None, IfSome, IsSome, Result, Ok, Err, OnOk, IfErr, refl, sym, ap, subst, ◌∙◌, inl, arith}
use Rattle.std.specs.Prelude.{◌<ℤ◌, IsSomeAnd, option_map}
use Rattle.std.specs.Cmp.{int_eq_equiv}
use Rattle.std.specs.List.{Contains, list_any}
use Rattle.std.specs.Ordering.{int_eq}
use Rattle.std.proofs.lemmas.Bool.{false_from_ne_true}
use Rattle.std.proofs.lemmas.Int.{ints}
use Rattle.std.proofs.lemmas.Map.Views.{Contains-from_any, list_any-from_Contains}
use Rattle.db_blocks.specs.Ends.{HasCause}
use Rattle.db_image.specs.declared.faults.RecordFault.{RecordFault}
use Rattle.db_image.specs.declared.faults.RecordFault.TheVariants.{DiskFault, BadRecord, NoMemory}
use Rattle.prdb_layout.specs.Registry.{Registry}
use Rattle.prdb_layout.specs.State.{PrEntry}
use Rattle.prdb_layout.proofs.Changed.{some_same}
use Rattle.entry_scans.specs.Found.{IsMetAt}
use Rattle.entry_scans.specs.Lists.{IsListOf}
use Rattle.prdb_lists.specs.Members.{IsOwned, Members}
use Rattle.prdb_finds.specs.Ends.{HasCauseWhere, HasItsCause}
use Rattle.prdb_finds.specs.Records.{Holds}
use Rattle.prdb_members.specs.Owned.{AreInOrder}
use Rattle.prdb_turns.specs.Ends.{Leaves}
use Rattle.prdb_turns.specs.Owners.{Disowns, HasOwner, IsOwnedUser, MayGive, after_gives, with_owner, with_owners}
use Rattle.prdb_turns.specs.Refits.{after_refit, with_refit}
use Rattle.prdb_turns.proofs.Given.{IsGiving, gives_may, is_there, owners_are, some_is}
use Rattle.prdb_turns.proofs.Left.{not_zero}
use Rattle.prdb_turns.proofs.Owned.{clash, each_then, groups_are, id_is, id_of, one_own, to_id}
use Rattle.prdb_turns.proofs.Refits.{refits_hold, some_at, some_met}

-- ---- one list after the other

pub gives_append : (owner : ℤ) (xs ys : List ℤ) (r : Registry) (image : List ℕ)
    → after_gives owner (xs ++ ys) r image ≡ after_gives owner ys (with_owners owner xs r) (after_gives owner xs r image)
gives_append owner [] ys r image = refl
gives_append owner (x ∷ xs) ys r image =
    gives_append owner xs ys (with_refit (with_owner owner) (r.entry x) r) (after_refit (with_owner owner) (r.entry x) image)

-- ---- the groups, and what is left then

-- an entry, and its groups
record HasGroups (image : List ℕ) (r : Registry) (m : Members) (owner : ℤ) (groups : List ℤ) : Type 0 where
  holds : Holds image r m
  there : IsSome (r.entry owner)
  some : 0 < length image
  order : AreInOrder image owner groups

group_is : (image : List ℕ) (r : Registry) (m : Members) (owner : ℤ) (groups : List ℤ) (x : ℤ) → HasGroups image r m owner groups
    → Contains groups x → IsOwned r owner x
group_is image r m owner groups x t has = (groups_are image r m owner groups t.holds t.there t.some t.order x).0 has

some_owned : (owner : ℤ) (o : Option PrEntry) → IsSomeAnd o (λ e. e.owner ≡ owner) → IsSome o
some_owned owner None is = absurd is
some_owned owner (Some e) is = refl

may_groups : (image : List ℕ) (r : Registry) (m : Members) (owner : ℤ) (groups : List ℤ) → HasGroups image r m owner groups
    → MayGive groups (pos 0) r
may_groups image r m owner groups t = record {
  there = each_then (λ x. IsSome (r.entry x)) groups
      (λ x has. some_owned owner (r.entry x) (group_is image r m owner groups x t has).1);
  owner_there = inl refl;
}

giving : (image : List ℕ) (r : Registry) (m : Members) (owner : ℤ) (groups : List ℤ) → HasGroups image r m owner groups
    → IsGiving (pos 0) groups r
giving image r m owner groups t =
    record { valid = t.holds.pairs.holds.valid; may = may_groups image r m owner groups t }

then_holds : (image : List ℕ) (r : Registry) (m : Members) (owner : ℤ) (groups : List ℤ) → HasGroups image r m owner groups
    → Holds (after_gives (pos 0) groups r image) (with_owners (pos 0) groups r) m
then_holds image r m owner groups t =
    refits_hold (with_owner (pos 0)) groups image r m t.holds (gives_may (pos 0) groups r (giving image r m owner groups t))

-- an entry of the registry in which they have no owner
then_at : (image : List ℕ) (r : Registry) (m : Members) (owner : ℤ) (groups : List ℤ) (x : ℤ) (b : Bool)
    → HasGroups image r m owner groups → list_any (int_eq x) groups ≡ b
    → (with_owners (pos 0) groups r).entry x ≡ cond b (option_map (with_owner (pos 0)) (r.entry x)) (r.entry x)
then_at image r m owner groups x b t is =
    ap (λ (q : Registry). q.entry x) (owners_are (pos 0) groups r (giving image r m owner groups t))
    ∙ ap (λ (b : Bool). cond b (option_map (with_owner (pos 0)) (r.entry x)) (r.entry x)) is

owner_none : (o : Option PrEntry) (e : PrEntry) → option_map (with_owner (pos 0)) o ≡ Some e → e.owner ≡ pos 0
owner_none None e at = absurd cc
owner_none (Some f) e at = sym (ap (λ (x : PrEntry). x.owner) (some_same at))

apart_zero : (x : ℤ) → x ≢ pos 0 → (x <ℤ pos 0 → ⊥) → pos 0 <ℤ x
apart_zero (pos zero) other not = absurd (other refl)
apart_zero (pos (suc n)) other not = omega (arith, ints)
apart_zero (negsuc n) other not = absurd (not (omega (arith, ints)))

met_user : (image : List ℕ) (r : Registry) (m : Members) (owner : ℤ) (groups : List ℤ) (x : ℤ) (e : PrEntry) (b : Bool)
    → HasGroups image r m owner groups → list_any (int_eq x) groups ≡ b → (with_owners (pos 0) groups r).entry x ≡ Some e
    → e.owner ≡ owner → IsOwnedUser r owner x
met_user image r m owner groups x e true t is at own =
    let o = some_is (r.entry owner) t.there in
    absurd (not_zero owner (id_is r owner o.0 t.holds.pairs.holds.valid o.1)
    (sym own ∙ owner_none (r.entry x) e (sym (then_at image r m owner groups x true t is) ∙ at)))
met_user image r m owner groups x e false t is at own =
    let here : r.entry x ≡ Some e = sym (then_at image r m owner groups x false t is) ∙ at in
    let owned : IsSomeAnd (r.entry x) (λ f. f.owner ≡ owner) =
    subst (λ (o : Option PrEntry). IsSomeAnd o (λ f. f.owner ≡ owner)) (sym here) own in (
      apart_zero x (not_zero x (id_is r x e t.holds.pairs.holds.valid here))
          (λ low.
          clash (list_any (int_eq x) groups)
          (list_any-from_Contains int_eq_equiv x groups
          ((groups_are image r m owner groups t.holds t.there t.some t.order x).1 (low, owned))) is),
      owned,
    )

user_met : (image : List ℕ) (r : Registry) (m : Members) (owner : ℤ) (groups : List ℤ) (x : ℤ) → HasGroups image r m owner groups
    → IsOwnedUser r owner x → IsMetAt (λ e. int_eq e.owner owner) (with_owners (pos 0) groups r) x
user_met image r m owner groups x t is =
    let e = some_met (r.entry x) (λ e. e.owner ≡ owner) is.1 in
    let out : list_any (int_eq x) groups ≡ false =
    false_from_ne_true (list_any (int_eq x) groups)
    (λ has.
    let low = (group_is image r m owner groups x t (Contains-from_any (λ a b. id_of a b) x groups has)).0 in
    omega (arith, ints, low, is.0)) in
    (e.0, then_at image r m owner groups x false t out ∙ e.1, to_id e.0.owner owner e.2)

users_are : (image : List ℕ) (r : Registry) (m : Members) (owner : ℤ) (groups rest : List ℤ) → HasGroups image r m owner groups
    → IsListOf (IsMetAt (λ e. int_eq e.owner owner) (with_owners (pos 0) groups r)) rest → IsListOf (IsOwnedUser r owner) rest
users_are image r m owner groups rest t list = record {
  ascending = list.ascending;
  each = λ x has.
      let met = list.each x has in
      met_user image r m owner groups x met.0 (list_any (int_eq x) groups) t refl met.1 (id_of met.0.owner owner met.2);
  all = λ x is. list.all x (user_met image r m owner groups x t is);
}

may_rest : (image : List ℕ) (r : Registry) (m : Members) (owner : ℤ) (groups rest : List ℤ) → HasGroups image r m owner groups
    → IsListOf (IsMetAt (λ e. int_eq e.owner owner) (with_owners (pos 0) groups r)) rest
    → MayGive rest (pos 0) (with_owners (pos 0) groups r)
may_rest image r m owner groups rest t list = record {
  there = each_then (λ x. IsSome ((with_owners (pos 0) groups r).entry x)) rest
      (λ x has. let met = list.each x has in is_there ((with_owners (pos 0) groups r).entry x) met.0 met.1);
  owner_there = inl refl;
}

-- ---- the bytes

abbrev pub Finds : Option (List ℕ) → (owner : ℤ) → List ℤ → Type 0
Finds bytes owner groups =
    IfSome bytes
    (λ image. (r : Registry) (m : Members) → Holds image r m → IsSome (r.entry owner) → 0 < length image → AreInOrder image owner groups)

abbrev pub Lists : Option (List ℕ) → (owner : ℤ) → List ℤ → Type 0
Lists bytes owner rest =
    IfSome bytes (λ image. (r : Registry) (m : Members) → Holds image r m → IsListOf (IsMetAt (λ e. int_eq e.owner owner) r) rest)

abbrev pub Gives : (bytes after : Option (List ℕ)) → List ℤ → Type 0
Gives bytes after ids = Leaves bytes (λ r m. MayGive ids (pos 0) r) (after_gives (pos 0) ids) after

-- the first steps: the groups were found, and have no owner
pub record IsBegun (a b c : Option (List ℕ)) (owner : ℤ) (groups : List ℤ) : Type 0 where
  pub found : Finds a owner groups
  pub same : b ≡ a
  pub gives : Gives b c groups

groups_at : (image : List ℕ) (b c : Option (List ℕ)) (r : Registry) (m : Members) (owner : ℤ) (groups : List ℤ)
    → IsBegun (Some image) b c owner groups → Holds image r m → IsSome (r.entry owner) → 0 < length image
    → HasGroups image r m owner groups
groups_at image b c r m owner groups s h there some =
    record { holds = h; there = there; some = some; order = s.found r m h there some }

begun_at : (image : List ℕ) (b c : Option (List ℕ)) (r : Registry) (m : Members) (owner : ℤ) (groups : List ℤ)
    → IsBegun (Some image) b c owner groups → HasGroups image r m owner groups → c ≡ Some (after_gives (pos 0) groups r image)
begun_at image b c r m owner groups s t =
    some_at b image (λ i. (q : Registry) (n : Members) → Holds i q n → MayGive groups (pos 0) q → c ≡ Some (after_gives (pos 0) groups q i))
    s.same s.gives r m t.holds (may_groups image r m owner groups t)

listed_at : (image : List ℕ) (c : Option (List ℕ)) (r : Registry) (m : Members) (owner : ℤ) (groups rest : List ℤ)
    → c ≡ Some (after_gives (pos 0) groups r image) → HasGroups image r m owner groups → Lists c owner rest
    → IsListOf (IsMetAt (λ e. int_eq e.owner owner) (with_owners (pos 0) groups r)) rest
listed_at image c r m owner groups rest here t lists =
    some_at c (after_gives (pos 0) groups r image)
    (λ i. (q : Registry) (n : Members) → Holds i q n → IsListOf (IsMetAt (λ e. int_eq e.owner owner) q) rest) here lists
    (with_owners (pos 0) groups r) m (then_holds image r m owner groups t)

disowned : (a b c d e : Option (List ℕ)) (owner : ℤ) (groups rest : List ℤ) → IsBegun a b c owner groups → Lists c owner rest → d ≡ c
    → Gives d e rest → Disowns owner a e
disowned None b c d e owner groups rest s lists same gives = tt
disowned (Some image) b c d e owner groups rest s lists same gives = λ r m h there some its own.
    let t = groups_at image b c r m owner groups s h there some in
    let here = begun_at image b c r m owner groups s t in
    let list = listed_at image c r m owner groups rest here t lists in
    let q = with_owners (pos 0) groups r in
    let mid = after_gives (pos 0) groups r image in
    let all : its ≡ groups ++ rest =
    one_own image r owner its (groups ++ rest) own (groups, rest, t.order, users_are image r m owner groups rest t list, refl) in
    some_at d mid (λ i. (p : Registry) (n : Members) → Holds i p n → MayGive rest (pos 0) p → e ≡ Some (after_gives (pos 0) rest p i))
    (same ∙ here) gives q m (then_holds image r m owner groups t) (may_rest image r m owner groups rest t list)
    ∙ ap Some (sym (gives_append (pos 0) groups rest r image))
    ∙ ap (λ (l : List ℤ). Some (after_gives (pos 0) l r image)) (sym all)

pub disowned_ok : {T E : Type 0} (res : Result T E) (a b c d e : Option (List ℕ)) (owner : ℤ) (groups rest : List ℤ)
    → IsBegun a b c owner groups → Lists c owner rest → d ≡ c → OnOk res (Gives d e rest) → OnOk res (Disowns owner a e)
disowned_ok (Err x) a b c d e owner groups rest s lists same gives = tt
disowned_ok (Ok x) a b c d e owner groups rest s lists same gives = disowned a b c d e owner groups rest s lists same gives

-- ---- faults

pub find_cause : (a : Option (List ℕ)) (owner : ℤ) (fault : RecordFault) → HasItsCause a fault → HasCause a (HasOwner owner) fault
find_cause a owner DiskFault cause = tt
find_cause a owner NoMemory cause = tt
find_cause None owner (BadRecord at) cause = tt
find_cause (Some image) owner (BadRecord at) cause = λ q. cause (q.0, q.1, q.2)

pub groups_cause : (a b : Option (List ℕ)) (owner : ℤ) (groups : List ℤ) (fault : RecordFault) → Finds a owner groups → b ≡ a
    → HasCauseWhere (λ r m. MayGive groups (pos 0) r) b fault → HasCause a (HasOwner owner) fault
groups_cause a b owner groups DiskFault found same cause = tt
groups_cause a b owner groups NoMemory found same cause = tt
groups_cause None b owner groups (BadRecord at) found same cause = tt
groups_cause (Some image) b owner groups (BadRecord at) found same cause = λ q.
    let t : HasGroups image q.0 q.1 owner groups =
    record { holds = q.2; there = q.3; some = q.4; order = found q.0 q.1 q.2 q.3 q.4 } in
    some_at b image (λ i. ((r : Registry) × (m : Members) × Holds i r m × MayGive groups (pos 0) r) → ⊥) same cause
    (q.0, q.1, q.2, may_groups image q.0 q.1 owner groups t)

pub list_cause : (a b c : Option (List ℕ)) (owner : ℤ) (groups : List ℤ) (fault : RecordFault) → IsBegun a b c owner groups
    → HasItsCause c fault → HasCause a (HasOwner owner) fault
list_cause a b c owner groups DiskFault s cause = tt
list_cause a b c owner groups NoMemory s cause = tt
list_cause None b c owner groups (BadRecord at) s cause = tt
list_cause (Some image) b c owner groups (BadRecord at) s cause = λ q.
    let t = groups_at image b c q.0 q.1 owner groups s q.2 q.3 q.4 in
    some_at c (after_gives (pos 0) groups q.0 image) (λ i. ((r : Registry) × (m : Members) × Holds i r m) → ⊥)
    (begun_at image b c q.0 q.1 owner groups s t) cause
    (with_owners (pos 0) groups q.0, q.1, then_holds image q.0 q.1 owner groups t)

rest_cause : (a b c d : Option (List ℕ)) (owner : ℤ) (groups rest : List ℤ) (fault : RecordFault) → IsBegun a b c owner groups
    → Lists c owner rest → d ≡ c → HasCauseWhere (λ r m. MayGive rest (pos 0) r) d fault → HasCause a (HasOwner owner) fault
rest_cause a b c d owner groups rest DiskFault s lists same cause = tt
rest_cause a b c d owner groups rest NoMemory s lists same cause = tt
rest_cause None b c d owner groups rest (BadRecord at) s lists same cause = tt
rest_cause (Some image) b c d owner groups rest (BadRecord at) s lists same cause = λ q.
    let t = groups_at image b c q.0 q.1 owner groups s q.2 q.3 q.4 in
    let here = begun_at image b c q.0 q.1 owner groups s t in
    let list = listed_at image c q.0 q.1 owner groups rest here t lists in
    some_at d (after_gives (pos 0) groups q.0 image)
    (λ i. ((r : Registry) × (m : Members) × Holds i r m × MayGive rest (pos 0) r) → ⊥) (same ∙ here) cause
    (with_owners (pos 0) groups q.0, q.1, then_holds image q.0 q.1 owner groups t, may_rest image q.0 q.1 owner groups rest t list)

pub rest_err : {T : Type 0} (res : Result T RecordFault) (a b c d : Option (List ℕ)) (owner : ℤ) (groups rest : List ℤ)
    → IsBegun a b c owner groups → Lists c owner rest → d ≡ c
    → IfErr res (HasCauseWhere (λ r m. MayGive rest (pos 0) r) d) → IfErr res (HasCause a (HasOwner owner))
rest_err (Ok x) a b c d owner groups rest s lists same cause = tt
rest_err (Err fault) a b c d owner groups rest s lists same cause = rest_cause a b c d owner groups rest fault s lists same cause
