-- What is left of a draft once an entry turned, and why it is not.
use Rattle.std.proofs.Common.{◌≡◌, ℕ, ℤ, Bool, true, false, cond, List, [], ◌∷◌, Option, Some, None, IfSome, Result, Ok, Err, OnOk, IfErr, refl, sym, ap, subst, ◌∙◌, ⊎_elim}
use Rattle.std.specs.Prelude.{IsSomeAnd}
use Rattle.std.specs.Ordering.{int_eq}
use Rattle.db_image.specs.declared.faults.RecordFault.{RecordFault}
use Rattle.db_image.specs.declared.faults.RecordFault.TheVariants.{DiskFault, BadRecord, NoMemory}
use Rattle.db_blocks.specs.Ends.{HasCause}
use Rattle.prdb_layout.specs.Registry.{Registry}
use Rattle.prdb_layout.specs.State.{PrEntry, front_of}
use Rattle.entry_scans.specs.Lists.{IsListOf}
use Rattle.prdb_lists.specs.Members.{Members, are_paired}
use Rattle.prdb_lists.specs.Moves.{moved_members}
use Rattle.pt_service.specs.Turning.{moved}
use Rattle.prdb_finds.specs.Ends.{HasCauseWhere, HasItsCause}
use Rattle.prdb_finds.specs.Records.{Holds, whole}
use Rattle.prdb_turns.specs.Ends.{Leaves}
use Rattle.prdb_turns.specs.Fronts.{MayFronts, after_fronts, ids_by_block, with_fronts}
use Rattle.prdb_turns.specs.Owners.{AreItsOwn, MayGive, after_gives, with_owner}
use Rattle.prdb_turns.specs.Refits.{MayRefit, MayRefits, after_refit}
use Rattle.prdb_turns.specs.Renumbering.{IsRenumbered, MayRenumber, after_renumber, renumbered}
use Rattle.prdb_turns.specs.Turning.{HasId, HasTurn, IsTurned, MayId, MayTurn, after_id, after_turn, first, is_under, named, second, third, with_id, with_pairs, with_turn}
use Rattle.prdb_turns.proofs.Found.{cause_where}
use Rattle.prdb_turns.proofs.Given.{gives_may}
use Rattle.prdb_turns.proofs.Owned.{clash, to_id}
use Rattle.prdb_turns.proofs.Refits.{LeavesOne, refit_holds, refits_hold, some_at}
use Rattle.prdb_turns.proofs.Steps.{Gives, renumber_law}

-- ---- another id, where it is another one

id_by : (image : List ℕ) (r : Registry) (m : Members) (old new : ℤ) (its others : List ℤ) (b : Bool) → int_eq new old ≡ b → Holds image r m
    → MayId old new r → AreItsOwn (whole image) r old its → IsListOf (λ other. are_paired m old other ≡ true) others
    → Holds (cond b image (after_renumber old new its others r image)) (cond b r (renumbered old new r))
    (cond b m (moved_members old new m))
id_by image r m old new its others true is h may are list = h
id_by image r m old new its others false is h may are list =
    ⊎_elim (λ (same : new ≡ old). absurd (clash (int_eq new old) (to_id new old same) is))
    (λ (other : MayRenumber old new r). renumber_law image r m old new its others h other are list) may

pub id_law : (image : List ℕ) (r : Registry) (m : Members) (old new : ℤ) (its others : List ℤ) → Holds image r m → MayId old new r
    → AreItsOwn (whole image) r old its → IsListOf (λ other. are_paired m old other ≡ true) others
    → Holds (after_id old new its others r image) (with_id old new r) (with_pairs old new m)
id_law image r m old new its others h may are list = id_by image r m old new its others (int_eq new old) refl h may are list

-- of each state that the bytes hold, what an id is changed to leaves
abbrev pub IdBytes : (bytes after : Option (List ℕ)) → (old new : ℤ) → Type 0
IdBytes bytes after old new =
    IfSome bytes (λ image. (r : Registry) (m : Members) → Holds image r m → MayId old new r → HasId old new r m image after)

abbrev pub IdHeld : (bytes after : Option (List ℕ)) → (old new : ℤ) → Type 0
IdHeld bytes after old new =
    IfSome bytes
    (λ image. (r : Registry) (m : Members) → Holds image r m → MayId old new r
    → IsSomeAnd after (λ behind. Holds behind (with_id old new r) (with_pairs old new m)))

same_bytes : (old new : ℤ) (its others : List ℤ) (r : Registry) (image : List ℕ) → new ≡ old → after_id old new its others r image ≡ image
same_bytes old new its others r image same =
    ap (λ (b : Bool). cond b image (after_renumber old new its others r image)) (to_id new old same)

pub id_same : (bytes after : Option (List ℕ)) (old new : ℤ) → new ≡ old → after ≡ bytes → IdBytes bytes after old new
id_same None after old new same is = tt
id_same (Some image) after old new same is = λ r m h may its others are list.
    is ∙ ap Some (sym (same_bytes old new its others r image same))

pub id_same_held : (bytes after : Option (List ℕ)) (old new : ℤ) → new ≡ old → after ≡ bytes → IdHeld bytes after old new
id_same_held None after old new same is = tt
id_same_held (Some image) after old new same is = λ r m h may.
    subst (λ (o : Option (List ℕ)). IsSomeAnd o (λ behind. Holds behind (with_id old new r) (with_pairs old new m))) (sym is)
    (subst (λ (b : Bool). Holds image (cond b r (renumbered old new r)) (cond b m (moved_members old new m))) (sym (to_id new old same)) h)

id_may : (old new : ℤ) (r : Registry) → int_eq new old ≡ false → MayId old new r → MayRenumber old new r
id_may old new r other may =
    ⊎_elim (λ (same : new ≡ old). absurd (clash (int_eq new old) (to_id new old same) other)) (λ (is : MayRenumber old new r). is) may

pub id_other : {T E : Type 0} (res : Result T E) (bytes after : Option (List ℕ)) (old new : ℤ) → int_eq new old ≡ false
    → OnOk res (IfSome bytes (λ image. (r : Registry) (m : Members) → Holds image r m → MayRenumber old new r
    → IsRenumbered old new r m image after))
    → OnOk res (IdBytes bytes after old new)
id_other (Err x) bytes after old new other is = tt
id_other (Ok x) None after old new other is = tt
id_other (Ok x) (Some image) after old new other is = λ r m h may its others are list.
    is r m h (id_may old new r other may) its others are list
    ∙ ap (λ (b : Bool). Some (cond b image (after_renumber old new its others r image))) (sym other)

pub id_other_held : {T E : Type 0} (res : Result T E) (bytes after : Option (List ℕ)) (old new : ℤ) → int_eq new old ≡ false
    → OnOk res (IfSome bytes (λ image. (r : Registry) (m : Members) → Holds image r m → MayRenumber old new r
    → IsSomeAnd after (λ behind. Holds behind (renumbered old new r) (moved_members old new m))))
    → OnOk res (IdHeld bytes after old new)
id_other_held (Err x) bytes after old new other is = tt
id_other_held (Ok x) None after old new other is = tt
id_other_held (Ok x) (Some image) after old new other is = λ r m h may.
    subst (λ (b : Bool). IsSomeAnd after (λ behind. Holds behind (cond b r (renumbered old new r)) (cond b m (moved_members old new m))))
    (sym other) (is r m h (id_may old new r other may))

id_cause : (bytes : Option (List ℕ)) (old new : ℤ) (fault : RecordFault) → int_eq new old ≡ false
    → HasCauseWhere (λ r m. MayRenumber old new r) bytes fault → HasCauseWhere (λ r m. MayId old new r) bytes fault
id_cause bytes old new fault other cause =
    cause_where (λ r m. MayRenumber old new r) (λ r m. MayId old new r) bytes fault (λ r m may. id_may old new r other may) cause

pub id_err : {T : Type 0} (res : Result T RecordFault) (bytes : Option (List ℕ)) (old new : ℤ) → int_eq new old ≡ false
    → IfErr res (HasCauseWhere (λ r m. MayRenumber old new r) bytes) → IfErr res (HasCauseWhere (λ r m. MayId old new r) bytes)
id_err (Ok x) bytes old new other cause = tt
id_err (Err fault) bytes old new other cause = id_cause bytes old new fault other cause

-- ---- the states in the midst

-- what holds of the image behind a step
record Behind (now : Option (List ℕ)) (r : Registry) (m : Members) : Type 0 where
  pub at : List ℕ
  pub is : now ≡ Some at
  pub holds : Holds at r m

behind_of : (o : Option (List ℕ)) (r : Registry) (m : Members) → IsSomeAnd o (λ i. Holds i r m) → Behind o r m
behind_of None r m is = absurd is
behind_of (Some i) r m is = record { at = i; is = refl; holds = is }

-- the steps of a turn, over these bytes: those that are looked at, named, under their id, under their owner
pub record Steps (e : PrEntry) (name : List ℕ) (owner id : ℤ) (z b c d : Option (List ℕ)) : Type 0 where
  pub names : LeavesOne (named name) e.id z b
  pub id_bytes : IdBytes b c e.id id
  pub id_held : IdHeld b c e.id id
  pub gives : Gives c d (id ∷ []) (moved e.id id owner)

may_name : (e : PrEntry) (name : List ℕ) (owner id : ℤ) (groups : List ℤ) (r : Registry) → MayTurn e name owner id groups r
    → MayRefits (named name) (e.id ∷ []) r
may_name e name owner id groups r may =
    (subst (λ (o : Option PrEntry). IsSomeAnd o (MayRefit (named name) r)) (sym may.there) may.name_may, tt)

named_at : (e : PrEntry) (name : List ℕ) (owner id : ℤ) (groups : List ℤ) (image : List ℕ) (r : Registry) (m : Members)
    (z b : Option (List ℕ)) → z ≡ Some image → LeavesOne (named name) e.id z b → Holds image r m → MayTurn e name owner id groups r
    → b ≡ Some (after_refit (named name) (r.entry e.id) image)
named_at e name owner id groups image r m z b same names h may =
    some_at z image (λ i. (q : Registry) (n : Members) → Holds i q n → MayRefits (named name) (e.id ∷ []) q
    → b ≡ Some (after_refit (named name) (q.entry e.id) i)) same names r m h (may_name e name owner id groups r may)

named_holds : (e : PrEntry) (name : List ℕ) (owner id : ℤ) (groups : List ℤ) (image : List ℕ) (r : Registry) (m : Members) → Holds image r m
    → MayTurn e name owner id groups r → Holds (after_refit (named name) (r.entry e.id) image) (first e name r) m
named_holds e name owner id groups image r m h may =
    refit_holds (named name) e.id image r m h (may_name e name owner id groups r may).0

id_behind : (e : PrEntry) (name : List ℕ) (owner id : ℤ) (groups : List ℤ) (image : List ℕ) (r : Registry) (m : Members)
    (z b c d : Option (List ℕ)) → z ≡ Some image → Steps e name owner id z b c d → Holds image r m → MayTurn e name owner id groups r
    → Behind c (second e name id r) (with_pairs e.id id m)
id_behind e name owner id groups image r m z b c d same s h may =
    behind_of c (second e name id r) (with_pairs e.id id m)
    (some_at b (after_refit (named name) (r.entry e.id) image) (λ i. (q : Registry) (n : Members) → Holds i q n → MayId e.id id q
    → IsSomeAnd c (λ x. Holds x (with_id e.id id q) (with_pairs e.id id n)))
    (named_at e name owner id groups image r m z b same s.names h may) s.id_held (first e name r) m
    (named_holds e name owner id groups image r m h may) may.id_may)

owner_holds : (e : PrEntry) (name : List ℕ) (owner id : ℤ) (groups : List ℤ) (here : List ℕ) (r : Registry) (n : Members)
    → Holds here (second e name id r) n → MayTurn e name owner id groups r
    → Holds (after_gives (moved e.id id owner) (id ∷ []) (second e name id r) here) (third e name owner id r) n
owner_holds e name owner id groups here r n h may =
    refits_hold (with_owner (moved e.id id owner)) (id ∷ []) here (second e name id r) n h
    (gives_may (moved e.id id owner) (id ∷ []) (second e name id r) (record { valid = h.pairs.holds.valid; may = may.owner_may }))

owner_at : (e : PrEntry) (name : List ℕ) (owner id : ℤ) (groups : List ℤ) (here : List ℕ) (r : Registry) (n : Members)
    (c d : Option (List ℕ)) → c ≡ Some here → Gives c d (id ∷ []) (moved e.id id owner) → Holds here (second e name id r) n
    → MayTurn e name owner id groups r → d ≡ Some (after_gives (moved e.id id owner) (id ∷ []) (second e name id r) here)
owner_at e name owner id groups here r n c d is gives h may =
    some_at c here (λ i. (q : Registry) (x : Members) → Holds i q x → MayGive (id ∷ []) (moved e.id id owner) q
    → d ≡ Some (after_gives (moved e.id id owner) (id ∷ []) q i)) is gives (second e name id r) n h may.owner_may

owner_behind : (e : PrEntry) (name : List ℕ) (owner id : ℤ) (groups : List ℤ) (image : List ℕ) (r : Registry) (m : Members)
    (z b c d : Option (List ℕ)) → z ≡ Some image → Steps e name owner id z b c d → Holds image r m → MayTurn e name owner id groups r
    → Behind d (third e name owner id r) (with_pairs e.id id m)
owner_behind e name owner id groups image r m z b c d same s h may =
    let x = id_behind e name owner id groups image r m z b c d same s h may in
    record {
      at = after_gives (moved e.id id owner) (id ∷ []) (second e name id r) x.at;
      is = owner_at e name owner id groups x.at r (with_pairs e.id id m) c d x.is s.gives x.holds may;
      holds = owner_holds e name owner id groups x.at r (with_pairs e.id id m) x.holds may;
    }

-- ---- all of it

-- the groups that are named after the entry
abbrev pub AreUnder : Option (List ℕ) → (whole : List ℕ) → List ℤ → Type 0
AreUnder bytes whole groups = IfSome bytes (λ image. groups ≡ ids_by_block (is_under whole) image)

abbrev pub Fronts : (bytes after : Option (List ℕ)) → (front : List ℕ) → List ℤ → Type 0
Fronts bytes after front groups = Leaves bytes (λ r m. MayFronts front groups r) (after_fronts front groups) after

may_fronts : (e : PrEntry) (name front : List ℕ) (owner id : ℤ) (groups those : List ℤ) (r : Registry) → front ≡ front_of name
    → groups ≡ those → MayTurn e name owner id those r → MayFronts front groups (third e name owner id r)
may_fronts e name front owner id groups those r is are may =
    subst (λ (f : List ℕ). MayFronts f groups (third e name owner id r)) (sym is)
    (subst (λ (xs : List ℤ). MayFronts (front_of name) xs (third e name owner id r)) (sym are) may.fronts_may)

turned_at : (image : List ℕ) (r : Registry) (m : Members) (e : PrEntry) (name front : List ℕ) (owner id : ℤ) (groups its others : List ℤ)
    (z b c d f : Option (List ℕ)) → z ≡ Some image → groups ≡ ids_by_block (is_under e.name) image → Steps e name owner id z b c d
    → front ≡ front_of name → Fronts d f front groups → Holds image r m
    → MayTurn e name owner id (ids_by_block (is_under e.name) image) r
    → AreItsOwn (whole (after_refit (named name) (r.entry e.id) image)) (first e name r) e.id its
    → IsListOf (λ other. are_paired m e.id other ≡ true) others → f ≡ Some (after_turn e name owner id its others r image)
unfolding after_turn
turned_at image r m e name front owner id groups its others z b c d f same are s is fronts h may own list =
    let those = ids_by_block (is_under e.name) image in
    let one = after_refit (named name) (r.entry e.id) image in
    let held = named_holds e name owner id those image r m h may in
    let two : c ≡ Some (after_id e.id id its others (first e name r) one) =
    some_at b one (λ i. (q : Registry) (n : Members) → Holds i q n → MayId e.id id q → HasId e.id id q n i c)
    (named_at e name owner id those image r m z b same s.names h may) s.id_bytes (first e name r) m held may.id_may its others own list in
    let here = after_id e.id id its others (first e name r) one in
    let now = id_law one (first e name r) m e.id id its others held may.id_may own list in
    let three = owner_at e name owner id those here r (with_pairs e.id id m) c d two s.gives now may in
    let there = after_gives (moved e.id id owner) (id ∷ []) (second e name id r) here in
    some_at d there (λ i. (q : Registry) (n : Members) → Holds i q n → MayFronts front groups q → f ≡ Some (after_fronts front groups q i))
    three fronts (third e name owner id r) (with_pairs e.id id m)
    (owner_holds e name owner id those here r (with_pairs e.id id m) now may)
    (may_fronts e name front owner id groups those r is are may)
    ∙ ap (λ (x : List ℕ). Some (after_fronts x groups (third e name owner id r) there)) is
    ∙ ap (λ (xs : List ℤ). Some (after_fronts (front_of name) xs (third e name owner id r) there)) are

pub turn_ok : {T E : Type 0} (res : Result T E) (a z b c d f : Option (List ℕ)) (e : PrEntry) (name front : List ℕ) (owner id : ℤ)
    (groups : List ℤ) → z ≡ a → AreUnder a e.name groups → Steps e name owner id z b c d → front ≡ front_of name
    → OnOk res (Fronts d f front groups)
    → OnOk res (IfSome a (λ image. (r : Registry) (m : Members) → Holds image r m
    → MayTurn e name owner id (ids_by_block (is_under e.name) image) r → IsTurned e name owner id r m image f))
turn_ok (Err x) a z b c d f e name front owner id groups same are s is fronts = tt
turn_ok (Ok x) None z b c d f e name front owner id groups same are s is fronts = tt
turn_ok (Ok x) (Some image) z b c d f e name front owner id groups same are s is fronts = λ r m h may its others own list.
    turned_at image r m e name front owner id groups its others z b c d f same are s is fronts h may own list

abbrev pub FrontsHeld : (bytes after : Option (List ℕ)) → (front : List ℕ) → List ℤ → Type 0
FrontsHeld bytes after front groups =
    IfSome bytes
    (λ image. (r : Registry) (m : Members) → Holds image r m → MayFronts front groups r
    → IsSomeAnd after (λ behind. Holds behind (with_fronts front groups r) m))

pub turn_holds : {T E : Type 0} (res : Result T E) (a z b c d f : Option (List ℕ)) (e : PrEntry) (name front : List ℕ) (owner id : ℤ)
    (groups : List ℤ) → z ≡ a → AreUnder a e.name groups → Steps e name owner id z b c d → front ≡ front_of name
    → OnOk res (FrontsHeld d f front groups)
    → OnOk res (IfSome a (λ image. (r : Registry) (m : Members) → Holds image r m
    → MayTurn e name owner id (ids_by_block (is_under e.name) image) r
    → IsSomeAnd f (λ after. Holds after (with_turn e name owner id (ids_by_block (is_under e.name) image) r) (with_pairs e.id id m))))
turn_holds (Err x) a z b c d f e name front owner id groups same are s is fronts = tt
turn_holds (Ok x) None z b c d f e name front owner id groups same are s is fronts = tt
turn_holds (Ok x) (Some image) z b c d f e name front owner id groups same are s is fronts = λ r m h may.
    let those = ids_by_block (is_under e.name) image in
    let y = owner_behind e name owner id those image r m z b c d same s h may in
    subst (λ (x : List ℕ). IsSomeAnd f (λ after. Holds after (with_fronts x those (third e name owner id r)) (with_pairs e.id id m))) is
    (subst (λ (xs : List ℤ). IsSomeAnd f (λ after. Holds after (with_fronts front xs (third e name owner id r)) (with_pairs e.id id m))) are
    (some_at d y.at (λ i. (q : Registry) (n : Members) → Holds i q n → MayFronts front groups q
    → IsSomeAnd f (λ after. Holds after (with_fronts front groups q) n)) y.is fronts (third e name owner id r) (with_pairs e.id id m)
    y.holds (may_fronts e name front owner id groups those r is are may)))

-- ---- faults

pub look_cause : (a : Option (List ℕ)) (e : PrEntry) (name : List ℕ) (owner id : ℤ) (fault : RecordFault) → HasItsCause a fault
    → HasCause a (HasTurn e name owner id) fault
look_cause a e name owner id DiskFault cause = tt
look_cause a e name owner id NoMemory cause = tt
look_cause None e name owner id (BadRecord at) cause = tt
look_cause (Some image) e name owner id (BadRecord at) cause = λ q. cause (q.0, q.1, q.2)

pub name_cause : (a z : Option (List ℕ)) (e : PrEntry) (name : List ℕ) (owner id : ℤ) (fault : RecordFault) → z ≡ a
    → HasCauseWhere (λ r m. MayRefits (named name) (e.id ∷ []) r) z fault → HasCause a (HasTurn e name owner id) fault
name_cause a z e name owner id DiskFault same cause = tt
name_cause a z e name owner id NoMemory same cause = tt
name_cause None z e name owner id (BadRecord at) same cause = tt
name_cause (Some image) z e name owner id (BadRecord at) same cause = λ q.
    some_at z image (λ i. ((r : Registry) × (m : Members) × Holds i r m × MayRefits (named name) (e.id ∷ []) r) → ⊥) same cause
    (q.0, q.1, q.2, may_name e name owner id (ids_by_block (is_under e.name) image) q.0 q.3)

pub id_turn_cause : (a z b : Option (List ℕ)) (e : PrEntry) (name : List ℕ) (owner id : ℤ) (fault : RecordFault) → z ≡ a
    → LeavesOne (named name) e.id z b → HasCauseWhere (λ r m. MayId e.id id r) b fault → HasCause a (HasTurn e name owner id) fault
id_turn_cause a z b e name owner id DiskFault same names cause = tt
id_turn_cause a z b e name owner id NoMemory same names cause = tt
id_turn_cause None z b e name owner id (BadRecord at) same names cause = tt
id_turn_cause (Some image) z b e name owner id (BadRecord at) same names cause = λ q.
    let those = ids_by_block (is_under e.name) image in
    some_at b (after_refit (named name) (q.0.entry e.id) image)
    (λ i. ((r : Registry) × (m : Members) × Holds i r m × MayId e.id id r) → ⊥)
    (named_at e name owner id those image q.0 q.1 z b same names q.2 q.3) cause
    (first e name q.0, q.1, named_holds e name owner id those image q.0 q.1 q.2 q.3, q.3.id_may)

-- the entry has its name and its id
pub record HasBoth (e : PrEntry) (name : List ℕ) (id : ℤ) (z b c : Option (List ℕ)) : Type 0 where
  pub names : LeavesOne (named name) e.id z b
  pub id_held : IdHeld b c e.id id

pub owner_cause : (a z b c : Option (List ℕ)) (e : PrEntry) (name : List ℕ) (owner id : ℤ) (fault : RecordFault) → z ≡ a
    → HasBoth e name id z b c → HasCauseWhere (λ r m. MayGive (id ∷ []) (moved e.id id owner) r) c fault
    → HasCause a (HasTurn e name owner id) fault
owner_cause a z b c e name owner id DiskFault same s cause = tt
owner_cause a z b c e name owner id NoMemory same s cause = tt
owner_cause None z b c e name owner id (BadRecord at) same s cause = tt
owner_cause (Some image) z b c e name owner id (BadRecord at) same s cause = λ q.
    let those = ids_by_block (is_under e.name) image in
    let y = behind_of c (second e name id q.0) (with_pairs e.id id q.1)
    (some_at b (after_refit (named name) (q.0.entry e.id) image) (λ i. (x : Registry) (n : Members) → Holds i x n → MayId e.id id x
    → IsSomeAnd c (λ o. Holds o (with_id e.id id x) (with_pairs e.id id n)))
    (named_at e name owner id those image q.0 q.1 z b same s.names q.2 q.3) s.id_held (first e name q.0) q.1
    (named_holds e name owner id those image q.0 q.1 q.2 q.3) q.3.id_may) in
    some_at c y.at (λ i. ((r : Registry) × (m : Members) × Holds i r m × MayGive (id ∷ []) (moved e.id id owner) r) → ⊥) y.is cause
    (second e name id q.0, with_pairs e.id id q.1, y.holds, q.3.owner_may)

fronts_cause : (a z b c d : Option (List ℕ)) (e : PrEntry) (name front : List ℕ) (owner id : ℤ) (groups : List ℤ) (fault : RecordFault)
    → z ≡ a → AreUnder a e.name groups → Steps e name owner id z b c d → front ≡ front_of name
    → HasCauseWhere (λ r m. MayFronts front groups r) d fault → HasCause a (HasTurn e name owner id) fault
fronts_cause a z b c d e name front owner id groups DiskFault same are s is cause = tt
fronts_cause a z b c d e name front owner id groups NoMemory same are s is cause = tt
fronts_cause None z b c d e name front owner id groups (BadRecord at) same are s is cause = tt
fronts_cause (Some image) z b c d e name front owner id groups (BadRecord at) same are s is cause = λ q.
    let those = ids_by_block (is_under e.name) image in
    let y = owner_behind e name owner id those image q.0 q.1 z b c d same s q.2 q.3 in
    some_at d y.at (λ i. ((r : Registry) × (m : Members) × Holds i r m × MayFronts front groups r) → ⊥) y.is cause
    (third e name owner id q.0, with_pairs e.id id q.1, y.holds, may_fronts e name front owner id groups those q.0 is are q.3)

pub fronts_err : {T : Type 0} (res : Result T RecordFault) (a z b c d : Option (List ℕ)) (e : PrEntry) (name front : List ℕ) (owner id : ℤ)
    (groups : List ℤ) → z ≡ a → AreUnder a e.name groups → Steps e name owner id z b c d → front ≡ front_of name
    → IfErr res (HasCauseWhere (λ r m. MayFronts front groups r) d) → IfErr res (HasCause a (HasTurn e name owner id))
fronts_err (Ok x) a z b c d e name front owner id groups same are s is cause = tt
fronts_err (Err fault) a z b c d e name front owner id groups same are s is cause =
    fronts_cause a z b c d e name front owner id groups fault same are s is cause
