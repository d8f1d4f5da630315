-- A registry in which an entry has another id is valid, and so are its pairs.
use Rattle.std.proofs.Common.{◌≡◌, ◌≢◌, ℕ, ℤ, pos, negsuc, ◌<◌, true, false, Bool, cond, List, get_or, length, Option, Some, None, IsSome, refl, sym, ap, subst, ◌∙◌, inl, inr, arith}
use Rattle.std.specs.Prelude.{◌⊎◌, ◌||◌, ◌<ℤ◌, IsTrue, IsSomeAnd, int_lt, option_map, option_and_then}
use Rattle.std.specs.Ordering.{int_eq}
use Rattle.std.proofs.lemmas.Bool.Decides.{Decides-int_eq}
use Rattle.std.proofs.lemmas.Int.{ints}
use Rattle.std.proofs.lemmas.List.{get_or-map, length-map}
use Rattle.prdb_layout.specs.Registry.{Registry, IsAmong, IsFixedId, IsOwner, IsRecord, IsRegistry, is_name_for}
use Rattle.prdb_layout.specs.State.{IsId, PrEntry, fixed_entries}
use Rattle.prdb_layout.proofs.Changed.{by_id, some_same}
use Rattle.prdb_lists.specs.Members.{ArePairs, Members, are_paired}
use Rattle.prdb_lists.specs.Moves.{MayMove, before, both_have, moved_members, moved_registry, with_moved_id}
use Rattle.prdb_lists.proofs.Gains.{some_entry}
use Rattle.prdb_lists.proofs.RecordsKeep.{int_other, true_false}

not_none : (o : Option PrEntry) → o ≡ None → IsSome o → ⊥
not_none o none there = let no : IsSome {T = PrEntry} None = subst (λ (v : Option PrEntry). IsSome v) none there in absurd cc

-- ---- ids

pub ids_differ : (old new : ℤ) (r : Registry) → MayMove old new r → new ≢ old
ids_differ old new r may same = not_none (r.entry old) (ap r.entry (sym same) ∙ may.new_id) may.there

pub there_differs : (old new : ℤ) (r : Registry) → MayMove old new r → (x : ℤ) → IsSome (r.entry x) → x ≢ new
there_differs old new r may x there same = not_none (r.entry x) (ap r.entry same ∙ may.new_id) there

-- the id that an entry had before, of one that is not the old id
abbrev pub back : (old new : ℤ) → ℤ → ℤ
back old new x = cond (int_eq x new) old x

pub back_new : (old new x : ℤ) → x ≡ new → back old new x ≡ old
back_new old new x same = ap (λ (b : Bool). cond b old x) ((Decides-int_eq x new).1 same)

pub back_other : (old new x : ℤ) → x ≢ new → back old new x ≡ x
back_other old new x other = ap (λ (b : Bool). cond b old x) (int_other x new other)

before_new : (old new x : ℤ) → x ≡ new → before old new x ≡ Some old
before_new old new x same = ap (λ (b : Bool). cond b (Some old) (cond (int_eq x old) None (Some x))) ((Decides-int_eq x new).1 same)

before_other : (old new x : ℤ) → x ≢ new → x ≢ old → before old new x ≡ Some x
before_other old new x other apart =
    ap (λ (b : Bool). cond b (Some old) (cond (int_eq x old) None (Some x))) (int_other x new other)
    ∙ ap (λ (b : Bool). cond b None (Some x)) (int_other x old apart)

before_old : (old new x : ℤ) → new ≢ old → x ≡ old → before old new x ≡ None
before_old old new x differ same =
    ap (λ (b : Bool). cond b (Some old) (cond (int_eq x old) None (Some x))) (int_other x new (λ is. differ (sym is ∙ same)))
    ∙ ap (λ (b : Bool). cond b None (Some x)) ((Decides-int_eq x old).1 same)

before_back : (old new x : ℤ) → x ≢ old → before old new x ≡ Some (back old new x)
before_back old new x apart =
    by_id x new
    (λ same. before_new old new x same ∙ ap Some (sym (back_new old new x same)))
    (λ other. before_other old new x other apart ∙ ap Some (sym (back_other old new x other)))

-- ---- entries

pub entry_stays : (old new : ℤ) (e : PrEntry) → e.id ≢ old → with_moved_id old new e ≡ e
entry_stays old new e other = ap (λ (b : Bool). record e { id = cond b new e.id }) (int_other e.id old other)

pub entry_moves : (old new : ℤ) (e : PrEntry) → e.id ≡ old → (with_moved_id old new e).id ≡ new
entry_moves old new e same = ap (λ (b : Bool). cond b new e.id) ((Decides-int_eq e.id old).1 same)

at_before : (old new : ℤ) (r : Registry) (x : ℤ) (o : Option ℤ) → before old new x ≡ o
    → (moved_registry old new r).entry x ≡ option_map (with_moved_id old new) (option_and_then r.entry o)
at_before old new r x o is = ap (λ (p : Option ℤ). option_map (with_moved_id old new) (option_and_then r.entry p)) is

pub moved_new : (old new : ℤ) (r : Registry) (x : ℤ) → x ≡ new
    → (moved_registry old new r).entry x ≡ option_map (with_moved_id old new) (r.entry old)
moved_new old new r x same = at_before old new r x (Some old) (before_new old new x same)

pub moved_old : (old new : ℤ) (r : Registry) (x : ℤ) → new ≢ old → x ≡ old → (moved_registry old new r).entry x ≡ None
moved_old old new r x differ same = at_before old new r x None (before_old old new x differ same)

same_entries : (old new : ℤ) (x : ℤ) (o : Option PrEntry) → ((e : PrEntry) → o ≡ Some e → e.id ≡ x) → x ≢ old
    → option_map (with_moved_id old new) o ≡ o
same_entries old new x None ids apart = refl
same_entries old new x (Some e) ids apart = ap Some (entry_stays old new e (λ same. apart (sym (ids e refl) ∙ same)))

pub moved_same : (old new : ℤ) (r : Registry) → IsRegistry r → (x : ℤ) → x ≢ new → x ≢ old → (moved_registry old new r).entry x ≡ r.entry x
moved_same old new r valid x other apart =
    at_before old new r x (Some x) (before_other old new x other apart) ∙ same_entries old new x (r.entry x) (valid.ids x) apart

is_some : (o : Option PrEntry) (e : PrEntry) → o ≡ Some e → IsSome o
is_some o e at = subst (λ (v : Option PrEntry). IsSome v) (sym at) refl

mapped_there : (f : PrEntry → PrEntry) (o : Option PrEntry) → IsSome o → IsSome (option_map f o)
mapped_there f None there = absurd cc
mapped_there f (Some e) there = refl

-- an entry that was there is there under its id now, and the other way round
pub there_moved : (old new : ℤ) (r : Registry) → IsRegistry r → (x : ℤ) → x ≢ old → IsSome (r.entry (back old new x))
    → IsSome ((moved_registry old new r).entry x)
there_moved old new r valid x apart there =
    by_id x new
    (λ same. subst (λ (o : Option PrEntry). IsSome o) (sym (moved_new old new r x same))
    (mapped_there (with_moved_id old new) (r.entry old) (subst (λ (y : ℤ). IsSome (r.entry y)) (back_new old new x same) there)))
    (λ other.
    subst (λ (o : Option PrEntry). IsSome o) (sym (moved_same old new r valid x other apart))
    (subst (λ (y : ℤ). IsSome (r.entry y)) (back_other old new x other) there))

pub moved_there : (old new : ℤ) (r : Registry) → IsRegistry r → MayMove old new r → (x : ℤ) → IsSome ((moved_registry old new r).entry x)
    → (x ≢ old) × IsSome (r.entry (back old new x))
moved_there old new r valid may x there =
    let apart : x ≢ old = λ same.
    not_none ((moved_registry old new r).entry x) (moved_old old new r x (ids_differ old new r may) same) there in (
      apart,
      by_id x new
          (λ same. subst (λ (y : ℤ). IsSome (r.entry y)) (sym (back_new old new x same)) may.there)
          (λ other.
          subst (λ (y : ℤ). IsSome (r.entry y)) (sym (back_other old new x other))
          (subst (λ (o : Option PrEntry). IsSome o) (moved_same old new r valid x other apart) there)),
    )

-- ---- the registry

-- an entry after the move is one that was there, or the one that has the new id
record IsTheMoved (old new : ℤ) (r : Registry) (id : ℤ) (e : PrEntry) : Type 0 where
  was : PrEntry
  at : r.entry old ≡ Some was
  is : e ≡ with_moved_id old new was
  id_is : id ≡ new

moved_cases : (old new : ℤ) (r : Registry) → IsRegistry r → MayMove old new r → (id : ℤ) (e : PrEntry)
    → (moved_registry old new r).entry id ≡ Some e
    → IsTheMoved old new r id e ⊎ ((id ≢ old) × (r.entry id ≡ Some e))
moved_cases old new r valid may id e at =
    by_id id new
    (λ same. inl (some_entry (r.entry old) may.there (λ w was.
    record {
      was = w;
      at = was;
      is = some_same (sym at ∙ moved_new old new r id same ∙ ap (option_map (with_moved_id old new)) was);
      id_is = same;
    })))
    (λ other.
    let apart : id ≢ old = λ same.
    not_none ((moved_registry old new r).entry id) (moved_old old new r id (ids_differ old new r may) same) (is_some _ e at) in
    inr (apart, sym (moved_same old new r valid id other apart) ∙ at))

same_form : (a b : ℤ) (name : List ℕ) → int_lt b (pos 0) ≡ int_lt a (pos 0) → is_name_for b name ≡ is_name_for a name
same_form (pos a) (pos b) name same = refl
same_form (negsuc a) (negsuc b) name same = refl
same_form (pos a) (negsuc b) name same = absurd (grind (arith, ints))
same_form (negsuc a) (pos b) name same = absurd (grind (arith, ints))

moved_record : (old new : ℤ) (r : Registry) → IsRegistry r → MayMove old new r → (w : PrEntry) → r.entry old ≡ Some w
    → IsRecord (with_moved_id old new w)
moved_record old new r valid may w at =
    let was = valid.records old w at in
    let old_id = valid.ids old w at in
    let new_id : (with_moved_id old new w).id ≡ new = entry_moves old new w old_id in
    record {
      fields = record {
        name_bytes = was.fields.name_bytes;
        name_len = was.fields.name_len;
        name_text = was.fields.name_text;
        flags = was.fields.flags;
        id = subst IsId (sym new_id) may.good;
        owner = was.fields.owner;
        creator = was.fields.creator;
        quota = was.fields.quota;
      };
      name = subst (λ (b : Bool). IsTrue b)
          (ap (λ (x : ℤ). is_name_for x w.name) old_id ∙ sym (same_form old new w.name may.kind)
          ∙ ap (λ (x : ℤ). is_name_for x w.name) (sym new_id)) was.name;
    }

-- an owner is still one: nothing was owned by the entry
owner_stays : (old new : ℤ) (r : Registry) → IsRegistry r → MayMove old new r → (id : ℤ) (e : PrEntry) → r.entry id ≡ Some e
    → IsOwner (moved_registry old new r).entry e.owner
owner_stays old new r valid may id e at = elim (valid.among id e at).owner [
  | inl none ↦ inl none
  | inr there ↦
      inr (there_moved old new r valid e.owner (may.owns_nothing id e at)
      (subst (λ (y : ℤ). IsSome (r.entry y)) (sym (back_other old new e.owner (there_differs old new r may e.owner there))) there))
]

fixed_id : (i : ℕ) (d : PrEntry) → i < length fixed_entries → IsFixedId (get_or fixed_entries i d).id
fixed_id i d below = (
  i,
  subst (λ (n : ℕ). i < n) (sym (length-map fixed_entries (λ (e : PrEntry). e.id))) below,
  get_or-map (λ (e : PrEntry). e.id) fixed_entries i d _ below,
)

some_of : (o : Option PrEntry) (P : PrEntry → Type 0) → IsSomeAnd o P → IsSome o
some_of None P is = absurd is
some_of (Some e) P is = refl

pub moved_valid : (old new : ℤ) (r : Registry) → IsRegistry r → MayMove old new r → IsRegistry (moved_registry old new r)
moved_valid old new r valid may =
    let cases = moved_cases old new r valid may in
    record {
      ids = λ id e at. elim (cases id e at) [
        | inl m ↦ ap (λ (y : PrEntry). y.id) m.is ∙ entry_moves old new m.was (valid.ids old m.was m.at) ∙ sym m.id_is
        | inr o ↦ valid.ids id e o.1
      ];
      records = λ id e at. elim (cases id e at) [
        | inl m ↦ subst IsRecord (sym m.is) (moved_record old new r valid may m.was m.at)
        | inr o ↦ valid.records id e o.1
      ];
      among = λ id e at. elim (cases id e at) [
        | inl m ↦ subst (IsAmong (moved_registry old new r).entry) (sym m.is) (record {
          owner = owner_stays old new r valid may old m.was m.at;
          creator = (valid.among old m.was m.at).creator;
        })
        | inr o ↦ record { owner = owner_stays old new r valid may id e o.1; creator = (valid.among id e o.1).creator }
      ];
      names = λ a b e f at_a at_b same. elim (cases a e at_a) [
        | inl m ↦ elim (cases b f at_b) [
          | inl n ↦ m.id_is ∙ sym n.id_is
          | inr o ↦ absurd (o.0 (sym (valid.names old b m.was f m.at o.1 (sym (ap (λ (y : PrEntry). y.name) m.is) ∙ same))))
        ]
        | inr o ↦ elim (cases b f at_b) [
          | inl n ↦ absurd (o.0 (valid.names a old e n.was o.1 n.at (same ∙ ap (λ (y : PrEntry). y.name) n.is)))
          | inr p ↦ valid.names a b e f o.1 p.1 same
        ]
      ];
      fixed = λ i d below.
          let f = get_or fixed_entries i d in
          let was = valid.fixed i d below in
          let there = some_of (r.entry (get_or fixed_entries i d).id) (λ e. e.name ≡ (get_or fixed_entries i d).name) was in
          let apart : (get_or fixed_entries i d).id ≢ old = λ same. may.not_fixed (subst IsFixedId same (fixed_id i d below)) in
          subst (λ (o : Option PrEntry). IsSomeAnd o (λ e. e.name ≡ (get_or fixed_entries i d).name))
          (sym (moved_same old new r valid (get_or fixed_entries i d).id
          (there_differs old new r may (get_or fixed_entries i d).id there) apart)) was;
      maxima = valid.maxima;
    }

-- ---- pairs

both_none : (m : Members) (o : Option ℤ) → both_have m o None ≡ false
both_none m None = refl
both_none m (Some x) = refl

-- ids that are paired are other ones than the old id
pub has_moved : (old new : ℤ) (m : Members) → new ≢ old → (a b : ℤ) → (moved_members old new m).has a b ≡ true → (a ≢ old) × (b ≢ old)
has_moved old new m differ a b has = (
  λ same. true_false _ has (ap (λ (o : Option ℤ). both_have m o (before old new b)) (before_old old new a differ same)),
  λ same. true_false _ has (ap (both_have m (before old new a)) (before_old old new b differ same) ∙ both_none m (before old new a)),
)

pub has_back : (old new : ℤ) (m : Members) (a b : ℤ) → a ≢ old → b ≢ old
    → (moved_members old new m).has a b ≡ m.has (back old new a) (back old new b)
has_back old new m a b apart_a apart_b =
    ap (λ (o : Option ℤ). both_have m o (before old new b)) (before_back old new a apart_a)
    ∙ ap (both_have m (Some (back old new a))) (before_back old new b apart_b)

pub paired_back : (old new : ℤ) (m : Members) (a b : ℤ) → a ≢ old → b ≢ old
    → are_paired (moved_members old new m) a b ≡ are_paired m (back old new a) (back old new b)
paired_back old new m a b apart_a apart_b =
    ap (λ (x : Bool). x || (moved_members old new m).has b a) (has_back old new m a b apart_a apart_b)
    ∙ ap (λ (x : Bool). m.has (back old new a) (back old new b) || x) (has_back old new m b a apart_b apart_a)

up_stays : (old new : ℤ) → IsId new → int_lt new (pos 0) ≡ int_lt old (pos 0) → pos 0 <ℤ old → pos 0 <ℤ new
up_stays (pos a) (pos b) good same up = grind (arith, ints)
up_stays (pos a) (negsuc b) good same up = absurd (grind (arith, ints))
up_stays (negsuc a) new good same up = absurd (omega (arith, ints))

down_stays : (old new : ℤ) → int_lt new (pos 0) ≡ int_lt old (pos 0) → old <ℤ pos 0 → new <ℤ pos 0
down_stays (negsuc a) (negsuc b) same down = omega (arith, ints)
down_stays (negsuc a) (pos b) same down = absurd (grind (arith, ints))
down_stays (pos a) new same down = absurd (omega (arith, ints))

by_back : (P : ℤ → Type 0) (old new x : ℤ) → (P old → P new) → P (back old new x) → P x
by_back P old new x so is =
    by_id x new
    (λ same. subst P (sym same) (so (subst P (back_new old new x same) is)))
    (λ other. subst P (back_other old new x other) is)

pub moved_pairs : (old new : ℤ) (r : Registry) (m : Members) → IsRegistry r → MayMove old new r → ArePairs r m
    → ArePairs (moved_registry old new r) (moved_members old new m)
moved_pairs old new r m valid may pairs a b has =
    let apart = has_moved old new m (ids_differ old new r may) a b has in
    let was = pairs (back old new a) (back old new b) (sym (has_back old new m a b apart.0 apart.1) ∙ has) in (
      by_back (λ x. pos 0 <ℤ x) old new a (up_stays old new may.good may.kind) was.0,
      by_back (λ x. x <ℤ pos 0) old new b (down_stays old new may.kind) was.1,
      there_moved old new r valid a apart.0 was.2,
      there_moved old new r valid b apart.1 was.3,
    )
