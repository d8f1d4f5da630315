-- Entries that get another front, one after the other: that each may when it is its turn, and the registry then.
use Rattle.std.proofs.Common.{◌≡◌, ℕ, ℤ, Bool, true, false, ◌||◌, cond, List, [], ◌∷◌, Option, Some, None, IsSome, IsSomeAnd, refl, sym, ap, subst, ◌∙◌, ⊎_elim, inl, inr}
use Rattle.std.specs.Prelude.{◌⊎◌, option_map}
use Rattle.std.specs.List.{All, AllByRecursion, list_any}
use Rattle.std.specs.Ordering.{int_eq}
use Rattle.std.proofs.Math.Path.{fun_ext}
use Rattle.prdb_layout.specs.Registry.{Registry, IsOwner, IsRecord, IsRegistry, MayReplace, behind_colon, is_name_for, with_entry}
use Rattle.prdb_layout.specs.State.{PrEntry, fixed_entries, front_of}
use Rattle.prdb_layout.proofs.Changed.{by_id, some_same, under_other, under_same}
use Rattle.pt_service.specs.Names.{with_front}
use Rattle.pt_service.proofs.Refitted.{some_with}
use Rattle.prdb_turns.specs.Fronts.{MayFronts, fronted, with_fronts}
use Rattle.prdb_turns.specs.Refits.{MayRefit, with_refit}
use Rattle.pt_looks.proofs.Pairs.{is_there, some_is}
use Rattle.pt_turns.specs.Under.{is_under}
use Rattle.pt_turns.proofs.Fronts.{front_again, is_colon, parts_of}
use Rattle.pt_turns.proofs.Named.{front_twice, id_of, record_with, under_parts}

-- the name that an entry has in the end
abbrev pub last_name : (front : List ℕ) → Bool → PrEntry → List ℕ
last_name front b f = cond b (with_front front f.name) f.name

-- Of these ids the entries, whose names begin with a whole name and a `:`, may get a front: with it no name is another's, each is one, and
-- none is a fixed entry's.
pub record IsFronting (r : Registry) (whole front : List ℕ) (is : ℤ → Bool) : Type 0 where
  pub valid : IsRegistry r
  pub plain : list_any is_colon front ≡ false
  pub there : (z : ℤ) → is z ≡ true → IsSome (r.entry z)
  pub under : (z : ℤ) (f : PrEntry) → r.entry z ≡ Some f → is z ≡ true → is_under whole f.name ≡ true
  pub good : (z : ℤ) (f : PrEntry) → r.entry z ≡ Some f → is z ≡ true → is_name_for f.id (with_front front f.name) ≡ true
  pub free : (z : ℤ) (f : PrEntry) → r.entry z ≡ Some f → is z ≡ true
      → All (λ h. h.id ≡ f.id → with_front front f.name ≡ h.name) fixed_entries
  pub apart : (y z : ℤ) (f g : PrEntry) → r.entry y ≡ Some f → r.entry z ≡ Some g → is y ≡ true
      → last_name front (is z) g ≡ with_front front f.name → z ≡ y

again : (front : List ℕ) (f : PrEntry) → list_any is_colon front ≡ false → fronted front (fronted front f) ≡ fronted front f
again front f none = ap (λ (n : List ℕ). record f { name = n }) (front_twice front front f.name none)

-- ---- some of them have it

-- an entry of these has it
pub record HasFront (r : Registry) (front : List ℕ) (is : ℤ → Bool) (z : ℤ) (now : Option PrEntry) : Type 0 where
  pub entry : PrEntry
  pub there : r.entry z ≡ Some entry
  pub one : is z ≡ true
  pub now_is : now ≡ Some (fronted front entry)

-- each entry is as it was, or has it
abbrev pub IsPartly : Registry → (front : List ℕ) → (ℤ → Bool) → (now : Registry) → Type 0
IsPartly r front is now = (z : ℤ) → (now.entry z ≡ r.entry z) ⊎ HasFront r front is z (now.entry z)

-- the entry of an id among these, and what it is now
record IsOne (r now : Registry) (front : List ℕ) (is : ℤ → Bool) (id : ℤ) : Type 0 where
  old : PrEntry
  entry : PrEntry
  one : is id ≡ true
  old_at : r.entry id ≡ Some old
  now_at : now.entry id ≡ Some entry
  turns : fronted front entry ≡ fronted front old
  old_id : old.id ≡ id
  own_id : entry.id ≡ id

one_now : (r now : Registry) (whole front : List ℕ) (is : ℤ → Bool) (id : ℤ) (f : PrEntry) → IsFronting r whole front is
    → r.entry id ≡ Some f → is id ≡ true → (now.entry id ≡ r.entry id) ⊎ HasFront r front is id (now.entry id)
    → IsOne r now front is id
one_now r now whole front is id f t at one (inl same) = record {
  old = f;
  entry = f;
  one = one;
  old_at = at;
  now_at = same ∙ at;
  turns = refl;
  old_id = t.valid.ids id f at;
  own_id = t.valid.ids id f at;
}
one_now r now whole front is id f t at one (inr has) =
    let same : has.entry ≡ f = some_same (sym has.there ∙ at) in
    record {
      old = f;
      entry = fronted front f;
      one = one;
      old_at = at;
      now_at = has.now_is ∙ ap (λ (x : PrEntry). Some (fronted front x)) same;
      turns = again front f t.plain;
      old_id = t.valid.ids id f at;
      own_id = t.valid.ids id f at;
    }

one_of : (r now : Registry) (whole front : List ℕ) (is : ℤ → Bool) (id : ℤ) → IsFronting r whole front is → IsPartly r front is now
    → is id ≡ true → IsOne r now front is id
one_of r now whole front is id t partly one =
    let f = some_is (r.entry id) (t.there id one) in one_now r now whole front is id f.0 t f.1 one (partly id)

next_each : (r now : Registry) (front : List ℕ) (is : ℤ → Bool) (id : ℤ) (o : IsOne r now front is id) → IsPartly r front is now
    → IsPartly r front is (with_entry (fronted front o.entry) now)
next_each r now front is id o partly z =
    by_id z o.entry.id
    (λ same. inr (record {
      entry = o.old;
      there = ap r.entry (same ∙ o.own_id) ∙ o.old_at;
      one = ap is (same ∙ o.own_id) ∙ o.one;
      now_is = under_same o.entry.id z (Some (fronted front o.entry)) now.entry same ∙ ap Some o.turns;
    }))
    (λ other.
    subst (λ (x : Option PrEntry). (x ≡ r.entry z) ⊎ HasFront r front is z x)
    (sym (under_other o.entry.id z (Some (fronted front o.entry)) now.entry other)) (partly z))

partly_next : (r now : Registry) (front : List ℕ) (is : ℤ → Bool) (id : ℤ) → IsOne r now front is id → IsPartly r front is now
    → IsPartly r front is (with_refit (fronted front) (now.entry id) now)
partly_next r now front is id o partly =
    subst (IsPartly r front is) (ap (λ (x : Option PrEntry). with_refit (fronted front) x now) (sym o.now_at))
    (next_each r now front is id o partly)

-- ---- the next one may have it

-- a name with the front is no other one's
front_other : (r : Registry) (whole front : List ℕ) (is : ℤ → Bool) (y z : ℤ) (f g : PrEntry) (b : Bool) → IsFronting r whole front is
    → r.entry y ≡ Some f → r.entry z ≡ Some g → is y ≡ true → is z ≡ b → g.name ≡ with_front front f.name → z ≡ y
front_other r whole front is y z f g true t f_at g_at one two same =
    -- both are named so, and the front is the old one
    let f_parts = under_parts whole f.name (t.under y f f_at one) in
    let g_parts = under_parts whole g.name (t.under z g g_at two) in
    let fronts : front ≡ whole =
    sym (front_again front (behind_colon f.name) t.plain) ∙ ap front_of (sym same) ∙ g_parts.1 in
    let stays : with_front front f.name ≡ f.name =
    ap (λ (x : List ℕ). with_front x f.name) (fronts ∙ sym f_parts.1) ∙ sym (parts_of f.name f_parts.0) in
    t.valid.names z y g f g_at f_at (same ∙ stays)
front_other r whole front is y z f g false t f_at g_at one two same =
    t.apart y z f g f_at g_at one (ap (λ (b : Bool). last_name front b g) two ∙ same)

now_other : (r now : Registry) (whole front : List ℕ) (is : ℤ → Bool) (y z : ℤ) (f g : PrEntry) → IsFronting r whole front is
    → r.entry y ≡ Some f → is y ≡ true → now.entry z ≡ Some g → (now.entry z ≡ r.entry z) ⊎ HasFront r front is z (now.entry z)
    → g.name ≡ with_front front f.name → z ≡ y
now_other r now whole front is y z f g t f_at one at (inl stays) same =
    front_other r whole front is y z f g (is z) t f_at (sym stays ∙ at) one refl same
now_other r now whole front is y z f g t f_at one at (inr has) same =
    let new : g ≡ fronted front has.entry = some_same (sym at ∙ has.now_is) in
    t.apart y z f has.entry f_at has.there one
    (ap (λ (b : Bool). last_name front b has.entry) has.one ∙ ap (λ (x : PrEntry). x.name) (sym new) ∙ same)

partly_some : (r now : Registry) (front : List ℕ) (is : ℤ → Bool) (z : ℤ) → IsPartly r front is now → IsSome (r.entry z)
    → IsSome (now.entry z)
partly_some r now front is z partly some =
    ⊎_elim (λ (same : now.entry z ≡ r.entry z). subst (λ (o : Option PrEntry). IsSome o) (sym same) some)
    (λ (has : HasFront r front is z (now.entry z)). is_there (now.entry z) (fronted front has.entry) has.now_is) (partly z)

owner_stays : (r now : Registry) (front : List ℕ) (is : ℤ → Bool) (f : PrEntry) (owner : ℤ) → IsPartly r front is now
    → IsOwner r.entry owner → IsOwner (with_entry f now).entry owner
owner_stays r now front is f owner partly (inl none) = inl none
owner_stays r now front is f owner partly (inr some) = inr (some_with now f owner (partly_some r now front is owner partly some))

may_replace : (r now : Registry) (whole front : List ℕ) (is : ℤ → Bool) (id : ℤ) (f : PrEntry) → IsFronting r whole front is
    → IsPartly r front is now → r.entry id ≡ Some f → is id ≡ true → f.id ≡ id → MayReplace f.id (fronted front f) now
may_replace r now whole front is id f t partly at one own = record {
  there = partly_some r now front is f.id partly (is_there (r.entry f.id) f (ap r.entry own ∙ at));
  same_id = refl;
  name = λ other g there same. now_other r now whole front is id other f g t at one there (partly other) same ∙ sym own;
  fixed = t.free id f at one;
  among = record {
    owner = owner_stays r now front is (fronted front f) f.owner partly (t.valid.among id f at).owner;
    creator = (t.valid.among id f at).creator;
  };
}

-- an entry may stand in place of that of its id
abbrev MayBe : Registry → PrEntry → Type 0
MayBe now y = IsRecord y × MayReplace y.id y now

may_one : (r now : Registry) (whole front : List ℕ) (is : ℤ → Bool) (id : ℤ) → IsFronting r whole front is → IsPartly r front is now
    → (o : IsOne r now front is id) → MayRefit (fronted front) now o.entry
may_one r now whole front is id t partly o =
    subst (MayBe now) (sym o.turns) (
      record_with o.old (with_front front o.old.name) (t.valid.records id o.old o.old_at) (t.good id o.old o.old_at o.one),
      may_replace r now whole front is id o.old t partly o.old_at o.one o.old_id,
    )

-- ---- all of them

abbrev pub AreThese : (ℤ → Bool) → List ℤ → Type 0
AreThese is those = AllByRecursion (λ id. is id ≡ true) those

pub may_fronts : (r now : Registry) (whole front : List ℕ) (is : ℤ → Bool) (those : List ℤ) → IsFronting r whole front is
    → IsPartly r front is now → AreThese is those → MayFronts front those now
may_fronts r now whole front is [] t partly all = tt
may_fronts r now whole front is (id ∷ those) t partly all =
    let o = one_of r now whole front is id t partly all.0 in (
      subst (λ (x : Option PrEntry). IsSomeAnd x (MayRefit (fronted front) now)) (sym o.now_at)
          (may_one r now whole front is id t partly o),
      may_fronts r (with_refit (fronted front) (now.entry id) now) whole front is those t (partly_next r now front is id o partly) all.1,
    )

-- ---- the registry then

-- the entries of these ids have it
abbrev pub all_fronted : (front : List ℕ) → List ℤ → Registry → Registry
all_fronted front xs r = record r {
  entry = λ z. cond (list_any (int_eq z) xs) (option_map (fronted front) (r.entry z)) (r.entry z);
}

abbrev pub HasOwnIds : Registry → Type 0
HasOwnIds r = (z : ℤ) (f : PrEntry) → r.entry z ≡ Some f → f.id ≡ z

own_next : (front : List ℕ) (r : Registry) (e : PrEntry) → HasOwnIds r → HasOwnIds (with_entry (fronted front e) r)
own_next front r e own z f at =
    by_id z e.id
    (λ same.
    let one : fronted front e ≡ f = some_same (sym (under_same e.id z (Some (fronted front e)) r.entry same) ∙ at) in
    sym (ap (λ (x : PrEntry). x.id) one) ∙ sym same)
    (λ other. own z f (sym (under_other e.id z (Some (fronted front e)) r.entry other) ∙ at))

none_tests : (front : List ℕ) (a b : Bool) (o : Option PrEntry) → (a ≡ true → o ≡ None)
    → cond b (option_map (fronted front) o) o ≡ cond (a || b) (option_map (fronted front) o) o
none_tests front true true o none = refl
none_tests front true false o none = none refl ∙ ap (option_map (fronted front)) (sym (none refl))
none_tests front false b o none = refl

some_tests : (front : List ℕ) (a b : Bool) (e : PrEntry) (o : Option PrEntry) → list_any is_colon front ≡ false → (a ≡ true → o ≡ Some e)
    → cond b (option_map (fronted front) (cond a (Some (fronted front e)) o)) (cond a (Some (fronted front e)) o)
    ≡ cond (a || b) (option_map (fronted front) o) o
some_tests front true true e o plain at = ap Some (again front e plain) ∙ sym (ap (option_map (fronted front)) (at refl))
some_tests front true false e o plain at = sym (ap (option_map (fronted front)) (at refl))
some_tests front false true e o plain at = refl
some_tests front false false e o plain at = refl

as_entries : (r : Registry) (a b : ℤ → Option PrEntry) → ((z : ℤ) → a z ≡ b z)
    → ◌≡◌ {A = Registry} (record r { entry = a }) (record r { entry = b })
as_entries r a b each = ap (λ (f : ℤ → Option PrEntry). record r { entry = f }) (fun_ext each)

none_next : (front : List ℕ) (x : ℤ) (xs : List ℤ) (r : Registry) → r.entry x ≡ None → all_fronted front xs r ≡ all_fronted front (x ∷ xs) r
none_next front x xs r none =
    as_entries r (all_fronted front xs r).entry (all_fronted front (x ∷ xs) r).entry (λ z. none_tests front (int_eq z x)
    (list_any (int_eq z) xs) (r.entry z) (λ (same : int_eq z x ≡ true). ap r.entry (id_of z x same) ∙ none))

some_at : (front : List ℕ) (x : ℤ) (xs : List ℤ) (r : Registry) (e : PrEntry) (z : ℤ) → list_any is_colon front ≡ false → r.entry x ≡ Some e
    → e.id ≡ x → (all_fronted front xs (with_entry (fronted front e) r)).entry z ≡ (all_fronted front (x ∷ xs) r).entry z
some_at front x xs r e z plain at own =
    let o = r.entry z in
    let new = Some (fronted front e) in
    ap (λ (y : ℤ). cond (list_any (int_eq z) xs) (option_map (fronted front) (cond (int_eq z y) new o)) (cond (int_eq z y) new o)) own
    ∙ some_tests front (int_eq z x) (list_any (int_eq z) xs) e o plain (λ (same : int_eq z x ≡ true). ap r.entry (id_of z x same) ∙ at)

some_next : (front : List ℕ) (x : ℤ) (xs : List ℤ) (r : Registry) (e : PrEntry) → list_any is_colon front ≡ false → r.entry x ≡ Some e
    → e.id ≡ x → all_fronted front xs (with_entry (fronted front e) r) ≡ all_fronted front (x ∷ xs) r
some_next front x xs r e plain at own =
    as_entries r (all_fronted front xs (with_entry (fronted front e) r)).entry (all_fronted front (x ∷ xs) r).entry
    (λ z. some_at front x xs r e z plain at own)

fronts_next : (front : List ℕ) (x : ℤ) (xs : List ℤ) (r : Registry) (o : Option PrEntry) → list_any is_colon front ≡ false → HasOwnIds r
    → r.entry x ≡ o → ((q : Registry) → HasOwnIds q → with_fronts front xs q ≡ all_fronted front xs q)
    → with_fronts front xs (with_refit (fronted front) o r) ≡ all_fronted front (x ∷ xs) r
fronts_next front x xs r None plain own at each = each r own ∙ none_next front x xs r at
fronts_next front x xs r (Some e) plain own at each =
    each (with_entry (fronted front e) r) (own_next front r e own) ∙ some_next front x xs r e plain at (own x e at)

pub fronts_are : (front : List ℕ) (xs : List ℤ) (r : Registry) → list_any is_colon front ≡ false → HasOwnIds r
    → with_fronts front xs r ≡ all_fronted front xs r
fronts_are front [] r plain own = refl
fronts_are front (x ∷ xs) r plain own =
    fronts_next front x xs r (r.entry x) plain own refl (λ q is. fronts_are front xs q plain is)
