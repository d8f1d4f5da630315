-- An entry that may have another name, owner and id: the groups that are named after it may follow then, and the registry in the end.
use Rattle.std.proofs.Common.{◌≡◌, ◌≢◌, ℕ, ℤ, zero, suc, ◌<◌, Bool, true, false, ◌||◌, cond, List, [], ◌∷◌, length, get_or, map, Option, Some, None, refl, sym, ap, subst, ◌∙◌, ⊎_elim, arith}
use Rattle.std.specs.Prelude.{option_map, option_and_then}
use Rattle.std.specs.List.{list_any}
use Rattle.std.specs.Ordering.{int_eq}
use Rattle.std.proofs.Math.Path.{fun_ext}
use Rattle.std.proofs.lemmas.Bool.{false_from_ne_true}
use Rattle.prdb_layout.specs.Registry.{Registry, IsFixedId, IsRegistry, is_name_for}
use Rattle.prdb_layout.specs.State.{PrEntry, fixed_entries, front_of}
use Rattle.prdb_layout.proofs.Changed.{by_id, some_same}
use Rattle.prdb_lists.specs.Moves.{before}
use Rattle.pt_service.specs.Names.{with_front}
use Rattle.pt_service.specs.Turning.{is_fixed, moved, name_after, turned}
use Rattle.prdb_turns.specs.Fronts.{fronted}
use Rattle.prdb_turns.specs.Turning.{third, with_turn}
use Rattle.pt_looks.proofs.Pairs.{is_there, some_is}
use Rattle.pt_changes.specs.Turning.{MayRenumber, MayTurn}
use Rattle.pt_turns.specs.Under.{is_one_under, is_under}
use Rattle.pt_turns.proofs.Between.{midway, third_gone, third_maxima, third_other, third_own}
use Rattle.pt_turns.proofs.Fixed.{fixed_free}
use Rattle.pt_turns.proofs.Fronted.{IsFronting, all_fronted, fronts_are, last_name}
use Rattle.pt_turns.proofs.Fronts.{front_free}
use Rattle.pt_turns.proofs.Moved.{before_new, before_old, before_other, is_other, moved_other}
use Rattle.pt_turns.proofs.Named.{IsTurning, after_by, after_own, clash, names_apart, not_itself, to_id, under_good}

-- all that is known of an entry that is to have another name, owner and id
pub record IsTurnable (r : Registry) (e : PrEntry) (name : List ℕ) (owner id : ℤ) : Type 0 where
  pub valid : IsRegistry r
  pub may : MayTurn e name owner id r

pub turning : (r : Registry) (e : PrEntry) (name : List ℕ) (owner id : ℤ) → IsTurnable r e name owner id → IsTurning r e name owner
turning r e name owner id t = record { valid = t.valid; may = t.may.0 }

-- ---- its ids

pub new_apart : (r : Registry) (old new : ℤ) → MayRenumber old new r → new ≢ old
new_apart r old new may same =
    let e = some_is (r.entry old) may.there in
    let both : Some e.0 ≡ None = sym e.1 ∙ ap r.entry (sym same) ∙ may.new_id in cc

-- neither is that of an entry which is named after it
own_plain : (r : Registry) (e : PrEntry) (z : ℤ) → r.entry e.id ≡ Some e → z ≡ e.id → is_one_under e.name (r.entry z) ≡ false
own_plain r e z at same =
    ap (λ (y : ℤ). is_one_under e.name (r.entry y)) same ∙ ap (is_one_under e.name) at
    ∙ false_from_ne_true (is_under e.name e.name) (λ is. not_itself e.name is)

new_plain : (r : Registry) (e : PrEntry) (name : List ℕ) (owner id z : ℤ) → IsTurnable r e name owner id → z ≡ id
    → is_one_under e.name (r.entry z) ≡ false
new_plain r e name owner id z t same =
    ⊎_elim (λ (kept : id ≡ e.id). own_plain r e z t.may.0.there (same ∙ kept))
    (λ (new : MayRenumber e.id id r). ap (λ (y : ℤ). is_one_under e.name (r.entry y)) same ∙ ap (is_one_under e.name) new.new_id) t.may.1

-- ---- where an entry came from

-- an entry, its names before and in the end
record CameFrom (r : Registry) (e : PrEntry) (name : List ℕ) (owner id z : ℤ) (f : PrEntry) : Type 0 where
  old : PrEntry
  old_at : r.entry old.id ≡ Some old
  is : f ≡ midway e name owner id old
  last : last_name (front_of name) (is_one_under e.name (r.entry z)) f ≡ name_after e name old

own_last : (r : Registry) (e : PrEntry) (name : List ℕ) (owner id z : ℤ) → IsTurnable r e name owner id → z ≡ id
    → last_name (front_of name) (is_one_under e.name (r.entry z)) (midway e name owner id e) ≡ name_after e name e
own_last r e name owner id z t same =
    ap (λ (b : Bool). last_name (front_of name) b (midway e name owner id e)) (new_plain r e name owner id z t same)
    ∙ ap (λ (b : Bool). cond b name e.name) (to_id e.id e.id refl) ∙ sym (after_own e name)

other_last : (r : Registry) (e : PrEntry) (name : List ℕ) (owner id z : ℤ) (f : PrEntry) → r.entry z ≡ Some f → f.id ≢ e.id
    → last_name (front_of name) (is_one_under e.name (r.entry z)) (midway e name owner id f) ≡ name_after e name f
other_last r e name owner id z f at other =
    let b = is_under e.name f.name in
    let apart = is_other f.id e.id other in
    ap (λ (o : Option PrEntry). last_name (front_of name) (is_one_under e.name o) (midway e name owner id f)) at
    ∙ ap (λ (own : Bool). cond b (with_front (front_of name) (cond own name f.name)) (cond own name f.name)) apart
    ∙ sym (after_by e name f false b apart refl)

came_own : (r : Registry) (e : PrEntry) (name : List ℕ) (owner id z : ℤ) (f : PrEntry) → IsTurnable r e name owner id
    → (third e name owner id r).entry z ≡ Some f → z ≡ id → CameFrom r e name owner id z f
came_own r e name owner id z f t at same =
    let one : f ≡ midway e name owner id e = some_same (sym at ∙ third_own r e name owner id z t.may.0.there same) in
    record {
      old = e;
      old_at = t.may.0.there;
      is = one;
      last = ap (last_name (front_of name) (is_one_under e.name (r.entry z))) one ∙ own_last r e name owner id z t same;
    }

came_by : (r : Registry) (e : PrEntry) (name : List ℕ) (owner id z : ℤ) (f : PrEntry) (o : Option PrEntry) → IsTurnable r e name owner id
    → z ≢ e.id → r.entry z ≡ o → option_map (midway e name owner id) o ≡ Some f → CameFrom r e name owner id z f
came_by r e name owner id z f None t other was is = absurd cc
came_by r e name owner id z f (Some g) t other was is =
    let one : f ≡ midway e name owner id g = some_same (sym is) in
    let own : g.id ≡ z = t.valid.ids z g was in
    record {
      old = g;
      old_at = ap r.entry own ∙ was;
      is = one;
      last = ap (last_name (front_of name) (is_one_under e.name (r.entry z))) one
          ∙ other_last r e name owner id z g was (λ same. other (sym own ∙ same));
    }

gone_never : (o : Option PrEntry) (f : PrEntry) → o ≡ None → o ≡ Some f → ⊥
gone_never o f none some = let both : None ≡ Some f = sym none ∙ some in cc

came : (r : Registry) (e : PrEntry) (name : List ℕ) (owner id z : ℤ) (f : PrEntry) → IsTurnable r e name owner id
    → (third e name owner id r).entry z ≡ Some f → CameFrom r e name owner id z f
came r e name owner id z f t at =
    let own = t.may.0.there in
    by_id z id (λ same. came_own r e name owner id z f t at same)
    (λ new. by_id z e.id
    (λ old. absurd (gone_never ((third e name owner id r).entry z) f (third_gone r e name owner id z own new old) at))
    (λ other. came_by r e name owner id z f (r.entry z) t other refl (sym (third_other r e name owner id z t.valid own new other) ∙ at)))

-- ---- a group that is named after it

record IsGroup (r : Registry) (e : PrEntry) (name : List ℕ) (owner id z : ℤ) : Type 0 where
  old : PrEntry
  old_at : r.entry old.id ≡ Some old
  under : is_under e.name old.name ≡ true
  now : (third e name owner id r).entry z ≡ Some (midway e name owner id old)
  name_is : (midway e name owner id old).name ≡ old.name
  id_is : (midway e name owner id old).id ≡ old.id

group_some : (whole : List ℕ) (o : Option PrEntry) → is_one_under whole o ≡ true → (f : PrEntry) × (o ≡ Some f)
    × (is_under whole f.name ≡ true)
group_some whole None is = absurd cc
group_some whole (Some f) is = (f, refl, is)

group_at : (r : Registry) (e : PrEntry) (name : List ℕ) (owner id z : ℤ) → IsTurnable r e name owner id
    → is_one_under e.name (r.entry z) ≡ true → IsGroup r e name owner id z
group_at r e name owner id z t is =
    let own = t.may.0.there in
    let f = group_some e.name (r.entry z) is in
    let new : z ≢ id = λ same. clash (is_one_under e.name (r.entry z)) is (new_plain r e name owner id z t same) in
    let old : z ≢ e.id = λ same. clash (is_one_under e.name (r.entry z)) is (own_plain r e z own same) in
    let id_of_f = t.valid.ids z f.0 f.1 in
    let other : f.0.id ≢ e.id = λ same. old (sym id_of_f ∙ same) in
    record {
      old = f.0;
      old_at = ap r.entry id_of_f ∙ f.1;
      under = f.2;
      now = third_other r e name owner id z t.valid own new old ∙ ap (option_map (midway e name owner id)) f.1;
      name_is = ap (λ (b : Bool). cond b name f.0.name) (is_other f.0.id e.id other);
      id_is = moved_other e.id id f.0.id other;
    }

-- ---- they may have the front of its name

ids_agree : (r : Registry) (e : PrEntry) (name : List ℕ) (owner id y z : ℤ) (f g : PrEntry) → IsTurnable r e name owner id
    → IsRegistry (third e name owner id r) → (third e name owner id r).entry y ≡ Some f → (third e name owner id r).entry z ≡ Some g
    → is_one_under e.name (r.entry y) ≡ true
    → last_name (front_of name) (is_one_under e.name (r.entry z)) g ≡ with_front (front_of name) f.name → z ≡ y
ids_agree r e name owner id y z f g t valid f_at g_at one same =
    let a = came r e name owner id y f t f_at in
    let b = came r e name owner id z g t g_at in
    let last : with_front (front_of name) f.name ≡ name_after e name a.old =
    sym (ap (λ (u : Bool). last_name (front_of name) u f) one) ∙ a.last in
    let ids = names_apart r e name owner b.old a.old (turning r e name owner id t) b.old_at a.old_at (sym b.last ∙ same ∙ last) in
    sym (valid.ids z g g_at) ∙ ap (λ (x : PrEntry). x.id) b.is ∙ ap (moved e.id id) ids ∙ sym (ap (λ (x : PrEntry). x.id) a.is)
    ∙ valid.ids y f f_at

pub fronting : (r : Registry) (e : PrEntry) (name : List ℕ) (owner id : ℤ) → IsTurnable r e name owner id
    → IsRegistry (third e name owner id r)
    → IsFronting (third e name owner id r) e.name (front_of name) (λ z. is_one_under e.name (r.entry z))
fronting r e name owner id t valid = record {
  valid = valid;
  plain = front_free name;
  there = λ z is.
      let g = group_at r e name owner id z t is in is_there ((third e name owner id r).entry z) (midway e name owner id g.old) g.now;
  under = λ z f at is.
      let g = group_at r e name owner id z t is in
      ap (λ (x : PrEntry). is_under e.name x.name) (some_same (sym at ∙ g.now)) ∙ ap (is_under e.name) g.name_is ∙ g.under;
  good = λ z f at is.
      let g = group_at r e name owner id z t is in
      let m = midway e name owner id g.old in
      ap (λ (x : PrEntry). is_name_for x.id (with_front (front_of name) x.name)) (some_same (sym at ∙ g.now))
      ∙ ap (λ (i : ℤ). is_name_for i (with_front (front_of name) m.name)) g.id_is
      ∙ ap (λ (n : List ℕ). is_name_for g.old.id (with_front (front_of name) n)) g.name_is
      ∙ under_good r e name owner g.old (turning r e name owner id t) g.old_at g.under;
  free = λ z f at is k d below same.
      let g = group_at r e name owner id z t is in
      let one : f ≡ midway e name owner id g.old = some_same (sym at ∙ g.now) in
      ap (λ (x : PrEntry). with_front (front_of name) x.name) one ∙ ap (with_front (front_of name)) g.name_is
      ∙ fixed_free r e name owner g.old (turning r e name owner id t) g.old_at g.under k d below
      (same ∙ ap (λ (x : PrEntry). x.id) one ∙ g.id_is);
  apart = λ y z f g f_at g_at one same. ids_agree r e name owner id y z f g t valid f_at g_at one same;
}

-- ---- creators stay

or_second : (a b : Bool) → b ≡ true → (a || b) ≡ true
or_second true b is = refl
or_second false b is = is

fixed_at : (xs : List PrEntry) (k : ℕ) (id : ℤ) → k < length (map (λ (e : PrEntry). e.id) xs)
    → get_or (map (λ (e : PrEntry). e.id) xs) k id ≡ id
    → list_any (λ (h : PrEntry). int_eq h.id id) xs ≡ true
fixed_at [] k id below is = absurd (omega (arith, below))
fixed_at (x ∷ xs) zero id below is = ap (λ (b : Bool). b || list_any (λ (h : PrEntry). int_eq h.id id) xs) (to_id x.id id is)
fixed_at (x ∷ xs) (suc k) id below is =
    or_second (int_eq x.id id) (list_any (λ (h : PrEntry). int_eq h.id id) xs) (fixed_at xs k id (omega (arith, below)) is)

-- no fixed id is one that is not fixed
pub not_fixed : (id : ℤ) → is_fixed id ≡ false → ¬ IsFixedId id
not_fixed id is fixed = clash (is_fixed id) (fixed_at fixed_entries fixed.0 id fixed.1 fixed.2) is

creator_stays : (r : Registry) (e : PrEntry) (name : List ℕ) (owner id : ℤ) (f : PrEntry) → IsTurnable r e name owner id
    → r.entry f.id ≡ Some f → moved e.id id f.creator ≡ f.creator
creator_stays r e name owner id f t at =
    moved_other e.id id f.creator
    (λ same. not_fixed e.id t.may.0.not_fixed (subst IsFixedId same (t.valid.among f.id f at).creator))

-- ---- the registry in the end

front_if : (front : List ℕ) (b : Bool) (x : PrEntry)
    → cond b (Some (fronted front x)) (Some x) ≡ Some (record x { name = last_name front b x })
front_if front true x = refl
front_if front false x = refl

ends : (r : Registry) (e : PrEntry) (name : List ℕ) (owner id : ℤ) (f : PrEntry) (b : Bool) → IsTurnable r e name owner id
    → r.entry f.id ≡ Some f → last_name (front_of name) b (midway e name owner id f) ≡ name_after e name f
    → cond b (option_map (fronted (front_of name)) (Some (midway e name owner id f))) (Some (midway e name owner id f))
    ≡ Some (turned e name owner id f)
ends r e name owner id f b t at last =
    front_if (front_of name) b (midway e name owner id f)
    ∙ ap (λ (n : List ℕ). Some (record (midway e name owner id f) { name = n })) last
    ∙ ap (λ (c : ℤ). Some (record f {
      name = name_after e name f;
      id = moved e.id id f.id;
      owner = moved e.id id (cond (int_eq f.id e.id) owner f.owner);
      creator = c;
    })) (sym (creator_stays r e name owner id f t at))

none_fronted : (front : List ℕ) (b : Bool) → cond b (option_map (fronted front) None) None ≡ None
none_fronted front true = refl
none_fronted front false = refl

-- these ids are those of the groups that are named after it
abbrev pub AreGroups : Registry → PrEntry → List ℤ → Type 0
AreGroups r e groups = (z : ℤ) → list_any (int_eq z) groups ≡ is_one_under e.name (r.entry z)

abbrev in_end : PrEntry → (name : List ℕ) → (groups : List ℤ) → (z : ℤ) → Option PrEntry → Option PrEntry
in_end e name groups z o = cond (list_any (int_eq z) groups) (option_map (fronted (front_of name)) o) o

abbrev meant : Registry → PrEntry → (name : List ℕ) → (owner id : ℤ) → Option ℤ → Option PrEntry
meant r e name owner id y = option_map (turned e name owner id) (option_and_then r.entry y)

end_own : (r : Registry) (e : PrEntry) (name : List ℕ) (owner id : ℤ) (groups : List ℤ) (z : ℤ) → IsTurnable r e name owner id
    → AreGroups r e groups → z ≡ id
    → in_end e name groups z ((third e name owner id r).entry z) ≡ meant r e name owner id (before e.id id z)
end_own r e name owner id groups z t are same =
    let own = t.may.0.there in
    ap (in_end e name groups z) (third_own r e name owner id z own same)
    ∙ ends r e name owner id e (list_any (int_eq z) groups) t own
    (ap (λ (b : Bool). last_name (front_of name) b (midway e name owner id e)) (are z) ∙ own_last r e name owner id z t same)
    ∙ sym (ap (meant r e name owner id) (before_new e.id id z same) ∙ ap (option_map (turned e name owner id)) own)

end_gone : (r : Registry) (e : PrEntry) (name : List ℕ) (owner id : ℤ) (groups : List ℤ) (z : ℤ) → IsTurnable r e name owner id
    → z ≢ id → z ≡ e.id → in_end e name groups z ((third e name owner id r).entry z) ≡ meant r e name owner id (before e.id id z)
end_gone r e name owner id groups z t new old =
    ap (in_end e name groups z) (third_gone r e name owner id z t.may.0.there new old)
    ∙ none_fronted (front_of name) (list_any (int_eq z) groups)
    ∙ sym (ap (meant r e name owner id) (before_old e.id id z new old))

end_by : (r : Registry) (e : PrEntry) (name : List ℕ) (owner id : ℤ) (groups : List ℤ) (z : ℤ) (o : Option PrEntry)
    → IsTurnable r e name owner id → AreGroups r e groups → z ≢ e.id → r.entry z ≡ o
    → in_end e name groups z (option_map (midway e name owner id) o) ≡ option_map (turned e name owner id) o
end_by r e name owner id groups z None t are other at = none_fronted (front_of name) (list_any (int_eq z) groups)
end_by r e name owner id groups z (Some f) t are other at =
    let own : f.id ≡ z = t.valid.ids z f at in
    ends r e name owner id f (list_any (int_eq z) groups) t (ap r.entry own ∙ at)
    (ap (λ (b : Bool). last_name (front_of name) b (midway e name owner id f)) (are z)
    ∙ other_last r e name owner id z f at (λ same. other (sym own ∙ same)))

end_other : (r : Registry) (e : PrEntry) (name : List ℕ) (owner id : ℤ) (groups : List ℤ) (z : ℤ) → IsTurnable r e name owner id
    → AreGroups r e groups → z ≢ id → z ≢ e.id
    → in_end e name groups z ((third e name owner id r).entry z) ≡ meant r e name owner id (before e.id id z)
end_other r e name owner id groups z t are new old =
    ap (in_end e name groups z) (third_other r e name owner id z t.valid t.may.0.there new old)
    ∙ end_by r e name owner id groups z (r.entry z) t are old refl
    ∙ sym (ap (meant r e name owner id) (before_other e.id id z new old))

end_each : (r : Registry) (e : PrEntry) (name : List ℕ) (owner id : ℤ) (groups : List ℤ) (z : ℤ) → IsTurnable r e name owner id
    → AreGroups r e groups
    → in_end e name groups z ((third e name owner id r).entry z) ≡ meant r e name owner id (before e.id id z)
end_each r e name owner id groups z t are =
    by_id z id (λ same. end_own r e name owner id groups z t are same)
    (λ new. by_id z e.id (λ old. end_gone r e name owner id groups z t new old)
    (λ other. end_other r e name owner id groups z t are new other))

-- as the rules mean it
abbrev pub turned_registry : PrEntry → (name : List ℕ) → (owner id : ℤ) → Registry → Registry
turned_registry e name owner id r = record r {
  entry = λ z. option_map (turned e name owner id) (option_and_then r.entry (before e.id id z));
}

abbrev as_registry : (ℤ → Option PrEntry) → (user group : ℤ) → Registry
as_registry entry user group = record { entry = entry; max_user = user; max_group = group }

registry_is : (a b : Registry) → ((z : ℤ) → a.entry z ≡ b.entry z) → a.max_user ≡ b.max_user → a.max_group ≡ b.max_group → a ≡ b
registry_is a b each user group =
    let entries : a.entry ≡ b.entry = fun_ext each in
    ap (λ (f : ℤ → Option PrEntry). as_registry f a.max_user a.max_group) entries ∙ ap (λ (u : ℤ). as_registry b.entry u a.max_group) user
    ∙ ap (λ (g : ℤ). as_registry b.entry b.max_user g) group

pub turned_is : (r : Registry) (e : PrEntry) (name : List ℕ) (owner id : ℤ) (groups : List ℤ) → IsTurnable r e name owner id
    → IsRegistry (third e name owner id r) → AreGroups r e groups
    → with_turn e name owner id groups r ≡ turned_registry e name owner id r
turned_is r e name owner id groups t valid are =
    let q = third e name owner id r in
    let maxima = third_maxima r e name owner id t.may.0.there in
    fronts_are (front_of name) groups q (front_free name) valid.ids
    ∙ registry_is (all_fronted (front_of name) groups q) (turned_registry e name owner id r)
    (λ z. end_each r e name owner id groups z t are) maxima.0 maxima.1
