-- The image after an entry was inserted holds the registry with it.
use Rattle.std.proofs.Common.{◌≡◌, ◌≢◌, ℕ, ℤ, pos, ◌+◌, ◌-◌, ◌<◌, ◌⊎◌, inl, inr, ⊎_elim, Bool, true, false, not, cond, List, Option, Some, None, length, refl, sym, ap, subst, ◌∙◌, arith}
use Rattle.std.specs.Prelude.{IsSome, int_lt}
use Rattle.std.specs.Ordering.{int_eq}
use Rattle.std.proofs.lemmas.Bool.{and_from, and_parts, cases_Bool, cases_eq, not-true}
use Rattle.std.proofs.lemmas.Bool.Decides.{Decides-int_eq}
use Rattle.db_blocks.specs.Blocks.{IsWhole, kind_of}
use Rattle.db_chains.specs.Changes.{put_in}
use Rattle.db_chains.specs.Free.{next_number, with_taken}
use Rattle.db_chains.specs.Keys.{name_key}
use Rattle.prdb_layout.specs.Blocks.{block_count}
use Rattle.prdb_layout.specs.Records.{IsLaidOut, block_in, entry_in, new_block}
use Rattle.prdb_layout.specs.Registry.{IsRecord, IsRegistry, MayBeAdded, Registry, with_entry}
use Rattle.prdb_layout.specs.State.{IsId, PrEntry}
use Rattle.prdb_layout.proofs.LaidOut.{whole_same as entries_same}
use Rattle.prdb_lists.specs.Layout.{HoldsPairs}
use Rattle.prdb_lists.specs.Members.{Members}
use Rattle.prdb_lists.proofs.Ascending.{lt_from, lt_to}
use Rattle.prdb_lists.proofs.RecordsKeep.{insert_keep}
use Rattle.prdb_finds.specs.First.{named}
use Rattle.prdb_finds.specs.Keys.{id_key}
use Rattle.prdb_finds.specs.Places.{free_blocks, owned_links, owned_place}
use Rattle.prdb_finds.specs.Records.{AreChains, HasIdKey, HasNameKey, Holds, IsEntryAt, IsGroupOf, IsOwned, whole}
use Rattle.prdb_finds.specs.Unchained.{unchained}
use Rattle.prdb_finds.proofs.Told.{laid_without, whole_same}
use Rattle.prdb_finds.proofs.Without.{unchained_len}
use Rattle.prdb_entries.specs.Changes.{after_insert, entered, is_owned, number_of, owner_first}
use Rattle.prdb_entries.specs.Ends.{HasOwner}
use Rattle.prdb_entries.proofs.Base.{IsBase, Unowned, is_base}
use Rattle.prdb_entries.proofs.Entries.{Belongs, IsUnowned, IsWith, at_on, at_own, at_was, chains_from, entry_on, entry_was, own_entry}
use Rattle.prdb_entries.proofs.Linked.{Also, ById, ByName, Chain, IsEntry, IsLinked, NotAlso, Owned, linked_as, links_of, next_of, place_of, put_linked}
use Rattle.prdb_entries.proofs.Numbers.{IsAmong, IsOf, has_link, number_is}

-- ---- an entry that is a group with an owner

no_both : (b : Bool) → b ≡ true → b ≡ false → ⊥
no_both b t f = cc

pub owned_true : (e : PrEntry) → is_owned e ≡ true → IsOwned e
owned_true e is =
    let p = and_parts (int_lt e.id (pos 0)) (not (int_eq e.owner (pos 0))) is in (
      lt_from e.id (pos 0) p.0,
      λ none. no_both (int_eq e.owner (pos 0)) ((Decides-int_eq e.owner (pos 0)).1 none) (not-true (int_eq
          e.owner (pos 0)) p.1),
    )

other_zero : (z : ℤ) → z ≢ pos 0 → int_eq z (pos 0) ≡ false
other_zero z other =
    ⊎_elim (λ (yes : int_eq z (pos 0) ≡ true). absurd (other ((Decides-int_eq z (pos 0)).0 yes)))
    (λ (no : int_eq z (pos 0) ≡ false). no)
    (cases_Bool (int_eq z (pos 0)))

pub owned_false : (e : PrEntry) → is_owned e ≡ false → IsOwned e → ⊥
owned_false e is owned =
    no_both (is_owned e)
    (and_from (int_lt e.id (pos 0)) (not (int_eq e.owner (pos 0))) (lt_to e.id (pos 0) owned.0) (ap not (other_zero e.owner owned.1))) is

zero_id : IsId (pos 0) → ⊥
zero_id is = omega (arith, is.0)

-- an id of an entry is not 0
pub some_id : (z : ℤ) → IsId z → z ≢ pos 0
some_id z is none = absurd (zero_id (subst IsId none is))

-- ---- the words of the chains

-- what the insertion is about
pub record IsNew (u v : List ℕ) (e : PrEntry) (k : ℕ) (r : Registry) : Type 0 where
  pub with_it : IsWith u v k e
  pub new : IsEntry u k → ⊥
  pub record_is : IsRecord e
  pub may : MayBeAdded e r
  pub valid : IsRegistry r
  pub laid : IsLaidOut u r
  pub also_valid : IsRegistry (with_entry e r)
  pub also_laid : IsLaidOut v (with_entry e r)

-- a block of a word of the old image
fresh : (u : List ℕ) (c : Chain) (w : ℕ) → Belongs u c w → (0 < w) × IsEntry u (w - 1)
fresh u (ByName key) w at = (at.some, record { below = omega (arith, at.some, at.within); kind = at.kind })
fresh u (ById key) w at = (at.some, record { below = omega (arith, at.some, at.within); kind = at.kind })
fresh u (Owned k) w at = (at.1.some, record { below = omega (arith, at.1.some, at.1.within); kind = at.1.kind })

-- it is none of the new entry
not_fresh : (u v : List ℕ) (e : PrEntry) (k : ℕ) (r : Registry) (c : Chain) → IsNew u v e k r → Belongs u c (k + 1) → ⊥
not_fresh u v e k r c is at =
    let back : k + 1 - 1 ≡ k = omega arith in is.new (subst (IsEntry u) back (fresh u c (k + 1) at).1)

abbrev pub Named : (u : List ℕ) → PrEntry → (n : ℕ) → Chain → ℕ → Type 0
Named u e n = Also (ById (id_key e.id)) n (Also (ByName (name_key e.name)) n (Belongs u))

-- the words of names and ids are those that belong there
named_there : (u v : List ℕ) (e : PrEntry) (k : ℕ) (r : Registry) (c : Chain) (w : ℕ) → IsNew u v e k r → Named u e (k + 1) c w
    → Belongs v c w
named_there u v e k r (ByName key) w is has =
    ⊎_elim
    (λ (a : Belongs u (ByName key) w ⊎ ((ByName key ≡ ByName (name_key e.name)) × (w ≡ k + 1))).
    ⊎_elim
    (λ (was : Belongs u (ByName key) w).
    at_on u v k w e (HasNameKey key) is.with_it was (λ same. is.new (subst (IsEntry u) same (fresh u (ByName key) w was).1)))
    (λ (own : (ByName key ≡ ByName (name_key e.name)) × (w ≡ k + 1)).
    let same : name_key e.name ≡ key = cc in
    subst (IsEntryAt v (HasNameKey key)) (sym own.1) (at_own u v k e (HasNameKey key) is.with_it same))
    a)
    (λ (none : (ByName key ≡ ById (id_key e.id)) × (w ≡ k + 1)). let no = none.0 in absurd cc)
    has
named_there u v e k r (ById key) w is has =
    ⊎_elim
    (λ (a : Belongs u (ById key) w ⊎ ((ById key ≡ ByName (name_key e.name)) × (w ≡ k + 1))).
    ⊎_elim
    (λ (was : Belongs u (ById key) w).
    at_on u v k w e (HasIdKey key) is.with_it was (λ same. is.new (subst (IsEntry u) same (fresh u (ById key) w was).1)))
    (λ (none : (ById key ≡ ByName (name_key e.name)) × (w ≡ k + 1)). let no = none.0 in absurd cc)
    a)
    (λ (own : (ById key ≡ ById (id_key e.id)) × (w ≡ k + 1)).
    let same : id_key e.id ≡ key = cc in
    subst (IsEntryAt v (HasIdKey key)) (sym own.1) (at_own u v k e (HasIdKey key) is.with_it same))
    has
named_there u v e k r (Owned j) w is has =
    ⊎_elim
    (λ (a : Belongs u (Owned j) w ⊎ ((Owned j ≡ ByName (name_key e.name)) × (w ≡ k + 1))).
    ⊎_elim
    (λ (was : Belongs u (Owned j) w).
    let other : j ≢ k = λ same. is.new (subst (IsEntry u) same was.0) in
    let same = is.with_it.others j was.0.below other in (
      entry_on u v k j e is.with_it was.0 other,
      subst (λ (b : List ℕ). IsEntryAt v (IsGroupOf (entry_in b).id) w) (sym same)
          (at_on u v k w e (IsGroupOf (entry_in (block_in u j)).id) is.with_it was.1
          (λ same_block. is.new (subst (IsEntry u) same_block (fresh u (Owned j) w was).1))),
    ))
    (λ (none : (Owned j ≡ ByName (name_key e.name)) × (w ≡ k + 1)). let no = none.0 in absurd cc)
    a)
    (λ (none : (Owned j ≡ ById (id_key e.id)) × (w ≡ k + 1)). let no = none.0 in absurd cc)
    has

-- the new entry is a group that the entry of a block owns
abbrev IsNewOf : List ℕ → PrEntry → (k : ℕ) → Chain → ℕ → Type 0
IsNewOf v e k c w = (j : ℕ) × (c ≡ Owned j) × (w ≡ k + 1) × IsEntry v j × IsGroupOf (entry_in (block_in v j)).id e

none_some : (o : Option PrEntry) → o ≡ None → IsSome o → ⊥
none_some o none some =
    let is : IsSome {T = PrEntry} None = subst (λ (x : Option PrEntry). IsSome x) none some in absurd cc

pub some_of : (o : Option PrEntry) → IsSome o → (f : PrEntry) × (o ≡ Some f)
some_of (Some f) some = (f, refl)
some_of None some = absurd cc

-- an owner that is no entry yet owns nothing
owns_none : (u v : List ℕ) (e : PrEntry) (k : ℕ) (r : Registry) (w : ℕ) (z : ℤ) → IsNew u v e k r → IsEntryAt u (IsGroupOf z) w
    → z ≡ e.id → ⊥
owns_none u v e k r w z is at same =
    let j = w - 1 in
    let below : j < block_count u = omega (arith, at.some, at.within) in
    let g = entry_in (block_in u j) in
    let there = is.laid.there j below at.kind in
    let owner : g.owner ≡ e.id = at.belongs.1 ∙ same in
    ⊎_elim
    (λ (none : g.owner ≡ pos 0). some_id e.id is.record_is.fields.id (sym owner ∙ none))
    (λ (some : IsSome (r.entry g.owner)). let is_none = ap r.entry owner ∙ is.may.id in none_some (r.entry g.owner) is_none some)
    (is.valid.among g.id g there).owner

named_back : (u v : List ℕ) (e : PrEntry) (k : ℕ) (r : Registry) (c : Chain) (w : ℕ) → IsNew u v e k r → Belongs v c w
    → Named u e (k + 1) c w ⊎ IsNewOf v e k c w
named_back u v e k r (ByName key) w is at =
    ⊎_elim
    (λ (own : (w ≡ k + 1) × HasNameKey key e). inl (inl (inr (ap ByName (sym own.1), own.0))))
    (λ (was : (w - 1 ≢ k) × IsEntryAt u (HasNameKey key) w). inl (inl (inl was.1)))
    (at_was u v k w e (HasNameKey key) is.with_it at)
named_back u v e k r (ById key) w is at =
    ⊎_elim
    (λ (own : (w ≡ k + 1) × HasIdKey key e). inl (inr (ap ById (sym own.1), own.0)))
    (λ (was : (w - 1 ≢ k) × IsEntryAt u (HasIdKey key) w). inl (inl (inl was.1)))
    (at_was u v k w e (HasIdKey key) is.with_it at)
named_back u v e k r (Owned j) w is at =
    let z = (entry_in (block_in v j)).id in
    ⊎_elim
    (λ (own : (w ≡ k + 1) × IsGroupOf z e). inr (j, refl, own.0, at.0, own.1))
    (λ (was : (w - 1 ≢ k) × IsEntryAt u (IsGroupOf z) w).
    ⊎_elim
    (λ (same : j ≡ k).
    let own : z ≡ e.id = ap (λ (i : ℕ). (entry_in (block_in v i)).id) same ∙ ap (λ (x : PrEntry). x.id) is.with_it.entry in
    absurd (owns_none u v e k r w z is was.1 own))
    (λ (other : j ≢ k).
    let entry = entry_was u v k j e is.with_it at.0 other in
    let same = is.with_it.others j entry.below other in
    inl (inl (inl (entry, subst (λ (b : List ℕ). IsEntryAt u (IsGroupOf (entry_in b).id) w) same was.1))))
    (cases_eq j k))
    (at_was u v k w e (IsGroupOf z) is.with_it at.1)

-- the entries that stand in no owner's chain
unowned_back : (u v : List ℕ) (e : PrEntry) (k j : ℕ) (r : Registry) → IsNew u v e k r → IsUnowned v j → Unowned u k j
unowned_back u v e k j r is un =
    ⊎_elim (λ (same : j ≡ k). inr same)
    (λ (other : j ≢ k).
    let entry = entry_was u v k j e is.with_it un.0 other in
    let same = is.with_it.others j entry.below other in
    inl (entry, λ owned. un.1 (subst (λ (b : List ℕ). IsOwned (entry_in b)) (sym same) owned)))
    (cases_eq j k)

-- ---- the image

linked_named : (u v base : List ℕ) (e : PrEntry) (k : ℕ) (r : Registry) (fs : List ℕ) → IsNew u v e k r
    → IsLinked base v (Belongs u) (Unowned u k) fs
    → IsLinked (named (k + 1) e base) v (Named u e (k + 1))
    (NotAlso (ById (id_key e.id)) (k + 1) (NotAlso (ByName (name_key e.name)) (k + 1) (Unowned u k))) fs
linked_named u v base e k r fs is l =
    let n = k + 1 in
    let back : n - 1 ≡ k = omega arith in
    let c = ByName (name_key e.name) in
    let d = ById (id_key e.id) in
    let own = subst (IsEntry v) (sym back) (own_entry u v k e is.with_it) in
    let one = put_linked base v (Belongs u) (Unowned u k) fs c n l (omega arith) own (omega arith)
    (λ x valid next has. not_fresh u v e k r x is has) in
    put_linked (put_in (links_of c) (place_of c) n base) v (Also c n (Belongs u)) (NotAlso c n (Unowned u k)) fs d n one (omega arith) own
    (omega arith)
    (λ x valid next has. ⊎_elim (λ (was : Belongs u x n). not_fresh u v e k r x is was)
    (λ (name : (x ≡ c) × (n ≡ n)). let other : next_of x ≡ 96 = ap next_of name.0 in omega (arith, next, other)) has)

-- a group with an owner, which is there now
pub owner_of : (u v : List ℕ) (e : PrEntry) (k : ℕ) (r : Registry) → IsNew u v e k r → IsOwned e → (o : ℕ) × IsOf v e.owner o
owner_of u v e k r is owned =
    let s = with_entry e r in
    ⊎_elim
    (λ (none : e.owner ≡ pos 0). absurd (owned.1 none))
    (λ (some : IsSome (s.entry e.owner)).
    let f = some_of (s.entry e.owner) some in
    let o = is.also_laid.only e.owner f.0 f.1 in
    let id : (entry_in (block_in v o.0)).id ≡ e.owner =
    ap (λ (x : PrEntry). x.id) o.3 ∙ is.also_valid.ids e.owner f.0 f.1 in (
      o.0,
      record {
        entry = record { below = o.1; kind = o.2 };
        id_is = id;
        one = λ j entry same. is.also_laid.one j o.0 entry.below o.1 entry.kind o.2 (same ∙ sym id);
      },
    ))
    is.may.among.owner

owner_among : (u v : List ℕ) (e : PrEntry) (k o : ℕ) (r : Registry) → IsNew u v e k r → IsOf v e.owner o
    → IsAmong v (Named u e (k + 1)) e.owner o
owner_among u v e k o r is of =
    let c = ById (id_key e.owner) in
    let back : o + 1 - 1 ≡ o = omega arith in
    let at : IsEntryAt v (HasIdKey (id_key e.owner)) (o + 1) = record {
      some = omega arith;
      within = omega (arith, of.entry.below);
      kind = ap (λ (j : ℕ). kind_of (block_in v j)) back ∙ of.entry.kind;
      belongs = ap id_key (ap (λ (j : ℕ). (entry_in (block_in v j)).id) back ∙ of.id_is);
    } in
    record {
      has = ⊎_elim (λ (has : Named u e (k + 1) c (o + 1)). has)
          (λ (none : IsNewOf v e k c (o + 1)). let no = none.1 in absurd cc)
          (named_back u v e k r c (o + 1) is at);
      only = λ w has. named_there u v e k r c w is has;
    }

linked_alone : (u v base : List ℕ) (e : PrEntry) (k : ℕ) (r : Registry) (fs : List ℕ) → IsNew u v e k r → is_owned e ≡ false
    → IsLinked base v (Belongs u) (Unowned u k) fs
    → IsLinked (named (k + 1) e base) v (Belongs v) (IsUnowned v) fs
linked_alone u v base e k r fs is alone l =
    let n = k + 1 in
    let c = ByName (name_key e.name) in
    let d = ById (id_key e.id) in
    linked_as (named n e base) v (Named u e n) (Belongs v) (NotAlso d n (NotAlso c n (Unowned u k))) (IsUnowned v) fs
    (λ x w valid has. named_there u v e k r x w is has)
    (λ x w valid at. ⊎_elim (λ (has : Named u e n x w). has)
    (λ (own : IsNewOf v e k x w).
    let z = (entry_in (block_in v own.0)).id in
    let there = is.also_laid.there own.0 own.3.below own.3.kind in
    let id = (is.also_valid.records z (entry_in (block_in v own.0)) there).fields.id in
    absurd (owned_false e alone (own.4.0, λ none. some_id z id (sym own.4.1 ∙ none))))
    (named_back u v e k r x w is at))
    (λ j below un. ((unowned_back u v e k j r is un, λ no. absurd (omega (arith, no))), λ no. absurd (omega (arith, no))))
    (linked_named u v base e k r fs is l)

linked_owned : (u v base : List ℕ) (e : PrEntry) (k o : ℕ) (r : Registry) (fs : List ℕ) → IsNew u v e k r → IsOwned e → IsOf v e.owner o
    → IsLinked base v (Belongs u) (Unowned u k) fs
    → IsLinked (put_in owned_links (owned_place o) (k + 1) (named (k + 1) e base)) v (Belongs v) (IsUnowned v) fs
linked_owned u v base e k o r fs is owned of l =
    let n = k + 1 in
    let back : n - 1 ≡ k = omega arith in
    let c = ByName (name_key e.name) in
    let d = ById (id_key e.id) in
    let U = NotAlso d n (NotAlso c n (Unowned u k)) in
    let own = subst (IsEntry v) (sym back) (own_entry u v k e is.with_it) in
    let put = put_linked (named n e base) v (Named u e n) U fs (Owned o) n (linked_named u v base e k r fs is l) of.entry own (omega arith)
    (λ x valid next has. ⊎_elim
    (λ (a : Also c n (Belongs u) x n). ⊎_elim (λ (was : Belongs u x n). not_fresh u v e k r x is was)
    (λ (name : (x ≡ c) × (n ≡ n)). let other : next_of x ≡ 96 = ap next_of name.0 in omega (arith, next, other)) a)
    (λ (id : (x ≡ d) × (n ≡ n)). let other : next_of x ≡ 100 = ap next_of id.0 in omega (arith, next, other)) has) in
    linked_as (put_in owned_links (owned_place o) n (named n e base)) v (Also (Owned o) n (Named u e n)) (Belongs v)
    (NotAlso (Owned o) n U) (IsUnowned v) fs
    (λ x w valid has. ⊎_elim (λ (was : Named u e n x w). named_there u v e k r x w is was)
    (λ (new : (x ≡ Owned o) × (w ≡ n)).
    let at : Belongs v (Owned o) w = (
      of.entry,
      subst (IsEntryAt v (IsGroupOf (entry_in (block_in v o)).id)) (sym new.1)
          (at_own u v k e (IsGroupOf (entry_in (block_in v o)).id) is.with_it (owned.0, sym of.id_is)),
    ) in
    subst (λ (y : Chain). Belongs v y w) (sym new.0) at)
    has)
    (λ x w valid at. ⊎_elim (λ (has : Named u e n x w). inl has)
    (λ (new : IsNewOf v e k x w). inr (new.1 ∙ ap Owned (of.one new.0 new.3 (sym new.4.1)), new.2))
    (named_back u v e k r x w is at))
    (λ j below un. (
      ((unowned_back u v e k j r is un, λ no. absurd (omega (arith, no))), λ no. absurd (omega (arith, no))),
      λ next same. un.1 (subst IsOwned (sym (ap (λ (i : ℕ). entry_in (block_in v i)) (same ∙ back) ∙ is.with_it.entry)) owned),
    ))
    put

pub linked_entered : (u v base : List ℕ) (e : PrEntry) (k : ℕ) (r : Registry) (fs : List ℕ) → IsNew u v e k r
    → IsLinked base v (Belongs u) (Unowned u k) fs → IsLinked (entered (k + 1) e base) v (Belongs v) (IsUnowned v) fs
unfolding entered
linked_entered u v base e k r fs is l =
    let n = k + 1 in
    let mid = named n e base in
    let At : Bool → Type 0 = λ b. IsLinked (cond b (owner_first e.owner n mid) mid) v (Belongs v) (IsUnowned v) fs in
    ⊎_elim
    (λ (owned : is_owned e ≡ true).
    let o = owner_of u v e k r is (owned_true e owned) in
    let U = NotAlso (ById (id_key e.id)) n (NotAlso (ByName (name_key e.name)) n (Unowned u k)) in
    let number = number_is mid v (Named u e n) U fs e.owner o.0 (linked_named u v base e k r fs is l) o.1
    (owner_among u v e k o.0 r is o.1) in
    let place : owned_place o.0 ≡ owned_place (number_of e.owner mid - 1) =
    ap owned_place (omega (arith, number)) in
    subst At (sym owned) (subst (λ (p : ℕ). IsLinked (put_in owned_links p n mid) v (Belongs v) (IsUnowned v) fs) place
    (linked_owned u v base e k o.0 r fs is (owned_true e owned) o.1 l)))
    (λ (alone : is_owned e ≡ false). subst At (sym alone) (linked_alone u v base e k r fs is alone l))
    (cases_Bool (is_owned e))

-- its owner is found
pub owner_there : (u v base : List ℕ) (e : PrEntry) (k : ℕ) (r : Registry) (fs : List ℕ) → IsNew u v e k r
    → IsLinked base v (Belongs u) (Unowned u k) fs → HasOwner (k + 1) e base
owner_there u v base e k r fs is l = λ owned.
    let n = k + 1 in
    let o = owner_of u v e k r is (owned_true e owned) in
    let U = NotAlso (ById (id_key e.id)) n (NotAlso (ByName (name_key e.name)) n (Unowned u k)) in
    has_link (named n e base) v (Named u e n) U fs e.owner o.0 (linked_named u v base e k r fs is l) o.1
    (owner_among u v e k o.0 r is o.1)

-- ---- an insertion

pairs_after : (image : List ℕ) (r : Registry) (m : Members) (e : PrEntry) (base : List ℕ) (n : ℕ) → Holds image r m → IsRecord e
    → MayBeAdded e r → IsBase (whole image) e n base → HoldsPairs (unchained base) (with_entry e r) m
pairs_after image r m e base n holds is may b =
    subst (λ (i : List ℕ). HoldsPairs i (with_entry e r) m) (sym b.form) (insert_keep (unchained (whole image)) r m e holds.pairs is may)

pub is_new : (image : List ℕ) (r : Registry) (m : Members) (e : PrEntry) (base : List ℕ) (n : ℕ) → Holds image r m → IsRecord e
    → MayBeAdded e r → IsBase (whole image) e n base → IsNew (unchained (whole image)) (unchained base) e (n - 1) r
is_new image r m e base n holds is may b =
    let pairs = pairs_after image r m e base n holds is may b in
    let some : 0 < length (unchained base) = omega (arith, unchained_len base b.linked.whole) in
    record {
      with_it = b.with_it;
      new = b.new;
      record_is = is;
      may = may;
      valid = holds.pairs.holds.valid;
      laid = laid_without image r m holds;
      also_valid = pairs.holds.valid;
      also_laid = subst (λ (i : List ℕ). IsLaidOut i (with_entry e r)) (entries_same (unchained base) some) pairs.holds.laid;
    }

pub base_of : (image : List ℕ) (r : Registry) (m : Members) (e : PrEntry) → Holds image r m → IsRecord e
    → IsBase (whole image) e (next_number free_blocks (whole image)) (with_taken free_blocks (new_block e) (whole image))
base_of image r m e holds is = is_base (whole image) e holds.size holds.chains is

pub holds_inserted : (image : List ℕ) (r : Registry) (m : Members) (e : PrEntry) → Holds image r m
    → IsRecord e → MayBeAdded e r → Holds (after_insert e image) (with_entry e r) m
unfolding after_insert
holds_inserted image r m e holds is may =
    let n = next_number free_blocks (whole image) in
    let base = with_taken free_blocks (new_block e) (whole image) in
    let u = unchained (whole image) in
    let v = unchained base in
    let b = base_of image r m e holds is in
    let next : n - 1 + 1 ≡ n = omega (arith, b.some) in
    let new = entered n e base in
    let l = subst (λ (i : ℕ). IsLinked (entered i e base) v (Belongs v) (IsUnowned v) b.free) next
    (linked_entered u v base e (n - 1) r b.free (is_new image r m e base n holds is may b) b.linked) in
    let same : whole new ≡ new = whole_same new (omega (arith, l.whole)) in
    record {
      size = subst (IsWhole 2112) (sym same) l.whole;
      pairs = subst (λ (i : List ℕ). HoldsPairs i (with_entry e r) m) (sym l.same ∙ ap unchained (sym same))
          (pairs_after image r m e base n holds is may b);
      chains = subst AreChains (sym same) (chains_from new v b.free l b.up b.each);
    }
