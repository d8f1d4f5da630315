-- The chains of an image that holds a registry, while an entry goes from those in which it stands to those of its other fields.
use Rattle.std.proofs.Common.{◌≡◌, ◌≢◌, ℕ, ℤ, pos, ◌+◌, ◌-◌, ◌<◌, ◌⊎◌, inl, inr, ⊎_elim, Bool, true, false, cond, List, refl, sym, ap, subst, ◌∙◌, arith}
use Rattle.std.specs.Prelude.{◌<ℤ◌}
use Rattle.std.specs.Ordering.{int_eq}
use Rattle.std.specs.Str.{bytes_eq}
use Rattle.std.proofs.lemmas.Bool.{cases_Bool, cases_eq}
use Rattle.std.proofs.lemmas.Bool.Decides.{Decides-int_eq}
use Rattle.std.proofs.lemmas.Slice.Eq.{bytes_eq-Decides}
use Rattle.db_chains.specs.Changes.{put_in, without}
use Rattle.db_chains.specs.Ends.{HasWord}
use Rattle.db_chains.specs.Keys.{name_key}
use Rattle.prdb_layout.specs.Records.{block_in, entry_in}
use Rattle.prdb_layout.specs.Registry.{Registry, with_entry}
use Rattle.prdb_layout.specs.State.{PrEntry}
use Rattle.prdb_finds.specs.Keys.{id_key, name_chain}
use Rattle.prdb_finds.specs.Places.{name_links, owned_links, owned_place}
use Rattle.prdb_finds.specs.Records.{HasIdKey, HasNameKey, IsEntryAt, IsGroupOf, IsOwned}
use Rattle.prdb_entries.specs.Changes.{is_owned, name_moved, number_of, owner_entered, owner_first, owner_left, owner_moved, owner_without}
use Rattle.prdb_entries.specs.Ends.{HasLink, IsOwnedBy}
use Rattle.prdb_entries.proofs.Entries.{Belongs, IsUnowned, IsWith, at_on, at_own, at_was, entry_on, entry_was, own_entry}
use Rattle.prdb_entries.proofs.Inserted.{owned_false, owned_true}
use Rattle.prdb_entries.proofs.Leaving.{IsOfRegistry, are_words, own_at, owned_word, owner_in, some_block}
use Rattle.prdb_entries.proofs.Linked.{Also, ById, ByName, Chain, IsChain, IsEntry, IsLinked, NotAlso, Owned, linked_as, next_of, put_linked}
use Rattle.prdb_entries.proofs.Numbers.{IsAmong, IsOf, has_link, number_is}
use Rattle.prdb_entries.proofs.Unlinked.{AreWords, Less, NowAlso, out_linked, word_there}

-- An entry gets other fields, and keeps its id.
pub record IsMoving (u v : List ℕ) (r : Registry) (f e : PrEntry) (k : ℕ) : Type 0 where
  pub of : IsOfRegistry u r
  pub entry : IsEntry u k
  pub is : entry_in (block_in u k) ≡ f
  pub id : e.id ≡ f.id
  pub with_it : IsWith u v k e
  pub also : IsOfRegistry v (with_entry e r)

-- an entry is one in both images, and has one id
entry_same : (u v : List ℕ) (r : Registry) (f e : PrEntry) (k j : ℕ) → IsMoving u v r f e k → IsEntry u j → IsEntry v j
entry_same u v r f e k j m entry =
    ⊎_elim (λ (same : j ≡ k). subst (IsEntry v) (sym same) (own_entry u v k e m.with_it))
    (λ (other : j ≢ k). entry_on u v k j e m.with_it entry other) (cases_eq j k)

entry_back : (u v : List ℕ) (r : Registry) (f e : PrEntry) (k j : ℕ) → IsMoving u v r f e k → IsEntry v j → IsEntry u j
entry_back u v r f e k j m entry =
    ⊎_elim (λ (same : j ≡ k). subst (IsEntry u) (sym same) m.entry)
    (λ (other : j ≢ k). entry_was u v k j e m.with_it entry other) (cases_eq j k)

id_same : (u v : List ℕ) (r : Registry) (f e : PrEntry) (k j : ℕ) → IsMoving u v r f e k → IsEntry u j
    → (entry_in (block_in v j)).id ≡ (entry_in (block_in u j)).id
id_same u v r f e k j m entry =
    ⊎_elim
    (λ (same : j ≡ k).
    ap (λ (i : ℕ). (entry_in (block_in v i)).id) same ∙ ap (λ (x : PrEntry). x.id) m.with_it.entry ∙ m.id
    ∙ ap (λ (x : PrEntry). x.id) (sym m.is) ∙ ap (λ (i : ℕ). (entry_in (block_in u i)).id) (sym same))
    (λ (other : j ≢ k). ap (λ (b : List ℕ). (entry_in b).id) (m.with_it.others j entry.below other))
    (cases_eq j k)

pub chain_same : (u v : List ℕ) (r : Registry) (f e : PrEntry) (k : ℕ) (c : Chain) → IsMoving u v r f e k → IsChain v c → IsChain u c
chain_same u v r f e k (ByName key) m is = is
chain_same u v r f e k (ById key) m is = is
chain_same u v r f e k (Owned j) m is = entry_back u v r f e k j m is

-- an entry of which something holds that holds of both, or of neither
at_both : (u v : List ℕ) (r : Registry) (f e : PrEntry) (k w : ℕ) (P : PrEntry → Type 0) → IsMoving u v r f e k → (P f → P e)
    → IsEntryAt u P w → IsEntryAt v P w
at_both u v r f e k w P m so at =
    ⊎_elim
    (λ (same : w - 1 ≡ k).
    let number : w ≡ k + 1 = omega (arith, same, at.some) in
    let own : P f = subst P m.is (subst (λ (j : ℕ). P (entry_in (block_in u j))) same at.belongs) in
    subst (IsEntryAt v P) (sym number) (at_own u v k e P m.with_it (so own)))
    (λ (other : w - 1 ≢ k). at_on u v k w e P m.with_it at other)
    (cases_eq (w - 1) k)

at_back : (u v : List ℕ) (r : Registry) (f e : PrEntry) (k w : ℕ) (P : PrEntry → Type 0) → IsMoving u v r f e k → (P e → P f)
    → IsEntryAt v P w → IsEntryAt u P w
at_back u v r f e k w P m so at =
    ⊎_elim
    (λ (own : (w ≡ k + 1) × P e). subst (IsEntryAt u P) (sym own.0) (own_at u f k P m.entry m.is (so own.1)))
    (λ (was : (w - 1 ≢ k) × IsEntryAt u P w). was.1)
    (at_was u v k w e P m.with_it at)

by_id : (u v : List ℕ) (r : Registry) (f e : PrEntry) (k key w : ℕ) → IsMoving u v r f e k → IsEntryAt u (HasIdKey key) w
    → IsEntryAt v (HasIdKey key) w
by_id u v r f e k key w m at = at_both u v r f e k w (HasIdKey key) m (λ has. ap id_key m.id ∙ has) at

by_id_back : (u v : List ℕ) (r : Registry) (f e : PrEntry) (k key w : ℕ) → IsMoving u v r f e k → IsEntryAt v (HasIdKey key) w
    → IsEntryAt u (HasIdKey key) w
by_id_back u v r f e k key w m at = at_back u v r f e k w (HasIdKey key) m (λ has. ap id_key (sym m.id) ∙ has) at

-- ---- the chain of the name

-- the chains of names as they are to be, all others as they were
abbrev pub Mixed : (u v : List ℕ) → Chain → ℕ → Type 0
Mixed u v (ByName key) w = IsEntryAt v (HasNameKey key) w
Mixed u v (ById key) w = IsEntryAt u (HasIdKey key) w
Mixed u v (Owned j) w = IsEntry u j × IsEntryAt u (IsGroupOf (entry_in (block_in u j)).id) w

name_there : (u v : List ℕ) (r : Registry) (f e : PrEntry) (k : ℕ) (c : Chain) (w : ℕ) → IsMoving u v r f e k → f.name ≡ e.name
    → Belongs u c w → Mixed u v c w
name_there u v r f e k (ByName key) w m same at =
    at_both u v r f e k w (HasNameKey key) m (λ has. ap name_key (sym same) ∙ has) at
name_there u v r f e k (ById key) w m same at = at
name_there u v r f e k (Owned j) w m same at = at

name_back : (u v : List ℕ) (r : Registry) (f e : PrEntry) (k : ℕ) (c : Chain) (w : ℕ) → IsMoving u v r f e k → f.name ≡ e.name
    → Mixed u v c w → Belongs u c w
name_back u v r f e k (ByName key) w m same at = at_back u v r f e k w (HasNameKey key) m (λ has. ap name_key same ∙ has) at
name_back u v r f e k (ById key) w m same at = at
name_back u v r f e k (Owned j) w m same at = at

abbrev Renamed : (u : List ℕ) → (f e : PrEntry) → (n : ℕ) → Chain → ℕ → Type 0
Renamed u f e n = Also (ByName (name_key e.name)) n (Less (ByName (name_key f.name)) n (Belongs u))

renamed_there : (u v : List ℕ) (r : Registry) (f e : PrEntry) (k : ℕ) (c : Chain) (w : ℕ) → IsMoving u v r f e k
    → Renamed u f e (k + 1) c w → Mixed u v c w
renamed_there u v r f e k (ByName key) w m has =
    ⊎_elim
    (λ (was : Less (ByName (name_key f.name)) (k + 1) (Belongs u) (ByName key) w).
    at_on u v k w e (HasNameKey key) m.with_it was.0 (λ same. was.1 refl (omega (arith, same, was.0.some))))
    (λ (own : (ByName key ≡ ByName (name_key e.name)) × (w ≡ k + 1)).
    let same : name_key e.name ≡ key = cc in
    subst (IsEntryAt v (HasNameKey key)) (sym own.1) (at_own u v k e (HasNameKey key) m.with_it same))
    has
renamed_there u v r f e k (ById key) w m has =
    ⊎_elim (λ (was : Less (ByName (name_key f.name)) (k + 1) (Belongs u) (ById key) w). was.0)
    (λ (none : (ById key ≡ ByName (name_key e.name)) × (w ≡ k + 1)). let no = none.0 in absurd cc) has
renamed_there u v r f e k (Owned j) w m has =
    ⊎_elim (λ (was : Less (ByName (name_key f.name)) (k + 1) (Belongs u) (Owned j) w). was.0)
    (λ (none : (Owned j ≡ ByName (name_key e.name)) × (w ≡ k + 1)). let no = none.0 in absurd cc) has

renamed_back : (u v : List ℕ) (r : Registry) (f e : PrEntry) (k : ℕ) (c : Chain) (w : ℕ) → IsMoving u v r f e k → Mixed u v c w
    → Renamed u f e (k + 1) c w
renamed_back u v r f e k (ByName key) w m at =
    ⊎_elim
    (λ (own : (w ≡ k + 1) × HasNameKey key e). inr (ap ByName (sym own.1), own.0))
    (λ (was : (w - 1 ≢ k) × IsEntryAt u (HasNameKey key) w). inl (was.1, λ next same. was.0 (omega (arith, same))))
    (at_was u v k w e (HasNameKey key) m.with_it at)
renamed_back u v r f e k (ById key) w m at = inl (at, λ next. absurd (omega (arith, next)))
renamed_back u v r f e k (Owned j) w m at = inl (at, λ next. absurd (omega (arith, next)))

in_name : (u v : List ℕ) (r : Registry) (f e : PrEntry) (k : ℕ) → IsMoving u v r f e k → Belongs u (ByName (name_key f.name)) (k + 1)
in_name u v r f e k m = own_at u f k (HasNameKey (name_key f.name)) m.entry m.is refl

renamed : (image u v : List ℕ) (r : Registry) (f e : PrEntry) (k : ℕ) (fs : List ℕ) → IsMoving u v r f e k
    → IsLinked image u (Belongs u) (IsUnowned u) fs
    → IsLinked (put_in name_links (name_chain e.name) (k + 1) (without name_links (name_chain f.name) (k + 1) image)) u (Mixed u v)
    (IsUnowned u) fs
renamed image u v r f e k fs m l =
    let n = k + 1 in
    let back : n - 1 ≡ k = omega arith in
    let c = ByName (name_key f.name) in
    let d = ByName (name_key e.name) in
    let mid = without name_links (name_chain f.name) n image in
    let out = out_linked image u (Belongs u) (IsUnowned u) fs c n l (are_words u r m.of) (omega arith) (in_name u v r f e k m) in
    let put = put_linked mid u (Less c n (Belongs u)) (NowAlso c n (IsUnowned u)) fs d n out (omega arith) (subst (IsEntry u) (sym back)
    m.entry) (omega arith) (λ x valid next has. has.1 next refl) in
    linked_as (put_in name_links (name_chain e.name) n mid) u (Renamed u f e n) (Mixed u v) (NotAlso d n (NowAlso c n (IsUnowned u)))
    (IsUnowned u) fs
    (λ x w valid has. renamed_there u v r f e k x w m has)
    (λ x w valid has. renamed_back u v r f e k x w m has)
    (λ j below un. (inl un, λ next. absurd (omega (arith, next))))
    put

pub linked_name : (image u v : List ℕ) (r : Registry) (f e : PrEntry) (k : ℕ) (fs : List ℕ) → IsMoving u v r f e k
    → IsLinked image u (Belongs u) (IsUnowned u) fs
    → IsLinked (name_moved f.name e.name (k + 1) image) u (Mixed u v) (IsUnowned u) fs
linked_name image u v r f e k fs m l =
    let new = put_in name_links (name_chain e.name) (k + 1) (without name_links (name_chain f.name) (k + 1) image) in
    let At : Bool → Type 0 = λ b. IsLinked (cond b image new) u (Mixed u v) (IsUnowned u) fs in
    ⊎_elim
    (λ (same : bytes_eq f.name e.name ≡ true).
    let is = (bytes_eq-Decides f.name e.name).0 same in
    subst At (sym same) (linked_as image u (Belongs u) (Mixed u v) (IsUnowned u) (IsUnowned u) fs
    (λ x w valid at. name_there u v r f e k x w m is at) (λ x w valid at. name_back u v r f e k x w m is at) (λ j below un. un) l))
    (λ (other : bytes_eq f.name e.name ≡ false). subst At (sym other) (renamed image u v r f e k fs m l))
    (cases_Bool (bytes_eq f.name e.name))

pub name_stands : (image u v : List ℕ) (r : Registry) (f e : PrEntry) (k : ℕ) (fs : List ℕ) → IsMoving u v r f e k
    → IsLinked image u (Belongs u) (IsUnowned u) fs → HasWord name_links (name_chain f.name) (k + 1) image
name_stands image u v r f e k fs m l =
    (l.whole, word_there image u (Belongs u) (IsUnowned u) fs (ByName (name_key f.name)) (k + 1) l (omega arith) (in_name u v r f e k m))

-- ---- the chain of the owner

mixed_one : (u v : List ℕ) (r : Registry) (f e : PrEntry) (k : ℕ) (c d : Chain) (w : ℕ) → IsMoving u v r f e k → IsChain u c → IsChain u d
    → next_of c ≡ next_of d → Mixed u v c w → Mixed u v d w → c ≡ d
mixed_one u v r f e k (ByName a) (ByName b) w m is_c is_d next x y = ap ByName (sym x.belongs ∙ y.belongs)
mixed_one u v r f e k (ByName a) (ById b) w m is_c is_d next x y = absurd (omega (arith, next))
mixed_one u v r f e k (ByName a) (Owned b) w m is_c is_d next x y = absurd (omega (arith, next))
mixed_one u v r f e k (ById a) (ByName b) w m is_c is_d next x y = absurd (omega (arith, next))
mixed_one u v r f e k (ById a) (ById b) w m is_c is_d next x y = (are_words u r m.of).one (ById a) (ById b) w is_c is_d next x y
mixed_one u v r f e k (ById a) (Owned b) w m is_c is_d next x y = absurd (omega (arith, next))
mixed_one u v r f e k (Owned a) (ByName b) w m is_c is_d next x y = absurd (omega (arith, next))
mixed_one u v r f e k (Owned a) (ById b) w m is_c is_d next x y = absurd (omega (arith, next))
mixed_one u v r f e k (Owned a) (Owned b) w m is_c is_d next x y = (are_words u r m.of).one (Owned a) (Owned b) w is_c is_d next x y

mixed_some : (u v : List ℕ) (c : Chain) (w : ℕ) → Mixed u v c w → 0 < w
mixed_some u v (ByName a) w x = x.some
mixed_some u v (ById a) w x = x.some
mixed_some u v (Owned a) w x = x.1.some

mixed_owned : (u v : List ℕ) (r : Registry) (f e : PrEntry) (k : ℕ) (c : Chain) (w : ℕ) → IsMoving u v r f e k → next_of c ≡ 104
    → Mixed u v c w → IsOwned (entry_in (block_in u (w - 1)))
mixed_owned u v r f e k (ByName a) w m next x = absurd (omega (arith, next))
mixed_owned u v r f e k (ById a) w m next x = absurd (omega (arith, next))
mixed_owned u v r f e k (Owned a) w m next x = owned_word u r (Owned a) w m.of next x

mixed_words : (u v : List ℕ) (r : Registry) (f e : PrEntry) (k : ℕ) → IsMoving u v r f e k → AreWords u (Mixed u v) (IsUnowned u)
mixed_words u v r f e k m = record {
  one = λ c d w is_c is_d next x y. mixed_one u v r f e k c d w m is_c is_d next x y;
  some = λ c w is x. mixed_some u v c w x;
  never = λ c w is next x un. un.1 (mixed_owned u v r f e k c w m next x);
}

-- without the entry in an owner's chain
abbrev pub Homeless : (u v : List ℕ) → (n : ℕ) → Chain → ℕ → Type 0
Homeless u v n c w = Mixed u v c w × (next_of c ≡ 104 → w ≢ n)

abbrev pub NoOwner : (u : List ℕ) → (k : ℕ) → ℕ → Type 0
NoOwner u k j = IsUnowned u j ⊎ (j ≡ k)

owner_word : (u v : List ℕ) (r : Registry) (f e : PrEntry) (k o : ℕ) → IsMoving u v r f e k → IsOwned f → IsOf u f.owner o
    → Mixed u v (Owned o) (k + 1)
owner_word u v r f e k o m owned of =
    (of.entry, own_at u f k (IsGroupOf (entry_in (block_in u o)).id) m.entry m.is (owned.0, sym of.id_is))

id_among : (u : List ℕ) (M : Chain → ℕ → Type 0) (z : ℤ) (o : ℕ) → IsOf u z o
    → ((w : ℕ) → IsEntryAt u (HasIdKey (id_key z)) w → M (ById (id_key z)) w)
    → ((w : ℕ) → M (ById (id_key z)) w → IsEntryAt u (HasIdKey (id_key z)) w) → IsAmong u M z o
id_among u M z o of there back = record {
  has = there (o + 1) (own_at u (entry_in (block_in u o)) o (HasIdKey (id_key z)) of.entry refl (ap id_key of.id_is));
  only = back;
}

old_number : (image u v : List ℕ) (r : Registry) (f e : PrEntry) (k o : ℕ) (fs : List ℕ) → IsMoving u v r f e k → IsOf u f.owner o
    → IsLinked image u (Mixed u v) (IsUnowned u) fs → number_of f.owner image ≡ o + 1
old_number image u v r f e k o fs m of l =
    number_is image u (Mixed u v) (IsUnowned u) fs f.owner o l of (id_among u (Mixed u v) f.owner o of (λ w at. at) (λ w at. at))

pub linked_homeless : (image u v : List ℕ) (r : Registry) (f e : PrEntry) (k : ℕ) (fs : List ℕ) → IsMoving u v r f e k
    → IsLinked image u (Mixed u v) (IsUnowned u) fs
    → IsLinked (owner_left f (k + 1) image) u (Homeless u v (k + 1)) (NoOwner u k) fs
linked_homeless image u v r f e k fs m l =
    let n = k + 1 in
    let back : n - 1 ≡ k = omega arith in
    let At : Bool → Type 0 = λ b. IsLinked (cond b (owner_without f.owner n image) image) u (Homeless u v n) (NoOwner u k) fs in
    ⊎_elim
    (λ (owned : is_owned f ≡ true).
    let is = owned_true f owned in
    let o = owner_in u r f k m.of m.entry m.is is in
    let place : owned_place o.0 ≡ owned_place (number_of f.owner image - 1) =
    ap owned_place (omega (arith, old_number image u v r f e k o.0 fs m o.1 l)) in
    let out = out_linked image u (Mixed u v) (IsUnowned u) fs (Owned o.0) n l (mixed_words u v r f e k m) o.1.entry
    (owner_word u v r f e k o.0 m is o.1) in
    let gone = linked_as (without owned_links (owned_place o.0) n image) u (Less (Owned o.0) n (Mixed u v)) (Homeless u v n)
    (NowAlso (Owned o.0) n (IsUnowned u)) (NoOwner u k) fs (λ c w valid has. has) (λ c w valid has. has)
    (λ j below un. ⊎_elim (λ (was : IsUnowned u j). inl was) (λ (own : j ≡ k). inr (refl, own ∙ sym back)) un) out in
    subst At (sym owned) (subst (λ (p : ℕ). IsLinked (without owned_links p n image) u (Homeless u v n) (NoOwner u k) fs) place gone))
    (λ (alone : is_owned f ≡ false).
    subst At (sym alone) (linked_as image u (Mixed u v) (Homeless u v n) (IsUnowned u) (NoOwner u k) fs
    (λ c w valid has. (
      has,
      λ next same. owned_false f alone
          (subst IsOwned (ap (λ (j : ℕ). entry_in (block_in u j)) back ∙ m.is)
          (mixed_owned u v r f e k c n m next (subst (Mixed u v c) same has))),
    ))
    (λ c w valid has. has.0)
    (λ j below un. ⊎_elim (λ (was : IsUnowned u j). was)
    (λ (own : j ≡ k). (
      subst (IsEntry u) (sym own) m.entry,
      λ owned. owned_false f alone (subst IsOwned (ap (λ (i : ℕ). entry_in (block_in u i)) own ∙ m.is) owned),
    )) un) l))
    (cases_Bool (is_owned f))

pub owner_stands : (image u v : List ℕ) (r : Registry) (f e : PrEntry) (k : ℕ) (fs : List ℕ) → IsMoving u v r f e k
    → IsLinked image u (Mixed u v) (IsUnowned u) fs → is_owned f ≡ true → IsOwnedBy f.owner (k + 1) image
owner_stands image u v r f e k fs m l owned =
    let n = k + 1 in
    let is = owned_true f owned in
    let o = owner_in u r f k m.of m.entry m.is is in
    let place : owned_place o.0 ≡ owned_place (number_of f.owner image - 1) =
    ap owned_place (omega (arith, old_number image u v r f e k o.0 fs m o.1 l)) in
    let word : HasWord owned_links (owned_place o.0) n image =
    (l.whole, word_there image u (Mixed u v) (IsUnowned u) fs (Owned o.0) n l o.1.entry (owner_word u v r f e k o.0 m is o.1)) in (
      has_link image u (Mixed u v) (IsUnowned u) fs f.owner o.0 l o.1 (id_among u (Mixed u v) f.owner o.0 o.1 (λ w at. at) (λ w at. at)),
      subst (λ (p : ℕ). HasWord owned_links p n image) place word,
    )

-- the other owner, in the image as it is
pub new_owner : (u v : List ℕ) (r : Registry) (f e : PrEntry) (k : ℕ) → IsMoving u v r f e k → IsOwned e → (o : ℕ) × IsOf u e.owner o
new_owner u v r f e k m owned =
    let o = owner_in v (with_entry e r) e k m.also (own_entry u v k e m.with_it) m.with_it.entry owned in
    let of = o.1 in
    let entry = entry_back u v r f e k o.0 m of.entry in (
      o.0,
      record {
        entry = entry;
        id_is = sym (id_same u v r f e k o.0 m entry) ∙ of.id_is;
        one = λ j in_j same. of.one j (entry_same u v r f e k j m in_j) (id_same u v r f e k j m in_j ∙ same);
      },
    )

new_among : (u v : List ℕ) (z : ℤ) (k o : ℕ) → IsOf u z o → IsAmong u (Homeless u v (k + 1)) z o
new_among u v z k o of =
    id_among u (Homeless u v (k + 1)) z o of (λ w at. (at, λ next. absurd (omega (arith, next)))) (λ w has. has.0)

-- the words are those that belong there now
home_there : (u v : List ℕ) (r : Registry) (f e : PrEntry) (k : ℕ) (c : Chain) (w : ℕ) → IsMoving u v r f e k
    → Homeless u v (k + 1) c w → Belongs v c w
home_there u v r f e k (ByName key) w m has = has.0
home_there u v r f e k (ById key) w m has = by_id u v r f e k key w m has.0
home_there u v r f e k (Owned j) w m has =
    let id = id_same u v r f e k j m has.0.0 in (
      entry_same u v r f e k j m has.0.0,
      subst (λ (z : ℤ). IsEntryAt v (IsGroupOf z) w) (sym id)
          (at_on u v k w e (IsGroupOf (entry_in (block_in u j)).id) m.with_it has.0.1
          (λ same. has.1 refl (omega (arith, same, has.0.1.some)))),
    )

-- the entry is a group that the entry of a block owns
abbrev IsNowOf : List ℕ → PrEntry → (k : ℕ) → Chain → ℕ → Type 0
IsNowOf v e k c w = (j : ℕ) × (c ≡ Owned j) × (w ≡ k + 1) × IsEntry v j × IsGroupOf (entry_in (block_in v j)).id e

home_back : (u v : List ℕ) (r : Registry) (f e : PrEntry) (k : ℕ) (c : Chain) (w : ℕ) → IsMoving u v r f e k → Belongs v c w
    → Homeless u v (k + 1) c w ⊎ IsNowOf v e k c w
home_back u v r f e k (ByName key) w m at = inl (at, λ next. absurd (omega (arith, next)))
home_back u v r f e k (ById key) w m at = inl (by_id_back u v r f e k key w m at, λ next. absurd (omega (arith, next)))
home_back u v r f e k (Owned j) w m at =
    let z = (entry_in (block_in v j)).id in
    ⊎_elim
    (λ (own : (w ≡ k + 1) × IsGroupOf z e). inr (j, refl, own.0, at.0, own.1))
    (λ (was : (w - 1 ≢ k) × IsEntryAt u (IsGroupOf z) w).
    let entry = entry_back u v r f e k j m at.0 in
    inl (
      (entry, subst (λ (y : ℤ). IsEntryAt u (IsGroupOf y) w) (id_same u v r f e k j m entry) was.1),
      λ next same. was.0 (omega (arith, same)),
    ))
    (at_was u v k w e (IsGroupOf z) m.with_it at.1)

unowned_back : (u v : List ℕ) (r : Registry) (f e : PrEntry) (k j : ℕ) → IsMoving u v r f e k → IsUnowned v j → NoOwner u k j
unowned_back u v r f e k j m un =
    ⊎_elim (λ (same : j ≡ k). inr same)
    (λ (other : j ≢ k).
    let entry = entry_back u v r f e k j m un.0 in
    inl (entry, λ owned. un.1 (subst (λ (b : List ℕ). IsOwned (entry_in b)) (sym (m.with_it.others j entry.below other)) owned)))
    (cases_eq j k)

home_alone : (image u v : List ℕ) (r : Registry) (f e : PrEntry) (k : ℕ) (fs : List ℕ) → IsMoving u v r f e k → is_owned e ≡ false
    → IsLinked image u (Homeless u v (k + 1)) (NoOwner u k) fs → IsLinked image u (Belongs v) (IsUnowned v) fs
home_alone image u v r f e k fs m alone l =
    linked_as image u (Homeless u v (k + 1)) (Belongs v) (NoOwner u k) (IsUnowned v) fs
    (λ c w valid has. home_there u v r f e k c w m has)
    (λ c w valid at. ⊎_elim (λ (has : Homeless u v (k + 1) c w). has)
    (λ (own : IsNowOf v e k c w).
    absurd (owned_false e alone (own.4.0, λ none. some_block v (with_entry e r) own.0 m.also own.3 (sym own.4.1 ∙ none))))
    (home_back u v r f e k c w m at))
    (λ j below un. unowned_back u v r f e k j m un) l

home_owned : (image u v : List ℕ) (r : Registry) (f e : PrEntry) (k o : ℕ) (fs : List ℕ) → IsMoving u v r f e k → IsOwned e
    → IsOf u e.owner o → IsLinked image u (Homeless u v (k + 1)) (NoOwner u k) fs
    → IsLinked (put_in owned_links (owned_place o) (k + 1) image) u (Belongs v) (IsUnowned v) fs
home_owned image u v r f e k o fs m owned of l =
    let n = k + 1 in
    let back : n - 1 ≡ k = omega arith in
    let put = put_linked image u (Homeless u v n) (NoOwner u k) fs (Owned o) n l of.entry (subst (IsEntry u) (sym back) m.entry)
    (omega arith)
    (λ x valid next has. has.1 next refl) in
    linked_as (put_in owned_links (owned_place o) n image) u (Also (Owned o) n (Homeless u v n)) (Belongs v)
    (NotAlso (Owned o) n (NoOwner u k)) (IsUnowned v) fs
    (λ x w valid has. ⊎_elim (λ (was : Homeless u v n x w). home_there u v r f e k x w m was)
    (λ (new : (x ≡ Owned o) × (w ≡ n)).
    let id = id_same u v r f e k o m of.entry in
    let at : Belongs v (Owned o) w = (
      entry_same u v r f e k o m of.entry,
      subst (IsEntryAt v (IsGroupOf (entry_in (block_in v o)).id)) (sym new.1)
          (at_own u v k e (IsGroupOf (entry_in (block_in v o)).id) m.with_it (owned.0, sym (id ∙ of.id_is))),
    ) in
    subst (λ (y : Chain). Belongs v y w) (sym new.0) at)
    has)
    (λ x w valid at. ⊎_elim (λ (has : Homeless u v n x w). inl has)
    (λ (new : IsNowOf v e k x w).
    let entry = entry_back u v r f e k new.0 m new.3 in
    inr (new.1 ∙ ap Owned (of.one new.0 entry (sym (id_same u v r f e k new.0 m entry) ∙ sym new.4.1)), new.2))
    (home_back u v r f e k x w m at))
    (λ j below un. (
      unowned_back u v r f e k j m un,
      λ next same. un.1 (subst IsOwned (sym (ap (λ (i : ℕ). entry_in (block_in v i)) (same ∙ back) ∙ m.with_it.entry)) owned),
    ))
    put

new_number : (image u v : List ℕ) (e : PrEntry) (k o : ℕ) (fs : List ℕ) → IsOf u e.owner o
    → IsLinked image u (Homeless u v (k + 1)) (NoOwner u k) fs → number_of e.owner image ≡ o + 1
new_number image u v e k o fs of l =
    number_is image u (Homeless u v (k + 1)) (NoOwner u k) fs e.owner o l of (new_among u v e.owner k o of)

pub linked_home : (image u v : List ℕ) (r : Registry) (f e : PrEntry) (k : ℕ) (fs : List ℕ) → IsMoving u v r f e k
    → IsLinked image u (Homeless u v (k + 1)) (NoOwner u k) fs
    → IsLinked (owner_entered e (k + 1) image) u (Belongs v) (IsUnowned v) fs
linked_home image u v r f e k fs m l =
    let n = k + 1 in
    let At : Bool → Type 0 = λ b. IsLinked (cond b (owner_first e.owner n image) image) u (Belongs v) (IsUnowned v) fs in
    ⊎_elim
    (λ (owned : is_owned e ≡ true).
    let is = owned_true e owned in
    let o = new_owner u v r f e k m is in
    let place : owned_place o.0 ≡ owned_place (number_of e.owner image - 1) =
    ap owned_place (omega (arith, new_number image u v e k o.0 fs o.1 l)) in
    subst At (sym owned) (subst (λ (p : ℕ). IsLinked (put_in owned_links p n image) u (Belongs v) (IsUnowned v) fs) place
    (home_owned image u v r f e k o.0 fs m is o.1 l)))
    (λ (alone : is_owned e ≡ false). subst At (sym alone) (home_alone image u v r f e k fs m alone l))
    (cases_Bool (is_owned e))

pub home_stands : (image u v : List ℕ) (r : Registry) (f e : PrEntry) (k : ℕ) (fs : List ℕ) → IsMoving u v r f e k
    → IsLinked image u (Homeless u v (k + 1)) (NoOwner u k) fs → is_owned e ≡ true → HasLink e.owner image
home_stands image u v r f e k fs m l owned =
    let o = new_owner u v r f e k m (owned_true e owned) in
    has_link image u (Homeless u v (k + 1)) (NoOwner u k) fs e.owner o.0 l o.1 (new_among u v e.owner k o.0 o.1)

-- ---- one owner still

keeps_there : (u v : List ℕ) (r : Registry) (f e : PrEntry) (k : ℕ) (c : Chain) (w : ℕ) → IsMoving u v r f e k → f.owner ≡ e.owner
    → Mixed u v c w → Belongs v c w
keeps_there u v r f e k (ByName key) w m same at = at
keeps_there u v r f e k (ById key) w m same at = by_id u v r f e k key w m at
keeps_there u v r f e k (Owned j) w m same at =
    let z = (entry_in (block_in u j)).id in (
      entry_same u v r f e k j m at.0,
      subst (λ (y : ℤ). IsEntryAt v (IsGroupOf y) w) (sym (id_same u v r f e k j m at.0))
          (at_both u v r f e k w (IsGroupOf z) m (λ g. (subst (λ (y : ℤ). y <ℤ pos 0) (sym m.id) g.0, sym same ∙ g.1)) at.1),
    )

keeps_back : (u v : List ℕ) (r : Registry) (f e : PrEntry) (k : ℕ) (c : Chain) (w : ℕ) → IsMoving u v r f e k → f.owner ≡ e.owner
    → Belongs v c w → Mixed u v c w
keeps_back u v r f e k (ByName key) w m same at = at
keeps_back u v r f e k (ById key) w m same at = by_id_back u v r f e k key w m at
keeps_back u v r f e k (Owned j) w m same at =
    let entry = entry_back u v r f e k j m at.0 in
    let z = (entry_in (block_in u j)).id in (
      entry,
      at_back u v r f e k w (IsGroupOf z) m (λ g. (subst (λ (y : ℤ). y <ℤ pos 0) m.id g.0, same ∙ g.1))
          (subst (λ (y : ℤ). IsEntryAt v (IsGroupOf y) w) (id_same u v r f e k j m entry) at.1),
    )

keeps_unowned : (u v : List ℕ) (r : Registry) (f e : PrEntry) (k j : ℕ) → IsMoving u v r f e k → f.owner ≡ e.owner → IsUnowned v j
    → IsUnowned u j
keeps_unowned u v r f e k j m same un =
    let entry = entry_back u v r f e k j m un.0 in
    ⊎_elim
    (λ (own : j ≡ k). (
      entry,
      λ owned. let g : IsOwned f = subst IsOwned (ap (λ (i : ℕ). entry_in (block_in u i)) own ∙ m.is) owned in
          un.1 (subst IsOwned (sym (ap (λ (i : ℕ). entry_in (block_in v i)) own ∙ m.with_it.entry))
          (subst (λ (y : ℤ). y <ℤ pos 0) (sym m.id) g.0, λ none. g.1 (same ∙ none))),
    ))
    (λ (other : j ≢ k).
    (entry, λ owned. un.1 (subst (λ (b : List ℕ). IsOwned (entry_in b)) (sym (m.with_it.others j entry.below other)) owned)))
    (cases_eq j k)

pub linked_owner : (image u v : List ℕ) (r : Registry) (f e : PrEntry) (k : ℕ) (fs : List ℕ) → IsMoving u v r f e k
    → IsLinked image u (Mixed u v) (IsUnowned u) fs → IsLinked (owner_moved f e (k + 1) image) u (Belongs v) (IsUnowned v) fs
linked_owner image u v r f e k fs m l =
    let new = owner_entered e (k + 1) (owner_left f (k + 1) image) in
    let At : Bool → Type 0 = λ b. IsLinked (cond b image new) u (Belongs v) (IsUnowned v) fs in
    ⊎_elim
    (λ (same : int_eq f.owner e.owner ≡ true).
    let is = (Decides-int_eq f.owner e.owner).0 same in
    subst At (sym same) (linked_as image u (Mixed u v) (Belongs v) (IsUnowned u) (IsUnowned v) fs
    (λ c w valid at. keeps_there u v r f e k c w m is at) (λ c w valid at. keeps_back u v r f e k c w m is at)
    (λ j below un. keeps_unowned u v r f e k j m is un) l))
    (λ (other : int_eq f.owner e.owner ≡ false).
    subst At (sym other) (linked_home (owner_left f (k + 1) image) u v r f e k fs m (linked_homeless image u v r f e k fs m l)))
    (cases_Bool (int_eq f.owner e.owner))
