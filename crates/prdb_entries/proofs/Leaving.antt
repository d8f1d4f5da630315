-- The chains of an image that holds a registry, while an entry goes out of those in which it stands.
use Rattle.std.proofs.Common.{◌≡◌, ◌≢◌, ℕ, pos, ◌+◌, ◌-◌, ◌<◌, inl, ⊎_elim, Bool, true, false, cond, List, Some, refl, sym, ap, subst, ◌∙◌, arith}
use Rattle.std.proofs.lemmas.Bool.{cases_Bool}
use Rattle.db_blocks.specs.Blocks.{kind_of}
use Rattle.db_chains.specs.Changes.{without}
use Rattle.db_chains.specs.Ends.{HasWord}
use Rattle.db_chains.specs.Keys.{name_key}
use Rattle.prdb_layout.specs.Records.{IsLaidOut, block_in, entry_in}
use Rattle.prdb_layout.specs.Registry.{IsRegistry, Registry}
use Rattle.prdb_layout.specs.State.{PrEntry}
use Rattle.prdb_finds.specs.Keys.{id_key, name_chain}
use Rattle.prdb_finds.specs.Places.{name_links, owned_links, owned_place}
use Rattle.prdb_finds.specs.Records.{HasIdKey, HasNameKey, IsEntryAt, IsGroupOf, IsOwned}
use Rattle.prdb_entries.specs.Changes.{is_owned, left, number_of, owner_without, unnamed}
use Rattle.prdb_entries.specs.Ends.{StandsInChains}
use Rattle.prdb_entries.proofs.Entries.{Belongs, IsUnowned}
use Rattle.prdb_entries.proofs.Inserted.{owned_false, owned_true, some_id, some_of}
use Rattle.prdb_entries.proofs.Linked.{ById, ByName, Chain, IsEntry, IsLinked, Owned, linked_as, next_of}
use Rattle.prdb_entries.proofs.Numbers.{IsAmong, IsOf, has_link, number_is}
use Rattle.prdb_entries.proofs.Unlinked.{AreWords, Less, NowAlso, out_linked, word_there}

-- ---- the words that belong in the chains

-- an image without words of chains is laid out for a registry
pub record IsOfRegistry (u : List ℕ) (r : Registry) : Type 0 where
  pub valid : IsRegistry r
  pub laid : IsLaidOut u r

-- an entry of the image, by its block
pub entry_of : (u : List ℕ) (w : ℕ) (P : PrEntry → Type 0) → IsEntryAt u P w → IsEntry u (w - 1)
entry_of u w P at = record { below = omega (arith, at.some, at.within); kind = at.kind }

pub some_block : (u : List ℕ) (r : Registry) (k : ℕ) → IsOfRegistry u r → IsEntry u k → (entry_in (block_in u k)).id ≢ pos 0
some_block u r k of entry =
    let e = entry_in (block_in u k) in
    some_id e.id (of.valid.records e.id e (of.laid.there k entry.below entry.kind)).fields.id

-- two entries with one id are one
pub one_block : (u : List ℕ) (r : Registry) (j k : ℕ) → IsOfRegistry u r → IsEntry u j → IsEntry u k
    → (entry_in (block_in u j)).id ≡ (entry_in (block_in u k)).id → j ≡ k
one_block u r j k of in_j in_k same = of.laid.one j k in_j.below in_k.below in_j.kind in_k.kind same

one_chain : (u : List ℕ) (r : Registry) (c d : Chain) (w : ℕ) → IsOfRegistry u r → next_of c ≡ next_of d → Belongs u c w → Belongs u d w
    → c ≡ d
one_chain u r (ByName a) (ByName b) w of next x y = ap ByName (sym x.belongs ∙ y.belongs)
one_chain u r (ByName a) (ById b) w of next x y = absurd (omega (arith, next))
one_chain u r (ByName a) (Owned b) w of next x y = absurd (omega (arith, next))
one_chain u r (ById a) (ByName b) w of next x y = absurd (omega (arith, next))
one_chain u r (ById a) (ById b) w of next x y = ap ById (sym x.belongs ∙ y.belongs)
one_chain u r (ById a) (Owned b) w of next x y = absurd (omega (arith, next))
one_chain u r (Owned a) (ByName b) w of next x y = absurd (omega (arith, next))
one_chain u r (Owned a) (ById b) w of next x y = absurd (omega (arith, next))
one_chain u r (Owned a) (Owned b) w of next x y =
    ap Owned (one_block u r a b of x.0 y.0 (sym x.1.belongs.1 ∙ y.1.belongs.1))

pub some_word : (u : List ℕ) (c : Chain) (w : ℕ) → Belongs u c w → 0 < w
some_word u (ByName a) w x = x.some
some_word u (ById a) w x = x.some
some_word u (Owned a) w x = x.1.some

-- a group in an owner's chain has an owner
pub owned_word : (u : List ℕ) (r : Registry) (c : Chain) (w : ℕ) → IsOfRegistry u r → next_of c ≡ 104 → Belongs u c w
    → IsOwned (entry_in (block_in u (w - 1)))
owned_word u r (ByName a) w of next x = absurd (omega (arith, next))
owned_word u r (ById a) w of next x = absurd (omega (arith, next))
owned_word u r (Owned a) w of next x = (x.1.belongs.0, λ none. some_block u r a of x.0 (sym x.1.belongs.1 ∙ none))

pub are_words : (u : List ℕ) (r : Registry) → IsOfRegistry u r → AreWords u (Belongs u) (IsUnowned u)
are_words u r of = record {
  one = λ c d w is_c is_d next x y. one_chain u r c d w of next x y;
  some = λ c w is x. some_word u c w x;
  never = λ c w is next x un. un.1 (owned_word u r c w of next x);
}

pub words_less : (u : List ℕ) (M : Chain → ℕ → Type 0) (U : ℕ → Type 0) (c : Chain) (n : ℕ) → AreWords u M U → (next_of c ≡ 104 → ⊥)
    → AreWords u (Less c n M) (NowAlso c n U)
words_less u M U c n are other = record {
  one = λ d e w is_d is_e next x y. are.one d e w is_d is_e next x.0 y.0;
  some = λ d w is x. are.some d w is x.0;
  never = λ d w is next x un. ⊎_elim (λ (was : U (w - 1)). are.never d w is next x.0 was)
      (λ (now : (next_of c ≡ 104) × (w - 1 ≡ n - 1)). other now.0) un;
}

-- ---- an entry goes out of its chains

-- the entry in a block is this one; it does not own itself
pub record IsLeaving (u : List ℕ) (r : Registry) (e : PrEntry) (k : ℕ) : Type 0 where
  pub of : IsOfRegistry u r
  pub entry : IsEntry u k
  pub is : entry_in (block_in u k) ≡ e
  pub other_owner : e.owner ≢ e.id

abbrev pub Unnamed : (u : List ℕ) → PrEntry → (n : ℕ) → Chain → ℕ → Type 0
Unnamed u e n = Less (ById (id_key e.id)) n (Less (ByName (name_key e.name)) n (Belongs u))

abbrev pub Left : (u : List ℕ) → PrEntry → (n : ℕ) → ℕ → Type 0
Left u e n = NowAlso (ById (id_key e.id)) n (NowAlso (ByName (name_key e.name)) n (IsUnowned u))

pub own_at : (u : List ℕ) (e : PrEntry) (k : ℕ) (P : PrEntry → Type 0) → IsEntry u k → entry_in (block_in u k) ≡ e → P e
    → IsEntryAt u P (k + 1)
own_at u e k P entry is belongs =
    let back : k ≡ k + 1 - 1 = omega arith in record {
      some = omega arith;
      within = omega (arith, entry.below);
      kind = ap (λ (j : ℕ). kind_of (block_in u j)) (sym back) ∙ entry.kind;
      belongs = subst (λ (j : ℕ). P (entry_in (block_in u j))) back (subst P (sym is) belongs);
    }

in_name : (u : List ℕ) (r : Registry) (e : PrEntry) (k : ℕ) → IsLeaving u r e k → Belongs u (ByName (name_key e.name)) (k + 1)
in_name u r e k leaves = own_at u e k (HasNameKey (name_key e.name)) leaves.entry leaves.is refl

in_id : (u : List ℕ) (r : Registry) (e : PrEntry) (k : ℕ) → IsLeaving u r e k
    → Less (ByName (name_key e.name)) (k + 1) (Belongs u) (ById (id_key e.id)) (k + 1)
in_id u r e k leaves =
    (own_at u e k (HasIdKey (id_key e.id)) leaves.entry leaves.is refl, λ next. absurd (omega (arith, next)))

linked_name : (image u : List ℕ) (r : Registry) (e : PrEntry) (k : ℕ) (fs : List ℕ) → IsLeaving u r e k
    → IsLinked image u (Belongs u) (IsUnowned u) fs
    → IsLinked (without name_links (name_chain e.name) (k + 1) image) u (Less (ByName (name_key e.name)) (k + 1) (Belongs u))
    (NowAlso (ByName (name_key e.name)) (k + 1) (IsUnowned u)) fs
linked_name image u r e k fs leaves l =
    out_linked image u (Belongs u) (IsUnowned u) fs (ByName (name_key e.name)) (k + 1) l (are_words u r leaves.of) (omega arith)
    (in_name u r e k leaves)

name_words : (u : List ℕ) (r : Registry) (e : PrEntry) (k : ℕ) → IsLeaving u r e k
    → AreWords u (Less (ByName (name_key e.name)) (k + 1) (Belongs u)) (NowAlso (ByName (name_key e.name)) (k + 1) (IsUnowned u))
name_words u r e k leaves =
    words_less u (Belongs u) (IsUnowned u) (ByName (name_key e.name)) (k + 1) (are_words u r leaves.of) (λ next. omega (arith, next))

pub linked_unnamed : (image u : List ℕ) (r : Registry) (e : PrEntry) (k : ℕ) (fs : List ℕ) → IsLeaving u r e k
    → IsLinked image u (Belongs u) (IsUnowned u) fs → IsLinked (unnamed (k + 1) e image) u (Unnamed u e (k + 1)) (Left u e (k + 1)) fs
linked_unnamed image u r e k fs leaves l =
    let n = k + 1 in
    let c = ByName (name_key e.name) in
    out_linked (without name_links (name_chain e.name) n image) u (Less c n (Belongs u)) (NowAlso c n (IsUnowned u)) fs
    (ById (id_key e.id)) n (linked_name image u r e k fs leaves l) (name_words u r e k leaves) (omega arith) (in_id u r e k leaves)

-- ---- its owner

pub owner_in : (u : List ℕ) (r : Registry) (e : PrEntry) (k : ℕ) → IsOfRegistry u r → IsEntry u k → entry_in (block_in u k) ≡ e → IsOwned e
    → (o : ℕ) × IsOf u e.owner o
owner_in u r e k of entry is owned =
    let there = subst (λ (x : PrEntry). r.entry x.id ≡ Some x) is (of.laid.there k entry.below entry.kind) in
    ⊎_elim
    (λ (none : e.owner ≡ pos 0). absurd (owned.1 none))
    (λ some.
    let f = some_of (r.entry e.owner) some in
    let o = of.laid.only e.owner f.0 f.1 in
    let id : (entry_in (block_in u o.0)).id ≡ e.owner = ap (λ (x : PrEntry). x.id) o.3 ∙ of.valid.ids e.owner f.0 f.1 in (
      o.0,
      record {
        entry = record { below = o.1; kind = o.2 };
        id_is = id;
        one = λ j in_j same. one_block u r j o.0 of in_j record { below = o.1; kind = o.2 } (same ∙ sym id);
      },
    ))
    (of.valid.among e.id e there).owner

pub owner_of : (u : List ℕ) (r : Registry) (e : PrEntry) (k : ℕ) → IsLeaving u r e k → IsOwned e → (o : ℕ) × IsOf u e.owner o
owner_of u r e k leaves owned = owner_in u r e k leaves.of leaves.entry leaves.is owned

owner_other : (u : List ℕ) (r : Registry) (e : PrEntry) (k o : ℕ) → IsLeaving u r e k → IsOf u e.owner o → o ≢ k
owner_other u r e k o leaves of = λ same.
    leaves.other_owner (sym of.id_is ∙ ap (λ (j : ℕ). (entry_in (block_in u j)).id) same ∙ ap (λ (x : PrEntry). x.id) leaves.is)

owner_among : (u : List ℕ) (r : Registry) (e : PrEntry) (k o : ℕ) → IsLeaving u r e k → IsOf u e.owner o
    → IsAmong u (Unnamed u e (k + 1)) e.owner o
owner_among u r e k o leaves of =
    let other = owner_other u r e k o leaves of in
    record {
      has = (
        (
          own_at u (entry_in (block_in u o)) o (HasIdKey (id_key e.owner)) of.entry refl (ap id_key of.id_is),
          λ next. absurd (omega (arith, next)),
        ),
        λ next same. other (omega (arith, same)),
      );
      only = λ w has. has.0.0;
    }

owner_number : (image u : List ℕ) (r : Registry) (e : PrEntry) (k o : ℕ) (fs : List ℕ) → IsLeaving u r e k → IsOf u e.owner o
    → IsLinked image u (Belongs u) (IsUnowned u) fs → number_of e.owner (unnamed (k + 1) e image) ≡ o + 1
owner_number image u r e k o fs leaves of l =
    number_is (unnamed (k + 1) e image) u (Unnamed u e (k + 1)) (Left u e (k + 1)) fs e.owner o
    (linked_unnamed image u r e k fs leaves l) of (owner_among u r e k o leaves of)

-- it stands in its owner's chain
in_owned : (u : List ℕ) (r : Registry) (e : PrEntry) (k o : ℕ) → IsLeaving u r e k → IsOwned e → IsOf u e.owner o
    → Unnamed u e (k + 1) (Owned o) (k + 1)
in_owned u r e k o leaves owned of = (
  (
    (
      of.entry,
      own_at u e k (IsGroupOf (entry_in (block_in u o)).id) leaves.entry leaves.is (owned.0, sym of.id_is),
    ),
    λ next. absurd (omega (arith, next)),
  ),
  λ next. absurd (omega (arith, next)),
)

-- ---- all of its chains

-- the words but those of the entry
abbrev pub Others : (u : List ℕ) → (n : ℕ) → Chain → ℕ → Type 0
Others u n c w = Belongs u c w × (w ≢ n)

parts : (u : List ℕ) (e : PrEntry) (n : ℕ) (c : Chain) (w : ℕ) → Unnamed u e n c w → (next_of c ≡ 104 → w ≡ n → ⊥) → w ≢ n
parts u e n (ByName a) w has never = has.0.1 refl
parts u e n (ById a) w has never = has.1 refl
parts u e n (Owned a) w has never = never refl

left_alone : (image u : List ℕ) (r : Registry) (e : PrEntry) (k : ℕ) (fs : List ℕ) → IsLeaving u r e k → is_owned e ≡ false
    → IsLinked image u (Belongs u) (IsUnowned u) fs → IsLinked (unnamed (k + 1) e image) u (Others u (k + 1)) (IsUnowned u) fs
left_alone image u r e k fs leaves alone l =
    let n = k + 1 in
    let back : n - 1 ≡ k = omega arith in
    linked_as (unnamed n e image) u (Unnamed u e n) (Others u n) (Left u e n) (IsUnowned u) fs
    (λ c w valid has. (
      has.0.0,
      parts u e n c w has (λ next same.
          owned_false e alone
          (subst IsOwned (ap (λ (j : ℕ). entry_in (block_in u j)) back ∙ leaves.is)
          (owned_word u r c n leaves.of next (subst (Belongs u c) same has.0.0)))),
    ))
    (λ c w valid has. ((has.0, λ next. has.1), λ next. has.1))
    (λ j below un. inl (inl un))
    (linked_unnamed image u r e k fs leaves l)

left_owned : (image u : List ℕ) (r : Registry) (e : PrEntry) (k o : ℕ) (fs : List ℕ) → IsLeaving u r e k → IsOwned e → IsOf u e.owner o
    → IsLinked image u (Belongs u) (IsUnowned u) fs
    → IsLinked (without owned_links (owned_place o) (k + 1) (unnamed (k + 1) e image)) u (Others u (k + 1)) (IsUnowned u) fs
left_owned image u r e k o fs leaves owned of l =
    let n = k + 1 in
    let c = ByName (name_key e.name) in
    let d = ById (id_key e.id) in
    let mid = unnamed n e image in
    let words =
    words_less u (Less c n (Belongs u)) (NowAlso c n (IsUnowned u)) d n (name_words u r e k leaves) (λ next. omega (arith, next)) in
    let out = out_linked mid u (Unnamed u e n) (Left u e n) fs (Owned o) n (linked_unnamed image u r e k fs leaves l) words of.entry
    (in_owned u r e k o leaves owned of) in
    linked_as (without owned_links (owned_place o) n mid) u (Less (Owned o) n (Unnamed u e n)) (Others u n)
    (NowAlso (Owned o) n (Left u e n)) (IsUnowned u) fs
    (λ x w valid has. (has.0.0.0, parts u e n x w has.0 (λ next. has.1 next)))
    (λ x w valid has. (((has.0, λ next. has.1), λ next. has.1), λ next. has.1))
    (λ j below un. inl (inl (inl un)))
    out

pub linked_left : (image u : List ℕ) (r : Registry) (e : PrEntry) (k : ℕ) (fs : List ℕ) → IsLeaving u r e k
    → IsLinked image u (Belongs u) (IsUnowned u) fs → IsLinked (left (k + 1) e image) u (Others u (k + 1)) (IsUnowned u) fs
unfolding left
linked_left image u r e k fs leaves l =
    let n = k + 1 in
    let mid = unnamed n e image in
    let At : Bool → Type 0 = λ b. IsLinked (cond b (owner_without e.owner n mid) mid) u (Others u n) (IsUnowned u) fs in
    ⊎_elim
    (λ (owned : is_owned e ≡ true).
    let o = owner_of u r e k leaves (owned_true e owned) in
    let place : owned_place o.0 ≡ owned_place (number_of e.owner mid - 1) =
    ap owned_place (omega (arith, owner_number image u r e k o.0 fs leaves o.1 l)) in
    subst At (sym owned) (subst (λ (p : ℕ). IsLinked (without owned_links p n mid) u (Others u n) (IsUnowned u) fs) place
    (left_owned image u r e k o.0 fs leaves (owned_true e owned) o.1 l)))
    (λ (alone : is_owned e ≡ false). subst At (sym alone) (left_alone image u r e k fs leaves alone l))
    (cases_Bool (is_owned e))

-- ---- and each of its words is found

pub stands_in : (image u : List ℕ) (r : Registry) (e : PrEntry) (k : ℕ) (fs : List ℕ) → IsLeaving u r e k
    → IsLinked image u (Belongs u) (IsUnowned u) fs → StandsInChains (k + 1) e image
stands_in image u r e k fs leaves l =
    let n = k + 1 in
    let c = ByName (name_key e.name) in
    let one = linked_name image u r e k fs leaves l in
    let two = linked_unnamed image u r e k fs leaves l in
    record {
      name = (l.whole, word_there image u (Belongs u) (IsUnowned u) fs c n l (omega arith) (in_name u r e k leaves));
      id = (
        one.whole,
        word_there (without name_links (name_chain e.name) n image) u (Less c n (Belongs u)) (NowAlso c n (IsUnowned u)) fs
            (ById (id_key e.id)) n one (omega arith) (in_id u r e k leaves),
      );
      owner = λ owned.
          let o = owner_of u r e k leaves (owned_true e owned) in
          let mid = unnamed n e image in
          let place : owned_place o.0 ≡ owned_place (number_of e.owner mid - 1) =
          ap owned_place (omega (arith, owner_number image u r e k o.0 fs leaves o.1 l)) in
          let word : HasWord owned_links (owned_place o.0) n mid = (
            two.whole,
            word_there mid u (Unnamed u e n) (Left u e n) fs (Owned o.0) n two o.1.entry (in_owned u r e k o.0 leaves (owned_true e owned)
                o.1),
          ) in (
            has_link mid u (Unnamed u e n) (Left u e n) fs e.owner o.0 two o.1 (owner_among u r e k o.0 leaves o.1),
            subst (λ (p : ℕ). HasWord owned_links p n mid) place word,
          );
    }
