-- What an entry owns: the groups along its owned chain and the users. Which ids these are, and that there is one list of them.
use Rattle.std.proofs.Common.{◌≡◌, ℕ, ℤ, pos, negsuc, ◌-◌, ◌<◌, Bool, true, false, List, [], ◌∷◌, ◌++◌, length, map, Option, Some, None, IsSome, refl, sym, ap, subst, ◌∙◌, ⊎_elim, arith}
use Rattle.std.specs.Prelude.{◌↔◌, ◌==◌, IsSomeAnd}
use Rattle.std.specs.Cmp.{int_eq_equiv}
use Rattle.std.specs.Int.{w32, cast_signed}
use Rattle.std.specs.List.{AllByRecursion, Contains, list_any}
use Rattle.std.specs.Ordering.{int_eq}
use Rattle.std.proofs.lemmas.Bool.{and_from, eq-eqb, false_from_ne_true}
use Rattle.std.proofs.lemmas.Bool.Decides.{Decides-int_eq}
use Rattle.std.proofs.lemmas.Int.{ints}
use Rattle.std.proofs.lemmas.List.Elements.{Contains-append_cases, Contains-append_left, Contains-append_right}
use Rattle.std.proofs.lemmas.Map.Views.{Contains-from_any, list_any-from_Contains}
use Rattle.db_blocks.specs.Blocks.{block_in as any_block, word_at, kind_of}
use Rattle.db_chains.specs.Links.{block_of}
use Rattle.db_chains.proofs.Counted.{chain_unique}
use Rattle.prdb_layout.specs.Records.{block_in, entry_in}
use Rattle.prdb_layout.specs.Registry.{IsRegistry, Registry}
use Rattle.prdb_layout.specs.State.{IsId, PrEntry}
use Rattle.prdb_lists.specs.Changes.{place_in}
use Rattle.prdb_lists.specs.Members.{IsOwned, Members}
use Rattle.prdb_lists.proofs.MoveEnds.{same_ids}
use Rattle.entry_scans.specs.Lists.{IsListOf}
use Rattle.prdb_finds.specs.Places.{owned_links, owned_place}
use Rattle.prdb_finds.specs.Records.{Holds}
use Rattle.prdb_finds.proofs.Lookups.{same_block}
use Rattle.prdb_finds.proofs.OwnedLists.{IsBlockOf}
use Rattle.prdb_members.specs.Owned.{AreInOrder, ids_along}
use Rattle.prdb_members.proofs.Gains.{place_is}
use Rattle.prdb_members.proofs.Listed.{lists_here, place_of}
use Rattle.prdb_members.proofs.OwnedOrder.{all_owned}
use Rattle.prdb_turns.specs.Owners.{AreItsOwn, IsOwnedUser, is_property}
use Rattle.prdb_turns.proofs.Refits.{some_met}

-- ---- tests

pub id_of : (a b : ℤ) → int_eq a b ≡ true → a ≡ b
id_of a b is = (Decides-int_eq a b).0 is

pub to_id : (a b : ℤ) → a ≡ b → int_eq a b ≡ true
to_id a b is = (Decides-int_eq a b).1 is

pub clash : (b : Bool) → b ≡ true → b ≡ false → ⊥
clash true is fails = absurd cc
clash false is fails = absurd cc

-- ---- the groups

id_here : (image : List ℕ) (w : ℕ)
    → (entry_in (block_in image (w - 1))).id ≡ cast_signed w32 (word_at (any_block 2112 image (block_of owned_links w)) 8)
id_here image w =
    let here : any_block 2112 image (block_of owned_links w) ≡ block_in image (w - 1) =
    ap (any_block 2112 image) (omega arith) ∙ same_block image (w - 1) in
    ap (λ (b : List ℕ). cast_signed w32 (word_at b 8)) (sym here)

read_here : (image words : List ℕ)
    → ids_along image words ≡ map (cast_signed w32) (map (λ w. word_at (any_block 2112 image (block_of owned_links w)) 8) words)
read_here image [] = refl
read_here image (w ∷ words) =
    ap (λ (x : ℤ). x ∷ ids_along image words) (id_here image w)
    ∙ ap (λ (l : List ℤ). cast_signed w32 (word_at (any_block 2112 image (block_of owned_links w)) 8) ∷ l) (read_here image words)

-- the block of an owner
pub owner_block : (image : List ℕ) (r : Registry) (m : Members) (owner : ℤ) → Holds image r m → IsSome (r.entry owner) → 0 < length image
    → IsBlockOf image owner (place_in image owner)
owner_block image r m owner h there some =
    let lists = lists_here image r m h some in
    let p = place_of image r h.pairs.lists owner lists there in
    let at : place_in image owner ≡ p.k = place_is image r h.pairs.lists owner p.k lists p.at in
    subst (IsBlockOf image owner) (sym at) (record {
      below = p.at.below;
      has = and_from (kind_of (block_in image p.k) == 1) (int_eq (entry_in (block_in image p.k)).id owner)
          (eq-eqb (kind_of (block_in image p.k)) 1 p.at.kind) (to_id (entry_in (block_in image p.k)).id owner p.at.id);
    })

pub groups_are : (image : List ℕ) (r : Registry) (m : Members) (owner : ℤ) (groups : List ℤ) → Holds image r m → IsSome (r.entry owner)
    → 0 < length image → AreInOrder image owner groups → (id : ℤ) → Contains groups id ↔ IsOwned r owner id
groups_are image r m owner groups h there some order =
    let k = place_in image owner in
    let b = owner_block image r m owner h there some in
    all_owned (Some image) (Some image) k (owned_place k) owner groups refl (record { block = b; place = refl })
    (record {
      found = map (λ w. word_at (any_block 2112 image (block_of owned_links w)) 8) order.0;
      stand = (order.0, order.1, refl);
      read = order.2 ∙ read_here image order.0;
    }) r m h there some

-- ---- all that it owns

pub of_some : (owner : ℤ) (o : Option PrEntry) → IsSomeAnd o (λ e. e.owner ≡ owner) → is_property owner o ≡ true
of_some owner None is = absurd is
of_some owner (Some e) is = to_id e.owner owner is

pub some_of : (owner : ℤ) (o : Option PrEntry) → is_property owner o ≡ true → IsSomeAnd o (λ e. e.owner ≡ owner)
some_of owner None is = absurd cc
some_of owner (Some e) is = id_of e.owner owner is

-- an image that is not empty holds a registry in which an entry owns these
pub record HasItsOwn (image : List ℕ) (r : Registry) (m : Members) (owner : ℤ) (its : List ℤ) : Type 0 where
  pub holds : Holds image r m
  pub there : IsSome (r.entry owner)
  pub some : 0 < length image
  pub are : AreItsOwn image r owner its

pub its_of : (image : List ℕ) (r : Registry) (m : Members) (owner : ℤ) (its : List ℤ) (x : ℤ) → HasItsOwn image r m owner its
    → Contains its x → is_property owner (r.entry x) ≡ true
its_of image r m owner its x t has =
    let groups = t.are.0 in
    let users = t.are.1 in
    ⊎_elim
    (λ (one : Contains groups x).
    of_some owner (r.entry x) ((groups_are image r m owner groups t.holds t.there t.some t.are.2 x).0 one).1)
    (λ (two : Contains users x). of_some owner (r.entry x) (t.are.3.each x two).1)
    (Contains-append_cases groups users x (subst (λ (l : List ℤ). Contains l x) t.are.4 has))

in_by : (image : List ℕ) (r : Registry) (m : Members) (owner : ℤ) (its : List ℤ) (x : ℤ) → HasItsOwn image r m owner its → IsId x
    → is_property owner (r.entry x) ≡ true → Contains its x
in_by image r m owner its (pos n) t good is =
    subst (λ (l : List ℤ). Contains l (pos n)) (sym t.are.4)
    (Contains-append_right t.are.0 t.are.1 (pos n) (t.are.3.all (pos n) (omega (arith, ints, good.0), some_of owner (r.entry (pos n)) is)))
in_by image r m owner its (negsuc n) t good is =
    subst (λ (l : List ℤ). Contains l (negsuc n)) (sym t.are.4)
    (Contains-append_left t.are.0 t.are.1 (negsuc n)
    ((groups_are image r m owner t.are.0 t.holds t.there t.some t.are.2 (negsuc n)).1
    (omega (arith, ints), some_of owner (r.entry (negsuc n)) is)))

pub id_is : (r : Registry) (id : ℤ) (e : PrEntry) → IsRegistry r → r.entry id ≡ Some e → IsId id
id_is r id e valid at = subst IsId (valid.ids id e at) (valid.records id e at).fields.id

in_its : (image : List ℕ) (r : Registry) (m : Members) (owner : ℤ) (its : List ℤ) (x : ℤ) → HasItsOwn image r m owner its
    → is_property owner (r.entry x) ≡ true → list_any (int_eq x) its ≡ true
in_its image r m owner its x t is =
    let e = some_met (r.entry x) (λ e. e.owner ≡ owner) (some_of owner (r.entry x) is) in
    list_any-from_Contains int_eq_equiv x its
    (in_by image r m owner its x t (id_is r x e.0 t.holds.pairs.holds.valid e.1) is)

pub its_by : (image : List ℕ) (r : Registry) (m : Members) (owner : ℤ) (its : List ℤ) (x : ℤ) (b : Bool) → HasItsOwn image r m owner its
    → is_property owner (r.entry x) ≡ b → list_any (int_eq x) its ≡ b
its_by image r m owner its x true t is = in_its image r m owner its x t is
its_by image r m owner its x false t is =
    false_from_ne_true (list_any (int_eq x) its)
    (λ has. clash (is_property owner (r.entry x)) (its_of image r m owner its x t (Contains-from_any (λ a b. id_of a b) x its has)) is)

-- what holds of each of them holds of all
pub each_then : (P : ℤ → Type 0) (xs : List ℤ) → ((x : ℤ) → Contains xs x → P x) → AllByRecursion P xs
each_then P [] each = tt
each_then P (x ∷ xs) each = (
  each x (Contains-append_left (x ∷ []) xs x (0, omega arith, refl)),
  each_then P xs (λ y has. each y (Contains-append_right (x ∷ []) xs y has)),
)

pub its_all : (P : ℤ → Type 0) (image : List ℕ) (r : Registry) (m : Members) (owner : ℤ) (its : List ℤ) → HasItsOwn image r m owner its
    → ((x : ℤ) (e : PrEntry) → r.entry x ≡ Some e → P x) → AllByRecursion P its
its_all P image r m owner its t each =
    each_then P its
    (λ x has.
    let e = some_met (r.entry x) (λ e. e.owner ≡ owner) (some_of owner (r.entry x) (its_of image r m owner its x t has)) in
    each x e.0 e.1)

-- ---- one list

pub one_order : (image : List ℕ) (owner : ℤ) (a b : List ℤ) → AreInOrder image owner a → AreInOrder image owner b → a ≡ b
one_order image owner a b one two =
    let same : one.0 ≡ two.0 =
    chain_unique owned_links image (owned_place (place_in image owner)) one.0 two.0 (omega arith) one.1 two.1 in
    one.2 ∙ ap (ids_along image) same ∙ sym two.2

one_users : (r : Registry) (owner : ℤ) (a b : List ℤ) → IsListOf (IsOwnedUser r owner) a → IsListOf (IsOwnedUser r owner) b → a ≡ b
one_users r owner a b one two =
    same_ids a b one.ascending two.ascending (λ z has. two.all z (one.each z has)) (λ z has. one.all z (two.each z has))

pub one_own : (image : List ℕ) (r : Registry) (owner : ℤ) (a b : List ℤ) → AreItsOwn image r owner a → AreItsOwn image r owner b → a ≡ b
one_own image r owner a b one two =
    one.4 ∙ ap (λ (l : List ℤ). l ++ one.1) (one_order image owner one.0 two.0 one.2 two.2)
    ∙ ap (λ (l : List ℤ). two.0 ++ l) (one_users r owner one.1 two.1 one.3 two.3) ∙ sym two.4
