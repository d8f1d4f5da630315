-- What an entry owns, as an image tells it.
use Rattle.std.proofs.Common.{◌≡◌, ℕ, ℤ, zero, suc, pos, ◌<◌, ◌≤◌, Bool, true, false, not, ◌||◌, ◌&&◌, cond, List, [], ◌∷◌, length, Option, Some, None, IsSome, refl, sym, ap, subst, ◌∙◌, arith}
use Rattle.std.specs.Prelude.{IsSomeAnd, filter, int_lt}
use Rattle.std.specs.List.{find, list_any}
use Rattle.std.specs.Ordering.{int_eq}
use Rattle.std.proofs.lemmas.Bool.{and_from, and_left, and_parts}
use Rattle.db_blocks.specs.Blocks.{word_at}
use Rattle.db_chains.specs.declared.links.Links.{Links}
use Rattle.db_chains.specs.Along.{to_end}
use Rattle.db_chains.specs.Chains.{HasChain}
use Rattle.db_chains.specs.Links.{is_right, next_place}
use Rattle.db_chains.specs.Walks.{meets, most_words, passed}
use Rattle.db_chains.proofs.Counted.{chain_short}
use Rattle.db_chains.proofs.Stops.{zero_wrong}
use Rattle.db_chains.proofs.Walked.{passes, stops}
use Rattle.prdb_layout.specs.Records.{block_in}
use Rattle.prdb_layout.specs.Registry.{IsRegistry, Registry, first_registry}
use Rattle.prdb_layout.specs.State.{PrEntry, fixed_entries}
use Rattle.prdb_layout.proofs.Lookups.{id_parts}
use Rattle.entry_scans.specs.Lists.{IsListOf}
use Rattle.entry_scans.specs.Pages.{least_id}
use Rattle.prdb_lists.specs.Changes.{place_in}
use Rattle.prdb_lists.specs.Members.{Members, no_members}
use Rattle.prdb_lists.proofs.Ascending.{lt_from, lt_to}
use Rattle.prdb_finds.specs.Places.{owned_links, owned_place}
use Rattle.prdb_finds.specs.Records.{AreChains, Holds}
use Rattle.prdb_finds.proofs.FirstHolds.{empty_holds}
use Rattle.prdb_finds.proofs.Told.{whole_same}
use Rattle.prdb_scans.proofs.Told.{holds_one}
use Rattle.prdb_members.specs.Owned.{AreInOrder, ids_along}
use Rattle.pt_service.specs.State.{ids}
use Rattle.pt_service.specs.Turning.{is_fixed}
use Rattle.prdb_turns.specs.Owners.{AreItsOwn, IsOwnedUser, is_property}
use Rattle.prdb_turns.proofs.Owned.{HasItsOwn, clash, of_some, owner_block, some_of}
use Rattle.pt_looks.proofs.Pairs.{entry_range, some_is}
use Rattle.pt_changes.specs.Turning.{groups_in, its_in, users_of}
use Rattle.pt_changes.proofs.Listed.{filter_has, filter_meets, ids_have, ids_rise}
use Rattle.pt_changes.proofs.Parted.{rises_up}

-- ---- the groups, along the owned chain

walked : (l : Links) (image : List ℕ) (most at : ℕ) (ws : List ℕ) → 0 < l.step → HasChain l image at ws → length ws ≤ most
    → passed l to_end image most at ≡ ws
walked l image most at [] step chain few =
    stops l to_end image most at (word_at image at) refl
    (and_left (is_right l image (word_at image at)) (not (meets l to_end image (word_at image at)))
    (zero_wrong l image (word_at image at) step chain))
walked l image zero at (w ∷ ws) step chain few = absurd (omega arith)
walked l image (suc most) at (w ∷ ws) step chain few =
    passes l to_end image most at w (sym chain.0) chain.1 refl
    ∙ ap (λ (vs : List ℕ). w ∷ vs) (walked l image most (next_place l w) ws step chain.2 (omega arith))

groups_told : (image : List ℕ) (r : Registry) (m : Members) (owner : ℤ) → Holds image r m → IsSome (r.entry owner) → 0 < length image
    → AreInOrder image owner (groups_in image owner)
unfolding groups_in
groups_told image r m owner h there some =
    let k = place_in image owner in
    let at = owned_place k in
    let b = owner_block image r m owner h there some in
    let chains = subst (λ (i : List ℕ). AreChains i) (whole_same image some) h.chains in
    let v = chains.owned k b.below (id_parts owner (block_in image k) b.has).0 in (
      v.words,
      v.chain,
      ap (ids_along image) (walked owned_links image (most_words owned_links image) at v.words (omega arith) v.chain
          (chain_short owned_links image at v.words (omega arith) v.chain)),
    )

-- ---- the users, ascending

abbrev is_user_of : Registry → (owner : ℤ) → ℤ → Bool
is_user_of r owner id = int_lt (pos 0) id && is_property owner (r.entry id)

some_there : (owner : ℤ) (o : Option PrEntry) → IsSomeAnd o (λ e. e.owner ≡ owner) → IsSome o
some_there owner None is = absurd is
some_there owner (Some e) is = refl

user_from : (r : Registry) (owner id : ℤ) → is_user_of r owner id ≡ true → IsOwnedUser r owner id
user_from r owner id is =
    let p = and_parts (int_lt (pos 0) id) (is_property owner (r.entry id)) is in
    (lt_from (pos 0) id p.0, some_of owner (r.entry id) p.1)

user_to : (r : Registry) (owner id : ℤ) → IsOwnedUser r owner id → is_user_of r owner id ≡ true
user_to r owner id is =
    and_from (int_lt (pos 0) id) (is_property owner (r.entry id)) (lt_to (pos 0) id is.0) (of_some owner (r.entry id) is.1)

users_told : (r : Registry) (owner : ℤ) → IsRegistry r → IsListOf (IsOwnedUser r owner) (users_of r owner)
unfolding users_of
users_told r owner valid = record {
  ascending = rises_up (filter (is_user_of r owner) ids) least_id (ids_rise (is_user_of r owner));
  each = λ id has. user_from r owner id (filter_meets (is_user_of r owner) ids id has);
  all = λ id is.
      filter_has (is_user_of r owner) ids id (user_to r owner id is)
      (ids_have id (entry_range r id valid (some_there owner (r.entry id) is.1)));
}

-- ---- all that it owns

pub its_told : (image : List ℕ) (r : Registry) (m : Members) (owner : ℤ) → Holds image r m → IsSome (r.entry owner) → 0 < length image
    → AreItsOwn image r owner (its_in image r owner)
its_told image r m owner h there some = (
  groups_in image owner,
  users_of r owner,
  groups_told image r m owner h there some,
  users_told r owner h.pairs.holds.valid,
  refl,
)

-- ---- the empty image holds fixed entries alone

or_first : (a b : Bool) → a ≡ true → (a || b) ≡ true
or_first true b is = refl
or_first false b is = absurd cc

or_second : (a b : Bool) → b ≡ true → (a || b) ≡ true
or_second true b is = refl
or_second false b is = is

found_by : (p : PrEntry → Bool) (x f : PrEntry) (xs : List PrEntry) (b : Bool) → p x ≡ b → cond b (Some x) (find p xs) ≡ Some f
    → (find p xs ≡ Some f → list_any p xs ≡ true) → list_any p (x ∷ xs) ≡ true
found_by p x f xs true met at rest = or_first (p x) (list_any p xs) met
found_by p x f xs false met at rest = or_second (p x) (list_any p xs) (rest at)

found_any : (p : PrEntry → Bool) (xs : List PrEntry) (f : PrEntry) → find p xs ≡ Some f → list_any p xs ≡ true
found_any p [] f at = absurd cc
found_any p (x ∷ xs) f at =
    found_by p x f xs (p x) refl at (λ rest. found_any p xs f rest)

first_fixed : (r : Registry) (id : ℤ) (e : PrEntry) → r ≡ first_registry → r.entry id ≡ Some e → is_fixed id ≡ true
first_fixed r id e first at =
    found_any (λ f. int_eq f.id id) fixed_entries e (ap (λ (q : Registry). q.entry id) (sym first) ∙ at)

pub not_empty : (image : List ℕ) (r : Registry) (m : Members) (id : ℤ) → Holds image r m → IsSome (r.entry id) → is_fixed id ≡ false
    → 0 < length image
not_empty [] r m id h there free =
    let e = some_is (r.entry id) there in
    absurd (clash (is_fixed id) (first_fixed r id e.0 (holds_one [] r first_registry m no_members h empty_holds).0 e.1) free)
not_empty (b ∷ image) r m id h there free = omega arith

-- an entry that is not fixed owns what the image tells
pub has_its : (image : List ℕ) (r : Registry) (m : Members) (id : ℤ) → Holds image r m → IsSome (r.entry id) → is_fixed id ≡ false
    → HasItsOwn image r m id (its_in image r id)
has_its image r m id h there free =
    let some = not_empty image r m id h there free in
    record { holds = h; there = there; some = some; are = its_told image r m id h there some }
