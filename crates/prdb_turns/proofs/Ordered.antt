-- The groups of an entry that gets another id stand in their order along its owned chain.
use Rattle.std.proofs.Common.{◌≡◌, ◌≢◌, ℕ, ℤ, pos, negsuc, zero, suc, ◌+◌, ◌-◌, ◌<◌, Bool, true, false, cond, List, [], ◌∷◌, ◌++◌, filter, length, map, reverse, Option, Some, None, IsSome, refl, sym, ap, subst, ◌∙◌, inl, inr, ⊎_elim, arith}
use Rattle.std.specs.Prelude.{◌<ℤ◌, IsSomeAnd, int_lt, option_map, option_and_then}
use Rattle.std.specs.List.{AllByRecursion, Contains}
use Rattle.std.proofs.lemmas.Int.{ints}
use Rattle.std.proofs.lemmas.List.{reverse-append}
use Rattle.db_chains.specs.Chains.{HasChain}
use Rattle.db_chains.specs.Links.{next_place}
use Rattle.db_chains.proofs.Counted.{others_behind}
use Rattle.prdb_layout.specs.Records.{block_in, entry_in}
use Rattle.prdb_layout.specs.Registry.{Registry, with_entry}
use Rattle.prdb_layout.specs.State.{PrEntry}
use Rattle.prdb_layout.proofs.Changed.{by_id}
use Rattle.prdb_layout.proofs.Lookups.{id_parts}
use Rattle.entry_scans.specs.Lists.{IsAscending, IsListOf}
use Rattle.prdb_lists.specs.Changes.{place_in}
use Rattle.prdb_lists.specs.Members.{IsOwned, Members, are_paired}
use Rattle.prdb_lists.specs.Moves.{moved_members, with_moved_id}
use Rattle.prdb_lists.proofs.Ascending.{lt_from, lt_to}
use Rattle.prdb_lists.proofs.Relist.{StandsAt}
use Rattle.prdb_finds.specs.Places.{owned_links, owned_place}
use Rattle.prdb_finds.specs.Records.{AreChains, Holds, IsEntryAt, IsGroupOf, whole}
use Rattle.prdb_finds.proofs.Told.{whole_same}
use Rattle.prdb_entries.specs.Changes.{after_replace}
use Rattle.prdb_entries.proofs.Longer.{longer_replace}
use Rattle.prdb_members.specs.Moves.{after_move}
use Rattle.prdb_members.specs.Owned.{AreInOrder, ids_along}
use Rattle.prdb_members.proofs.Gains.{place_is}
use Rattle.prdb_members.proofs.Grown.{grows_move}
use Rattle.prdb_members.proofs.Listed.{lists_here}
use Rattle.pt_service.specs.Turning.{moved}
use Rattle.pt_service.proofs.Refitted.{some_with}
use Rattle.prdb_turns.specs.Owners.{AreItsOwn, after_gives, is_property, with_owner, with_owners}
use Rattle.prdb_turns.specs.Refits.{MayRefit, after_refit, with_refit}
use Rattle.prdb_turns.specs.Renumbering.{MayRenumber, after_renumber}
use Rattle.prdb_turns.proofs.Disowned.{gives_append}
use Rattle.prdb_turns.proofs.Given.{may_one}
use Rattle.prdb_turns.proofs.Left.{disowned, left, not_zero}
use Rattle.prdb_turns.proofs.Longer.{longer_refits}
use Rattle.prdb_turns.proofs.Owned.{HasItsOwn, each_then, groups_are, its_of, one_order, owner_block}
use Rattle.prdb_turns.proofs.Refits.{refit_holds, some_met}
use Rattle.prdb_turns.proofs.Renumbered.{IsMoving, before_new, between, is_other, its_not_new, may_move, moved_other, moved_own, origin, there, there_at, there_none, there_some, went}
use Rattle.prdb_turns.proofs.Steps.{whole_holds}
use Rattle.prdb_turns.proofs.Stepped.{group_got, user_got}

-- ---- lists in which nothing stands twice

abbrev Differ : List ℤ → Type 0
Differ [] = Unit {0}
Differ (x ∷ xs) = AllByRecursion (λ y. y ≢ x) xs × Differ xs

both_all : (P : ℤ → Type 0) (xs ys : List ℤ) → AllByRecursion P xs → AllByRecursion P ys → AllByRecursion P (xs ++ ys)
both_all P [] ys one two = two
both_all P (x ∷ xs) ys one two = (one.0, both_all P xs ys one.1 two)

both_differ : (xs ys : List ℤ) → Differ xs → Differ ys → AllByRecursion (λ x. AllByRecursion (λ y. y ≢ x) ys) xs → Differ (xs ++ ys)
both_differ [] ys one two apart = two
both_differ (x ∷ xs) ys one two apart = (
  both_all (λ y. y ≢ x) xs ys one.0 apart.0,
  both_differ xs ys one.1 two apart.1,
)

rest_up : (x : ℤ) (xs : List ℤ) → IsAscending (x ∷ xs) → IsAscending xs
rest_up x xs up = λ i j d less below. up (suc i) (suc j) d (omega (arith, less)) (omega (arith, below))

more_differs : (x y : ℤ) → x <ℤ y → y ≢ x
more_differs x y less same = omega (arith, ints, less, same)

up_differ : (xs : List ℤ) → IsAscending xs → Differ xs
up_differ [] up = tt
up_differ (x ∷ xs) up = (
  each_then (λ y. y ≢ x) xs
      (λ y has. more_differs x y (subst (λ (z : ℤ). x <ℤ z) has.2 (up 0 (suc has.0) y (omega arith) (omega (arith, has.1))))),
  up_differ xs (rest_up x xs up),
)

-- ---- the ids along a chain

-- each word of a chain names an entry
abbrev IsWord : List ℕ → ℕ → Type 0
IsWord image w = (owner : ℤ) × IsEntryAt image (IsGroupOf owner) w

stands_there : (image : List ℕ) (w : ℕ) → IsWord image w → StandsAt image (entry_in (block_in image (w - 1))).id (w - 1)
stands_there image w is = record { below = omega (arith, is.1.some, is.1.within); kind = is.1.kind; id = refl }

ids_apart : (image : List ℕ) (r : Registry) (m : Members) (w : ℕ) (ws : List ℕ) → Holds image r m → 0 < length image → IsWord image w
    → AllByRecursion (IsWord image) ws → AllByRecursion (λ v. v ≢ w) ws
    → AllByRecursion (λ y. y ≢ (entry_in (block_in image (w - 1))).id) (ids_along image ws)
ids_apart image r m w [] h some is all other = tt
ids_apart image r m w (v ∷ ws) h some is all other = (
  λ same.
      let lists = lists_here image r m h some in
      let z = (entry_in (block_in image (w - 1))).id in
      let one : place_in image z ≡ w - 1 = place_is image r h.pairs.lists z (w - 1) lists (stands_there image w is) in
      let at : StandsAt image z (v - 1) =
      subst (λ (y : ℤ). StandsAt image y (v - 1)) same (stands_there image v all.0) in
      let two : place_in image z ≡ v - 1 = place_is image r h.pairs.lists z (v - 1) lists at in
      other.0 (omega (arith, one, two, is.1.some, all.0.1.some)),
  ids_apart image r m w ws h some is all.1 other.1,
)

along_differ : (image : List ℕ) (r : Registry) (m : Members) (at : ℕ) (ws : List ℕ) → Holds image r m → 0 < length image
    → HasChain owned_links image at ws → AllByRecursion (IsWord image) ws → Differ (ids_along image ws)
along_differ image r m at [] h some chain all = tt
along_differ image r m at (w ∷ ws) h some chain all = (
  ids_apart image r m w ws h some all.0 all.1 (others_behind owned_links image at w ws (omega arith) chain),
  along_differ image r m (next_place owned_links w) ws h some chain.2 all.1,
)

words_all : (P : ℕ → Type 0) (ws : List ℕ) → ((w : ℕ) → Contains ws w → P w) → AllByRecursion P ws
words_all P [] each = tt
words_all P (w ∷ ws) each = (
  each w (0, omega arith, refl),
  words_all P ws (λ v has. each v (suc has.0, omega (arith, has.1), has.2)),
)

-- an entry has an owned chain, along which these stand
record HasOrder (image : List ℕ) (owner : ℤ) : Type 0 where
  ids : List ℤ
  order : AreInOrder image owner ids
  differ : Differ ids

order_of : (image : List ℕ) (r : Registry) (m : Members) (owner : ℤ) → Holds image r m → 0 < length image → IsSome (r.entry owner)
    → HasOrder image owner
order_of image r m owner h some there =
    let k = place_in image owner in
    let b = owner_block image r m owner h there some in
    let chains = subst (λ (i : List ℕ). AreChains i) (whole_same image some) h.chains in
    let v = chains.owned k b.below (id_parts owner (block_in image k) b.has).0 in
    record {
      ids = ids_along image v.words;
      order = (v.words, v.chain, refl);
      differ = along_differ image r m (owned_place k) v.words h some v.chain
          (words_all (IsWord image) v.words (λ w has. ((entry_in (block_in image k)).id, v.only w has)));
    }

none_in : (xs : List ℤ) → ((x : ℤ) → Contains xs x → ⊥) → xs ≡ []
none_in [] never = refl
none_in (x ∷ xs) never = absurd (never x (0, omega arith, refl))

-- ---- they get an owner, last to first

abbrev groups_of : List ℤ → List ℤ
groups_of xs = filter (λ x. int_lt x (pos 0)) xs

-- they have no owner
abbrev HaveNone : Registry → List ℤ → Type 0
HaveNone r xs = AllByRecursion (λ x. IsSomeAnd (r.entry x) (λ f. f.owner ≡ pos 0)) xs

-- an image and a registry once these have the owner
record IsFront (i : List ℕ) (q r : Registry) (m : Members) (owner : ℤ) (xs : List ℤ) : Type 0 where
  holds : Holds i q m
  some : 0 < length i
  there : IsSome (q.entry owner)
  same : (z : ℤ) → AllByRecursion (λ x. z ≢ x) xs → q.entry z ≡ r.entry z
  order : AreInOrder i owner (groups_of xs)

above_zero : (z : ℤ) → z ≢ pos 0 → int_lt z (pos 0) ≡ false → pos 0 <ℤ z
above_zero (pos zero) other is = absurd (other refl)
above_zero (pos (suc n)) other is = omega (arith, ints)
above_zero (negsuc n) other is = absurd (grind (arith, ints))

order_by : (i : List ℕ) (q r : Registry) (m : Members) (owner : ℤ) (xs : List ℤ) (f : PrEntry) (b : Bool) → IsFront i q r m owner xs
    → q.entry f.id ≡ Some f → f.owner ≡ pos 0 → f.id ≢ pos 0 → int_lt f.id (pos 0) ≡ b
    → AreInOrder (after_replace f.id (with_owner owner f) i) owner (cond b (f.id ∷ groups_of xs) (groups_of xs))
order_by i q r m owner xs f true t at none other is =
    group_got i q m f owner (groups_of xs) (record { holds = t.holds; some = t.some; at = at; there = t.there; none = none })
    (lt_from f.id (pos 0) is) t.order
order_by i q r m owner xs f false t at none other is =
    user_got i q m f owner (groups_of xs) (record { holds = t.holds; some = t.some; at = at; there = t.there; none = none })
    (above_zero f.id other is) t.order

with_other : (e : PrEntry) (r : Registry) (z : ℤ) → z ≢ e.id → (with_entry e r).entry z ≡ r.entry z
with_other e r z other = ap (λ (b : Bool). cond b (Some e) (r.entry z)) (is_other z e.id other)

front_next : (i : List ℕ) (q r : Registry) (m : Members) (owner : ℤ) (xs : List ℤ) (f : PrEntry) → IsFront i q r m owner xs
    → q.entry f.id ≡ Some f → f.owner ≡ pos 0
    → IsFront (after_replace f.id (with_owner owner f) i) (with_entry (with_owner owner f) q) r m owner (f.id ∷ xs)
front_next i q r m owner xs f t at none =
    let e = with_owner owner f in
    let may = may_one q f.id owner f t.holds.pairs.holds.valid at (inr t.there) in
    let apart = not_zero f.id (t.holds.pairs.holds.valid.records f.id f at).fields.id in
    record {
      holds = subst (λ (o : Option PrEntry). Holds (after_refit (with_owner owner) o i) (with_refit (with_owner owner) o q) m) at
          (refit_holds (with_owner owner) f.id i q m t.holds
          (subst (λ (o : Option PrEntry). IsSomeAnd o (MayRefit (with_owner owner) q)) (sym at) may));
      some = omega (arith, t.some, longer_replace f.id e i);
      there = some_with q e owner t.there;
      same = λ z all. with_other e q z all.0 ∙ t.same z all.1;
      order = order_by i q r m owner xs f (int_lt f.id (pos 0)) t at none apart refl;
    }

owners_append : (owner : ℤ) (xs ys : List ℤ) (r : Registry)
    → with_owners owner (xs ++ ys) r ≡ with_owners owner ys (with_owners owner xs r)
owners_append owner [] ys r = refl
owners_append owner (x ∷ xs) ys r = owners_append owner xs ys (with_refit (with_owner owner) (r.entry x) r)

swap_all : (x : ℤ) (xs : List ℤ) → AllByRecursion (λ y. y ≢ x) xs → AllByRecursion (λ y. x ≢ y) xs
swap_all x [] all = tt
swap_all x (y ∷ xs) all = (λ same. all.0 (sym same), swap_all x xs all.1)

front_all : (image : List ℕ) (r : Registry) (m : Members) (owner : ℤ) (xs : List ℤ) → IsFront image r r m owner [] → HaveNone r xs
    → Differ xs → IsFront (after_gives owner (reverse xs) r image) (with_owners owner (reverse xs) r) r m owner xs
front_all image r m owner [] t none differ = t
front_all image r m owner (x ∷ xs) t none differ =
    let i = after_gives owner (reverse xs) r image in
    let q = with_owners owner (reverse xs) r in
    let before = front_all image r m owner xs t none.1 differ.1 in
    let f = some_met (r.entry x) (λ f. f.owner ≡ pos 0) none.0 in
    let at : q.entry x ≡ Some f.0 = before.same x (swap_all x xs differ.0) ∙ f.1 in
    let own : f.0.id ≡ x = before.holds.pairs.holds.valid.ids x f.0 at in
    let back : reverse (x ∷ xs) ≡ reverse xs ++ x ∷ [] = reverse-append (x ∷ []) xs in
    let image_is : after_gives owner (reverse (x ∷ xs)) r image ≡ after_replace f.0.id (with_owner owner f.0) i =
    ap (λ (l : List ℤ). after_gives owner l r image) back ∙ gives_append owner (reverse xs) (x ∷ []) r image
    ∙ ap (λ (o : Option PrEntry). after_refit (with_owner owner) o i) at in
    let registry_is : with_owners owner (reverse (x ∷ xs)) r ≡ with_entry (with_owner owner f.0) q =
    ap (λ (l : List ℤ). with_owners owner l r) back ∙ owners_append owner (reverse xs) (x ∷ []) r
    ∙ ap (λ (o : Option PrEntry). with_refit (with_owner owner) o q) at in
    let next = front_next i q r m owner xs f.0 before (ap q.entry own ∙ at) f.2 in
    subst (λ (j : List ℕ). IsFront j (with_owners owner (reverse (x ∷ xs)) r) r m owner (x ∷ xs)) (sym image_is)
    (subst (λ (p : Registry). IsFront (after_replace f.0.id (with_owner owner f.0) i) p r m owner (x ∷ xs)) (sym registry_is)
    (subst (λ (z : ℤ). IsFront (after_replace f.0.id (with_owner owner f.0) i) (with_entry (with_owner owner f.0) q) r m owner (z ∷ xs)) own
    next))

-- ---- once the entry has its new id

owner_of : (old new : ℤ) (o : Option PrEntry) → IsSomeAnd (option_map (with_moved_id old new) o) (λ f. f.owner ≡ new)
    → IsSomeAnd o (λ g. g.owner ≡ new)
owner_of old new None is = absurd is
owner_of old new (Some g) is = is

none_met : (o : Option PrEntry) (P : PrEntry → Type 0) → o ≡ None → IsSomeAnd o P → ⊥
none_met None P none is = absurd is
none_met (Some e) P none is = absurd cc

none_some : (o : Option PrEntry) → o ≡ None → IsSome o → ⊥
none_some None none some = absurd cc
none_some (Some e) none some = absurd cc

-- the new id owns nothing yet
owns_none : (image : List ℕ) (r : Registry) (m : Members) (old new : ℤ) (its others : List ℤ) (id : ℤ) → IsMoving image r m old new its
    → IsListOf (λ other. are_paired m old other ≡ true) others → IsOwned (there r old new its) new id → ⊥
owns_none image r m old new its others id t list is =
    let b = between image r m old new its others t list in
    let may = may_move image r m old new its t in
    elim (origin old new id) [
      | inl none ↦ none_met ((there r old new its).entry id) (λ f. f.owner ≡ new) (there_none r old new its id none) is.1
      | inr some ↦
          let y = some.0 in
          let here : (there r old new its).entry id ≡ option_map (with_moved_id old new) ((left r its).entry y) =
          ap (λ (o : Option ℤ). option_map (with_moved_id old new) (option_and_then (left r its).entry o)) some.1.before_is in
          let g = some_met ((left r its).entry y) (λ g. g.owner ≡ new)
          (owner_of old new ((left r its).entry y)
          (subst (λ (o : Option PrEntry). IsSomeAnd o (λ f. f.owner ≡ new)) here is.1)) in
          ⊎_elim
          (λ (none : g.0.owner ≡ pos 0). not_zero new t.may.good (sym g.2 ∙ none))
          (λ (some : IsSome ((left r its).entry g.0.owner)).
          none_some ((left r its).entry g.0.owner) (ap (left r its).entry g.2 ∙ may.new_id) some)
          (b.left_holds.pairs.holds.valid.among y g.0 g.1).owner
    ]

moved_none : (old new : ℤ) (o : Option PrEntry) → is_property old o ≡ true
    → IsSomeAnd (option_map (with_moved_id old new) (option_map (disowned old) o)) (λ f. f.owner ≡ pos 0)
moved_none old new None is = absurd cc
moved_none old new (Some g) is = ap (λ (b : Bool). (cond b (with_owner (pos 0) g) g).owner) is

none_yet : (image : List ℕ) (r : Registry) (m : Members) (old new : ℤ) (its xs : List ℤ) → IsMoving image r m old new its
    → AllByRecursion (λ x. x ≢ new) xs → AllByRecursion (λ x. is_property old (r.entry x) ≡ true) xs
    → HaveNone (there r old new its) (map (moved old new) xs)
none_yet image r m old new its [] t apart own = tt
none_yet image r m old new its (x ∷ xs) t apart own = (
  subst (λ (o : Option PrEntry). IsSomeAnd o (λ f. f.owner ≡ pos 0))
      (sym (there_at image r m old new its (moved old new x) x t (went old new x apart.0))) (moved_none old new (r.entry x) own.0),
  none_yet image r m old new its xs t apart.1 own.1,
)

moved_differs : (old new x y : ℤ) → x ≢ new → y ≢ new → y ≢ x → moved old new y ≢ moved old new x
moved_differs old new x y x_new y_new other same =
    by_id x old
    (λ is. y_new (sym (moved_other old new y (λ also. other (also ∙ sym is))) ∙ same ∙ moved_own old new x is))
    (λ apart.
    by_id y old
    (λ is. x_new (sym (moved_other old new x apart) ∙ sym same ∙ moved_own old new y is))
    (λ too. other (sym (moved_other old new y too) ∙ same ∙ moved_other old new x apart)))

map_apart : (old new x : ℤ) (xs : List ℤ) → x ≢ new → AllByRecursion (λ y. y ≢ new) xs → AllByRecursion (λ y. y ≢ x) xs
    → AllByRecursion (λ y. y ≢ moved old new x) (map (moved old new) xs)
map_apart old new x [] apart all other = tt
map_apart old new x (y ∷ xs) apart all other = (
  moved_differs old new x y apart all.0 other.0,
  map_apart old new x xs apart all.1 other.1,
)

map_differ : (old new : ℤ) (xs : List ℤ) → AllByRecursion (λ y. y ≢ new) xs → Differ xs → Differ (map (moved old new) xs)
map_differ old new [] all differ = tt
map_differ old new (x ∷ xs) all differ = (
  map_apart old new x xs all.0 all.1 differ.0,
  map_differ old new xs all.1 differ.1,
)

sign_stays : (old new x : ℤ) → int_lt new (pos 0) ≡ int_lt old (pos 0) → int_lt (moved old new x) (pos 0) ≡ int_lt x (pos 0)
sign_stays old new x kind =
    by_id x old
    (λ is. ap (λ (z : ℤ). int_lt z (pos 0)) (moved_own old new x is) ∙ kind ∙ ap (λ (z : ℤ). int_lt z (pos 0)) (sym is))
    (λ apart. ap (λ (z : ℤ). int_lt z (pos 0)) (moved_other old new x apart))

not_below : (x : ℤ) → pos 0 <ℤ x → int_lt x (pos 0) ≡ false
not_below x up = grind (arith, ints)

users_out : (old new : ℤ) (xs : List ℤ) → int_lt new (pos 0) ≡ int_lt old (pos 0) → AllByRecursion (λ x. pos 0 <ℤ x) xs
    → groups_of (map (moved old new) xs) ≡ []
users_out old new [] kind all = refl
users_out old new (x ∷ xs) kind all =
    ap (λ (b : Bool). cond b (moved old new x ∷ groups_of (map (moved old new) xs)) (groups_of (map (moved old new) xs)))
    (sign_stays old new x kind ∙ not_below x all.0)
    ∙ users_out old new xs kind all.1

groups_in : (old new : ℤ) (xs ys : List ℤ) → int_lt new (pos 0) ≡ int_lt old (pos 0) → AllByRecursion (λ x. x <ℤ pos 0) xs
    → AllByRecursion (λ x. pos 0 <ℤ x) ys → groups_of (map (moved old new) (xs ++ ys)) ≡ map (moved old new) xs
groups_in old new [] ys kind low high = users_out old new ys kind high
groups_in old new (x ∷ xs) ys kind low high =
    ap (λ (b : Bool). cond b (moved old new x ∷ groups_of (map (moved old new) (xs ++ ys))) (groups_of (map (moved old new) (xs ++ ys))))
    (sign_stays old new x kind ∙ lt_to x (pos 0) low.0)
    ∙ ap (λ (l : List ℤ). moved old new x ∷ l) (groups_in old new xs ys kind low.1 high)

-- ---- all of it

low_differs : (x y : ℤ) → x <ℤ pos 0 → pos 0 <ℤ y → y ≢ x
low_differs x y low high same = omega (arith, ints, low, high, same)

highs_differ : (x : ℤ) (ys : List ℤ) → x <ℤ pos 0 → AllByRecursion (λ y. pos 0 <ℤ y) ys → AllByRecursion (λ y. y ≢ x) ys
highs_differ x [] low high = tt
highs_differ x (y ∷ ys) low high = (low_differs x y low high.0, highs_differ x ys low high.1)

signs_differ : (xs ys : List ℤ) → AllByRecursion (λ x. x <ℤ pos 0) xs → AllByRecursion (λ y. pos 0 <ℤ y) ys
    → AllByRecursion (λ x. AllByRecursion (λ y. y ≢ x) ys) xs
signs_differ [] ys low high = tt
signs_differ (x ∷ xs) ys low high = (highs_differ x ys low.0 high, signs_differ xs ys low.1 high)

-- what an entry owns, each with its sign
record HasSigns (image : List ℕ) (r : Registry) (m : Members) (old : ℤ) (its : List ℤ) : Type 0 where
  groups : List ℤ
  users : List ℤ
  order : AreInOrder image old groups
  low : AllByRecursion (λ x. x <ℤ pos 0) groups
  high : AllByRecursion (λ x. pos 0 <ℤ x) users
  are : its ≡ groups ++ users
  differ : Differ its

signs_of : (image : List ℕ) (r : Registry) (m : Members) (old : ℤ) (its : List ℤ) → HasItsOwn image r m old its
    → HasSigns image r m old its
signs_of image r m old its t =
    let gs = t.are.0 in
    let us = t.are.1 in
    let found = order_of image r m old t.holds t.some t.there in
    let same : found.ids ≡ gs = one_order image old found.ids gs found.order t.are.2 in
    let low = each_then (λ x. x <ℤ pos 0) gs (λ x has. ((groups_are image r m old gs t.holds t.there t.some t.are.2 x).0 has).0) in
    let high = each_then (λ x. pos 0 <ℤ x) us (λ x has. (t.are.3.each x has).0) in
    record {
      groups = gs;
      users = us;
      order = t.are.2;
      low = low;
      high = high;
      are = t.are.4;
      differ = subst Differ (sym t.are.4)
          (both_differ gs us (subst Differ same found.differ) (up_differ us t.are.3.ascending) (signs_differ gs us low high));
    }

-- an image that has the new id, under which nothing stands yet
front_first : (image : List ℕ) (r : Registry) (m : Members) (old new : ℤ) (its others : List ℤ) → IsMoving image r m old new its
    → IsListOf (λ other. are_paired m old other ≡ true) others
    → IsFront (after_move old new others (after_gives (pos 0) its r image)) (there r old new its) (there r old new its)
    (moved_members old new m) new []
front_first image r m old new its others t list =
    let given = after_gives (pos 0) its r image in
    let here = after_move old new others given in
    let q = there r old new its in
    let n = moved_members old new m in
    let b = between image r m old new its others t list in
    let some : 0 < length here =
    omega (arith, t.own.some, longer_refits (with_owner (pos 0)) its r image, grows_move old new others given) in
    let is_there : IsSome (q.entry new) = there_some image r m old new its new old t (before_new old new new refl) t.may.there in
    let found = order_of here q n new b.gone_holds some is_there in
    let none : found.ids ≡ [] =
    none_in found.ids
    (λ x has. owns_none image r m old new its others x t list
    ((groups_are here q n new found.ids b.gone_holds is_there some found.order x).0 has)) in
    record {
      holds = b.gone_holds;
      some = some;
      there = is_there;
      same = λ z all. refl;
      order = subst (AreInOrder here new) none found.order;
    }

pub order_kept : (image : List ℕ) (r : Registry) (m : Members) (old new : ℤ) (its others groups : List ℤ) → Holds image r m
    → MayRenumber old new r → AreItsOwn (whole image) r old its → IsListOf (λ other. are_paired m old other ≡ true) others
    → AreInOrder (whole image) old groups
    → AreInOrder (after_renumber old new its others r image) new (map (moved old new) groups)
unfolding after_renumber
order_kept image r m old new its others groups h may own list order =
    let w = whole image in
    let some : 0 < length w = omega (arith, h.size) in
    let t : IsMoving w r m old new its = record {
      own = record { holds = whole_holds image r m h; there = may.there; some = some; are = own };
      may = may;
    } in
    let s = signs_of w r m old its t.own in
    let xs = map (moved old new) its in
    let here = after_move old new others (after_gives (pos 0) its r w) in
    let apart = its_not_new w r m old new its t in
    let done = front_all here (there r old new its) (moved_members old new m) new xs (front_first w r m old new its others t list)
    (none_yet w r m old new its its t apart
    (each_then (λ x. is_property old (r.entry x) ≡ true) its (λ x has. its_of w r m old its x t.own has)))
    (map_differ old new its apart s.differ) in
    let are : groups_of xs ≡ map (moved old new) groups =
    ap (λ (l : List ℤ). groups_of (map (moved old new) l)) s.are
    ∙ groups_in old new s.groups s.users may.kind s.low s.high
    ∙ ap (map (moved old new)) (one_order w old s.groups groups s.order order) in
    subst (AreInOrder (after_gives new (reverse xs) (there r old new its) here) new) are done.order
