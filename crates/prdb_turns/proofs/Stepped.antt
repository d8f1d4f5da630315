-- The owned chain of an entry once it got a group or a user more.
use Rattle.std.proofs.Common.{◌≡◌, ◌≢◌, ℕ, ℤ, pos, suc, ◌+◌, ◌-◌, ◌<◌, Bool, true, false, ◌⊎◌, inr, ⊎_elim, List, [], ◌∷◌, length, Some, IsSome, refl, sym, ap, subst, ◌∙◌, arith}
use Rattle.std.specs.Prelude.{◌<ℤ◌, ◌&&◌, int_lt, not}
use Rattle.std.specs.List.{AllByRecursion, Contains}
use Rattle.std.specs.Ordering.{int_eq}
use Rattle.std.specs.Str.{bytes_eq}
use Rattle.std.proofs.lemmas.Bool.{and_from, cases_eq, false_from_ne_true}
use Rattle.std.proofs.lemmas.Int.{ints}
use Rattle.std.proofs.lemmas.Slice.Eq.{bytes_eq-Decides}
use Rattle.db_blocks.specs.Blocks.{IsWhole, kind_of}
use Rattle.db_blocks.specs.Bytes.{words, zeros}
use Rattle.db_chains.specs.Chains.{HasChain}
use Rattle.db_chains.specs.Changes.{put_in}
use Rattle.db_chains.specs.Visits.{Visits}
use Rattle.db_chains.proofs.Counted.{chain_unique}
use Rattle.db_chains.proofs.Changed.{chain_put_in}
use Rattle.db_chains.proofs.Entered.{not_among}
use Rattle.prdb_layout.specs.Blocks.{block_count}
use Rattle.prdb_layout.specs.Records.{block_in, entry_in, new_block, with_block, with_fields}
use Rattle.prdb_layout.specs.Registry.{Registry, with_entry}
use Rattle.prdb_layout.specs.State.{PrEntry}
use Rattle.prdb_layout.proofs.Changed.{some_same}
use Rattle.prdb_layout.proofs.Lookups.{id_parts}
use Rattle.prdb_layout.proofs.EntryFields.{length-with_fields}
use Rattle.prdb_lists.specs.Changes.{place_in}
use Rattle.prdb_lists.specs.Members.{Members}
use Rattle.prdb_lists.proofs.Ascending.{lt_to}
use Rattle.prdb_lists.proofs.RecordsKeep.{zeros_len}
use Rattle.prdb_lists.proofs.Relist.{StandsAt}
use Rattle.prdb_finds.specs.Keys.{id_key}
use Rattle.prdb_finds.specs.Places.{owned_links, owned_place}
use Rattle.prdb_finds.specs.Records.{HasIdKey, Holds, IsEntryAt, IsGroupOf, whole}
use Rattle.prdb_finds.specs.Unchained.{unchained}
use Rattle.prdb_finds.proofs.Told.{whole_same}
use Rattle.prdb_finds.proofs.Without.{unchained_count, unchained_entry, unchained_kind}
use Rattle.prdb_entries.specs.Changes.{after_replace, fitted, is_owned, moved, name_moved, number_of, owner_entered, owner_first, owner_left, owner_moved, owner_without, refilled, stays_empty}
use Rattle.prdb_entries.proofs.Empty.{holds_after, not_stays}
use Rattle.prdb_entries.proofs.Entries.{Belongs, IsUnowned, entry_on, own_entry}
use Rattle.prdb_entries.proofs.InsertClauses.{on_false, on_true}
use Rattle.prdb_entries.proofs.Inserted.{owned_true}
use Rattle.prdb_entries.proofs.Linked.{IsEntry, IsLinked, Owned, entry_here, head_place, linked_count, links_are, place_within, right_here}
use Rattle.prdb_entries.proofs.Moving.{Homeless, IsMoving, NoOwner, linked_home, linked_homeless, linked_name, new_owner}
use Rattle.prdb_entries.proofs.Leaving.{own_at}
use Rattle.prdb_entries.proofs.Numbers.{IsAmong, IsOf, number_is}
use Rattle.prdb_entries.proofs.Refilled.{is_refilled, own_apart, chain_refilled, twice_refilled}
use Rattle.prdb_entries.proofs.Refitted.{IsRefit, moving, refit_form, spelled}
use Rattle.prdb_entries.proofs.Removed.{linked_of}
use Rattle.prdb_entries.proofs.ReplaceClauses.{fit_of}
use Rattle.prdb_entries.proofs.Replaced.{refilled_form}
use Rattle.prdb_members.specs.Owned.{AreInOrder, ids_along}
use Rattle.prdb_members.proofs.Gains.{place_is}
use Rattle.prdb_members.proofs.Listed.{lists_here}
use Rattle.prdb_turns.specs.Owners.{with_owner}
use Rattle.prdb_turns.proofs.Given.{may_one, some_is}
use Rattle.prdb_turns.proofs.Left.{not_zero}
use Rattle.prdb_turns.proofs.Owned.{id_is, id_of, owner_block, to_id}

-- ---- an entry of no owner gets one

pub record IsGetting (image : List ℕ) (r : Registry) (m : Members) (f : PrEntry) (owner : ℤ) : Type 0 where
  pub holds : Holds image r m
  pub some : 0 < length image
  pub at : r.entry f.id ≡ Some f
  pub there : IsSome (r.entry owner)
  pub none : f.owner ≡ pos 0

abbrev HasFit : (image : List ℕ) (r : Registry) (m : Members) (f : PrEntry) (owner : ℤ) → ℕ → Type 0
HasFit image r m f owner k = IsRefit image r m f.id f (with_owner owner f) k

fit_at : (image : List ℕ) (r : Registry) (m : Members) (f : PrEntry) (owner : ℤ) → IsGetting image r m f owner
    → (k : ℕ) × HasFit image r m f owner k
fit_at image r m f owner g =
    let may = may_one r f.id owner f g.holds.pairs.holds.valid g.at (inr g.there) in
    let o = fit_of image f.id (with_owner owner f) may.0 (r, m, g.holds, may.1) in
    let same : o.0 ≡ f = some_same (sym o.2.held.at ∙ g.at) in
    (o.1, subst (λ (x : PrEntry). IsRefit image r m f.id x (with_owner owner f) o.1) same o.2)

-- ---- what is moved of the chains: the owner's alone

and_none : (b : Bool) → (b && false) ≡ false
and_none true = refl
and_none false = refl

unowned_by : (z owner : ℤ) → owner ≡ pos 0 → (int_lt z (pos 0) && not (int_eq owner (pos 0))) ≡ false
unowned_by z owner none =
    ap (λ (b : Bool). int_lt z (pos 0) && not b) (to_id owner (pos 0) none) ∙ and_none (int_lt z (pos 0))

owner_other : (image : List ℕ) (r : Registry) (m : Members) (f : PrEntry) (owner : ℤ) → IsGetting image r m f owner
    → int_eq f.owner owner ≡ false
owner_other image r m f owner g =
    let e = some_is (r.entry owner) g.there in
    false_from_ne_true (int_eq f.owner owner)
    (λ same. not_zero owner (id_is r owner e.0 g.holds.pairs.holds.valid e.1) (sym (id_of f.owner owner same) ∙ g.none))

name_stays : (f : PrEntry) (n : ℕ) (image : List ℕ) → name_moved f.name f.name n image ≡ image
name_stays f n image = sym (on_true (bytes_eq f.name f.name) image _ ((bytes_eq-Decides f.name f.name).1 refl))

left_alone : (f : PrEntry) (n : ℕ) (image : List ℕ) → f.owner ≡ pos 0 → owner_left f n image ≡ image
left_alone f n image none = sym (on_false (is_owned f) (owner_without f.owner n image) image (unowned_by f.id f.owner none))

moved_is : (image i : List ℕ) (r : Registry) (m : Members) (f : PrEntry) (owner : ℤ) (n : ℕ) → IsGetting image r m f owner
    → moved n f (with_owner owner f) i ≡ owner_entered (with_owner owner f) n i
moved_is image i r m f owner n g =
    ap (owner_moved f (with_owner owner f) n) (name_stays f n i)
    ∙ sym (on_false (int_eq f.owner owner) i (owner_entered (with_owner owner f) n (owner_left f n i)) (owner_other image r m f owner g))
    ∙ ap (owner_entered (with_owner owner f) n) (left_alone f n i g.none)

-- ---- the images

-- its block, without the words of chains before and afterwards, and before its fields are written
abbrev Bare : List ℕ → List ℕ
Bare image = unchained (whole image)

abbrev Made : List ℕ → PrEntry → ℕ → List ℕ
Made image e k = with_block k (with_fields e (block_in (Bare image) k)) (Bare image)

abbrev Mid : List ℕ → PrEntry → ℕ → List ℕ
Mid image e k = owner_entered e (k + 1) (whole image)

abbrev New : List ℕ → PrEntry → ℕ → List ℕ
New image e k = refilled k (new_block e) (Mid image e k)

homeless : (image : List ℕ) (r : Registry) (m : Members) (f : PrEntry) (owner : ℤ) (k : ℕ) → (g : IsGetting image r m f owner)
    → HasFit image r m f owner k
    → IsLinked (whole image) (Bare image) (Homeless (Bare image) (Made image (with_owner owner f) k) (k + 1)) (NoOwner (Bare image) k)
    g.holds.chains.free.words
homeless image r m f owner k g fit =
    let i = whole image in
    let u = Bare image in
    let e = with_owner owner f in
    let v = Made image e k in
    let fs = g.holds.chains.free.words in
    let move : IsMoving u v r f e k = moving image r m f.id f e k fit in
    let named = linked_name i u v r f e k fs move (linked_of image r m g.holds) in
    let gone = linked_homeless (name_moved f.name f.name (k + 1) i) u v r f e k fs move named in
    subst (λ (x : List ℕ). IsLinked x u (Homeless u v (k + 1)) (NoOwner u k) fs)
    (ap (owner_left f (k + 1)) (name_stays f (k + 1) i) ∙ left_alone f (k + 1) i g.none) gone

mid_linked : (image : List ℕ) (r : Registry) (m : Members) (f : PrEntry) (owner : ℤ) (k : ℕ) → (g : IsGetting image r m f owner)
    → HasFit image r m f owner k
    → IsLinked (Mid image (with_owner owner f) k) (Bare image) (Belongs (Made image (with_owner owner f) k))
    (IsUnowned (Made image (with_owner owner f) k)) g.holds.chains.free.words
mid_linked image r m f owner k g fit =
    let e = with_owner owner f in
    linked_home (whole image) (Bare image) (Made image e k) r f e k g.holds.chains.free.words (moving image r m f.id f e k fit)
    (homeless image r m f owner k g fit)

after_is : (image : List ℕ) (r : Registry) (m : Members) (f : PrEntry) (owner : ℤ) (k : ℕ) → IsGetting image r m f owner
    → HasFit image r m f owner k → after_replace f.id (with_owner owner f) image ≡ New image (with_owner owner f) k
unfolding after_replace
after_is image r m f owner k g fit =
    let e = with_owner owner f in
    sym (on_false (stays_empty f.id e image) image (fitted f.id e image) (sym (not_stays image f.id e (λ none. omega (arith, none, g.some)))))
    ∙ refit_form image r m f.id f e k g.holds fit.held
    ∙ ap (refilled k (new_block e)) (moved_is image (whole image) r m f owner (k + 1) g)

-- what is known of the image afterwards
record IsNew (image : List ℕ) (r : Registry) (f : PrEntry) (owner : ℤ) (k : ℕ) : Type 0 where
  size : IsWhole 2112 (New image (with_owner owner f) k)
  plain : unchained (New image (with_owner owner f) k) ≡ Made image (with_owner owner f) k
  chain : (j : ℕ) → IsEntry (Bare image) j → (ws : List ℕ) → HasChain owned_links (Mid image (with_owner owner f) k) (owned_place j) ws
      → HasChain owned_links (New image (with_owner owner f) k) (owned_place j) ws

is_new : (image : List ℕ) (r : Registry) (m : Members) (f : PrEntry) (owner : ℤ) (k : ℕ) → IsGetting image r m f owner
    → HasFit image r m f owner k → IsNew image r f owner k
is_new image r m f owner k g fit =
    let u = Bare image in
    let e = with_owner owner f in
    let v = Made image e k in
    let fs = g.holds.chains.free.words in
    let mid = Mid image e k in
    let new = New image e k in
    let move : IsMoving u v r f e k = moving image r m f.id f e k fit in
    let l = mid_linked image r m f owner k g fit in
    let here = entry_here mid u (Belongs v) (IsUnowned v) fs k l move.entry in
    let short = fit.is.fields.name_len in
    let len : length (new_block e) ≡ 192 = length-with_fields e (zeros 192) zeros_len short in
    let t = twice_refilled mid (new_block e) k l.whole here.below len in
    record {
      size = omega (arith, t.1.len, l.whole);
      plain = refilled_form mid new u e (entry_in (block_in u k)) (zeros 192) k l.whole l.same here.below
          (is_refilled mid (new_block e) k l.whole here.below len) zeros_len short here.kind (spelled image r m k g.holds move.entry);
      chain = λ j entry ws chain.
          let apart = own_apart k j 108 (omega arith) (omega arith) in
          chain_refilled 104 mid new (new_block e) k (owned_place j) ws (omega arith) (omega arith) (links_are (Owned j)) t.0 t.1
          (place_within u mid (Owned j) l.whole (linked_count mid u (Belongs v) (IsUnowned v) fs l) entry) apart.0 apart.1 chain;
    }

-- ---- the entries in the blocks keep their ids

record IsIn (image u : List ℕ) (j : ℕ) : Type 0 where
  entry : IsEntry image j
  same : entry_in (block_in image j) ≡ entry_in (block_in u j)

in_image : (image u : List ℕ) (j : ℕ) → IsWhole 2112 image → unchained image ≡ u → IsEntry u j → IsIn image u j
in_image image u j size plain e =
    let below : j < block_count image = omega (arith, e.below, ap block_count (sym plain) ∙ unchained_count image size) in
    let kind : kind_of (block_in image j) ≡ 1 =
    sym (unchained_kind image j size below) ∙ ap (λ (i : List ℕ). kind_of (block_in i j)) plain ∙ e.kind in
    record {
      entry = record { below = below; kind = kind };
      same = sym (unchained_entry image j size below kind) ∙ ap (λ (i : List ℕ). entry_in (block_in i j)) plain;
    }

in_bare : (image : List ℕ) (j : ℕ) → IsWhole 2112 image → IsEntry image j → IsEntry (unchained image) j
in_bare image j size e =
    record { below = omega (arith, e.below, unchained_count image size); kind = unchained_kind image j size e.below ∙ e.kind }

made_entry : (u v : List ℕ) (r : Registry) (f e : PrEntry) (k j : ℕ) → IsMoving u v r f e k → IsEntry u j → IsEntry v j
made_entry u v r f e k j move entry =
    ⊎_elim (λ (same : j ≡ k). subst (IsEntry v) (sym same) (own_entry u v k e move.with_it))
    (λ (other : j ≢ k). entry_on u v k j e move.with_it entry other) (cases_eq j k)

made_id : (u v : List ℕ) (r : Registry) (f e : PrEntry) (k j : ℕ) → IsMoving u v r f e k → IsEntry u j
    → (entry_in (block_in v j)).id ≡ (entry_in (block_in u j)).id
made_id u v r f e k j move entry =
    ⊎_elim
    (λ (same : j ≡ k).
    ap (λ (i : ℕ). (entry_in (block_in v i)).id) same ∙ ap (λ (x : PrEntry). x.id) move.with_it.entry ∙ move.id
    ∙ ap (λ (x : PrEntry). x.id) (sym move.is) ∙ ap (λ (i : ℕ). (entry_in (block_in u i)).id) (sym same))
    (λ (other : j ≢ k). ap (λ (b : List ℕ). (entry_in b).id) (move.with_it.others j entry.below other))
    (cases_eq j k)

record StaysIn (image new : List ℕ) (j : ℕ) : Type 0 where
  entry : IsEntry new j
  id : (entry_in (block_in new j)).id ≡ (entry_in (block_in image j)).id

stays_in : (image : List ℕ) (r : Registry) (m : Members) (f : PrEntry) (owner : ℤ) (k j : ℕ) → IsGetting image r m f owner
    → HasFit image r m f owner k → IsEntry (whole image) j → StaysIn (whole image) (New image (with_owner owner f) k) j
stays_in image r m f owner k j g fit entry =
    let e = with_owner owner f in
    let i = whole image in
    let u = Bare image in
    let v = Made image e k in
    let n = is_new image r m f owner k g fit in
    let move : IsMoving u v r f e k = moving image r m f.id f e k fit in
    let bare : IsEntry u j = in_bare i j g.holds.size entry in
    let now = in_image (New image e k) v j n.size n.plain (made_entry u v r f e k j move bare) in
    let old = in_image i u j g.holds.size refl bare in
    record {
      entry = now.entry;
      id = ap (λ (x : PrEntry). x.id) now.same ∙ made_id u v r f e k j move bare ∙ ap (λ (x : PrEntry). x.id) (sym old.same);
    }

along_stays : (image : List ℕ) (r : Registry) (m : Members) (f : PrEntry) (owner : ℤ) (k : ℕ) (ws : List ℕ)
    → IsGetting image r m f owner → HasFit image r m f owner k → AllByRecursion (λ w. IsEntry (whole image) (w - 1)) ws
    → ids_along (New image (with_owner owner f) k) ws ≡ ids_along (whole image) ws
along_stays image r m f owner k [] g fit all = refl
along_stays image r m f owner k (w ∷ ws) g fit all =
    let new = New image (with_owner owner f) k in
    let s = stays_in image r m f owner k (w - 1) g fit all.0 in
    ap (λ (x : ℤ). x ∷ ids_along new ws) s.id
    ∙ ap (λ (l : List ℤ). (entry_in (block_in (whole image) (w - 1))).id ∷ l) (along_stays image r m f owner k ws g fit all.1)

-- ---- the chain of the owner

all_from : (P : ℕ → Type 0) (ws : List ℕ) → ((w : ℕ) → Contains ws w → P w) → AllByRecursion P ws
all_from P [] each = tt
all_from P (w ∷ ws) each = (
  each w (0, omega arith, refl),
  all_from P ws (λ v has. each v (suc has.0, omega (arith, has.1), has.2)),
)

-- it has these words, all of them entries, from the owner's block on
record HasOwnedWords (image : List ℕ) (r : Registry) (owner : ℤ) (ids : List ℤ) : Type 0 where
  place : ℕ
  block : IsEntry (whole image) place
  id : (entry_in (block_in (whole image) place)).id ≡ owner
  words : List ℕ
  chain : HasChain owned_links (whole image) (owned_place place) words
  entries : AllByRecursion (λ w. IsEntry (whole image) (w - 1)) words
  are : ids ≡ ids_along (whole image) words

at_entry : (u : List ℕ) (P : PrEntry → Type 0) (w : ℕ) → IsEntryAt u P w → IsEntry u (w - 1)
at_entry u P w at = record { below = omega (arith, at.some, at.within); kind = at.kind }

owned_words : (image : List ℕ) (r : Registry) (m : Members) (owner : ℤ) (ids : List ℤ) → Holds image r m → 0 < length image
    → IsSome (r.entry owner) → AreInOrder image owner ids → HasOwnedWords image r owner ids
owned_words image r m owner ids h some there order =
    let i = whole image in
    let same : image ≡ i = sym (whole_same image some) in
    let k = place_in image owner in
    let b = owner_block image r m owner h there some in
    let p = id_parts owner (block_in image k) b.has in
    let below : k < block_count i = subst (λ (x : List ℕ). k < block_count x) same b.below in
    let kind : kind_of (block_in i k) ≡ 1 = subst (λ (x : List ℕ). kind_of (block_in x k) ≡ 1) same p.0 in
    let chain : HasChain owned_links i (owned_place k) order.0 =
    subst (λ (x : List ℕ). HasChain owned_links x (owned_place k) order.0) same order.1 in
    let v = h.chains.owned k below kind in
    let one : order.0 ≡ v.words = chain_unique owned_links i (owned_place k) order.0 v.words (omega arith) chain v.chain in
    record {
      place = k;
      block = record { below = below; kind = kind };
      id = subst (λ (x : List ℕ). (entry_in (block_in x k)).id ≡ owner) same p.1;
      words = order.0;
      chain = chain;
      entries = all_from (λ w. IsEntry i (w - 1)) order.0
          (λ w has. at_entry i (IsGroupOf (entry_in (block_in i k)).id) w (v.only w (subst (λ (l : List ℕ). Contains l w) one has)));
      are = subst (λ (x : List ℕ). ids ≡ ids_along x order.0) same order.2;
    }

new_held : (image : List ℕ) (r : Registry) (m : Members) (f : PrEntry) (owner : ℤ) (k : ℕ) → IsGetting image r m f owner
    → HasFit image r m f owner k → Holds (New image (with_owner owner f) k) (with_entry (with_owner owner f) r) m
new_held image r m f owner k g fit =
    let e = with_owner owner f in
    subst (λ (i : List ℕ). Holds i (with_entry e r) m) (after_is image r m f owner k g fit)
    (holds_after image r m f.id e g.holds fit.is fit.may)

-- where the chain goes on, the ids do
in_order : (image : List ℕ) (r : Registry) (m : Members) (f : PrEntry) (owner : ℤ) (k : ℕ) (ids now : List ℤ) (ws : List ℕ)
    → IsGetting image r m f owner → HasFit image r m f owner k → (t : HasOwnedWords image r owner ids)
    → HasChain owned_links (Mid image (with_owner owner f) k) (owned_place t.place) ws
    → now ≡ ids_along (New image (with_owner owner f) k) ws → AreInOrder (after_replace f.id (with_owner owner f) image) owner now
in_order image r m f owner k ids now ws g fit t chain are =
    let e = with_owner owner f in
    let new = New image e k in
    let n = is_new image r m f owner k g fit in
    let s = stays_in image r m f owner k t.place g fit t.block in
    let held = new_held image r m f owner k g fit in
    let some : 0 < length new = omega (arith, n.size) in
    let stands : StandsAt new owner t.place = record { below = s.entry.below; kind = s.entry.kind; id = s.id ∙ t.id } in
    let place : place_in new owner ≡ t.place =
    place_is new (with_entry e r) held.pairs.lists owner t.place (lists_here new (with_entry e r) m held some) stands in
    let here : HasChain owned_links new (owned_place t.place) ws =
    n.chain t.place (in_bare (whole image) t.place g.holds.size t.block) ws chain in
    subst (λ (i : List ℕ). AreInOrder i owner now) (sym (after_is image r m f owner k g fit))
    (ws, subst (λ (p : ℕ). HasChain owned_links new (owned_place p) ws) (sym place) here, are)

-- a user comes into no chain
pub user_got : (image : List ℕ) (r : Registry) (m : Members) (f : PrEntry) (owner : ℤ) (ids : List ℤ) → IsGetting image r m f owner
    → pos 0 <ℤ f.id → AreInOrder image owner ids → AreInOrder (after_replace f.id (with_owner owner f) image) owner ids
user_got image r m f owner ids g up order =
    let e = with_owner owner f in
    let fit = fit_at image r m f owner g in
    let k = fit.0 in
    let t = owned_words image r m owner ids g.holds g.some g.there order in
    let alone : is_owned e ≡ false =
    false_from_ne_true (is_owned e) (λ owned. let down = (owned_true e owned).0 in omega (arith, ints, up, down)) in
    let same : whole image ≡ Mid image e k = on_false (is_owned e) (owner_first owner (k + 1) (whole image)) (whole image) alone in
    in_order image r m f owner k ids ids t.words g fit.1 t
    (subst (λ (i : List ℕ). HasChain owned_links i (owned_place t.place) t.words) same t.chain)
    (t.are ∙ sym (along_stays image r m f owner k t.words g fit.1 t.entries))

among : (u v : List ℕ) (z : ℤ) (k o : ℕ) → IsOf u z o → IsAmong u (Homeless u v (k + 1)) z o
among u v z k o of = record {
  has = (
    own_at u (entry_in (block_in u o)) o (HasIdKey (id_key z)) of.entry refl (ap id_key of.id_is),
    λ next. absurd (omega (arith, next)),
  );
  only = λ w has. has.0;
}

-- a group comes in front
pub group_got : (image : List ℕ) (r : Registry) (m : Members) (f : PrEntry) (owner : ℤ) (ids : List ℤ) → IsGetting image r m f owner
    → f.id <ℤ pos 0 → AreInOrder image owner ids → AreInOrder (after_replace f.id (with_owner owner f) image) owner (f.id ∷ ids)
group_got image r m f owner ids g down order =
    let e = with_owner owner f in
    let i = whole image in
    let u = Bare image in
    let fit = fit_at image r m f owner g in
    let k = fit.0 in
    let n = k + 1 in
    let v = Made image e k in
    let fs = g.holds.chains.free.words in
    let move : IsMoving u v r f e k = moving image r m f.id f e k fit.1 in
    let t = owned_words image r m owner ids g.holds g.some g.there order in
    let owner_e = some_is (r.entry owner) g.there in
    let zero = not_zero owner (id_is r owner owner_e.0 g.holds.pairs.holds.valid owner_e.1) in
    let owned : is_owned e ≡ true =
    and_from (int_lt f.id (pos 0)) (not (int_eq owner (pos 0))) (lt_to f.id (pos 0) down)
    (ap not (false_from_ne_true (int_eq owner (pos 0)) (λ same. zero (id_of owner (pos 0) same)))) in
    let o = new_owner u v r f e k move (owned_true e owned) in
    let l = homeless image r m f owner k g fit.1 in
    let place : t.place ≡ o.0 =
    o.1.one t.place (in_bare i t.place g.holds.size t.block)
    (ap (λ (x : PrEntry). x.id) (sym (in_image i u t.place g.holds.size refl (in_bare i t.place g.holds.size t.block)).same) ∙ t.id) in
    let number : number_of owner i ≡ o.0 + 1 =
    number_is i u (Homeless u v n) (NoOwner u k) fs owner o.0 l o.1 (among u v owner k o.0 o.1) in
    let at : owned_place (number_of owner i - 1) ≡ owned_place t.place = ap owned_place (omega (arith, number, place)) in
    let c = Owned t.place in
    let bare : IsEntry u t.place = in_bare i t.place g.holds.size t.block in
    let visits : Visits owned_links i (owned_place t.place) (Homeless u v n c) = l.chains c bare in
    let one : visits.words ≡ t.words =
    chain_unique owned_links i (owned_place t.place) visits.words t.words (omega arith) visits.chain t.chain in
    let back : k ≡ n - 1 = omega arith in
    let own_u : IsEntry u (n - 1) = subst (IsEntry u) back move.entry in
    let right = right_here i c n (entry_here i u (Homeless u v n) (NoOwner u k) fs (n - 1) l own_u) (omega arith) in
    let new : AllByRecursion (λ w. w ≢ n) t.words =
    subst (λ (ws : List ℕ). AllByRecursion (λ w. w ≢ n) ws) one
    (not_among (Homeless u v n c) n visits.words visits.only (λ has. has.1 refl refl)) in
    let chain : HasChain owned_links (put_in owned_links (owned_place t.place) n i) (owned_place t.place) (n ∷ t.words) =
    chain_put_in owned_links i (owned_place t.place) n [] t.words (links_are c) (head_place u 104 c bare (omega arith))
    (place_within u i c l.whole (linked_count i u (Homeless u v n) (NoOwner u k) fs l) bare) t.chain
    (record { right = right; new = new }) in
    let first : put_in owned_links (owned_place t.place) n i ≡ Mid image e k =
    ap (λ (p : ℕ). put_in owned_links p n i) (sym at) ∙ on_true (is_owned e) (owner_first owner n i) i owned in
    let own_i = in_image i u k g.holds.size refl move.entry in
    let s = stays_in image r m f owner k k g fit.1 own_i.entry in
    let id : (entry_in (block_in (New image e k) (n - 1))).id ≡ f.id =
    ap (λ (j : ℕ). (entry_in (block_in (New image e k) j)).id) (sym back) ∙ s.id ∙ ap (λ (x : PrEntry). x.id) (own_i.same ∙ move.is) in
    in_order image r m f owner k ids (f.id ∷ ids) (n ∷ t.words) g fit.1 t
    (subst (λ (x : List ℕ). HasChain owned_links x (owned_place t.place) (n ∷ t.words)) first chain)
    (ap (λ (x : ℤ). x ∷ ids) (sym id)
    ∙ ap (λ (l : List ℤ). (entry_in (block_in (New image e k) (n - 1))).id ∷ l)
    (t.are ∙ sym (along_stays image r m f owner k t.words g fit.1 t.entries)))
