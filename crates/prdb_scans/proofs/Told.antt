-- What an image tells of its pairs.
use Rattle.std.proofs.Common.{◌≡◌, ℕ, ℤ, pos, ◌<◌, Bool, true, false, ◌&&◌, ◌||◌, List, Option, IsSome, length, refl, sym, ap, subst, ◌∙◌, inl, arith}
use Rattle.std.specs.Prelude.{◌<ℤ◌, int_lt, is_some}
use Rattle.std.specs.List.{Contains, list_any}
use Rattle.std.specs.Ordering.{int_eq}
use Rattle.std.proofs.lemmas.Bool.{and_from, and_parts}
use Rattle.std.proofs.lemmas.Bool.Decides.{Decides-int_eq}
use Rattle.std.proofs.lemmas.Cmp.{int_eq_equiv}
use Rattle.std.proofs.lemmas.Int.{ints}
use Rattle.std.proofs.lemmas.Map.Views.{Contains-from_any, list_any-from_Contains}
use mathlib.Core.Path.{fun_ext}
use Rattle.db_chains.proofs.Bytes.{word_stays, blanked_stays}
use Rattle.prdb_layout.specs.Blocks.{block_count}
use Rattle.db_blocks.specs.Blocks.{word_at, kind_of, blanked}
use Rattle.prdb_layout.specs.Records.{block_in, entry_at, entry_in, registry_in, whole as without_whole}
use Rattle.prdb_layout.specs.Registry.{Registry}
use Rattle.prdb_layout.specs.State.{PrEntry}
use Rattle.prdb_layout.proofs.BlockPlaces.{block_len}
use Rattle.prdb_layout.proofs.LaidOut.{whole_same as without_same}
use Rattle.prdb_layout.proofs.Told.{registry_told}
use Rattle.prdb_lists.specs.Changes.{list_in, place_in}
use Rattle.prdb_lists.specs.Layout.{HoldsPairs, PairList}
use Rattle.prdb_lists.specs.Members.{Members, are_paired}
use Rattle.prdb_lists.proofs.Ascending.{lt_from, lt_to}
use Rattle.prdb_lists.proofs.BlockIds.{count_of}
use Rattle.prdb_lists.proofs.Both.{lists_of}
use Rattle.prdb_lists.proofs.Gains.{place_is, place_of, told_at}
use Rattle.prdb_lists.proofs.RecordsKeep.{or_left}
use Rattle.entry_scans.specs.Pages.{pair_count_in}
use Rattle.entry_scans.specs.Lists.{IsListOf}
use Rattle.prdb_finds.specs.Records.{Holds, whole}
use Rattle.prdb_finds.specs.Unchained.{unchained}
use Rattle.prdb_finds.proofs.Fields.{entry_unlinked}
use Rattle.prdb_finds.proofs.Told.{registry_is}
use Rattle.prdb_finds.proofs.Without.{unchained_block, unchained_count, unchained_entry, unchained_kind, unchained_len}
use Rattle.prdb_scans.specs.Told.{HasCounted, is_listed, members_in}

-- ---- pairs over an image without words of chains

entry_is : (image : List ℕ) (r : Registry) (m : Members) → HoldsPairs image r m → (x : ℤ) → r.entry x ≡ entry_at (without_whole image) x
unfolding registry_in
entry_is image r m h x = ap (λ (s : Registry). s.entry x) (registry_told image r h.holds)

list_is : (image : List ℕ) (r : Registry) (m : Members) (h : HoldsPairs image r m) (x : ℤ) → IsSome (r.entry x)
    → list_in (without_whole image) (block_in (without_whole image) (place_in (without_whole image) x)) ≡ h.lists x
list_is image r m h x there =
    let old = without_whole image in
    let lists = (lists_of image r m h).has in
    let p = place_of old r h.lists x lists there in
    ap (λ (k : ℕ). list_in old (block_in old k)) (place_is old r h.lists x p.k lists p.at) ∙ told_at old r h.lists x p.k lists p.at

same_truth : (a b : Bool) → (a ≡ true → b ≡ true) → (b ≡ true → a ≡ true) → a ≡ b
same_truth true b to from = sym (to refl)
same_truth false true to from = from refl
same_truth false false to from = refl

first_one : (a b : Bool) → (a || b) ≡ true → (b ≡ true → ⊥) → a ≡ true
first_one true b is never = refl
first_one false b is never = absurd (never is)

no_user : (x : ℤ) → x <ℤ pos 0 → int_lt (pos 0) x ≡ true → ⊥
no_user x low is = omega (arith, ints, low, lt_from (pos 0) x is)

listed_to : (image : List ℕ) (r : Registry) (m : Members) → HoldsPairs image r m → (user group : ℤ) → m.has user group ≡ true
    → is_listed (without_whole image) user group ≡ true
listed_to image r m h user group is =
    let old = without_whole image in
    let pair = h.valid user group is in
    let has = h.all user pair.2 group (or_left (m.has user group) (m.has group user) is) in
    and_from (int_lt (pos 0) user && is_some (entry_at old user))
    (list_any (int_eq group) (list_in old (block_in old (place_in old user))).ids)
    (and_from (int_lt (pos 0) user) (is_some (entry_at old user)) (lt_to (pos 0) user pair.0)
    (subst (λ (o : Option PrEntry). is_some o ≡ true) (entry_is image r m h user) pair.2))
    (ap (λ (l : PairList). list_any (int_eq group) l.ids) (list_is image r m h user pair.2)
    ∙ list_any-from_Contains int_eq_equiv group (h.lists user).ids has)

listed_from : (image : List ℕ) (r : Registry) (m : Members) → HoldsPairs image r m → (user group : ℤ)
    → is_listed (without_whole image) user group ≡ true → m.has user group ≡ true
listed_from image r m h user group is =
    let old = without_whole image in
    let p = and_parts (int_lt (pos 0) user && is_some (entry_at old user))
    (list_any (int_eq group) (list_in old (block_in old (place_in old user))).ids) is in
    let q = and_parts (int_lt (pos 0) user) (is_some (entry_at old user)) p.0 in
    let there : IsSome (r.entry user) = subst (λ (o : Option PrEntry). is_some o ≡ true) (sym (entry_is image r m h user)) q.1 in
    let has : Contains (h.lists user).ids group =
    Contains-from_any (λ x y. (Decides-int_eq x y).0) group (h.lists user).ids
    (ap (λ (l : PairList). list_any (int_eq group) l.ids) (sym (list_is image r m h user there)) ∙ p.1) in
    first_one (m.has user group) (m.has group user) (h.each user there group has)
    (λ back. no_user user (h.valid group user back).1 q.0)

pairs_without : (image : List ℕ) (r : Registry) (m : Members) → HoldsPairs image r m → m ≡ members_in (without_whole image)
unfolding members_in
pairs_without image r m h =
    ap (λ (has : ℤ → ℤ → Bool). record m { has = has }) (fun_ext (λ user. fun_ext (λ group.
    same_truth (m.has user group) (is_listed (without_whole image) user group) (listed_to image r m h user group)
    (listed_from image r m h user group))))

-- ---- with them

pub pairs_told : (image : List ℕ) (r : Registry) (m : Members) → Holds image r m → m ≡ members_in (unchained (whole image))
pairs_told image r m holds =
    let un = unchained (whole image) in
    pairs_without un r m holds.pairs ∙ ap members_in (without_same un (omega (arith, unchained_len (whole image) holds.size)))

pub holds_one : (image : List ℕ) (r s : Registry) (m n : Members) → Holds image r m → Holds image s n → (r ≡ s) × (m ≡ n)
holds_one image r s m n one two = (
  registry_is image r m one ∙ sym (registry_is image s n two),
  pairs_told image r m one ∙ sym (pairs_told image s n two),
)

-- ---- how many they are

count_same : (image : List ℕ) (r : Registry) (m : Members) (k : ℕ) → Holds image r m → k < block_count (whole image)
    → kind_of (block_in (whole image) k) ≡ 1
    → pair_count_in (block_in (unchained (whole image)) k) ≡ pair_count_in (block_in (whole image) k)
count_same image r m k holds below kind =
    let block = block_in (whole image) k in
    let size : length block ≡ 192 = block_len (whole image) k (block_count (whole image)) holds.size below in
    ap (λ (b : List ℕ). word_at b 24) (unchained_block (whole image) k holds.size below ∙ entry_unlinked block kind)
    ∙ word_stays 96 16 24 block (blanked 96 16 block) (blanked_stays 96 16 block (omega arith)) (omega arith) (inl (omega arith))

counted_without : (image : List ℕ) (r : Registry) (m : Members) (k : ℕ) → HoldsPairs image r m → k < block_count (without_whole image)
    → kind_of (block_in (without_whole image) k) ≡ 1 → HasCounted m (block_in (without_whole image) k)
counted_without image r m k h below kind =
    let block = block_in (without_whole image) k in
    let id = (entry_in block).id in
    let l = h.are.listed k below kind in
    let there : IsSome (r.entry id) = subst (λ (o : Option PrEntry). IsSome o) (sym (h.holds.laid.there k below kind)) refl in (
      (h.lists id).ids,
      record { ascending = l.ascending; each = h.each id there; all = h.all id there },
      count_of block (h.lists id) l.front l.few,
    )

pub counted : (image : List ℕ) (r : Registry) (m : Members) (k : ℕ) → Holds image r m → k < block_count (whole image)
    → kind_of (block_in (whole image) k) ≡ 1 → HasCounted m (block_in (whole image) k)
counted image r m k holds below kind =
    let old = whole image in
    let un = unchained old in
    let same = without_same un (omega (arith, unchained_len old holds.size)) in
    let is = subst
    (λ (i : List ℕ). (j : ℕ) → j < block_count i → kind_of (block_in i j) ≡ 1 → HasCounted m (block_in i j)) same
    (λ j. counted_without un r m j holds.pairs) k
    (omega (arith, below, unchained_count old holds.size)) (unchained_kind old k holds.size below ∙ kind) in
    let id : (entry_in (block_in un k)).id ≡ (entry_in (block_in old k)).id =
    ap (λ (e : PrEntry). e.id) (unchained_entry old k holds.size below kind) in (
      is.0,
      subst (λ (x : ℤ). IsListOf (λ other. are_paired m x other ≡ true) is.0) id is.1,
      sym (count_same image r m k holds below kind) ∙ is.2,
    )
