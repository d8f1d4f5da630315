-- An image in which an entry got other fields holds the registry with them, and its chains are those that it must have.
use Rattle.std.proofs.Common.{◌≡◌, ◌≢◌, ℕ, ℤ, ◌+◌, ◌-◌, ◌*◌, ◌<◌, ⊎_elim, Bool, true, false, cond, List, length, take, refl, sym, ap, subst, ◌∙◌, arith}
use Rattle.std.specs.Str.{bytes_eq}
use Rattle.std.proofs.lemmas.Bool.{cases_eq}
use Rattle.std.proofs.lemmas.Slice.Eq.{bytes_eq-Decides}
use Rattle.db_blocks.specs.Blocks.{IsWhole, kind_of}
use Rattle.db_chains.proofs.Bytes.{IsApart}
use Rattle.prdb_layout.specs.Blocks.{block_count}
use Rattle.db_blocks.specs.Bytes.{words, zeros}
use Rattle.prdb_layout.specs.Records.{IsLaidOut, after_replace as entries_after, block_in, block_place, entry_in, field_numbers, first_block, has_id, new_block, with_block, with_fields}
use Rattle.prdb_layout.specs.Registry.{IsRecord, MayReplace, Registry, with_entry}
use Rattle.prdb_layout.specs.State.{PrEntry}
use Rattle.prdb_layout.proofs.BlockPlaces.{block_len}
use Rattle.prdb_layout.proofs.EntryFields.{entry_with, kind_with, length-with_fields}
use Rattle.prdb_layout.proofs.LaidOut.{whole_same as entries_same}
use Rattle.prdb_lists.specs.Layout.{HoldsPairs, IsSpelled}
use Rattle.prdb_lists.specs.Members.{Members}
use Rattle.prdb_lists.proofs.RecordsKeep.{replace_keep, zeros_len}
use Rattle.prdb_finds.specs.Records.{AreChains, Holds, whole}
use Rattle.prdb_finds.specs.Unchained.{unchained}
use Rattle.prdb_finds.proofs.Laid.{same_image}
use Rattle.prdb_finds.proofs.Told.{whole_same}
use Rattle.prdb_finds.proofs.Without.{unchained_count, unchained_len}
use Rattle.prdb_entries.specs.Changes.{fitted, moved, name_moved, number_of, owner_left, refilled}
use Rattle.prdb_entries.specs.Ends.{CanMove}
use Rattle.prdb_entries.proofs.Entries.{Belongs, IsUnowned, chains_from, each_free}
use Rattle.prdb_entries.proofs.Freed.{none_busy}
use Rattle.prdb_entries.proofs.Inserted.{some_of}
use Rattle.prdb_entries.proofs.Leaving.{IsOfRegistry}
use Rattle.prdb_entries.proofs.Linked.{ById, ByName, Chain, IsChain, IsEntry, IsLinked, Owned, entry_here, free_are, high, linked_count, links_are, low, next_of, place_of, place_within}
use Rattle.prdb_entries.proofs.Moving.{IsMoving, chain_same, home_stands, linked_homeless, linked_name, linked_owner, name_stands, owner_stands}
use Rattle.prdb_entries.proofs.Refilled.{IsTwice, chain_refilled, free_refilled, head_apart, is_refilled, own_apart, twice_refilled, word_refilled}
use Rattle.prdb_entries.proofs.Removed.{IsHeld, entry_held, first_of, held_of, linked_of, own_number}
use Rattle.prdb_entries.proofs.Replaced.{refilled_form}
use Rattle.db_blocks.proofs.BlockPlaces.{put_block}

-- ---- the chains

place_apart : (u : List ℕ) (c : Chain) (k : ℕ) → IsChain u c
    → IsApart (block_place k + 4) 20 (place_of c) × IsApart (block_place k + 32) 64 (place_of c)
place_apart u (ByName key) k is = head_apart k (place_of (ByName key)) (omega arith)
place_apart u (ById key) k is = head_apart k (place_of (ById key)) (omega arith)
place_apart u (Owned j) k is = own_apart k j 108 (omega arith) (omega arith)

linked_refilled : (image u v new : List ℕ) (r : Registry) (f e : PrEntry) (block : List ℕ) (k : ℕ) (fs : List ℕ) → IsMoving u v r f e k
    → IsLinked image u (Belongs v) (IsUnowned v) fs → (mid : List ℕ) → IsTwice image k block mid new → unchained new ≡ v
    → IsLinked new v (Belongs v) (IsUnowned v) fs
linked_refilled image u v new r f e block k fs m l mid t form =
    let count = linked_count image u (Belongs v) (IsUnowned v) fs l in
    let here = entry_here image u (Belongs v) (IsUnowned v) fs k l m.entry in
    let back : k + 1 - 1 ≡ k = omega arith in
    record {
      whole = omega (arith, t.len, l.whole);
      same = form;
      chains = λ c is.
          let was = chain_same u v r f e k c m is in
          let x = l.chains c was in
          let apart = place_apart u c k was in
          record {
            words = x.words;
            chain = chain_refilled (next_of c) image new block k (place_of c) x.words (high c) (omega (arith, low c)) (links_are c) mid t
                (place_within u image c l.whole count was) apart.0 apart.1 x.chain;
            only = x.only;
            each = x.each;
          };
      unused = λ j below un.
          let in_u : j < block_count u = ⊎_elim (λ (same : j ≡ k). omega (arith, same, m.entry.below))
          (λ (other : j ≢ k). m.with_it.only j below other) (cases_eq j k) in
          let apart = own_apart k j 104 (omega arith) (omega arith) in
          word_refilled image new block k (block_place j + 104) mid t (omega (arith, in_u, count, l.whole)) apart.0 apart.1
          ∙ l.unused j in_u un;
      free = free_refilled image new block k fs free_are mid t (omega (arith, l.whole))
          (none_busy image 20 (k + 1) fs (ap (λ (j : ℕ). kind_of (block_in image j)) back ∙ here.kind) l.free) l.free;
    }

-- ---- the image without the words of chains

by_test : (b : Bool) (x y : List ℕ) → (b ≡ true → x ≡ y) → cond b x y ≡ y
by_test true x y same = same refl
by_test false x y same = refl

block_again : (u : List ℕ) (k : ℕ) → length u ≡ 2112 + 192 * block_count u → k < block_count u → with_block k (block_in u k) u ≡ u
block_again u k size below =
    let n = block_count u in
    let put = put_block 2112 u (block_in u k) k n size (block_len u k n size below) below in
    same_image (with_block k (block_in u k) u) u n put.size size put.front
    (λ j less. ⊎_elim
    (λ (same : j ≡ k). ap (block_in (with_block k (block_in u k) u)) same ∙ put.here ∙ ap (block_in u) (sym same))
    (λ (other : j ≢ k). put.others j less other) (cases_eq j k))

entries_form : (u : List ℕ) (r : Registry) (id : ℤ) (f e : PrEntry) (k : ℕ) → length u ≡ 2112 + 192 * block_count u → IsHeld u r id f k
    → entries_after id e u ≡ with_block k (with_fields e (block_in u k)) u
unfolding entries_after
entries_form u r id f e k size h =
    let form : List ℕ → ℕ → List ℕ = λ (w : List ℕ) (j : ℕ). cond (bytes_eq (with_fields e (block_in w j)) (block_in w j)) u
    (with_block j (with_fields e (block_in w j)) w) in
    ap (λ (w : List ℕ). form w (first_block (has_id id) w)) (entries_same u (omega (arith, size)))
    ∙ ap (form u) (first_of u r id f k h)
    ∙ by_test (bytes_eq (with_fields e (block_in u k)) (block_in u k)) u (with_block k (with_fields e (block_in u k)) u)
    (λ same. sym (block_again u k size h.entry.below)
    ∙ ap (λ (b : List ℕ). with_block k b u) (sym ((bytes_eq-Decides (with_fields e (block_in u k)) (block_in u k)).0 same)))

-- ---- an entry gets other fields

-- the entry of an id, in an image that holds a registry
pub record IsRefit (image : List ℕ) (r : Registry) (m : Members) (id : ℤ) (f e : PrEntry) (k : ℕ) : Type 0 where
  pub holds : Holds image r m
  pub is : IsRecord e
  pub may : MayReplace id e r
  pub held : IsHeld (unchained (whole image)) r id f k

pub refit_of : (image : List ℕ) (r : Registry) (m : Members) (id : ℤ) (e : PrEntry) → Holds image r m → IsRecord e → MayReplace id e r
    → IsOfRegistry (unchained (whole image)) r → (f : PrEntry) × (k : ℕ) × IsRefit image r m id f e k
refit_of image r m id e holds is may of =
    let f = some_of (r.entry id) may.there in
    let h = held_of (unchained (whole image)) r id f.0 of f.1 in
    (f.0, h.0, record { holds = holds; is = is; may = may; held = h.1 })

abbrev Bare : List ℕ → List ℕ
Bare image = unchained (whole image)

abbrev Fitted : List ℕ → PrEntry → ℕ → List ℕ
Fitted image e k = with_block k (with_fields e (block_in (Bare image) k)) (Bare image)

pub bare_len : (image : List ℕ) (r : Registry) (m : Members) → Holds image r m → length (Bare image) ≡ 2112 + 192 * block_count (Bare image)
bare_len image r m holds =
    unchained_len (whole image) holds.size ∙ ap (λ (n : ℕ). 2112 + 192 * n) (sym (unchained_count (whole image) holds.size))

pairs_fitted : (image : List ℕ) (r : Registry) (m : Members) (id : ℤ) (f e : PrEntry) (k : ℕ) → IsRefit image r m id f e k
    → HoldsPairs (Fitted image e k) (with_entry e r) m
pairs_fitted image r m id f e k refit =
    subst (λ (i : List ℕ). HoldsPairs i (with_entry e r) m)
    (entries_form (Bare image) r id f e k (bare_len image r m refit.holds) refit.held)
    (replace_keep (Bare image) r m id e refit.holds.pairs refit.is refit.may)

pub moving : (image : List ℕ) (r : Registry) (m : Members) (id : ℤ) (f e : PrEntry) (k : ℕ) → IsRefit image r m id f e k
    → IsMoving (Bare image) (Fitted image e k) r f e k
moving image r m id f e k refit =
    let u = Bare image in
    let v = Fitted image e k in
    let h = refit.held in
    let size = bare_len image r m refit.holds in
    let n = block_count u in
    let len = block_len u k n size h.entry.below in
    let put = put_block 2112 u (with_fields e (block_in u k)) k n size (length-with_fields e (block_in u k) len refit.is.fields.name_len)
    h.entry.below in
    let count : block_count v ≡ n = omega (arith, put.size) in
    let pairs = pairs_fitted image r m id f e k refit in
    record {
      of = h.of;
      entry = h.entry;
      is = h.is;
      id = refit.may.same_id ∙ sym h.own;
      with_it = record {
        within = omega (arith, count, h.entry.below);
        kind = ap kind_of put.here ∙ kind_with e (block_in u k);
        entry = ap entry_in put.here ∙ entry_with e (block_in u k) len refit.is.fields;
        more = omega (arith, count);
        only = λ j below other. omega (arith, below, count);
        others = put.others;
      };
      also = record {
        valid = pairs.holds.valid;
        laid = subst (λ (i : List ℕ). IsLaidOut i (with_entry e r)) (entries_same v (omega (arith, put.size))) pairs.holds.laid;
      };
    }

pub spelled : (image : List ℕ) (r : Registry) (m : Members) (k : ℕ) → Holds image r m → IsEntry (Bare image) k
    → take 24 (block_in (Bare image) k) ≡ words (field_numbers (entry_in (block_in (Bare image) k)))
spelled image r m k holds entry =
    let u = Bare image in
    let same = entries_same u (omega (arith, bare_len image r m holds)) in
    let all = subst (λ (i : List ℕ). (j : ℕ) → j < block_count i → kind_of (block_in i j) ≡ 1 → IsSpelled (block_in i j)) same
    holds.pairs.are.spelled in
    all k entry.below entry.kind

-- the image before its fields are written
moved_linked : (image : List ℕ) (r : Registry) (m : Members) (id : ℤ) (f e : PrEntry) (k : ℕ) → (refit : IsRefit image r m id f e k)
    → IsLinked (moved (k + 1) f e (whole image)) (Bare image) (Belongs (Fitted image e k)) (IsUnowned (Fitted image e k))
    refit.holds.chains.free.words
moved_linked image r m id f e k refit =
    let u = Bare image in
    let v = Fitted image e k in
    let fs = refit.holds.chains.free.words in
    let move = moving image r m id f e k refit in
    linked_owner (name_moved f.name e.name (k + 1) (whole image)) u v r f e k fs move
    (linked_name (whole image) u v r f e k fs move (linked_of image r m refit.holds))

pub can_move : (image : List ℕ) (r : Registry) (m : Members) (id : ℤ) (f e : PrEntry) (k : ℕ) → IsRefit image r m id f e k
    → CanMove (k + 1) f e (whole image)
can_move image r m id f e k refit =
    let u = Bare image in
    let v = Fitted image e k in
    let fs = refit.holds.chains.free.words in
    let move = moving image r m id f e k refit in
    let l = linked_of image r m refit.holds in
    let named = linked_name (whole image) u v r f e k fs move l in
    let mid = name_moved f.name e.name (k + 1) (whole image) in (
      name_stands (whole image) u v r f e k fs move l,
      λ other. (
        λ owned. owner_stands mid u v r f e k fs move named owned,
        λ owned. home_stands (owner_left f (k + 1) mid) u v r f e k fs move (linked_homeless mid u v r f e k fs move named) owned,
      ),
    )

pub refit_form : (image : List ℕ) (r : Registry) (m : Members) (id : ℤ) (f e : PrEntry) (k : ℕ) → Holds image r m
    → IsHeld (unchained (whole image)) r id f k
    → fitted id e image ≡ refilled k (new_block e) (moved (k + 1) f e (whole image))
unfolding fitted
refit_form image r m id f e k holds held =
    let old = whole image in
    let n : number_of id old ≡ k + 1 =
    own_number old (Bare image) r id f k holds.chains.free.words held (linked_of image r m holds) in
    let back : k + 1 - 1 ≡ k = omega arith in
    let is : entry_in (block_in old (k + 1 - 1)) ≡ f =
    ap (λ (j : ℕ). entry_in (block_in old j)) back ∙ entry_held image r m id f k holds held in
    ap (λ (i : ℕ). refilled (i - 1) (new_block e) (moved i (entry_in (block_in old (i - 1))) e old)) n
    ∙ ap (λ (x : PrEntry). refilled (k + 1 - 1) (new_block e) (moved (k + 1) x e old)) is
    ∙ ap (λ (j : ℕ). refilled j (new_block e) (moved (k + 1) f e old)) back

pub holds_refit : (image : List ℕ) (r : Registry) (m : Members) (id : ℤ) (f e : PrEntry) (k : ℕ) → IsRefit image r m id f e k
    → Holds (fitted id e image) (with_entry e r) m
holds_refit image r m id f e k refit =
    let u = Bare image in
    let v = Fitted image e k in
    let fs = refit.holds.chains.free.words in
    let move = moving image r m id f e k refit in
    let mid = moved (k + 1) f e (whole image) in
    let l = moved_linked image r m id f e k refit in
    let here = entry_here mid u (Belongs v) (IsUnowned v) fs k l move.entry in
    let short = refit.is.fields.name_len in
    let len : length (new_block e) ≡ 192 = length-with_fields e (zeros 192) zeros_len short in
    let new = refilled k (new_block e) mid in
    let t = twice_refilled mid (new_block e) k l.whole here.below len in
    let form = refilled_form mid new u e (entry_in (block_in u k)) (zeros 192) k l.whole l.same here.below
    (is_refilled mid (new_block e) k l.whole here.below len) zeros_len short here.kind
    (spelled image r m k refit.holds move.entry) in
    let linked = linked_refilled mid u v new r f e (new_block e) k fs move l t.0 t.1 form in
    let same : whole new ≡ new = whole_same new (omega (arith, linked.whole)) in
    subst (λ (i : List ℕ). Holds i (with_entry e r) m) (sym (refit_form image r m id f e k refit.holds refit.held)) record {
      size = subst (IsWhole 2112) (sym same) linked.whole;
      pairs = subst (λ (i : List ℕ). HoldsPairs i (with_entry e r) m) (sym form ∙ ap unchained (sym same))
          (pairs_fitted image r m id f e k refit);
      chains = subst AreChains (sym same) (chains_from new v fs linked refit.holds.chains.free.ascending
          (λ j below free.
          let other : j ≢ k = λ is. omega (arith, free, move.with_it.kind, ap (λ (i : ℕ). kind_of (block_in v i)) is) in
          let less = move.with_it.only j below other in
          each_free (whole image) refit.holds.size refit.holds.chains j less
          (sym (ap kind_of (move.with_it.others j less other)) ∙ free)));
    }
