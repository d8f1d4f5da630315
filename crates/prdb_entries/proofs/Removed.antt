-- The image after an entry was removed holds the registry without it.
use Rattle.std.proofs.Common.{◌≡◌, ◌≢◌, ℕ, ℤ, ◌+◌, ◌-◌, ◌*◌, ◌/◌, ◌<◌, inr, ⊎_elim, Bool, true, false, List, Some, length, sym, ap, subst, ◌∙◌, arith}
use Rattle.std.specs.List.{Contains}
use Rattle.std.proofs.lemmas.Bool.{cases_Bool, cases_eq}
use Rattle.db_blocks.specs.Blocks.{IsWhole, word_at as any_word, kind_of}
use Rattle.db_chains.specs.Ends.{HasSome}
use Rattle.db_chains.specs.Free.{IsAscending, IsFreed, free_links, put_among, with_freed}
use Rattle.db_chains.specs.Links.{block_of}
use Rattle.db_chains.proofs.Framed.{block_mark, block_word}
use Rattle.db_chains.proofs.Freed.{freed}
use Rattle.db_chains.proofs.Kept.{chain_freed}
use Rattle.prdb_layout.specs.Blocks.{block_count}
use Rattle.db_blocks.specs.Bytes.{zeros}
use Rattle.db_blocks.proofs.FirstBlocks.{first_at}
use Rattle.db_chains.proofs.Leaving.{all_of}
use Rattle.prdb_layout.specs.Records.{after_remove as entries_after, block_in, entry_in, first_block, has_id, with_block}
use Rattle.prdb_layout.specs.Registry.{MayBeRemoved, Registry, without_entry}
use Rattle.prdb_layout.specs.State.{PrEntry}
use Rattle.prdb_layout.proofs.LaidOut.{whole_same as entries_same, zero_kind}
use Rattle.prdb_layout.proofs.Lookups.{id_from, id_parts}
use Rattle.prdb_lists.specs.Layout.{HoldsPairs}
use Rattle.prdb_lists.specs.Members.{Members}
use Rattle.prdb_lists.proofs.RecordsKeep.{remove_keep, zeros_len}
use Rattle.prdb_finds.specs.Keys.{id_key}
use Rattle.prdb_finds.specs.Places.{free_blocks, id_place, name_place}
use Rattle.prdb_finds.specs.Records.{AreChains, HasIdKey, HasNameKey, Holds, IsEntryAt, IsGroupOf, IsOwned, whole}
use Rattle.prdb_finds.specs.Unchained.{unchained}
use Rattle.prdb_finds.proofs.Taken.{free_all, not_free}
use Rattle.prdb_finds.proofs.Told.{laid_without, whole_same}
use Rattle.prdb_finds.proofs.Without.{unchained_entry, unchained_len}
use Rattle.prdb_entries.specs.Changes.{after_remove, left, number_of}
use Rattle.prdb_entries.specs.Ends.{HasLink, MayGo, StandsInChains}
use Rattle.prdb_entries.proofs.Entries.{Belongs, IsUnowned, chains_from, each_free, linked_from}
use Rattle.prdb_entries.proofs.Freed.{among_others, among_own, freed_form, none_busy}
use Rattle.prdb_entries.proofs.Inserted.{some_of}
use Rattle.prdb_entries.proofs.Leaving.{IsLeaving, IsOfRegistry, Others, entry_of, linked_left, one_block, some_word, stands_in}
use Rattle.prdb_entries.proofs.Linked.{ById, ByName, Chain, IsChain, IsEntry, IsLinked, Owned, entry_here, high, linked_count, links_of, low, next_of, place_of}
use Rattle.prdb_entries.proofs.Numbers.{IsAmong, IsOf, has_link, number_is}
use Rattle.db_blocks.proofs.BlockPlaces.{put_block}

-- ---- the block of an id

-- the entry of an id in its block
pub record IsHeld (u : List ℕ) (r : Registry) (id : ℤ) (f : PrEntry) (k : ℕ) : Type 0 where
  pub of : IsOfRegistry u r
  pub at : r.entry id ≡ Some f
  pub entry : IsEntry u k
  pub is : entry_in (block_in u k) ≡ f
  pub own : f.id ≡ id

pub held_of : (u : List ℕ) (r : Registry) (id : ℤ) (f : PrEntry) → IsOfRegistry u r → r.entry id ≡ Some f → (k : ℕ) × IsHeld u r id f k
held_of u r id f of at =
    let o = of.laid.only id f at in
    (o.0, record { of = of; at = at; entry = record { below = o.1; kind = o.2 }; is = o.3; own = of.valid.ids id f at })

pub is_of : (u : List ℕ) (r : Registry) (id : ℤ) (f : PrEntry) (k : ℕ) → IsHeld u r id f k → IsOf u id k
is_of u r id f k h =
    let own : (entry_in (block_in u k)).id ≡ id = ap (λ (e : PrEntry). e.id) h.is ∙ h.own in record {
      entry = h.entry;
      id_is = own;
      one = λ j entry same. one_block u r j k h.of entry h.entry (same ∙ sym own);
    }

pub among_of : (u : List ℕ) (r : Registry) (id : ℤ) (f : PrEntry) (k : ℕ) → IsHeld u r id f k → IsAmong u (Belongs u) id k
among_of u r id f k h =
    let back : k + 1 - 1 ≡ k = omega arith in record {
      has = record {
        some = omega arith;
        within = omega (arith, h.entry.below);
        kind = ap (λ (j : ℕ). kind_of (block_in u j)) back ∙ h.entry.kind;
        belongs = ap id_key (ap (λ (j : ℕ). (entry_in (block_in u j)).id) back ∙ (is_of u r id f k h).id_is);
      };
      only = λ w has. has;
    }

pub own_number : (image u : List ℕ) (r : Registry) (id : ℤ) (f : PrEntry) (k : ℕ) (fs : List ℕ) → IsHeld u r id f k
    → IsLinked image u (Belongs u) (IsUnowned u) fs → number_of id image ≡ k + 1
own_number image u r id f k fs h l =
    number_is image u (Belongs u) (IsUnowned u) fs id k l (is_of u r id f k h) (among_of u r id f k h)

pub own_link : (image u : List ℕ) (r : Registry) (id : ℤ) (f : PrEntry) (k : ℕ) (fs : List ℕ) → IsHeld u r id f k
    → IsLinked image u (Belongs u) (IsUnowned u) fs → HasLink id image
own_link image u r id f k fs h l =
    has_link image u (Belongs u) (IsUnowned u) fs id k l (is_of u r id f k h) (among_of u r id f k h)

pub is_false : (b : Bool) → (b ≡ true → ⊥) → b ≡ false
is_false b never =
    ⊎_elim (λ (yes : b ≡ true). absurd (never yes)) (λ (no : b ≡ false). no) (cases_Bool b)

-- a scan finds it too
pub first_of : (u : List ℕ) (r : Registry) (id : ℤ) (f : PrEntry) (k : ℕ) → IsHeld u r id f k → first_block (has_id id) u ≡ k
first_of u r id f k h =
    let of = is_of u r id f k h in
    first_at (λ j. has_id id (block_in u j)) 0 (block_count u) k (omega arith) (omega (arith, h.entry.below))
    (λ j from below. is_false (has_id id (block_in u j)) (λ met.
    let p = id_parts id (block_in u j) met in
    let same = of.one j record { below = omega (arith, below, h.entry.below); kind = p.0 } p.1 in
    omega (arith, same, below)))
    (id_from id (block_in u k) h.entry.kind of.id_is)

-- ---- an image without an entry

-- the block of a number is free, and all others are as they were
pub record IsWithout (u v : List ℕ) (k : ℕ) : Type 0 where
  pub count : block_count v ≡ block_count u
  pub kind : kind_of (block_in v k) ≡ 0
  pub others : (j : ℕ) → j < block_count u → j ≢ k → block_in v j ≡ block_in u j

entry_differs : (u v : List ℕ) (k j : ℕ) → IsWithout u v k → IsEntry v j → j ≢ k
entry_differs u v k j gone entry same =
    omega (arith, entry.kind, gone.kind, ap (λ (i : ℕ). kind_of (block_in v i)) same)

entry_was : (u v : List ℕ) (k j : ℕ) → IsWithout u v k → IsEntry v j → IsEntry u j
entry_was u v k j gone entry =
    let below : j < block_count u = omega (arith, entry.below, gone.count) in
    record { below = below; kind = sym (ap kind_of (gone.others j below (entry_differs u v k j gone entry))) ∙ entry.kind }

at_was : (u v : List ℕ) (k w : ℕ) (P : PrEntry → Type 0) → IsWithout u v k → IsEntryAt v P w → IsEntryAt u P w × (w - 1 ≢ k)
at_was u v k w P gone at =
    let entry = entry_of v w P at in
    let other = entry_differs u v k (w - 1) gone entry in
    let below : w - 1 < block_count u = omega (arith, entry.below, gone.count) in
    let same = gone.others (w - 1) below other in
    let was : IsEntryAt u P w = record {
      some = at.some;
      within = omega (arith, at.within, gone.count);
      kind = sym (ap kind_of same) ∙ at.kind;
      belongs = subst (λ (b : List ℕ). P (entry_in b)) same at.belongs;
    } in
    (was, other)

at_stays : (u v : List ℕ) (k w : ℕ) (P : PrEntry → Type 0) → IsWithout u v k → IsEntryAt u P w → w - 1 ≢ k → IsEntryAt v P w
at_stays u v k w P gone at other =
    let below : w - 1 < block_count u = omega (arith, at.some, at.within) in
    let same = gone.others (w - 1) below other in record {
      some = at.some;
      within = omega (arith, at.within, gone.count);
      kind = ap kind_of same ∙ at.kind;
      belongs = subst (λ (b : List ℕ). P (entry_in b)) (sym same) at.belongs;
    }

belongs_was : (u v : List ℕ) (k : ℕ) (c : Chain) (w : ℕ) → IsWithout u v k → Belongs v c w → Others u (k + 1) c w
belongs_was u v k (ByName key) w gone at =
    let o = at_was u v k w (HasNameKey key) gone at in (o.0, λ same. o.1 (omega (arith, same)))
belongs_was u v k (ById key) w gone at =
    let o = at_was u v k w (HasIdKey key) gone at in (o.0, λ same. o.1 (omega (arith, same)))
belongs_was u v k (Owned j) w gone at =
    let z = (entry_in (block_in v j)).id in
    let o = at_was u v k w (IsGroupOf z) gone at.1 in
    let entry = entry_was u v k j gone at.0 in
    let same = gone.others j entry.below (entry_differs u v k j gone at.0) in (
      (entry, subst (λ (b : List ℕ). IsEntryAt u (IsGroupOf (entry_in b).id) w) same o.0),
      λ number. o.1 (omega (arith, number)),
    )

belongs_stays : (u v : List ℕ) (k : ℕ) (c : Chain) (w : ℕ) → IsWithout u v k → IsChain v c → Others u (k + 1) c w → Belongs v c w
belongs_stays u v k (ByName key) w gone is has =
    at_stays u v k w (HasNameKey key) gone has.0 (λ same. has.1 (omega (arith, same, has.0.some)))
belongs_stays u v k (ById key) w gone is has =
    at_stays u v k w (HasIdKey key) gone has.0 (λ same. has.1 (omega (arith, same, has.0.some)))
belongs_stays u v k (Owned j) w gone is has =
    let same = gone.others j has.0.0.below (entry_differs u v k j gone is) in (
      is,
      subst (λ (b : List ℕ). IsEntryAt v (IsGroupOf (entry_in b).id) w) (sym same)
          (at_stays u v k w (IsGroupOf (entry_in (block_in u j)).id) gone has.0.1 (λ number. has.1 (omega (arith, number, has.0.1.some)))),
    )

chain_was : (u v : List ℕ) (k : ℕ) (c : Chain) → IsWithout u v k → IsChain v c → IsChain u c
chain_was u v k (ByName key) gone is = is
chain_was u v k (ById key) gone is = is
chain_was u v k (Owned j) gone is = entry_was u v k j gone is

not_gone : (u v : List ℕ) (k : ℕ) (c : Chain) → IsWithout u v k → IsChain v c → c ≡ Owned k → ⊥
not_gone u v k c gone is same =
    let entry : IsEntry v k = subst (IsChain v) same is in omega (arith, entry.kind, gone.kind)

word_of_block : (c : Chain) (w n : ℕ) → 0 < w → 0 < n → block_of (links_of c) w ≡ n - 1 → w ≡ n
word_of_block c w n some_w some_n same =
    let one : w / 1 ≡ w = omega arith in
    omega (arith, one, same)

entry_mark : (image : List ℕ) (k : ℕ) → IsEntry image k → any_word image (2112 + 192 * k) ≡ 1
entry_mark image k entry = sym (block_mark 2112 k image) ∙ entry.kind

-- ---- the block is freed

-- what the image is before
pub record IsReady (image u : List ℕ) (k : ℕ) (fs : List ℕ) : Type 0 where
  pub linked : IsLinked image u (Others u (k + 1)) (IsUnowned u) fs
  pub entry : IsEntry u k
  pub up : IsAscending fs
  pub each : (j : ℕ) → j < block_count u → kind_of (block_in u j) ≡ 0 → Contains fs (j + 1)

ready_entry : (image u : List ℕ) (k : ℕ) (fs : List ℕ) → IsReady image u k fs → IsEntry image k
ready_entry image u k fs ready = entry_here image u (Others u (k + 1)) (IsUnowned u) fs k ready.linked ready.entry

is_freed : (image u : List ℕ) (k : ℕ) (fs : List ℕ) → IsReady image u k fs
    → IsFreed free_blocks fs (k + 1) image (with_freed free_blocks (k + 1) image)
is_freed image u k fs ready =
    let here = ready_entry image u k fs ready in
    let back : k + 1 - 1 ≡ k = omega arith in
    freed free_blocks image (block_count image) (k + 1) fs free_all ready.linked.whole (omega arith) (omega (arith, here.below))
    ready.linked.free ready.up
    (none_busy image 20 (k + 1) fs (ap (λ (j : ℕ). kind_of (block_in image j)) back ∙ here.kind) ready.linked.free)

freed_first : (image u new : List ℕ) (k : ℕ) (fs : List ℕ) (c : Chain) → IsReady image u k fs
    → IsFreed free_blocks fs (k + 1) image new → IsChain u c → (c ≡ Owned k → ⊥) → any_word new (place_of c) ≡ any_word image (place_of c)
freed_first image u new k fs (ByName key) ready done is other = done.words (name_place key) (omega arith) (inr (omega arith))
freed_first image u new k fs (ById key) ready done is other = done.words (id_place key) (omega arith) (inr (omega arith))
freed_first image u new k fs (Owned j) ready done is other =
    let here = entry_here image u (Others u (k + 1)) (IsUnowned u) fs j ready.linked is in
    block_word 2112 j 108 image new (omega arith)
    (done.others j here.below (λ same. other (ap Owned (omega (arith, same)))) (λ free. omega (arith, free, entry_mark image j here)))

freed_linked : (image u v new : List ℕ) (k : ℕ) (fs : List ℕ) → IsReady image u k fs → IsWithout u v k → unchained new ≡ v
    → IsFreed free_blocks fs (k + 1) image new → IsLinked new v (Belongs v) (IsUnowned v) (put_among (k + 1) fs)
freed_linked image u v new k fs ready gone form done =
    let l = ready.linked in
    let n = k + 1 in
    record {
      whole = omega (arith, done.size, l.whole);
      same = form;
      chains = λ c is.
          let was = chain_was u v k c gone is in
          let x = l.chains c was in
          let most = low c in
          let least = high c in
          record {
            words = x.words;
            chain = chain_freed free_blocks (links_of c) image new (place_of c) n fs x.words
                (not_free (next_of c) (omega arith) (omega arith)) done
                (all_of (λ w. block_of (links_of c) w ≢ n - 1) x.words
                (λ w has. let o = x.only w has in
                λ same. o.1 (word_of_block c w n (some_word u c w o.0) (omega arith) same)))
                (freed_first image u new k fs c ready done was (λ same. not_gone u v k c gone is same)) x.chain;
            only = λ w has. belongs_stays u v k c w gone is (x.only w has);
            each = λ w belongs. x.each w (belongs_was u v k c w gone belongs);
          };
      unused = λ j below un.
          let other = entry_differs u v k j gone un.0 in
          let was = entry_was u v k j gone un.0 in
          let same = gone.others j was.below other in
          let here = entry_here image u (Others u n) (IsUnowned u) fs j l was in
          block_word 2112 j 104 image new (omega arith)
          (done.others j here.below (λ number. other (omega (arith, number))) (λ free. omega (arith, free, entry_mark image j here)))
          ∙ l.unused j was.below (was, λ owned. un.1 (subst (λ (b : List ℕ). IsOwned (entry_in b)) (sym same) owned));
      free = done.free;
    }

pub chains_freed : (image u : List ℕ) (k : ℕ) (fs : List ℕ) → IsReady image u k fs
    → (unchained (with_freed free_blocks (k + 1) image) ≡ with_block k (zeros 192) u)
    × IsWhole 2112 (with_freed free_blocks (k + 1) image)
    × AreChains (with_freed free_blocks (k + 1) image)
chains_freed image u k fs ready =
    let l = ready.linked in
    let n = k + 1 in
    let new = with_freed free_blocks n image in
    let v = with_block k (zeros 192) u in
    let here = ready_entry image u k fs ready in
    let back : n - 1 ≡ k = omega arith in
    let size_u : length u ≡ 2112 + 192 * block_count u =
    ap length (sym l.same) ∙ unchained_len image l.whole
    ∙ ap (λ (m : ℕ). 2112 + 192 * m) (sym (linked_count image u (Others u n) (IsUnowned u) fs l)) in
    let put = put_block 2112 u (zeros 192) k (block_count u) size_u zeros_len ready.entry.below in
    let gone : IsWithout u v k = record {
      count = omega (arith, put.size);
      kind = ap kind_of put.here ∙ zero_kind;
      others = put.others;
    } in
    let form : unchained new ≡ v =
    freed_form image n fs l.whole (omega arith) (omega (arith, here.below))
    (ap (λ (j : ℕ). kind_of (block_in image j)) back ∙ here.kind) l.free ready.up
    ∙ ap (λ (j : ℕ). with_block j (zeros 192) (unchained image)) back ∙ ap (with_block k (zeros 192)) l.same in
    let done = is_freed image u k fs ready in
    let linked = freed_linked image u v new k fs ready gone form done in (
      form,
      linked.whole,
      chains_from new v (put_among n fs) linked done.ascending
          (λ j below free. ⊎_elim
          (λ (same : j ≡ k). subst (λ (i : ℕ). Contains (put_among n fs) (i + 1)) (sym same) (among_own n fs))
          (λ (other : j ≢ k).
          let less : j < block_count u = omega (arith, below, gone.count) in
          among_others n (j + 1) fs (ready.each j less (sym (ap kind_of (gone.others j less other)) ∙ free)))
          (cases_eq j k)),
    )

-- ---- a removal

-- an entry that may go
pub leaving : (image : List ℕ) (r : Registry) (m : Members) (id : ℤ) (f : PrEntry) (k : ℕ) → Holds image r m → MayBeRemoved id r
    → IsHeld (unchained (whole image)) r id f k → IsLeaving (unchained (whole image)) r f k
leaving image r m id f k holds may h =
    record { of = h.of; entry = h.entry; is = h.is; other_owner = λ same. may.owns_nothing id f h.at (same ∙ h.own) }

pub held_in : (image : List ℕ) (r : Registry) (m : Members) (id : ℤ) → Holds image r m → MayBeRemoved id r
    → (f : PrEntry) × (k : ℕ) × IsHeld (unchained (whole image)) r id f k
held_in image r m id holds may =
    let f = some_of (r.entry id) may.there in
    let h = held_of (unchained (whole image)) r id f.0
    record { valid = holds.pairs.holds.valid; laid = laid_without image r m holds } f.1 in
    (f.0, h.0, h.1)

pub linked_of : (image : List ℕ) (r : Registry) (m : Members) → (holds : Holds image r m)
    → IsLinked (whole image) (unchained (whole image)) (Belongs (unchained (whole image))) (IsUnowned (unchained (whole image)))
    holds.chains.free.words
linked_of image r m holds = linked_from (whole image) holds.size holds.chains

-- the entry of its block is that of the registry
pub entry_held : (image : List ℕ) (r : Registry) (m : Members) (id : ℤ) (f : PrEntry) (k : ℕ) → Holds image r m
    → IsHeld (unchained (whole image)) r id f k → entry_in (block_in (whole image) k) ≡ f
entry_held image r m id f k holds h =
    let old = whole image in
    let u = unchained old in
    let here = entry_here old u (Belongs u) (IsUnowned u) holds.chains.free.words k (linked_of image r m holds) h.entry in
    sym (unchained_entry old k holds.size here.below here.kind) ∙ h.is

ready_of : (image : List ℕ) (r : Registry) (m : Members) (id : ℤ) (f : PrEntry) (k : ℕ) → (holds : Holds image r m) → MayBeRemoved id r
    → IsHeld (unchained (whole image)) r id f k
    → IsReady (left (k + 1) f (whole image)) (unchained (whole image)) k holds.chains.free.words
ready_of image r m id f k holds may h = record {
  linked = linked_left (whole image) (unchained (whole image)) r f k holds.chains.free.words (leaving image r m id f k holds may h)
      (linked_of image r m holds);
  entry = h.entry;
  up = holds.chains.free.ascending;
  each = each_free (whole image) holds.size holds.chains;
}

pub stands_held : (image : List ℕ) (r : Registry) (m : Members) (id : ℤ) (f : PrEntry) (k : ℕ) → Holds image r m → MayBeRemoved id r
    → IsHeld (unchained (whole image)) r id f k → StandsInChains (k + 1) f (whole image)
stands_held image r m id f k holds may h =
    stands_in (whole image) (unchained (whole image)) r f k holds.chains.free.words (leaving image r m id f k holds may h)
    (linked_of image r m holds)

pub free_held : (image : List ℕ) (r : Registry) (m : Members) (id : ℤ) (f : PrEntry) (k : ℕ) → Holds image r m → MayBeRemoved id r
    → IsHeld (unchained (whole image)) r id f k → HasSome (free_links free_blocks) 20 (left (k + 1) f (whole image))
free_held image r m id f k holds may h =
    let ready = ready_of image r m id f k holds may h in
    (ready.linked.whole, (holds.chains.free.words, ready.linked.free))

without_form : (u : List ℕ) (r : Registry) (id : ℤ) (f : PrEntry) (k : ℕ) → 0 < length u → IsHeld u r id f k
    → entries_after id u ≡ with_block k (zeros 192) u
unfolding entries_after
without_form u r id f k some h =
    let same = entries_same u some in
    ap (λ (i : List ℕ). with_block (first_block (has_id id) i) (zeros 192) i) same
    ∙ ap (λ (j : ℕ). with_block j (zeros 192) u) (first_of u r id f k h)

removed_form : (image : List ℕ) (r : Registry) (m : Members) (id : ℤ) (f : PrEntry) (k : ℕ) → Holds image r m
    → IsHeld (unchained (whole image)) r id f k → after_remove id image ≡ with_freed free_blocks (k + 1) (left (k + 1) f (whole image))
unfolding after_remove
removed_form image r m id f k holds h =
    let old = whole image in
    let n : number_of id old ≡ k + 1 = own_number old (unchained old) r id f k holds.chains.free.words h (linked_of image r m holds) in
    let back : k + 1 - 1 ≡ k = omega arith in
    let e : entry_in (block_in old (k + 1 - 1)) ≡ f =
    ap (λ (j : ℕ). entry_in (block_in old j)) back ∙ entry_held image r m id f k holds h in
    ap (λ (i : ℕ). with_freed free_blocks i (left i (entry_in (block_in old (i - 1))) old)) n
    ∙ ap (λ (x : PrEntry). with_freed free_blocks (k + 1) (left (k + 1) x old)) e

pub holds_removed : (image : List ℕ) (r : Registry) (m : Members) (id : ℤ) → Holds image r m → MayGo id r m
    → Holds (after_remove id image) (without_entry id r) m
holds_removed image r m id holds may =
    let old = whole image in
    let u = unchained old in
    let o = held_in image r m id holds may.0 in
    let f = o.0 in
    let k = o.1 in
    let h = o.2 in
    let made = chains_freed (left (k + 1) f old) u k holds.chains.free.words (ready_of image r m id f k holds may.0 h) in
    let new = with_freed free_blocks (k + 1) (left (k + 1) f old) in
    let same : whole new ≡ new = whole_same new (omega (arith, made.1)) in
    let some : 0 < length u = omega (arith, unchained_len old holds.size) in
    subst (λ (i : List ℕ). Holds i (without_entry id r) m) (sym (removed_form image r m id f k holds h)) record {
      size = subst (IsWhole 2112) (sym same) made.1;
      pairs = subst (λ (i : List ℕ). HoldsPairs i (without_entry id r) m)
          (without_form u r id f k some h ∙ sym made.0 ∙ ap unchained (sym same)) (remove_keep u r m id holds.pairs may.0 may.1);
      chains = subst AreChains (sym same) made.2;
    }
