-- The image after a block was taken for an entry, before it comes into its chains.
use Rattle.std.proofs.Common.{◌≡◌, ◌≢◌, ℕ, ◌+◌, ◌-◌, ◌<◌, ◌≤◌, ◌⊎◌, inr, ⊎_elim, List, [], ◌∷◌, ◌++◌, length, take, drop, refl, sym, ap, subst, ◌∙◌, append_assoc, arith}
use Rattle.std.specs.List.{Contains}
use Rattle.std.specs.Prelude.{slice_get, unwrap_or}
use Rattle.std.proofs.lemmas.Bool.{cases_eq, le-ltb, lt-ltb}
use Rattle.std.proofs.lemmas.List.{drop-drop, take-append-drop}
use Rattle.db_blocks.specs.Blocks.{IsWhole, word_at, word_at as any_word, kind_of, blanked}
use Rattle.db_blocks.proofs.BlockPlaces.{changed_laid, laid}
use Rattle.db_chains.specs.Free.{IsAscending, next_number, with_taken}
use Rattle.db_chains.proofs.Framed.{block_word}
use Rattle.db_chains.proofs.Kept.{chain_taken}
use Rattle.db_chains.proofs.Words.{in_block}
use Rattle.prdb_layout.specs.Blocks.{block_count}
use Rattle.db_blocks.specs.Bytes.{zeros}
use Rattle.db_blocks.proofs.Lengths.{length-zeros}
use Rattle.prdb_layout.specs.Records.{after_insert, block_in, block_place, entry_in, new_block, next_block, whole as entries_whole, with_block, with_count}
use Rattle.prdb_layout.specs.Registry.{IsRecord}
use Rattle.prdb_layout.specs.State.{PrEntry}
use Rattle.prdb_layout.proofs.EntryFields.{behind_name, entry_with, kind_with, length-with_fields}
use Rattle.prdb_layout.proofs.LaidOut.{whole_same as entries_same}
use Rattle.prdb_lists.proofs.RecordsKeep.{zeros_len}
use Rattle.prdb_finds.specs.Places.{free_blocks, id_place, name_place}
use Rattle.prdb_finds.specs.Records.{AreChains}
use Rattle.db_chains.specs.Visits.{Visits}
use Rattle.prdb_finds.specs.Unchained.{unchained, unlinked}
use Rattle.prdb_finds.proofs.Fields.{entry_unlinked}
use Rattle.prdb_finds.proofs.Lists.{first_or_rest}
use Rattle.prdb_finds.proofs.Taken.{IsMade, free_all, is_made, not_free}
use Rattle.prdb_finds.proofs.Without.{unchained_block, unchained_count, unchained_kind, unchained_len}
use Rattle.prdb_entries.proofs.Entries.{Belongs, IsUnowned, IsWith, each_free, linked_from}
use Rattle.prdb_entries.proofs.Linked.{ById, ByName, Chain, IsChain, IsEntry, IsLinked, Owned, high, links_of, low, next_of, place_of}

-- ---- the block of a new entry

pub new_len : (e : PrEntry) → IsRecord e → length (new_block e) ≡ 192
new_len e is = length-with_fields e (zeros 192) zeros_len is.fields.name_len

new_rest : (e : PrEntry) → IsRecord e → drop 96 (new_block e) ≡ drop 96 (zeros 192)
new_rest e is = behind_name e (zeros 192) zeros_len is.fields.name_len

rest_front : take 16 (drop 96 (zeros 192)) ≡ zeros 16
unfolding zeros
rest_front = refl

rest_own : word_at (drop 96 (zeros 192)) 12 ≡ 0
unfolding zeros
rest_own = refl

rest_next : word_at (drop 96 (zeros 192)) 8 ≡ 0
unfolding zeros
rest_next = refl

word_behind : (block : List ℕ) (p : ℕ) → word_at (drop 96 block) p ≡ word_at block (96 + p)
word_behind block p = ap (λ (b : List ℕ). word_at b 0) (drop-drop p 96 block)

-- it has no words of chains
new_own : (e : PrEntry) → IsRecord e → word_at (new_block e) 108 ≡ 0
new_own e is = sym (word_behind (new_block e) 12) ∙ ap (λ (b : List ℕ). word_at b 12) (new_rest e is) ∙ rest_own

new_next : (e : PrEntry) → IsRecord e → word_at (new_block e) 104 ≡ 0
new_next e is = sym (word_behind (new_block e) 8) ∙ ap (λ (b : List ℕ). word_at b 8) (new_rest e is) ∙ rest_next

blank_own : (b : List ℕ) → 112 ≤ length b → take 16 (drop 96 b) ≡ zeros 16 → blanked 96 16 b ≡ b
unfolding laid
blank_own b long is =
    let behind : drop (96 + length (zeros 16)) b ≡ drop 16 (drop 96 b) =
    ap (λ (n : ℕ). drop (96 + n) b) (length-zeros 16) ∙ sym (drop-drop 16 96 b) in
    changed_laid b (zeros 16) 96 (omega arith)
    ∙ ap (λ (x : List ℕ). take 96 b ++ zeros 16 ++ x) behind
    ∙ ap (λ (x : List ℕ). take 96 b ++ x ++ drop 16 (drop 96 b)) (sym is)
    ∙ append_assoc (take 96 b) (take 16 (drop 96 b)) (drop 16 (drop 96 b))
    ∙ ap (λ (x : List ℕ). take 96 b ++ x) (take-append-drop 16 (drop 96 b))
    ∙ take-append-drop 96 b

pub new_unlinked : (e : PrEntry) → IsRecord e → unlinked (new_block e) ≡ new_block e
new_unlinked e is =
    entry_unlinked (new_block e) (kind_with e (zeros 192))
    ∙ blank_own (new_block e) (omega (arith, new_len e is)) (ap (take 16) (new_rest e is) ∙ rest_front)

-- ---- without the words of chains it is the image with an entry more

cond_insert : (u : List ℕ) (e : PrEntry) (k : ℕ) → 0 < length u → next_block u ≡ k → k < block_count u
    → after_insert e u ≡ with_block k (new_block e) u
unfolding after_insert
cond_insert u e k some is below =
    let same : entries_whole u ≡ u = entries_same u some in
    rw (same, is, lt-ltb k (block_count u) below) refl

cond_added : (u : List ℕ) (e : PrEntry) → 0 < length u → next_block u ≡ block_count u
    → after_insert e u ≡ with_count (block_count u + 1) (with_block (block_count u) (new_block e) u)
unfolding after_insert
cond_added u e some is =
    let same : entries_whole u ≡ u = entries_same u some in
    rw (same, is, le-ltb (block_count u) (block_count u) (omega arith)) refl

pub base_form : (old : List ℕ) (e : PrEntry) (n : ℕ) (base : List ℕ) → IsWhole 2112 old → IsRecord e → IsMade old (new_block e) n base
    → unchained base ≡ after_insert e (unchained old)
base_form old e n base whole is made =
    let u = unchained old in
    let count : block_count u ≡ block_count old = unchained_count old whole in
    let some : 0 < length u = omega (arith, unchained_len old whole) in
    let block = new_unlinked e is in
    ⊎_elim
    (λ (first : (n ≤ block_count old) × (unchained base ≡ with_block (n - 1) (unlinked (new_block e)) u)).
    first.1 ∙ ap (λ (b : List ℕ). with_block (n - 1) b u) block
    ∙ sym (cond_insert u e (n - 1) some made.least (omega (arith, first.0, count, made.taken.some))))
    (λ (new : (n ≡ block_count old + 1)
    × (unchained base ≡ with_count (block_count old + 1) (with_block (block_count old) (unlinked (new_block e)) u))).
    let least : next_block u ≡ block_count u = omega (arith, made.least, new.0, count) in
    new.1 ∙ ap (λ (b : List ℕ). with_count (block_count old + 1) (with_block (block_count old) b u)) block
    ∙ ap (λ (m : ℕ). with_count (m + 1) (with_block m (new_block e) u)) (sym count)
    ∙ sym (cond_added u e some least))
    made.form

-- the entry is in its block
pub base_with : (old : List ℕ) (e : PrEntry) (n : ℕ) (base : List ℕ) → IsWhole 2112 old → IsRecord e → IsMade old (new_block e) n base
    → IsWhole 2112 base → IsWith (unchained old) (unchained base) (n - 1) e
base_with old e n base whole is made there =
    let k = n - 1 in
    let some = made.taken.some in
    let size = made.taken.size in
    let most = made.most in
    let count_u = unchained_count old whole in
    let count_v = unchained_count base there in
    let within : k < block_count base = omega (arith, some, size, whole, most) in
    let own : block_in (unchained base) k ≡ new_block e =
    unchained_block base k there within ∙ ap unlinked made.taken.here ∙ new_unlinked e is in
    record {
      within = omega (arith, within, count_v);
      kind = ap kind_of own ∙ kind_with e (zeros 192);
      entry = ap entry_in own ∙ entry_with e (zeros 192) zeros_len is.fields;
      more = omega (arith, count_u, count_v, size);
      only = λ j below other. omega (arith, below, other, count_u, count_v, some, size, whole, most);
      others = λ j below other.
          let less : j < block_count old = omega (arith, below, count_u) in
          let now : j < block_count base = omega (arith, less, size) in
          unchained_block base j there now
          ∙ ap unlinked (made.taken.others j less other)
          ∙ sym (unchained_block old j whole less);
    }

-- no entry stood there
pub base_new : (old : List ℕ) (e : PrEntry) (n : ℕ) (base : List ℕ) → IsWhole 2112 old → IsMade old (new_block e) n base
    → IsEntry (unchained old) (n - 1) → ⊥
base_new old e n base whole made entry =
    let below : n - 1 < block_count old = omega (arith, entry.below, unchained_count old whole) in
    omega (arith, entry.kind, unchained_kind old (n - 1) whole below, made.free (n - 1) below refl)

-- ---- its chains

abbrev pub Unowned : List ℕ → (k : ℕ) → ℕ → Type 0
Unowned u k = λ j. IsUnowned u j ⊎ (j ≡ k)

-- a chain of the old image begins with the word that it began with
first_stays : (old : List ℕ) (block base : List ℕ) (n : ℕ) (c : Chain) → IsWhole 2112 old → IsMade old block n base
    → IsChain (unchained old) c → (c ≡ Owned (n - 1) → ⊥) → any_word base (place_of c) ≡ any_word old (place_of c)
first_stays old block base n (ByName key) whole made is other =
    made.taken.words (name_place key) (omega arith) (inr (omega arith)) (inr (omega arith))
first_stays old block base n (ById key) whole made is other =
    made.taken.words (id_place key) (omega arith) (inr (omega arith)) (inr (omega arith))
first_stays old block base n (Owned k) whole made is other =
    let below : k < block_count old = omega (arith, is.below, unchained_count old whole) in
    block_word 2112 k 108 old base (omega arith) (made.taken.others k below (λ same. other (ap Owned same)))

old_visits : (old block base : List ℕ) (n : ℕ) (c : Chain) → (are : AreChains old) → IsWhole 2112 old → IsMade old block n base
    → IsChain (unchained old) c → (c ≡ Owned (n - 1) → ⊥) → Visits (links_of c) base (place_of c) (Belongs (unchained old) c)
old_visits old block base n c are whole made is other =
    let v = (linked_from old whole are).chains c is in
    let most = low c in
    let least = high c in
    record {
      words = v.words;
      chain = chain_taken free_blocks (links_of c) block old base (place_of c) n are.free.words v.words free_all
          (not_free (next_of c) (omega arith) (omega arith)) are.free.chain made.taken
          (first_stays old block base n c whole made is other) v.chain;
      only = v.only;
      each = v.each;
    }

own_word : (base : List ℕ) (block : List ℕ) (k p more : ℕ) → p + more ≡ 192 → 4 ≤ more → block_in base k ≡ block
    → any_word base (block_place k + p) ≡ word_at block p
own_word base block k p more size long here =
    sym (in_block 2112 base k p more size long) ∙ ap (λ (b : List ℕ). word_at b p) here

rest_up : (ws : List ℕ) → IsAscending ws → IsAscending (drop 1 ws)
rest_up [] up = tt
rest_up (w ∷ ws) up = up.1

behind_first : (ws : List ℕ) (n rest v : ℕ) → n ≡ unwrap_or (slice_get ws 0) rest → v ≢ n → Contains ws v → Contains (drop 1 ws) v
behind_first [] n rest v is other has = absurd (omega (arith, has.1))
behind_first (w ∷ ws) n rest v is other has =
    ⊎_elim (λ (there : Contains ws v). there) (λ (same : v ≡ w). absurd (other (same ∙ sym is))) (first_or_rest w v ws has)

-- what an image has whose block was taken for an entry
pub record IsBase (old : List ℕ) (e : PrEntry) (n : ℕ) (base : List ℕ) : Type 0 where
  pub some : 0 < n
  pub form : unchained base ≡ after_insert e (unchained old)
  pub with_it : IsWith (unchained old) (unchained base) (n - 1) e
  pub new : IsEntry (unchained old) (n - 1) → ⊥
  pub free : List ℕ
  pub linked : IsLinked base (unchained base) (Belongs (unchained old)) (Unowned (unchained old) (n - 1)) free
  pub up : IsAscending free
  pub each : (k : ℕ) → k < block_count (unchained base) → kind_of (block_in (unchained base) k) ≡ 0 → Contains free (k + 1)

owned_same : (j k : ℕ) → Owned j ≡ Owned k → j ≡ k
owned_same j k same = cc

base_visits : (old : List ℕ) (e : PrEntry) (n : ℕ) (base : List ℕ) (c : Chain) → (are : AreChains old) → IsWhole 2112 old → IsRecord e
    → IsMade old (new_block e) n base → IsWith (unchained old) (unchained base) (n - 1) e → IsChain (unchained base) c
    → Visits (links_of c) base (place_of c) (Belongs (unchained old) c)
base_visits old e n base (ByName key) are whole is made has low_key =
    old_visits old (new_block e) base n (ByName key) are whole made low_key (λ same. absurd cc)
base_visits old e n base (ById key) are whole is made has low_key =
    old_visits old (new_block e) base n (ById key) are whole made low_key (λ same. absurd cc)
base_visits old e n base (Owned k) are whole is made has entry =
    let v = unchained base in
    ⊎_elim
    (λ (same : k ≡ n - 1). record {
      words = [];
      chain = own_word base (new_block e) k 108 84 refl (omega arith)
          (ap (block_in base) same ∙ made.taken.here) ∙ new_own e is;
      only = λ w none. absurd (omega (arith, none.1));
      each = λ w belongs. absurd (base_new old e n base whole made (subst (IsEntry (unchained old)) same belongs.0));
    })
    (λ (other : k ≢ n - 1).
    let less = has.only k entry.below other in
    let was : IsEntry (unchained old) k = record { below = less; kind = sym (ap kind_of (has.others k less other)) ∙ entry.kind } in
    old_visits old (new_block e) base n (Owned k) are whole made was
    (λ same. other (owned_same k (n - 1) same)))
    (cases_eq k (n - 1))

pub is_base : (old : List ℕ) (e : PrEntry) → IsWhole 2112 old → (are : AreChains old) → IsRecord e
    → IsBase old e (next_number free_blocks old) (with_taken free_blocks (new_block e) old)
is_base old e whole are is =
    let n = next_number free_blocks old in
    let base = with_taken free_blocks (new_block e) old in
    let u = unchained old in
    let made = is_made old (new_block e) whole (new_len e is) are.free in
    let some = made.taken.some in
    let size = made.taken.size in
    let most = made.most in
    let there : IsWhole 2112 base = omega (arith, some, size, whole, most) in
    let has = base_with old e n base whole is made there in
    let count = unchained_count base there in
    let here : block_in base (n - 1) ≡ new_block e = made.taken.here in
    let frees = made.taken.free are.free.words are.free.chain in
    record {
      some = some;
      form = base_form old e n base whole is made;
      with_it = has;
      new = base_new old e n base whole made;
      free = drop 1 are.free.words;
      linked = record {
        whole = there;
        same = refl;
        chains = λ c is_c. base_visits old e n base c are whole is made has is_c;
        unused = λ k below kept. ⊎_elim
            (λ (was : IsUnowned u k).
            let other : k ≢ n - 1 = λ same. base_new old e n base whole made (subst (IsEntry u) same was.0) in
            let less : k < block_count old = omega (arith, was.0.below, unchained_count old whole) in
            block_word 2112 k 104 old base (omega arith) (made.taken.others k less other)
            ∙ (linked_from old whole are).unused k was.0.below was)
            (λ (own : k ≡ n - 1).
            own_word base (new_block e) k 104 88 refl (omega arith) (ap (block_in base) own ∙ here) ∙ new_next e is)
            kept;
        free = frees.1;
      };
      up = rest_up are.free.words are.free.ascending;
      each = λ k below kind.
          ⊎_elim
          (λ (same : k ≡ n - 1). absurd (omega (arith, kind, has.kind, ap (λ (j : ℕ). kind_of (block_in (unchained base) j)) same)))
          (λ (other : k ≢ n - 1).
          let less = has.only k below other in
          behind_first are.free.words n (block_count old + 1) (k + 1) frees.0 (λ same. other (omega (arith, same)))
          (each_free old whole are k less (sym (ap kind_of (has.others k less other)) ∙ kind)))
          (cases_eq k (n - 1));
    }
