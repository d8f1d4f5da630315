-- The image after a block was taken for an entry, before it comes into the chains.
use Rattle.std.proofs.Common.{◌≡◌, ◌≢◌, ℕ, ◌+◌, ◌-◌, ◌/◌, ◌<◌, ◌≤◌, inl, inr, ⊎_elim, Bool, cond, List, [], ◌∷◌, length, take, drop, refl, sym, ap, subst, ◌∙◌, arith}
use Rattle.std.specs.Prelude.{slice_get, unwrap_or}
use Rattle.std.specs.List.{Contains}
use Rattle.std.proofs.lemmas.Bool.{cases_eq, eq-eqb, ne_eqb}
use Rattle.std.proofs.lemmas.List.{length-take-le}
use Rattle.db_blocks.specs.Blocks.{IsWhole, block_place, with_block, word_at, kind_of}
use Rattle.db_blocks.specs.Bytes.{number_word, words}
use Rattle.db_blocks.proofs.BlockPlaces.{IsPut, add_block, head_put, laid, put_block}
use Rattle.db_blocks.proofs.Scanned.{count_is}
use Rattle.db_chains.specs.Chains.{HasChain}
use Rattle.db_chains.specs.Changes.{put_word, taken_out}
use Rattle.db_chains.specs.Free.{AreFree, AreNotFree, IsAscending, IsTaken, free_links, next_number, with_new, with_taken}
use Rattle.db_chains.specs.Links.{mark_place, next_place}
use Rattle.db_chains.proofs.Bytes.{StaysBut, word_put}
use Rattle.db_chains.proofs.Changed.{chain_taken_out}
use Rattle.db_chains.proofs.Framed.{block_mark}
use Rattle.db_chains.proofs.Free.{IsOut, is_out, next_room, taken_first, taken_new}
use Rattle.db_chains.proofs.Kept.{chain_taken}
use Rattle.db_chains.proofs.Words.{right, right_names}
use Rattle.db_chains.specs.Visits.{Visits}
use Rattle.vldb_chains.specs.Places.{free_blocks, id_links, name_links}
use Rattle.vldb_entries.specs.declared.entries.VlEntry.{VlEntry}
use Rattle.vldb_entries.specs.Location.{IsRecord, Location}
use Rattle.vldb_entries.specs.Forms.{block_at, block_of, blocks_in, head_of}
use Rattle.vldb_entries.proofs.EntryAgain.{kind_again, length-block}
use Rattle.vldb_records.specs.Records.{IsBlockOf, IsFree, IsIdWord, IsLaidOut, IsNameWord, id_place, name_place, unlinked_head}
use Rattle.db_chains.proofs.Entered.{first_or_rest}
use Rattle.vldb_records.proofs.Fields.{block_len, number_stays}
use Rattle.vldb_records.proofs.HeadSet.{free_are, ids_are, name_are, unlinked_laid}
use Rattle.vldb_records.proofs.Stays.{front_stays, unlinked_first}

-- The block of a number has an entry's bytes. All others are those of the old image, and so are the words of the chains of names and ids;
-- the free blocks but that one stand in their chain.
pub record IsBase (s : Location) (e : VlEntry) (old : List ℕ) (n : ℕ) (base : List ℕ) : Type 0 where
  pub some : 0 < n
  pub whole : IsWhole 3132 base
  pub within : n - 1 < blocks_in base
  pub head : unlinked_head (take 3132 base) ≡ head_of s (blocks_in base)
  pub own : block_at base (n - 1) ≡ block_of s.addresses e
  pub was : n - 1 < blocks_in old → IsFree (block_at old (n - 1))
  pub more : blocks_in old ≤ blocks_in base
  pub only : (j : ℕ) → j < blocks_in base → j ≢ n - 1 → j < blocks_in old
  pub others : (j : ℕ) → j < blocks_in old → j ≢ n - 1 → block_at base j ≡ block_at old j
  pub names : (key : ℕ) → key < 256 → Visits name_links base (name_place key) (IsNameWord s old key)
  pub ids : (key : ℕ) → key < 256 → Visits id_links base (id_place key) (IsIdWord s old key)
  pub free : List ℕ
  pub chain : HasChain (free_links free_blocks) base 16 free
  pub ascending : IsAscending free
  pub each : (j : ℕ) → j < blocks_in old → j ≢ n - 1 → IsFree (block_at old j) → Contains free (j + 1)

-- ---- the free blocks

pub free_all : AreFree free_blocks
free_all = record { links = free_are; first = omega arith; count = omega arith; apart = inr (omega arith); mark = omega arith }

pub names_not_free : AreNotFree free_blocks name_links
names_not_free = record { links = name_are; head = refl; mark = λ same. omega arith }

pub ids_not_free : AreNotFree free_blocks id_links
ids_not_free = record { links = ids_are; head = refl; mark = λ same. omega arith }

-- the block of a word of their chain is free
pub free_word : (old : List ℕ) (s : Location) (v : ℕ) (back : List ℕ) → IsLaidOut old s
    → HasChain (free_links free_blocks) old 16 (v ∷ back) → (0 < v) × (v ≤ blocks_in old) × IsFree (block_at old (v - 1))
free_word old s v back lies chain =
    let l = free_links free_blocks in
    let one : v / 1 ≡ v = omega arith in
    let names = right_names l old v chain.1 in
    let some : 0 < v = omega (arith, names.some) in
    let within : v ≤ blocks_in old = omega (arith, names.block) in
    let below : v - 1 < blocks_in old = omega arith in
    let place : block_place 3132 (v - 1) ≡ mark_place l v = omega (arith, one) in
    let kind : kind_of (block_at old (v - 1)) ≡ 0 =
    block_mark 3132 (v - 1) old ∙ ap (word_at old) place ∙ (right l old v chain.1).mark in (
      some,
      within,
      ⊎_elim (λ (free : IsFree (block_at old (v - 1))). free)
          (λ (of : (f : VlEntry) × IsBlockOf s f (block_at old (v - 1))).
          let is : kind_of (block_at old (v - 1)) ≡ 1 =
          number_stays (block_at old (v - 1)) 0 (block_len old (v - 1) lies.size below) (omega arith) ∙ ap kind_of of.1.1
          ∙ kind_again s.addresses of.0 in absurd (omega (arith, kind, is)))
          (lies.blocks (v - 1) below),
    )

rest_ascending : (ws : List ℕ) → IsAscending ws → IsAscending (drop 1 ws)
rest_ascending [] up = tt
rest_ascending (w ∷ ws) up = up.1

behind_first : (ws : List ℕ) (n rest v : ℕ) → n ≡ unwrap_or (slice_get ws 0) rest → v ≢ n → Contains ws v → Contains (drop 1 ws) v
behind_first [] n rest v is other has = absurd (omega (arith, has.1))
behind_first (w ∷ ws) n rest v is other has =
    ⊎_elim (λ (there : Contains ws v). there) (λ (same : v ≡ w). absurd (other (same ∙ sym is))) (first_or_rest w v ws has.0 has.1 has.2)

-- ---- the chains after a block was taken

base_from : (s : Location) (e : VlEntry) (old : List ℕ) (n : ℕ) (base : List ℕ) → IsLaidOut old s
    → IsTaken free_blocks (block_of s.addresses e) old n base → n ≤ blocks_in old + 1
    → (n ≤ blocks_in old → IsFree (block_at old (n - 1))) → unlinked_head (take 3132 base) ≡ head_of s (blocks_in base)
    → IsBase s e old n base
base_from s e old n base lies taken most free head =
    let some = taken.some in
    let size = taken.size in
    let whole = lies.size in
    let frees = lies.free in
    let chain = taken.free frees.words frees.chain in
    record {
      some = some;
      whole = omega (arith, some, size, whole, most);
      within = omega (arith, some, size, whole, most);
      head = head;
      own = taken.here;
      was = λ less. free (omega (arith, less, some));
      more = omega (arith, size);
      only = λ j less other. omega (arith, less, other, some, size, whole, most);
      others = taken.others;
      names = λ key low.
          let v = lies.names key low in record {
            words = v.words;
            chain = chain_taken free_blocks name_links (block_of s.addresses e) old base (name_place key) n frees.words v.words free_all
                names_not_free frees.chain taken
                (taken.words (name_place key) (omega arith) (inr (omega arith)) (inr (omega arith))) v.chain;
            only = v.only;
            each = v.each;
          };
      ids = λ key low.
          let v = lies.ids key low in record {
            words = v.words;
            chain = chain_taken free_blocks id_links (block_of s.addresses e) old base (id_place key) n frees.words v.words free_all
                ids_not_free frees.chain taken
                (taken.words (id_place key) (omega arith) (inr (omega arith)) (inr (omega arith))) v.chain;
            only = v.only;
            each = v.each;
          };
      free = drop 1 frees.words;
      chain = chain.1;
      ascending = rest_ascending frees.words frees.ascending;
      each = λ j less other is.
          behind_first frees.words n (blocks_in old + 1) (j + 1) chain.0 (λ same. other (omega (arith, same))) (frees.each j less is);
    }

-- ---- a new block

count_head : (s : Location) (old new : ℕ) → laid (head_of s old) 12 (number_word new) ≡ head_of s new
unfolding laid head_of words
count_head s old new = refl

new_head : (s : Location) (old block : List ℕ) → IsLaidOut old s → length block ≡ 192
    → unlinked_head (take 3132 (with_new free_blocks (blocks_in old) block old)) ≡ head_of s (blocks_in old + 1)
unfolding with_new put_word
new_head s old block lies len =
    let count = blocks_in old in
    let front = take 3132 old in
    let mid = with_block 3132 count block old in
    let put : IsPut 3132 count block old mid (count + 1) = add_block 3132 old block count lies.size len in
    let bytes = number_word (count + 1) in
    let set = head_put 3132 mid bytes front (laid front 12 bytes) 12 (count + 1) put.size (omega arith) put.front refl in
    ap unlinked_head set.front
    ∙ unlinked_laid front bytes 12 (length-take-le 3132 old (omega (arith, lies.size))) (inl (omega arith)) (omega arith)
    ∙ ap (λ (h : List ℕ). laid h 12 bytes) lies.head ∙ count_head s count (count + 1)

base_new : (s : Location) (e : VlEntry) (old : List ℕ) → IsLaidOut old s → IsRecord e → word_at old 16 ≡ 0
    → IsBase s e old (blocks_in old + 1) (with_new free_blocks (blocks_in old) (block_of s.addresses e) old)
base_new s e old lies is none =
    let count = blocks_in old in
    let block = block_of s.addresses e in
    let len = length-block s.addresses e is in
    let base = with_new free_blocks count block old in
    let taken = taken_new free_blocks block old count free_all lies.size len none in
    let counted : blocks_in base ≡ count + 1 = omega (arith, taken.size, lies.size) in
    base_from s e old (count + 1) base lies taken (omega arith) (λ less. absurd (omega arith))
    (new_head s old block lies len ∙ ap (head_of s) (sym counted))

-- ---- the first free block

out_head : (old : List ℕ) (count w : ℕ) → length old ≡ block_place 3132 count → word_at old 16 ≡ w → 0 < w → w ≤ count
    → unlinked_head (take 3132 (taken_out (free_links free_blocks) 16 old)) ≡ unlinked_head (take 3132 old)
unfolding taken_out put_word
out_head old count w size is some within =
    let l = free_links free_blocks in
    let front = take 3132 old in
    let v = word_at old 16 in
    let q = next_place l v in
    let bytes = number_word (word_at old q) in
    let room = next_room free_blocks v count free_all (omega (arith, is, some)) (omega (arith, is, within)) in
    let set = head_put 3132 old bytes front (laid front 16 bytes) 16 count size (omega arith) refl refl in
    let one = put_word 16 (word_at old q) old in
    let long : length one ≡ length old = set.size in
    let stays : StaysBut q 4 one (put_word q 0 one) = word_put one q 0 (omega (arith, room.0, size, long)) in
    ap unlinked_head (front_stays q one (put_word q 0 one) stays room.1 (omega (arith, size, long)))
    ∙ ap unlinked_head set.front ∙ unlinked_first front bytes (length-take-le 3132 old (omega (arith, size))) refl

chains_out : (old : List ℕ) (w : ℕ) → word_at old 16 ≡ w → 0 < w → 3132 ≤ length old → (ws : List ℕ)
    → HasChain (free_links free_blocks) old 16 ws
    → HasChain (free_links free_blocks) (taken_out (free_links free_blocks) 16 old) 16 (drop 1 ws)
chains_out old w is some long [] chain = absurd (omega (arith, chain, is, some))
chains_out old w is some long (v ∷ back) chain =
    chain_taken_out (free_links free_blocks) old 16 v [] back free_are (inl (omega arith)) (omega arith) chain

first_is : (old : List ℕ) (w : ℕ) (ws : List ℕ) → word_at old 16 ≡ w → 0 < w → HasChain (free_links free_blocks) old 16 ws
    → (back : List ℕ) × HasChain (free_links free_blocks) old 16 (w ∷ back)
first_is old w [] is some chain = absurd (omega (arith, chain, is, some))
first_is old w (v ∷ back) is some chain =
    (back, subst (λ (x : ℕ). HasChain (free_links free_blocks) old 16 (x ∷ back)) (sym chain.0 ∙ is) chain)

base_first : (s : Location) (e : VlEntry) (old : List ℕ) (w : ℕ) → IsLaidOut old s → IsRecord e
    → word_at old 16 ≡ w → 0 < w
    → IsBase s e old w (with_block 3132 (w - 1) (block_of s.addresses e) (taken_out (free_links free_blocks) 16 old))
base_first s e old w lies record_of is some =
    let l = free_links free_blocks in
    let count = blocks_in old in
    let block = block_of s.addresses e in
    let len = length-block s.addresses e record_of in
    let mid = taken_out l 16 old in
    let base = with_block 3132 (w - 1) block mid in
    let chain = first_is old w lies.free.words is some lies.free.chain in
    let free = free_word old s w chain.0 lies chain.1 in
    let out : IsOut free_blocks old mid w = is_out free_blocks old count w free_all lies.size is some free.1 in
    let taken = taken_first free_blocks block old mid count w free_all lies.size len is some free.1 out
    (chains_out old w is some (omega (arith, lies.size))) in
    let put : IsPut 3132 (w - 1) block mid base count =
    put_block 3132 mid block (w - 1) count (out.size ∙ lies.size) len (omega (arith, some, free.1)) in
    let counted : blocks_in base ≡ count = count_is 3132 base count put.size in
    base_from s e old w base lies taken (omega (arith, free.1)) (λ less. free.2)
    (ap unlinked_head put.front ∙ out_head old count w lies.size is some free.1 ∙ lies.head ∙ ap (head_of s) (sym counted))

pub is_base : (s : Location) (e : VlEntry) (old : List ℕ) → IsLaidOut old s → IsRecord e
    → IsBase s e old (next_number free_blocks old) (with_taken free_blocks (block_of s.addresses e) old)
unfolding with_taken
is_base s e old lies is =
    let w = word_at old 16 in
    let block = block_of s.addresses e in
    let made = with_new free_blocks (blocks_in old) block old in
    let used = with_block 3132 (w - 1) block (taken_out (free_links free_blocks) 16 old) in
    let At : Bool → Type 0 = λ b. IsBase s e old (cond b (blocks_in old + 1) w) (cond b made used) in
    ⊎_elim
    (λ (none : w ≡ 0). subst At (sym (eq-eqb w 0 none)) (base_new s e old lies is none))
    (λ (some : w ≢ 0). subst At (sym (ne_eqb w 0 some)) (base_first s e old w lies is refl (omega (arith, some))))
    (cases_eq w 0)
