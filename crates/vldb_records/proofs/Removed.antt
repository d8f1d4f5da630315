-- The image after an entry was removed holds the database without it.
use Rattle.std.proofs.Common.{◌≡◌, ◌≢◌, ℕ, zero, suc, ◌+◌, ◌-◌, ◌*◌, ◌/◌, ◌%◌, ◌<◌, ◌≤◌, ◌⊎◌, inl, inr, ⊎_elim, true, List, [], ◌∷◌, ◌++◌, Some, None, length, slice_index, take, refl, sym, ap, subst, ◌∙◌, arith}
use Rattle.std.specs.List.{AllByRecursion, Contains}
use Rattle.std.proofs.lemmas.Bool.{cases_eq}
use Rattle.std.proofs.lemmas.List.{length-take-le}
use Rattle.db_blocks.specs.Blocks.{IsWhole, block_place, with_block, word_at, kind_of}
use Rattle.db_blocks.specs.Bytes.{number_word, zeros}
use Rattle.db_blocks.proofs.BlockPlaces.{changed_laid, head_put, laid, put_block}
use Rattle.db_blocks.proofs.Maps.{some_same, under_other}
use Rattle.db_chains.specs.Chains.{HasChain}
use Rattle.db_chains.specs.Changes.{place_above, put_in, put_word}
use Rattle.db_chains.specs.Free.{IsAscending, IsFreed, blank, free_links, put_among, with_freed}
use Rattle.db_chains.specs.Links.{is_right, next_place}
use Rattle.db_chains.specs.Walks.{place_behind}
use Rattle.db_chains.proofs.Bytes.{word_len, word_put}
use Rattle.db_chains.proofs.Changed.{next_within}
use Rattle.db_chains.proofs.Framed.{block_mark}
use Rattle.db_chains.proofs.Freed.{Split, blank_len, split}
use Rattle.db_chains.proofs.Kept.{chain_freed}
use Rattle.db_chains.proofs.Stops.{above_behind}
use Rattle.db_chains.proofs.Words.{in_block, right}
use Rattle.db_chains.specs.Visits.{Visits}
use Rattle.db_chains.proofs.Entered.{visits_as}
use Rattle.vldb_chains.specs.Keys.{id_key}
use Rattle.vldb_chains.specs.Places.{free_blocks, id_links, name_links}
use Rattle.vldb_entries.specs.declared.entries.VlEntry.{VlEntry}
use Rattle.vldb_entries.specs.Location.{IsLocation, Location, without_entry}
use Rattle.vldb_entries.specs.Forms.{block_at, block_of, blocks_in, head_of, name_in}
use Rattle.vldb_entries.proofs.EntryAgain.{backup_again, kind_again, name_again, ro_again, rw_again}
use Rattle.vldb_entries.proofs.Locations.{each_without}
use Rattle.vldb_records.specs.Records.{HasFree, IsBlockOf, IsFree, IsIdWord, IsLaidOut, IsNameWord, IsNumberOf, id_of, id_place, name_place, unlinked, unlinked_free, unlinked_head}
use Rattle.vldb_records.proofs.Fields.{block_len, free_kind, name_stays, number_stays}
use Rattle.vldb_records.proofs.HeadSet.{free_are}
use Rattle.vldb_records.proofs.Inserted.{form_same, not_free}
use Rattle.vldb_records.proofs.Kept.{entries_stay, kind_stays}
use Rattle.db_chains.proofs.Leaving.{all_of, among_all, among_this, place_kind}
use Rattle.db_chains.specs.Keys.{name_key}
use Rattle.vldb_records.proofs.Left.{AreUnused, IsIn, IsStep, Less, LessIds, id_in}
use Rattle.vldb_records.proofs.Stays.{blanked_same, count_same, front_stays, unlinked_first, whole_on}
use Rattle.vldb_records.proofs.Taken.{ids_not_free, names_not_free}

-- ---- the words of a state's chains

pub number_same : (s : Location) (old : List ℕ) (n : ℕ) (f g : VlEntry) → IsLocation s → IsNumberOf s old n f → IsNumberOf s old n g → f ≡ g
number_same s old n f g valid a b =
    form_same s.addresses f g (valid.records f.rw f a.block.0) (valid.hosts f.rw f a.block.0) (valid.records g.rw g b.block.0)
    (valid.hosts g.rw g b.block.0) (sym a.block.1 ∙ b.block.1)

-- the word of an id that an entry has not
abbrev pub IsUnused : (s : Location) → (old : List ℕ) → ℕ → Type 0
IsUnused s old w = (f : VlEntry) × IsNumberOf s old (w / 4) f × (w % 4 < 3) × (id_of (w % 4) f ≡ 0)

unused_are : (s : Location) (old : List ℕ) → IsLaidOut old s → AreUnused old (IsUnused s old)
unused_are s old lies = record {
  whole = lies.size;
  some = λ w u. u.1.some;
  within = λ w u. u.1.within;
  kind = λ w u. u.2;
}

pub id_told : (s : Location) (e : VlEntry) (block : List ℕ) (kind : ℕ) → IsLocation s → s.entry e.rw ≡ Some e → length block ≡ 192
    → unlinked block ≡ block_of s.addresses e → kind < 3 → id_in kind block ≡ id_of kind e
id_told s e block zero valid at size form low =
    number_stays block 8 size (omega arith) ∙ ap (λ (b : List ℕ). word_at b 8) form
    ∙ rw_again s.addresses e (omega (arith, (valid.records e.rw e at).rw))
id_told s e block (suc zero) valid at size form low =
    number_stays block 12 size (omega arith) ∙ ap (λ (b : List ℕ). word_at b 12) form
    ∙ ro_again s.addresses e (omega (arith, (valid.records e.rw e at).ro))
id_told s e block (suc (suc zero)) valid at size form low =
    number_stays block 16 size (omega arith) ∙ ap (λ (b : List ℕ). word_at b 16) form
    ∙ backup_again s.addresses e (omega (arith, (valid.records e.rw e at).backup))
id_told s e block (suc (suc (suc m))) valid at size form low = absurd (omega arith)

-- the block of an entry stands in the chains of its name and its ids
pub is_in : (s : Location) (old : List ℕ) (n : ℕ) (e : VlEntry) (block : List ℕ) → IsLocation s → IsLaidOut old s
    → IsNumberOf s old n e → block ≡ block_at old (n - 1)
    → IsIn (IsUnused s old) old (IsNameWord s old) (IsIdWord s old) n block
is_in s old n e block valid lies number at =
    let size : length block ≡ 192 = ap length at ∙ block_len old (n - 1) lies.size (omega (arith, number.some, number.within)) in
    let form : unlinked block ≡ block_of s.addresses e = ap unlinked at ∙ number.block.1 in
    let named : name_in block ≡ e.name =
    name_stays block size ∙ ap name_in form ∙ name_again s.addresses e (valid.records e.rw e number.block.0) in
    record {
      are = unused_are s old lies;
      name = record { entry = e; number = number; keyed = ap name_key (sym named) };
      some = λ kind w block_is rest low is.
          let own : id_of (w % 4) e ≡ id_in kind block =
          ap (λ (c : ℕ). id_of c e) rest ∙ sym (id_told s e block kind valid number.block.0 size form low) in record {
            entry = e;
            number = subst (λ (m : ℕ). IsNumberOf s old m e) (sym block_is) number;
            kind = omega (arith, rest, low);
            some = λ no. is (sym own ∙ no);
            keyed = ap id_key own;
          };
      none = λ kind w block_is rest low no j word_of.
          let own : id_of (w % 4) e ≡ id_in kind block =
          ap (λ (c : ℕ). id_of c e) rest ∙ sym (id_told s e block kind valid number.block.0 size form low) in
          let same = number_same s old (w / 4) word_of.entry e valid word_of.number
          (subst (λ (m : ℕ). IsNumberOf s old m e) (sym block_is) number) in
          word_of.some (ap (λ (x : VlEntry). id_of (w % 4) x) same ∙ own ∙ no);
      one_name = λ a b w x y.
          sym x.keyed ∙ ap (λ (f : VlEntry). name_key f.name) (number_same s old w x.entry y.entry valid x.number y.number) ∙ y.keyed;
      one_id = λ a b w x y.
          sym x.keyed
          ∙ ap (λ (f : VlEntry). id_key (id_of (w % 4) f)) (number_same s old (w / 4) x.entry y.entry valid x.number y.number) ∙ y.keyed;
      never = λ j w x u.
          x.some (ap (λ (f : VlEntry). id_of (w % 4) f) (number_same s old (w / 4) x.entry u.0 valid x.number u.1) ∙ u.3);
    }

pub first_step : (s : Location) (old : List ℕ) (lies : IsLaidOut old s)
    → IsStep (IsUnused s old) lies.free.words old (IsNameWord s old) (IsIdWord s old) old
first_step s old lies = record {
  kept = entries_stay old;
  names = lies.names;
  ids = lies.ids;
  free = lies.free.chain;
  unused = λ w u.
      let k = w / 4 - 1 in
      let o = 40 + 4 * (w % 4) in
      let low = u.2 in
      sym (in_block 3132 old k o (192 - o) (omega arith) (omega arith))
      ∙ lies.unused k u.0 (omega (arith, u.1.some, u.1.within)) u.1.block (w % 4) low u.3;
}

-- ---- the bytes after a block was freed

free_same_bytes : (a b : List ℕ) → length a ≡ 192 → length b ≡ 192
    → ((i : ℕ) → i < 192 → (i < 4) ⊎ (8 ≤ i) → slice_index a i ≡ slice_index b i) → unlinked_free a ≡ unlinked_free b
unfolding unlinked_free
free_same_bytes a b size_a size_b same = blanked_same 4 4 a b (omega arith) size_a size_b same

blank_free : IsFree (blank free_blocks)
unfolding unlinked_free zeros laid
blank_free = changed_laid (blank free_blocks) (zeros 4) 4 (omega (arith, blank_len free_blocks)) ∙ refl

head_word_put : (image : List ℕ) (p v : ℕ) → IsWhole 3132 image → (p ≡ 16) ⊎ ((3132 ≤ p) × (p + 4 ≤ length image))
    → unlinked_head (take 3132 (put_word p v image)) ≡ unlinked_head (take 3132 image)
unfolding put_word
head_word_put image p v whole place =
    let front = take 3132 image in
    let bytes = number_word v in
    ⊎_elim
    (λ (first : p ≡ 16).
    let set = head_put 3132 image bytes front (laid front 16 bytes) 16 (blocks_in image) whole (omega arith) refl refl in
    ap (λ (q : ℕ). unlinked_head (take 3132 (put_word q v image))) first
    ∙ ap unlinked_head set.front ∙ unlinked_first front bytes (length-take-le 3132 image (omega (arith, whole))) refl)
    (λ (behind : (3132 ≤ p) × (p + 4 ≤ length image)).
    ap unlinked_head (front_stays p image (put_word p v image) (word_put image p v behind.1) behind.0 (omega (arith, whole))))
    place

freed_place : (image : List ℕ) (front back : List ℕ) → IsWhole 3132 image → HasChain (free_links free_blocks) image 16 (front ++ back)
    → (place_behind (free_links free_blocks) 16 front ≡ 16)
    ⊎ ((3132 ≤ place_behind (free_links free_blocks) 16 front) × (place_behind (free_links free_blocks) 16 front + 4 ≤ length image))
freed_place image front back whole chain =
    let l = free_links free_blocks in
    ⊎_elim (λ (first : place_behind l 16 front ≡ 16). inl first)
    (λ (behind : (v : ℕ) × (place_behind l 16 front ≡ next_place l v) × (is_right l image v ≡ true) × Contains front v).
    let room = (next_within l image behind.0 free_are behind.2).0 in
    let is = behind.1 in
    inr (omega arith, omega arith))
    (place_kind l image 16 front back chain)

freed_head : (image : List ℕ) (n : ℕ) (ws : List ℕ) → IsWhole 3132 image → 0 < n → n ≤ blocks_in image
    → HasChain (free_links free_blocks) image 16 ws → IsAscending ws → AllByRecursion (λ v. v ≢ n) ws
    → unlinked_head (take 3132 (with_freed free_blocks n image)) ≡ unlinked_head (take 3132 image)
unfolding with_freed put_in
freed_head image n ws whole some within chain up others =
    let l = free_links free_blocks in
    let mid = with_block 3132 (n - 1) (blank free_blocks) image in
    let put = put_block 3132 image (blank free_blocks) (n - 1) (blocks_in image) whole (blank_len free_blocks) (omega arith) in
    let size : length mid ≡ length image = put.size ∙ sym whole in
    let s : Split n ws = split n ws up others in
    let old : HasChain l image 16 (s.below ++ s.above) = subst (HasChain l image 16) (sym s.whole) chain in
    let p = place_behind l 16 s.below in
    let is : place_above l 16 n image ≡ p = above_behind l image 16 n s.below s.above free_are.step old s.less s.more in
    let q = next_place l n in
    let low : 3132 ≤ q = omega arith in
    let room : q + 4 ≤ length mid = omega (arith, size, whole) in
    let x = word_at mid p in
    let one = put_word q x mid in
    let one_size : length one ≡ length mid = word_len mid q x room in
    let mid_whole : IsWhole 3132 mid = whole_on image mid whole size in
    let place = freed_place image s.below s.above whole old in
    subst (λ (r : ℕ). unlinked_head (take 3132 (put_word r n (put_word q (word_at mid r) mid))) ≡ unlinked_head (take 3132 image)) (sym is)
    (head_word_put one p n (whole_on mid one mid_whole one_size)
    (⊎_elim (λ (first : p ≡ 16). inl first)
    (λ (behind : (3132 ≤ p) × (p + 4 ≤ length image)). inr (behind.0, omega (arith, behind.1, one_size, size))) place)
    ∙ head_word_put mid q x mid_whole (inr (low, room)) ∙ ap unlinked_head put.front)

-- ---- an image without an entry

-- The block of a number, which was an entry's, is free; all others are as they were but for the words of chains.
record IsGone (s : Location) (e : VlEntry) (old : List ℕ) (k : ℕ) (new : List ℕ) : Type 0 where
  valid : IsLocation s
  lies : IsLaidOut old s
  within : k < blocks_in old
  was : IsBlockOf s e (block_at old k)
  size : length new ≡ length old
  free : IsFree (block_at new k)
  frees : (j : ℕ) → j < blocks_in old → j ≢ k → IsFree (block_at old j) → IsFree (block_at new j)
  forms : (j : ℕ) → j < blocks_in old → j ≢ k → kind_of (block_at old j) ≡ 1 → unlinked (block_at new j) ≡ unlinked (block_at old j)

pub own_kind : (s : Location) (f : VlEntry) (old : List ℕ) (j : ℕ) → IsWhole 3132 old → j < blocks_in old → IsBlockOf s f (block_at old j)
    → kind_of (block_at old j) ≡ 1
own_kind s f old j whole below of =
    number_stays (block_at old j) 0 (block_len old j whole below) (omega arith) ∙ ap kind_of of.1 ∙ kind_again s.addresses f

block_there : (s : Location) (e f : VlEntry) (old : List ℕ) (k : ℕ) (new : List ℕ) (j : ℕ) → IsGone s e old k new → j < blocks_in old
    → j ≢ k → IsBlockOf s f (block_at old j) → IsBlockOf (without_entry e.rw s) f (block_at new j)
block_there s e f old k new j gone below other of =
    let differ : f.rw ≢ e.rw = λ same.
    let is : f ≡ e = some_same (sym of.0 ∙ ap s.entry same ∙ gone.was.0) in
    other (gone.lies.one j k e below gone.within (subst (λ (x : VlEntry). IsBlockOf s x (block_at old j)) is of) gone.was) in (
      under_other e.rw f.rw None s.entry differ ∙ of.0,
      gone.forms j below other (own_kind s f old j gone.lies.size below of) ∙ of.1,
    )

entry_back : (s : Location) (own x : ℕ) (f : VlEntry) → (without_entry own s).entry x ≡ Some f → (x ≢ own) × (s.entry x ≡ Some f)
entry_back s own x f at = each_without s own (λ y g. (y ≢ own) × (s.entry y ≡ Some g)) (λ y g there other. (other, there)) x f at

block_back : (s : Location) (e f : VlEntry) (old : List ℕ) (k : ℕ) (new : List ℕ) (j : ℕ) → IsGone s e old k new → j < blocks_in old
    → IsBlockOf (without_entry e.rw s) f (block_at new j) → (j ≢ k) × IsBlockOf s f (block_at old j)
block_back s e f old k new j gone below of =
    let whole = whole_on old new gone.lies.size gone.size in
    let count : blocks_in new ≡ blocks_in old = count_same old new gone.size in
    let inside : j < blocks_in new = omega arith in
    let other : j ≢ k = λ same.
    not_free s.addresses new j f whole inside (subst (λ (i : ℕ). IsFree (block_at new i)) (sym same) gone.free) of.1 in
    let back = entry_back s e.rw f.rw f of.0 in (
      other,
      ⊎_elim
          (λ (free : IsFree (block_at old j)). absurd (not_free s.addresses new j f whole inside (gone.frees j below other free) of.1))
          (λ (found : (g : VlEntry) × IsBlockOf s g (block_at old j)).
          let g = found.0 in
          let form : block_of s.addresses g ≡ block_of s.addresses f =
          sym found.1.1 ∙ sym (gone.forms j below other (own_kind s g old j gone.lies.size below found.1)) ∙ of.1 in
          let same : g ≡ f = form_same s.addresses g f (gone.valid.records g.rw g found.1.0) (gone.valid.hosts g.rw g found.1.0)
          (gone.valid.records f.rw f back.1) (gone.valid.hosts f.rw f back.1) form in
          subst (λ (x : VlEntry). IsBlockOf s x (block_at old j)) same found.1)
          (gone.lies.blocks j below),
    )

number_there : (s : Location) (e f : VlEntry) (old : List ℕ) (k : ℕ) (new : List ℕ) (n : ℕ) → IsGone s e old k new → n - 1 ≢ k
    → IsNumberOf s old n f → IsNumberOf (without_entry e.rw s) new n f
number_there s e f old k new n gone other is =
    let count : blocks_in new ≡ blocks_in old = count_same old new gone.size in record {
      some = is.some;
      within = omega (arith, is.within);
      block = block_there s e f old k new (n - 1) gone (omega (arith, is.some, is.within)) other is.block;
    }

number_back : (s : Location) (e f : VlEntry) (old : List ℕ) (k : ℕ) (new : List ℕ) (n : ℕ) → IsGone s e old k new
    → IsNumberOf (without_entry e.rw s) new n f → (n - 1 ≢ k) × IsNumberOf s old n f
number_back s e f old k new n gone is =
    let count : blocks_in new ≡ blocks_in old = count_same old new gone.size in
    let back = block_back s e f old k new (n - 1) gone (omega (arith, is.some, is.within)) is.block in
    (back.0, record { some = is.some; within = omega (arith, is.within); block = back.1 })

name_there : (s : Location) (e : VlEntry) (old : List ℕ) (k n : ℕ) (new : List ℕ) (key w : ℕ) → n ≡ k + 1 → IsGone s e old k new
    → Less n (IsNameWord s old) key w → IsNameWord (without_entry e.rw s) new key w
name_there s e old k n new key w next gone has =
    let is = has.0 in
    let other = has.1 in record {
      entry = is.entry;
      number = number_there s e is.entry old k new w gone (λ same. other (omega (arith, is.number.some))) is.number;
      keyed = is.keyed;
    }

name_back : (s : Location) (e : VlEntry) (old : List ℕ) (k n : ℕ) (new : List ℕ) (key w : ℕ) → n ≡ k + 1 → IsGone s e old k new
    → IsNameWord (without_entry e.rw s) new key w → Less n (IsNameWord s old) key w
name_back s e old k n new key w next gone is =
    let back = number_back s e is.entry old k new w gone is.number in
    (record { entry = is.entry; number = back.1; keyed = is.keyed }, λ same. back.0 (omega arith))

id_there : (s : Location) (e : VlEntry) (old : List ℕ) (k n : ℕ) (new : List ℕ) (key w : ℕ) → n ≡ k + 1 → IsGone s e old k new
    → LessIds n (IsIdWord s old) key w → IsIdWord (without_entry e.rw s) new key w
id_there s e old k n new key w next gone has =
    let is = has.0.0.0 in
    let no_rw = has.0.0.1 in
    let no_ro = has.0.1 in
    let no_backup = has.1 in record {
      entry = is.entry;
      number = number_there s e is.entry old k new (w / 4) gone
          (λ same. omega (arith, same, is.number.some, is.kind, no_rw, no_ro, no_backup)) is.number;
      kind = is.kind;
      some = is.some;
      keyed = is.keyed;
    }

id_back : (s : Location) (e : VlEntry) (old : List ℕ) (k n : ℕ) (new : List ℕ) (key w : ℕ) → n ≡ k + 1 → IsGone s e old k new
    → IsIdWord (without_entry e.rw s) new key w → LessIds n (IsIdWord s old) key w
id_back s e old k n new key w next gone is =
    let back = number_back s e is.entry old k new (w / 4) gone is.number in
    let was : IsIdWord s old key w =
    record { entry = is.entry; number = back.1; kind = is.kind; some = is.some; keyed = is.keyed } in
    (((was, λ same. back.0 (omega arith)), λ same. back.0 (omega arith)), λ same. back.0 (omega arith))

-- ---- the image after the block was freed

-- A block that went out of the chains of its entry, and was freed then.
pub record IsFreeing (s : Location) (e : VlEntry) (old : List ℕ) (n : ℕ) (mid new : List ℕ) : Type 0 where
  pub valid : IsLocation s
  pub lies : IsLaidOut old s
  pub number : IsNumberOf s old n e
  pub step : IsStep (IsUnused s old) lies.free.words old (Less n (IsNameWord s old)) (LessIds n (IsIdWord s old)) mid
  pub freed : IsFreed free_blocks lies.free.words n mid new
  pub made : new ≡ with_freed free_blocks n mid

-- no word of the free chain names a block that is an entry's
pub none_free : (old : List ℕ) (at n : ℕ) (ws : List ℕ) → kind_of (block_at old (n - 1)) ≡ 1 → HasChain (free_links free_blocks) old at ws
    → AllByRecursion (λ v. v ≢ n) ws
none_free old at n [] kind chain = tt
none_free old at n (v ∷ ws) kind chain = (
  λ same.
      let place : block_place 3132 (v / 1 - 1) ≡ block_place 3132 (n - 1) = omega arith in
      let mark : kind_of (block_at old (n - 1)) ≡ 0 =
      block_mark 3132 (n - 1) old ∙ ap (word_at old) (sym place) ∙ (right (free_links free_blocks) old v chain.1).mark in
      omega (arith, mark, kind),
  none_free old (next_place (free_links free_blocks) v) n ws kind chain.2,
)

gone_from : (s : Location) (e : VlEntry) (old : List ℕ) (n : ℕ) (mid new : List ℕ) → IsFreeing s e old n mid new
    → IsGone s e old (n - 1) new
gone_from s e old n mid new f =
    let kept = f.step.kept in
    let whole = f.lies.size in
    let size : length new ≡ length old = f.freed.size ∙ kept.size in
    let whole_mid = whole_on old mid whole kept.size in
    let whole_new = whole_on old new whole size in
    let count_mid : blocks_in mid ≡ blocks_in old = count_same old mid kept.size in
    let count_new : blocks_in new ≡ blocks_in old = count_same old new size in
    let within : n - 1 < blocks_in old = omega (arith, f.number.some, f.number.within) in
    record {
      valid = f.valid;
      lies = f.lies;
      within = within;
      was = f.number.block;
      size = size;
      free = free_same_bytes (block_at new (n - 1)) (blank free_blocks) (block_len new (n - 1) whole_new (omega arith))
          (blank_len free_blocks) f.freed.blank ∙ blank_free;
      frees = λ j below other free.
          let kind : kind_of (block_at old j) ≡ 0 = free_kind (block_at old j) (block_len old j whole below) free in
          free_same_bytes (block_at new j) (block_at mid j) (block_len new j whole_new (omega arith))
          (block_len mid j whole_mid (omega arith)) (λ i less beside. f.freed.kept j i (omega arith) other less beside)
          ∙ ap unlinked_free (kept.others j below (λ one. omega (arith, kind, one))) ∙ free;
      forms = λ j below other kind.
          let mark : word_at mid (block_place 3132 j) ≡ 1 = sym (block_mark 3132 j mid) ∙ kind_stays old mid j whole kept below ∙ kind in
          ap unlinked (f.freed.others j (omega arith) other (λ none. omega (arith, mark, none))) ∙ kept.forms j below;
    }

names_freed : (s : Location) (e : VlEntry) (old : List ℕ) (n : ℕ) (mid new : List ℕ) (key : ℕ) → IsFreeing s e old n mid new → key < 256
    → Visits name_links new (name_place key) (Less n (IsNameWord s old) key)
names_freed s e old n mid new key f low =
    let v = f.step.names key low in
    let some = f.number.some in
    let others : AllByRecursion (λ w. w / 1 - 1 ≢ n - 1) v.words = all_of (λ w. w / 1 - 1 ≢ n - 1) v.words (λ w has same.
    let word_of = v.only w has in
    let is = word_of.0.number.some in
    word_of.1 (omega arith)) in record {
      words = v.words;
      chain = chain_freed free_blocks name_links mid new (name_place key) n f.lies.free.words v.words names_not_free f.freed others
          (f.freed.words (name_place key) (omega arith) (inr (omega arith))) v.chain;
      only = v.only;
      each = v.each;
    }

ids_freed : (s : Location) (e : VlEntry) (old : List ℕ) (n : ℕ) (mid new : List ℕ) (key : ℕ) → IsFreeing s e old n mid new → key < 256
    → Visits id_links new (id_place key) (LessIds n (IsIdWord s old) key)
ids_freed s e old n mid new key f low =
    let v = f.step.ids key low in
    let some = f.number.some in
    let others : AllByRecursion (λ w. w / 4 - 1 ≢ n - 1) v.words = all_of (λ w. w / 4 - 1 ≢ n - 1) v.words (λ w has same.
    let word_of = v.only w has in
    let is = word_of.0.0.0.number.some in
    let kind = word_of.0.0.0.kind in
    let no_rw = word_of.0.0.1 in
    let no_ro = word_of.0.1 in
    let no_backup = word_of.1 in
    omega (arith, same, is, kind, no_rw, no_ro, no_backup)) in record {
      words = v.words;
      chain = chain_freed free_blocks id_links mid new (id_place key) n f.lies.free.words v.words ids_not_free f.freed others
          (f.freed.words (id_place key) (omega arith) (inr (omega arith))) v.chain;
      only = v.only;
      each = v.each;
    }

unused_freed : (s : Location) (e g : VlEntry) (old : List ℕ) (n : ℕ) (mid new : List ℕ) (j kind : ℕ) → IsFreeing s e old n mid new
    → j < blocks_in old → j ≢ n - 1 → IsBlockOf s g (block_at old j) → kind < 3 → id_of kind g ≡ 0
    → word_at (block_at new j) (40 + 4 * kind) ≡ 0
unused_freed s e g old n mid new j kind f below other of low none =
    let kept = f.step.kept in
    let count_mid : blocks_in mid ≡ blocks_in old = count_same old mid kept.size in
    let mark : word_at mid (block_place 3132 j) ≡ 1 =
    sym (block_mark 3132 j mid) ∙ kind_stays old mid j f.lies.size kept below ∙ own_kind s g old j f.lies.size below of in
    let w = 4 * (j + 1) + kind in
    let block : w / 4 ≡ j + 1 = omega arith in
    let rest : w % 4 ≡ kind = omega arith in
    let back : w / 4 - 1 ≡ j = omega arith in
    let place : block_place 3132 j + (40 + 4 * kind) ≡ next_place id_links w = omega arith in
    ap (λ (b : List ℕ). word_at b (40 + 4 * kind)) (f.freed.others j (omega arith) other (λ zero_mark. omega (arith, mark, zero_mark)))
    ∙ in_block 3132 mid j (40 + 4 * kind) (192 - (40 + 4 * kind)) (omega arith) (omega arith)
    ∙ ap (word_at mid) place
    ∙ f.step.unused w (
      g,
      record {
        some = omega arith;
        within = omega arith;
        block = subst (λ (i : ℕ). IsBlockOf s g (block_at old i)) (sym back) of;
      },
      omega arith,
      ap (λ (c : ℕ). id_of c g) rest ∙ none,
    )

free_freed : (s : Location) (e : VlEntry) (old : List ℕ) (n : ℕ) (mid new : List ℕ) → IsFreeing s e old n mid new → HasFree new
free_freed s e old n mid new f =
    let gone = gone_from s e old n mid new f in
    let ws = f.lies.free.words in
    let whole = whole_on old new f.lies.size gone.size in
    let count : blocks_in new ≡ blocks_in old = count_same old new gone.size in
    let others = none_free old 16 n ws (own_kind s e old (n - 1) f.lies.size gone.within f.number.block) f.lies.free.chain in
    let p : Split n ws = split n ws f.lies.free.ascending others in
    record {
      words = put_among n ws;
      chain = f.freed.free;
      ascending = f.freed.ascending;
      each = λ j below free.
          let less : j < blocks_in old = omega arith in
          ⊎_elim
          (λ (same : j ≡ n - 1).
          let is : n ≡ j + 1 = omega (arith, f.number.some) in
          subst (λ (m : ℕ). Contains (put_among n ws) m) is
          (subst (λ (vs : List ℕ). Contains vs n) p.put (among_this n p.below p.above)))
          (λ (other : j ≢ n - 1). ⊎_elim
          (λ (was : IsFree (block_at old j)).
          subst (λ (vs : List ℕ). Contains vs (j + 1)) p.put (among_all n (j + 1) p.below p.above
          (subst (λ (vs : List ℕ). Contains vs (j + 1)) (sym p.whole) (f.lies.free.each j less was))))
          (λ (of : (g : VlEntry) × IsBlockOf s g (block_at old j)).
          absurd (not_free s.addresses new j of.0 whole below free
          (gone.forms j less other (own_kind s of.0 old j f.lies.size less of.1) ∙ of.1.1)))
          (f.lies.blocks j less))
          (cases_eq j (n - 1));
    }

head_without : (s : Location) (own count : ℕ) → head_of s count ≡ head_of (without_entry own s) count
unfolding head_of
head_without s own count = refl

only_freed : (s : Location) (e g : VlEntry) (old : List ℕ) (n : ℕ) (mid new : List ℕ) (x : ℕ) → IsFreeing s e old n mid new
    → (without_entry e.rw s).entry x ≡ Some g
    → (j : ℕ) × (j < blocks_in new) × IsBlockOf (without_entry e.rw s) g (block_at new j)
only_freed s e g old n mid new x f at =
    let gone = gone_from s e old n mid new f in
    let count : blocks_in new ≡ blocks_in old = count_same old new gone.size in
    let back = entry_back s e.rw x g at in
    let o = f.lies.only x g back.1 in
    let less = o.1 in
    let was = f.number.block in
    let other : o.0 ≢ n - 1 = λ same.
    let is : g ≡ e = form_same s.addresses g e (f.valid.records x g back.1) (f.valid.hosts x g back.1) (f.valid.records e.rw e was.0)
    (f.valid.hosts e.rw e was.0) (sym o.2.1 ∙ ap (λ (i : ℕ). unlinked (block_at old i)) same ∙ was.1) in
    back.0 (sym (f.valid.ids x g back.1) ∙ ap (λ (y : VlEntry). y.rw) is) in
    (o.0, omega arith, block_there s e g old (n - 1) new o.0 gone o.1 other o.2)

pub laid_removed : (s : Location) (e : VlEntry) (old : List ℕ) (n : ℕ) (mid new : List ℕ) → IsFreeing s e old n mid new
    → IsLaidOut new (without_entry e.rw s)
laid_removed s e old n mid new f =
    let gone = gone_from s e old n mid new f in
    let t = without_entry e.rw s in
    let k = n - 1 in
    let next : n ≡ k + 1 = omega (arith, f.number.some) in
    let kept = f.step.kept in
    let count : blocks_in new ≡ blocks_in old = count_same old new gone.size in
    let count_mid : blocks_in mid ≡ blocks_in old = count_same old mid kept.size in
    let others = none_free old 16 n f.lies.free.words (own_kind s e old k f.lies.size gone.within f.number.block) f.lies.free.chain in
    let head = ap (λ (i : List ℕ). unlinked_head (take 3132 i)) f.made
    ∙ freed_head mid n f.lies.free.words (whole_on old mid f.lies.size kept.size) f.number.some (omega (arith, f.number.within))
    f.step.free f.lies.free.ascending others in
    record {
      size = whole_on old new f.lies.size gone.size;
      head = head ∙ kept.head ∙ f.lies.head ∙ head_without s e.rw (blocks_in old) ∙ ap (head_of t) (sym count);
      blocks = λ j below.
          let less : j < blocks_in old = omega arith in
          ⊎_elim (λ (same : j ≡ k). inl (subst (λ (i : ℕ). IsFree (block_at new i)) (sym same) gone.free))
          (λ (other : j ≢ k). ⊎_elim
          (λ (free : IsFree (block_at old j)). inl (gone.frees j less other free))
          (λ (of : (g : VlEntry) × IsBlockOf s g (block_at old j)). inr (of.0, block_there s e of.0 old k new j gone less other of.1))
          (f.lies.blocks j less))
          (cases_eq j k);
      only = λ x g at. only_freed s e g old n mid new x f at;
      one = λ i j g in_i in_j at_i at_j.
          let less_i : i < blocks_in old = omega arith in
          let less_j : j < blocks_in old = omega arith in
          f.lies.one i j g less_i less_j (block_back s e g old k new i gone less_i at_i).1
          (block_back s e g old k new j gone less_j at_j).1;
      names = λ key low. visits_as name_links new (name_place key) (Less n (IsNameWord s old) key) (IsNameWord t new key)
          (λ w has. name_there s e old k n new key w next gone has) (λ w is. name_back s e old k n new key w next gone is)
          (names_freed s e old n mid new key f low);
      ids = λ key low. visits_as id_links new (id_place key) (LessIds n (IsIdWord s old) key) (IsIdWord t new key)
          (λ w has. id_there s e old k n new key w next gone has) (λ w is. id_back s e old k n new key w next gone is)
          (ids_freed s e old n mid new key f low);
      unused = λ j g below is kind low none.
          let less : j < blocks_in old = omega arith in
          let back = block_back s e g old k new j gone less is in
          unused_freed s e g old n mid new j kind f less back.0 back.1 low none;
      free = free_freed s e old n mid new f;
    }
