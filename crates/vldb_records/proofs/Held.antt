-- The image after another next volume id or other addresses holds the database after it.
use Rattle.std.proofs.Common.{◌≡◌, ℕ, ◌+◌, ◌-◌, ◌*◌, ◌/◌, ◌%◌, ◌<◌, ◌≤◌, ◌^◌, ◌⊎◌, inl, inr, ⊎_elim, true, false, eqb, List, [], ◌∷◌, ◌++◌, Option, Some, None, length, take, drop, refl, sym, ap, subst, ◌∙◌, append_assoc, arith}
use Rattle.std.specs.List.{flat_map}
use Rattle.std.specs.Option.{option_map}
use Rattle.std.proofs.lemmas.Bool.{cases_Bool, eqb-true}
use Rattle.std.proofs.lemmas.List.{drop_at, length-append, length-take-le, take_at}
use Rattle.ubik_types.specs.Image.{changed}
use Rattle.ubik_types.specs.declared.images.Change.TheVariants.{Put}
use Rattle.db_blocks.specs.Blocks.{word_at}
use Rattle.db_blocks.specs.Bytes.{number_word, word, words, zeros}
use Rattle.db_blocks.proofs.BlockPlaces.{head_put, laid}
use Rattle.db_blocks.proofs.Maps.{some_same}
use Rattle.db_blocks.proofs.Lengths.{length-zeros}
use Rattle.db_chains.proofs.Bytes.{put_stays, word_stays}
use Rattle.db_chains.specs.Keys.{name_key}
use Rattle.vldb_chains.specs.Keys.{id_key}
use Rattle.vldb_chains.specs.Places.{id_links, name_links}
use Rattle.vldb_entries.specs.declared.entries.VlEntry.{VlEntry}
use Rattle.vldb_entries.specs.Location.{Location, IsLocation, MayBePlaces, relocated, with_next_volume, with_places}
use Rattle.vldb_entries.specs.Forms.{block_at, block_of, blocks_in, head_of, next_in, whole}
use Rattle.vldb_records.specs.Changes.{after_set_next, after_set_places}
use Rattle.vldb_entries.proofs.HeadRead.{length-words, whole_same}
use Rattle.vldb_entries.proofs.Locations.{location_next}
use Rattle.vldb_entries.proofs.Relocated.{location_places, same_block}
use Rattle.vldb_records.specs.Records.{Holds, IsBlockOf, IsFree, IsIdWord, IsLaidOut, IsNameWord, IsNumberOf, id_of, id_place, name_place, unlinked, unlinked_head}
use Rattle.vldb_records.proofs.HeadTold.{laid_next}
use Rattle.vldb_records.proofs.HeadSet.{free_same, ids_are, name_are, unlinked_laid, visits_same}

-- an image that holds a database is not empty, read whole
pub holds_from : (image : List ℕ) (s : Location) → IsLocation s → IsLaidOut image s → Holds image s
holds_from image s valid laid_out =
    let same : whole image ≡ image = whole_same image (omega (arith, laid_out.size)) in
    record { valid = valid; laid = subst (λ (i : List ℕ). IsLaidOut i s) (sym same) laid_out }

-- ---- bytes laid in the head, which stand in no chain

record IsHeadSet (old new made : List ℕ) : Type 0 where
  size : length new ≡ length old
  count : blocks_in new ≡ blocks_in old
  head : unlinked_head (take 3132 new) ≡ made
  same : (k : ℕ) → k < blocks_in old → block_at new k ≡ block_at old k
  free : word_at new 16 ≡ word_at old 16
  firsts : (p : ℕ) → 1084 ≤ p → p + 4 ≤ 3132 → word_at new p ≡ word_at old p

head_set : (old : List ℕ) (s : Location) (bytes : List ℕ) (p : ℕ) (made : List ℕ) → IsLaidOut old s → (p + length bytes ≤ 16) ⊎ (20 ≤ p)
    → p + length bytes ≤ 1084 → laid (head_of s (blocks_in old)) p bytes ≡ made → IsHeadSet old (changed old (Put p bytes)) made
head_set old s bytes p made lies beside within is =
    let head = take 3132 old in
    let long : 3132 ≤ length old = omega (arith, lies.size) in
    let put = head_put 3132 old bytes head (laid head p bytes) p (blocks_in old) lies.size (omega arith) refl refl in
    let stays = put_stays old bytes p (omega arith) in
    record {
      size = put.size;
      count = ap (λ (n : ℕ). (n - 3132) / 192) put.size;
      head = ap unlinked_head put.front ∙ unlinked_laid head bytes p (length-take-le 3132 old long) beside within
          ∙ ap (λ (h : List ℕ). laid h p bytes) lies.head ∙ is;
      same = put.others;
      free = word_stays p (length bytes) 16 old (changed old (Put p bytes)) stays (omega arith)
          (⊎_elim (λ (a : p + length bytes ≤ 16). inr a) (λ (b : 20 ≤ p). inl b) beside);
      firsts = λ q from below. word_stays p (length bytes) q old (changed old (Put p bytes)) stays (omega arith) (inr (omega arith));
    }

-- ---- the same entries, read otherwise

-- the entries of one state are those of another one, each read in this way
record ReadsAs (s t : Location) (f : VlEntry → VlEntry) : Type 0 where
  own : (e : VlEntry) → (f e).rw ≡ e.rw
  name : (e : VlEntry) → (f e).name ≡ e.name
  ids : (kind : ℕ) (e : VlEntry) → id_of kind (f e) ≡ id_of kind e
  there : (rw_id : ℕ) (e : VlEntry) → s.entry rw_id ≡ Some e → t.entry rw_id ≡ Some (f e)
  back : (rw_id : ℕ) (y : VlEntry) → t.entry rw_id ≡ Some y → (e : VlEntry) × (s.entry rw_id ≡ Some e) × (y ≡ f e)
  form : (rw_id : ℕ) (e : VlEntry) → s.entry rw_id ≡ Some e → block_of t.addresses (f e) ≡ block_of s.addresses e

block_there : (s t : Location) (f : VlEntry → VlEntry) (old new : List ℕ) (e : VlEntry) → ReadsAs s t f → new ≡ old → IsBlockOf s e old
    → IsBlockOf t (f e) new
block_there s t f old new e reads same is =
    (ap t.entry (reads.own e) ∙ reads.there e.rw e is.0, ap unlinked same ∙ is.1 ∙ sym (reads.form e.rw e is.0))

block_back : (s t : Location) (f : VlEntry → VlEntry) (old new : List ℕ) (y : VlEntry) → ReadsAs s t f → new ≡ old → IsBlockOf t y new
    → (e : VlEntry) × (y ≡ f e) × IsBlockOf s e old
block_back s t f old new y reads same is =
    let b = reads.back y.rw y is.0 in
    let own : b.0.rw ≡ y.rw = sym (reads.own b.0) ∙ ap (λ (x : VlEntry). x.rw) (sym b.2) in
    let at : s.entry b.0.rw ≡ Some b.0 = ap s.entry own ∙ b.1 in (
      b.0,
      b.2,
      (at, ap unlinked (sym same) ∙ is.1 ∙ ap (block_of t.addresses) b.2 ∙ reads.form b.0.rw b.0 at),
    )

number_there : (s t : Location) (f : VlEntry → VlEntry) (old new head : List ℕ) (n : ℕ) (e : VlEntry) → ReadsAs s t f
    → IsHeadSet old new head
    → IsNumberOf s old n e → IsNumberOf t new n (f e)
number_there s t f old new head n e reads set is = record {
  some = is.some;
  within = omega (arith, is.within, set.count);
  block = block_there s t f (block_at old (n - 1)) (block_at new (n - 1)) e reads (set.same (n - 1) (omega
      (arith, is.some, is.within))) is.block;
}

number_back : (s t : Location) (f : VlEntry → VlEntry) (old new head : List ℕ) (n : ℕ) (y : VlEntry) → ReadsAs s t f
    → IsHeadSet old new head
    → IsNumberOf t new n y → (e : VlEntry) × (y ≡ f e) × IsNumberOf s old n e
number_back s t f old new head n y reads set is =
    let less : n - 1 < blocks_in old = omega (arith, is.some, is.within, set.count) in
    let b = block_back s t f (block_at old (n - 1)) (block_at new (n - 1)) y reads (set.same (n - 1) less) is.block in
    (b.0, b.1, record { some = is.some; within = omega (arith, is.within, set.count); block = b.2 })

name_there : (s t : Location) (f : VlEntry → VlEntry) (old new head : List ℕ) (key w : ℕ) → ReadsAs s t f → IsHeadSet old new head
    → IsNameWord s old key w → IsNameWord t new key w
name_there s t f old new head key w reads set is = record {
  entry = f is.entry;
  number = number_there s t f old new head w is.entry reads set is.number;
  keyed = ap name_key (reads.name is.entry) ∙ is.keyed;
}

name_back : (s t : Location) (f : VlEntry → VlEntry) (old new head : List ℕ) (key w : ℕ) → ReadsAs s t f → IsHeadSet old new head
    → IsNameWord t new key w → IsNameWord s old key w
name_back s t f old new head key w reads set is =
    let b = number_back s t f old new head w is.entry reads set is.number in record {
      entry = b.0;
      number = b.2;
      keyed = ap name_key (sym (reads.name b.0) ∙ ap (λ (x : VlEntry). x.name) (sym b.1)) ∙ is.keyed;
    }

id_there : (s t : Location) (f : VlEntry → VlEntry) (old new head : List ℕ) (key w : ℕ) → ReadsAs s t f → IsHeadSet old new head
    → IsIdWord s old key w → IsIdWord t new key w
id_there s t f old new head key w reads set is =
    let same = reads.ids (w % 4) is.entry in record {
      entry = f is.entry;
      number = number_there s t f old new head (w / 4) is.entry reads set is.number;
      kind = is.kind;
      some = λ none. is.some (sym same ∙ none);
      keyed = ap id_key same ∙ is.keyed;
    }

id_back : (s t : Location) (f : VlEntry → VlEntry) (old new head : List ℕ) (key w : ℕ) → ReadsAs s t f → IsHeadSet old new head
    → IsIdWord t new key w → IsIdWord s old key w
id_back s t f old new head key w reads set is =
    let b = number_back s t f old new head (w / 4) is.entry reads set is.number in
    let same : id_of (w % 4) b.0 ≡ id_of (w % 4) is.entry =
    sym (reads.ids (w % 4) b.0) ∙ ap (λ (x : VlEntry). id_of (w % 4) x) (sym b.1) in record {
      entry = b.0;
      number = b.2;
      kind = is.kind;
      some = λ none. is.some (sym same ∙ none);
      keyed = ap id_key same ∙ is.keyed;
    }

-- two entries that are read alike stand under one read-write id
one_read : (s t : Location) (f : VlEntry → VlEntry) (old : List ℕ) (j k : ℕ) (a b y : VlEntry) → ReadsAs s t f → IsLaidOut old s
    → j < blocks_in old
    → k < blocks_in old → y ≡ f a → y ≡ f b → IsBlockOf s a (block_at old j) → IsBlockOf s b (block_at old k) → j ≡ k
one_read s t f old j k a b y reads lies in_j in_k is_a is_b at_j at_k =
    let own : a.rw ≡ b.rw = sym (reads.own a) ∙ ap (λ (x : VlEntry). x.rw) (sym is_a ∙ is_b) ∙ reads.own b in
    let same : b ≡ a = some_same (sym at_k.0 ∙ ap s.entry (sym own) ∙ at_j.0) in
    lies.one j k a in_j in_k at_j (subst (λ (x : VlEntry). IsBlockOf s x (block_at old k)) same at_k)

head_laid : (old new : List ℕ) (s t : Location) (f : VlEntry → VlEntry) → ReadsAs s t f → IsLaidOut old s
    → IsHeadSet old new (head_of t (blocks_in old)) → IsLaidOut new t
head_laid old new s t f reads lies set =
    let head = head_of t (blocks_in old) in
    let less : (k : ℕ) → k < blocks_in new → k < blocks_in old = λ k below. omega (arith, below, set.count) in record {
      size = set.size ∙ lies.size ∙ ap (λ (n : ℕ). 3132 + 192 * n) (sym set.count);
      head = set.head ∙ ap (head_of t) (sym set.count);
      blocks = λ k below. ⊎_elim
          (λ (free : IsFree (block_at old k)). inl (subst IsFree (sym (set.same k (less k below))) free))
          (λ (is : (e : VlEntry) × IsBlockOf s e (block_at old k)).
          inr (f is.0, block_there s t f (block_at old k) (block_at new k) is.0 reads (set.same k (less k below)) is.1))
          (lies.blocks k (less k below));
      only = λ rw_id y at.
          let b = reads.back rw_id y at in
          let o = lies.only rw_id b.0 b.1 in (
            o.0,
            omega (arith, o.1, set.count),
            subst (λ (x : VlEntry). IsBlockOf t x (block_at new o.0)) (sym b.2)
                (block_there s t f (block_at old o.0) (block_at new o.0) b.0 reads (set.same o.0 o.1) o.2),
          );
      one = λ j k y in_j in_k is_j is_k.
          let a = block_back s t f (block_at old j) (block_at new j) y reads (set.same j (less j in_j)) is_j in
          let b = block_back s t f (block_at old k) (block_at new k) y reads (set.same k (less k in_k)) is_k in
          one_read s t f old j k a.0 b.0 y reads lies (less j in_j) (less k in_k) a.1 b.1 a.2 b.2;
      names = λ key low. visits_same name_links old new (name_place key) (IsNameWord s old key)
          (IsNameWord t new key) name_are refl set.size
          (set.firsts (name_place key) (omega arith) (omega arith)) set.same
          (λ w is. name_there s t f old new head key w reads set is) (λ w is. name_back s t f old new head key w reads set is)
          (lies.names key low);
      ids = λ key low. visits_same id_links old new (id_place key) (IsIdWord s old key) (IsIdWord t new key) ids_are refl set.size
          (set.firsts (id_place key) (omega arith) (omega arith)) set.same
          (λ w is. id_there s t f old new head key w reads set is) (λ w is. id_back s t f old new head key w reads set is)
          (lies.ids key low);
      unused = λ k y below is kind low gone.
          let b = block_back s t f (block_at old k) (block_at new k) y reads (set.same k (less k below)) is in
          ap (λ (x : List ℕ). word_at x (40 + 4 * kind)) (set.same k (less k below))
          ∙ lies.unused k b.0 (less k below) b.2 kind low (sym (reads.ids kind b.0) ∙ ap (λ (x : VlEntry). id_of kind x) (sym b.1) ∙ gone);
      free = free_same old new set.size set.free set.same lies.free;
    }

-- ---- the next volume id

next_head : (s : Location) (id n : ℕ) → laid (head_of s n) 8 (word id) ≡ head_of (with_next_volume id s) n
unfolding laid head_of words
next_head s id n = refl

next_reads : (s : Location) (id : ℕ) → ReadsAs s (with_next_volume id s) (λ e. e)
next_reads s id = record {
  own = λ e. refl;
  name = λ e. refl;
  ids = λ kind e. refl;
  there = λ rw_id e at. at;
  back = λ rw_id y at. (y, at, refl);
  form = λ rw_id e at. refl;
}

next_set : (image : List ℕ) (s : Location) (id : ℕ) → IsLaidOut image s
    → IsLaidOut (changed image (Put 8 (word id))) (with_next_volume id s)
next_set image s id lies =
    head_laid image (changed image (Put 8 (word id))) s (with_next_volume id s) (λ e. e) (next_reads s id) lies
    (head_set image s (word id) 8 (head_of (with_next_volume id s) (blocks_in image)) lies (inl (omega arith)) (omega arith)
    (next_head s id (blocks_in image)))

next_own : (s : Location) (n : ℕ) → head_of s n ≡ head_of (with_next_volume s.next_volume s) n
unfolding head_of
next_own s n = refl

next_kept : (image : List ℕ) (s : Location) (id : ℕ) → IsLaidOut image s → s.next_volume ≡ id → IsLaidOut image (with_next_volume id s)
next_kept image s id lies same =
    let own = lies.head ∙ next_own s (blocks_in image) ∙ ap (λ (n : ℕ). head_of (with_next_volume n s) (blocks_in image)) same in
    head_laid image image s (with_next_volume id s) (λ e. e) (next_reads s id) lies
    record { size = refl; count = refl; head = own; same = λ k below. refl; free = refl; firsts = λ p from below. refl }

pub holds_next : (image : List ℕ) (s : Location) (id : ℕ) → Holds image s → id < 2 ^ 32
    → Holds (after_set_next id image) (with_next_volume id s)
unfolding after_set_next
holds_next image s id holds low =
    let old = whole image in
    let valid = location_next s id holds.valid low in
    let told : next_in old ≡ s.next_volume = laid_next image s holds in
    ⊎_elim
    (λ (same : eqb (next_in old) id ≡ true).
    rw same (record { valid = valid; laid = next_kept old s id holds.laid (sym told ∙ eqb-true (next_in old) id same) }))
    (λ (other : eqb (next_in old) id ≡ false).
    rw other (holds_from (changed old (Put 8 (word id))) (with_next_volume id s) valid (next_set old s id holds.laid)))
    (cases_Bool (eqb (next_in old) id))

-- ---- other addresses of the places

length-words_of : (xs : List ℕ) → length (words xs) ≡ 4 * length xs
unfolding words
length-words_of xs = length-words xs

places_head : (s : Location) (new : List ℕ) (n : ℕ) → length s.addresses ≡ 255 → length new ≡ 255
    → laid (head_of s n) 64 (words new) ≡ head_of (with_places new s) n
unfolding laid head_of words
places_head s new n old_size new_size =
    let numbers : List ℕ = flat_map word (0x564C4442 ∷ 1 ∷ s.next_volume ∷ []) ++ number_word n in
    let front : List ℕ = numbers ++ zeros 48 in
    let was : List ℕ = flat_map word s.addresses in
    let is : List ℕ = flat_map word new in
    let behind : List ℕ = zeros 2048 in
    let size : length front ≡ 64 = omega (arith, length-append numbers (zeros 48), length-zeros 48) in
    let taken : take 64 ((front ++ was) ++ behind) ≡ front =
    ap (take 64) (append_assoc front was behind) ∙ take_at front (was ++ behind) 64 size in
    let dropped : drop (64 + length is) ((front ++ was) ++ behind) ≡ behind =
    drop_at (front ++ was) behind (64 + length is)
    (omega (arith, length-append front was, length-words s.addresses, length-words new)) in
    ap (λ (x : List ℕ). (x ++ is) ++ drop (64 + length is) ((front ++ was) ++ behind)) taken
    ∙ ap (λ (x : List ℕ). (front ++ is) ++ x) dropped

mapped : (f : VlEntry → VlEntry) (o : Option VlEntry) (y : VlEntry) → option_map f o ≡ Some y → (e : VlEntry) × (o ≡ Some e) × (y ≡ f e)
mapped f None y is = absurd cc
mapped f (Some e) y is = (e, refl, sym (some_same is))

places_reads : (s : Location) (new : List ℕ) → IsLocation s → MayBePlaces new s → ReadsAs s (with_places new s) (relocated s.addresses new)
places_reads s new valid may = record {
  own = λ e. refl;
  name = λ e. refl;
  ids = λ kind e. refl;
  there = λ rw_id e at. ap (option_map (relocated s.addresses new)) at;
  back = λ rw_id y at. mapped (relocated s.addresses new) (s.entry rw_id) y at;
  form = λ rw_id e at. same_block s new rw_id e valid may at;
}

pub holds_places : (image : List ℕ) (s : Location) (new : List ℕ) → Holds image s → MayBePlaces new s
    → Holds (after_set_places new image) (with_places new s)
unfolding after_set_places
holds_places image s new holds may =
    let old = whole image in
    let made = changed old (Put 64 (words new)) in
    let t = with_places new s in
    let len : length (words new) ≡ 1020 = omega (arith, length-words_of new, may.places) in
    holds_from made t (location_places s new holds.valid may)
    (head_laid old made s t (relocated s.addresses new) (places_reads s new holds.valid may) holds.laid
    (head_set old s (words new) 64 (head_of t (blocks_in old)) holds.laid (inr (omega arith)) (omega arith)
    (places_head s new (blocks_in old) holds.valid.places may.places)))
