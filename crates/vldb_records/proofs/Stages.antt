-- The chains of an image while a block comes in front of those of its entry, one after the other.
use Rattle.std.proofs.Common.{◌≡◌, ◌≢◌, ℕ, ◌+◌, ◌*◌, ◌/◌, ◌%◌, ◌<◌, ◌≤◌, ◌⊎◌, inl, inr, ⊎_elim, true, Bool, cond, List, length, refl, sym, ap, subst, ◌∙◌, arith}
use Rattle.std.proofs.lemmas.Bool.{cases_eq, cases_order, eq-eqb, ne_eqb}
use Rattle.db_blocks.specs.Blocks.{IsWhole, block_count, block_place, word_at, kind_of}
use Rattle.db_chains.specs.declared.links.Links.{Links}
use Rattle.db_chains.specs.Chains.{HasChain}
use Rattle.db_chains.specs.Changes.{put_in}
use Rattle.db_chains.specs.Free.{free_links}
use Rattle.db_chains.specs.Links.{is_right, mark_place, next_place}
use Rattle.db_chains.specs.Others.{AreApart, AreOtherSorts}
use Rattle.db_chains.proofs.Entered.{put_keyed, put_other_sort, put_other_visits, visits_as}
use Rattle.db_chains.proofs.Framed.{block_mark}
use Rattle.db_chains.proofs.Words.{right_from}
use Rattle.db_chains.specs.Visits.{Visits}
use Rattle.db_chains.specs.Keys.{name_key}
use Rattle.vldb_chains.specs.Keys.{id_key}
use Rattle.vldb_chains.specs.Places.{free_blocks, id_links, name_links}
use Rattle.vldb_entries.specs.declared.entries.VlEntry.{VlEntry}
use Rattle.vldb_entries.specs.Forms.{block_at, blocks_in}
use Rattle.vldb_records.specs.Records.{id_of, id_place, name_place, unlinked}
use Rattle.vldb_records.specs.Changes.{entered, first_by_id}
use Rattle.vldb_records.proofs.Fields.{block_len, number_stays}
use Rattle.vldb_records.proofs.HeadSet.{free_are, ids_are, name_are}
use Rattle.vldb_records.proofs.Stays.{KeepsForms, count_same, keeps_put_in, keeps_then, whole_on, word_put_in}

-- the block of a number is an entry's, but for its words of chains
pub record IsOwnBlock (k : ℕ) (base : List ℕ) : Type 0 where
  pub whole : IsWhole 3132 base
  pub within : k < blocks_in base
  pub kind : kind_of (unlinked (block_at base k)) ≡ 1

-- The chains of names and of ids have these words, that of the free blocks these, and of an id that the entry has not, the next word is 0.
pub record IsStage (e : VlEntry) (k : ℕ) (fs base : List ℕ) (N D : ℕ → ℕ → Type 0) (image : List ℕ) : Type 0 where
  pub kept : KeepsForms k base image
  pub names : (key : ℕ) → key < 256 → Visits name_links image (name_place key) (N key)
  pub ids : (key : ℕ) → key < 256 → Visits id_links image (id_place key) (D key)
  pub free : HasChain (free_links free_blocks) image 16 fs
  pub unused : (kind : ℕ) → kind < 3 → id_of kind e ≡ 0 → word_at image (block_place 3132 k + (40 + 4 * kind)) ≡ 0

-- the words with one more in the chain of a name's key, and in that of an id, if it is one
abbrev pub AlsoName : (key n : ℕ) → (N : ℕ → ℕ → Type 0) → ℕ → ℕ → Type 0
AlsoName key n N = λ j w. N j w ⊎ ((j ≡ key) × (w ≡ n))

abbrev pub AlsoId : (id n : ℕ) → (D : ℕ → ℕ → Type 0) → ℕ → ℕ → Type 0
AlsoId id n D = λ j w. D j w ⊎ ((id ≢ 0) × (j ≡ id_key id) × (w ≡ n))

-- ---- a word of the block may stand in a chain

own_mark : (k : ℕ) (base image : List ℕ) → IsOwnBlock k base → KeepsForms k base image → word_at image (block_place 3132 k) ≡ 1
own_mark k base image own kept =
    let size : length (block_at image k) ≡ 192 =
    block_len image k (whole_on base image own.whole kept.size) (omega (arith, own.within, count_same base image kept.size)) in
    sym (block_mark 3132 k image) ∙ number_stays (block_at image k) 0 size (omega arith) ∙ ap kind_of (kept.forms k own.within) ∙ own.kind

right_here : (l : Links) (k w : ℕ) (base image : List ℕ) → IsOwnBlock k base → KeepsForms k base image → l.head ≡ 3132 → l.mark ≡ 1
    → w / l.step ≡ k + 1 → w % l.step < l.kinds → is_right l image w ≡ true
right_here l k w base image own kept head mark block kind =
    let count : blocks_in image ≡ blocks_in base = count_same base image kept.size in
    let place : mark_place l w ≡ block_place 3132 k = omega (arith, head, block) in
    right_from l image (blocks_in image) w (ap (λ (h : ℕ). block_count h image) head) (omega (arith, block))
    (omega (arith, block, count, own.within)) kind (ap (word_at image) place ∙ own_mark k base image own kept ∙ sym mark)

-- ---- places of chains

pub names_apart : (a b : ℕ) → a ≢ b → AreApart (name_place a) (name_place b)
names_apart a b other =
    ⊎_elim (λ (same : a ≡ b). absurd (other same))
    (λ (order : (a < b) ⊎ (b < a)). ⊎_elim (λ (less : a < b). inl (omega arith)) (λ (more : b < a). inr (omega arith)) order)
    (cases_order a b)

pub ids_apart : (a b : ℕ) → a ≢ b → AreApart (id_place a) (id_place b)
ids_apart a b other =
    ⊎_elim (λ (same : a ≡ b). absurd (other same))
    (λ (order : (a < b) ⊎ (b < a)). ⊎_elim (λ (less : a < b). inl (omega arith)) (λ (more : b < a). inr (omega arith)) order)
    (cases_order a b)

pub names_ids : (a b : ℕ) → a < 256 → b < 256 → AreOtherSorts name_links id_links (name_place a) (id_place b)
names_ids a b low_a low_b = record {
  head = refl;
  next = inl (omega arith);
  places = inl (omega arith);
  first = inl (omega arith);
  second = inl (omega arith);
}

pub ids_names : (a b : ℕ) → a < 256 → b < 256 → AreOtherSorts id_links name_links (id_place a) (name_place b)
ids_names a b low_a low_b = record {
  head = refl;
  next = inr (omega arith);
  places = inr (omega arith);
  first = inl (omega arith);
  second = inl (omega arith);
}

pub names_free : (a : ℕ) → a < 256 → AreOtherSorts name_links (free_links free_blocks) (name_place a) 16
names_free a low = record {
  head = refl;
  next = inr (omega arith);
  places = inr (omega arith);
  first = inl (omega arith);
  second = inl (omega arith);
}

pub ids_free : (a : ℕ) → a < 256 → AreOtherSorts id_links (free_links free_blocks) (id_place a) 16
ids_free a low = record {
  head = refl;
  next = inr (omega arith);
  places = inr (omega arith);
  first = inl (omega arith);
  second = inl (omega arith);
}

-- ---- the chain of the name

pub stage_name : (e : VlEntry) (k : ℕ) (fs base : List ℕ) (N D : ℕ → ℕ → Type 0) (image : List ℕ) (key : ℕ) → IsOwnBlock k base
    → IsStage e k fs base N D image → key < 256 → ((j : ℕ) → N j (k + 1) → ⊥)
    → IsStage e k fs base (AlsoName key (k + 1) N) D (put_in name_links (name_place key) (k + 1) image)
stage_name e k fs base N D image key own stage low never =
    let n = k + 1 in
    let at = name_place key in
    let whole = whole_on base image own.whole stage.kept.size in
    let within : k < blocks_in image = omega (arith, own.within, count_same base image stage.kept.size) in
    let block : n / 1 ≡ k + 1 = omega arith in
    let rest : n % 1 ≡ 0 = omega arith in
    let right = right_here name_links k n base image own stage.kept refl refl block (omega arith) in
    let long : 3132 ≤ length image = omega (arith, whole) in
    let place : next_place name_links n ≡ block_place 3132 k + 36 = omega (arith, block, rest) in
    let chain = stage.names key low in
    record {
      kept = keeps_then k base image (put_in name_links at n image) stage.kept
          (keeps_put_in name_links image at n k 36 whole within (omega arith) (omega arith) place (omega arith) (omega arith));
      names = put_keyed name_links image name_place key n N name_are (λ j below. omega arith) names_apart long right
          never low stage.names;
      ids = λ j below.
          put_other_visits name_links id_links image at (id_place j) n chain.words (D j) name_are ids_are (names_ids key j low below)
          (inl (omega arith)) (omega (arith, long)) (omega (arith, long, below)) right chain.chain (stage.ids j below);
      free = put_other_sort name_links (free_links free_blocks) image at 16 n chain.words fs name_are free_are (names_free key low)
          (inl (omega arith)) (omega (arith, long)) (omega (arith, long)) right chain.chain stage.free;
      unused = λ kind less none.
          word_put_in name_links image at n (block_place 3132 k + (40 + 4 * kind)) (omega arith) (omega (arith, whole, within, place))
          (omega (arith, whole, within)) (inr (omega arith)) (inr (omega (arith, place))) ∙ stage.unused kind less none;
    }

-- ---- the chain of an id

stage_put : (e : VlEntry) (k : ℕ) (fs base : List ℕ) (N D : ℕ → ℕ → Type 0) (image : List ℕ) (id kind n : ℕ) → IsOwnBlock k base
    → IsStage e k fs base N D image → kind < 3 → id_of kind e ≡ id → id ≢ 0 → n / 4 ≡ k + 1 → n % 4 ≡ kind → ((j : ℕ) → D j n → ⊥)
    → IsStage e k fs base N (AlsoId id n D) (put_in id_links (id_place (id_key id)) n image)
stage_put e k fs base N D image id kind n own stage low is some block rest never =
    let key = id_key id in
    let at = id_place key in
    let key_low : key < 256 = omega arith in
    let whole = whole_on base image own.whole stage.kept.size in
    let within : k < blocks_in image = omega (arith, own.within, count_same base image stage.kept.size) in
    let right = right_here id_links k n base image own stage.kept refl refl block (omega (arith, rest)) in
    let long : 3132 ≤ length image = omega (arith, whole) in
    let place : next_place id_links n ≡ block_place 3132 k + (40 + 4 * kind) = omega (arith, block, rest) in
    let chain = stage.ids key key_low in
    let first : at + 4 ≤ 3132 = omega arith in
    record {
      kept = keeps_then k base image (put_in id_links at n image) stage.kept
          (keeps_put_in id_links image at n k (40 + 4 * kind) whole within (omega arith) first place (omega arith) (omega arith));
      names = λ j below.
          put_other_visits id_links name_links image at (name_place j) n chain.words (N j) ids_are name_are (ids_names key j key_low below)
          (inl first) (omega (arith, long)) (omega (arith, long, below)) right chain.chain (stage.names j below);
      ids = λ j below.
          visits_as id_links (put_in id_links at n image) (id_place j) (λ w. D j w ⊎ ((j ≡ key) × (w ≡ n))) (AlsoId id n D j)
          (λ w in_chain. ⊎_elim (λ (old : D j w). inl old) (λ (new : (j ≡ key) × (w ≡ n)). inr (some, new.0, new.1)) in_chain)
          (λ w belongs. ⊎_elim (λ (old : D j w). inl old)
          (λ (new : (id ≢ 0) × (j ≡ id_key id) × (w ≡ n)). inr (new.1, new.2)) belongs)
          (put_keyed id_links image id_place key n D ids_are (λ i less. omega arith) ids_apart long right never key_low
          stage.ids j below);
      free = put_other_sort id_links (free_links free_blocks) image at 16 n chain.words fs ids_are free_are (ids_free key key_low)
          (inl first) (omega (arith, long)) (omega (arith, long)) right chain.chain stage.free;
      unused = λ other less none.
          let differ : other ≢ kind = λ same. some (sym is ∙ ap (λ (c : ℕ). id_of c e) (sym same) ∙ none) in
          word_put_in id_links image at n (block_place 3132 k + (40 + 4 * other)) (omega arith) (omega (arith, whole, within, place))
          (omega (arith, whole, within)) (inr (omega arith))
          (⊎_elim (λ (same : other ≡ kind). absurd (differ same))
          (λ (order : (other < kind) ⊎ (kind < other)).
          ⊎_elim (λ (before : other < kind). inl (omega (arith, place))) (λ (behind : kind < other). inr (omega (arith, place))) order)
          (cases_order other kind))
          ∙ stage.unused other less none;
    }

stage_no_id : (e : VlEntry) (k : ℕ) (fs base : List ℕ) (N D : ℕ → ℕ → Type 0) (image : List ℕ) (id n : ℕ) → id ≡ 0
    → IsStage e k fs base N D image → IsStage e k fs base N (AlsoId id n D) image
stage_no_id e k fs base N D image id n none stage = record {
  kept = stage.kept;
  names = stage.names;
  ids = λ j below.
      visits_as id_links image (id_place j) (D j) (AlsoId id n D j) (λ w old. inl old)
      (λ w belongs. ⊎_elim (λ (old : D j w). old) (λ (new : (id ≢ 0) × (j ≡ id_key id) × (w ≡ n)). absurd (new.0 none)) belongs)
      (stage.ids j below);
  free = stage.free;
  unused = stage.unused;
}

pub stage_id : (e : VlEntry) (k : ℕ) (fs base : List ℕ) (N D : ℕ → ℕ → Type 0) (image : List ℕ) (id kind n : ℕ) → IsOwnBlock k base
    → IsStage e k fs base N D image → kind < 3 → id_of kind e ≡ id → n / 4 ≡ k + 1 → n % 4 ≡ kind → ((j : ℕ) → D j n → ⊥)
    → IsStage e k fs base N (AlsoId id n D) (first_by_id id n image)
stage_id e k fs base N D image id kind n own stage low is block rest never =
    let At : Bool → Type 0 = λ b. IsStage e k fs base N (AlsoId id n D) (cond b image (put_in id_links (id_place (id_key id)) n image)) in
    ⊎_elim
    (λ (none : id ≡ 0). subst At (sym (eq-eqb id 0 none)) (stage_no_id e k fs base N D image id n none stage))
    (λ (some : id ≢ 0). subst At (sym (ne_eqb id 0 some))
    (stage_put e k fs base N D image id kind n own stage low is some block rest never))
    (cases_eq id 0)

-- ---- all chains of the entry

abbrev pub AlsoIds : (e : VlEntry) → (n : ℕ) → (D : ℕ → ℕ → Type 0) → ℕ → ℕ → Type 0
AlsoIds e n D = AlsoId e.backup (4 * n + 2) (AlsoId e.ro (4 * n + 1) (AlsoId e.rw (4 * n) D))

pub stage_entered : (e : VlEntry) (k : ℕ) (fs base : List ℕ) (N D : ℕ → ℕ → Type 0) (image : List ℕ) → IsOwnBlock k base
    → IsStage e k fs base N D image → ((j : ℕ) → N j (k + 1) → ⊥) → ((j w : ℕ) → D j w → w / 4 ≡ k + 1 → ⊥)
    → IsStage e k fs base (AlsoName (name_key e.name) (k + 1) N) (AlsoIds e (k + 1) D) (entered (k + 1) e image)
unfolding entered
stage_entered e k fs base N D image own stage no_name no_id =
    let n = k + 1 in
    let N1 = AlsoName (name_key e.name) n N in
    let D1 = AlsoId e.rw (4 * n) D in
    let D2 = AlsoId e.ro (4 * n + 1) D1 in
    let a = put_in name_links (name_place (name_key e.name)) n image in
    let b = first_by_id e.rw (4 * n) a in
    let c = first_by_id e.ro (4 * n + 1) b in
    let named = stage_name e k fs base N D image (name_key e.name) own stage (omega arith) no_name in
    let first = stage_id e k fs base N1 D a e.rw 0 (4 * n) own named (omega arith) refl (omega arith) (omega arith)
    (λ j has. no_id j (4 * n) has (omega arith)) in
    let second = stage_id e k fs base N1 D1 b e.ro 1 (4 * n + 1) own first (omega arith) refl (omega arith) (omega arith)
    (λ j has. ⊎_elim (λ (old : D j (4 * n + 1)). no_id j (4 * n + 1) old (omega arith))
    (λ (new : (e.rw ≢ 0) × (j ≡ id_key e.rw) × (4 * n + 1 ≡ 4 * n)). omega (arith, new.2)) has) in
    stage_id e k fs base N1 D2 c e.backup 2 (4 * n + 2) own second (omega arith) refl (omega arith) (omega arith)
    (λ j has. ⊎_elim
    (λ (front : D1 j (4 * n + 2)). ⊎_elim (λ (old : D j (4 * n + 2)). no_id j (4 * n + 2) old (omega arith))
    (λ (new : (e.rw ≢ 0) × (j ≡ id_key e.rw) × (4 * n + 2 ≡ 4 * n)). omega (arith, new.2)) front)
    (λ (new : (e.ro ≢ 0) × (j ≡ id_key e.ro) × (4 * n + 2 ≡ 4 * n + 1)). omega (arith, new.2)) has)
