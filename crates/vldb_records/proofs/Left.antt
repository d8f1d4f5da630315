-- The chains of an image while a block goes out of those of its entry, one after the other.
use Rattle.std.proofs.Common.{◌≡◌, ◌≢◌, ℕ, ◌+◌, ◌-◌, ◌*◌, ◌/◌, ◌%◌, ◌<◌, ◌≤◌, ◌⊎◌, inl, inr, ⊎_elim, Bool, cond, List, length, sym, subst, ◌∙◌, arith}
use Rattle.std.specs.Prelude.{◌==◌, if◌then◌else◌}
use Rattle.std.proofs.lemmas.Bool.{cases_eq, cases_order, eq-eqb, ne_eqb}
use Rattle.db_blocks.specs.Blocks.{IsWhole, word_at}
use Rattle.db_chains.specs.Chains.{HasChain}
use Rattle.db_chains.specs.Changes.{without}
use Rattle.db_chains.specs.Ends.{HasWord}
use Rattle.db_chains.specs.Free.{free_links}
use Rattle.db_chains.specs.Links.{next_place}
use Rattle.db_chains.proofs.Apart.{blocks_apart}
use Rattle.db_chains.proofs.Bytes.{IsApart}
use Rattle.db_chains.proofs.Words.{right_names}
use Rattle.db_chains.specs.Visits.{Visits}
use Rattle.db_chains.proofs.Entered.{visits_as}
use Rattle.vldb_chains.specs.Keys.{id_chain, id_key, name_chain}
use Rattle.vldb_chains.specs.Places.{free_blocks, id_links, name_links}
use Rattle.vldb_entries.specs.Forms.{blocks_in, name_in}
use Rattle.vldb_records.specs.Records.{id_place, name_place}
use Rattle.vldb_records.specs.Changes.{left, without_id}
use Rattle.vldb_records.specs.Ends.{HasIdWord}
use Rattle.vldb_records.proofs.HeadSet.{free_are, ids_are, name_are}
use Rattle.vldb_records.proofs.Kept.{KeepsEntries, entries_then, ids_entries, keeps_out, names_entries, word_out}
use Rattle.db_chains.proofs.Leaving.{stands, take_keyed, take_other_sort, take_other_visits}
use Rattle.db_chains.specs.Keys.{name_key}
use Rattle.vldb_records.proofs.Stages.{ids_apart, ids_free, ids_names, names_apart, names_free, names_ids}
use Rattle.vldb_records.proofs.Stays.{count_same, whole_on}

-- words of ids that stand in no chain, of blocks of an old image
pub record AreUnused (old : List ℕ) (U : ℕ → Type 0) : Type 0 where
  pub whole : IsWhole 3132 old
  pub some : (w : ℕ) → U w → 0 < w / 4
  pub within : (w : ℕ) → U w → w / 4 ≤ blocks_in old
  pub kind : (w : ℕ) → U w → w % 4 < 3

-- The chains of names and of ids have these words, that of the free blocks these, and behind the words that stand in no chain is 0.
pub record IsStep (U : ℕ → Type 0) (fs old : List ℕ) (N D : ℕ → ℕ → Type 0) (image : List ℕ) : Type 0 where
  pub kept : KeepsEntries old image
  pub names : (key : ℕ) → key < 256 → Visits name_links image (name_place key) (N key)
  pub ids : (key : ℕ) → key < 256 → Visits id_links image (id_place key) (D key)
  pub free : HasChain (free_links free_blocks) image 16 fs
  pub unused : (w : ℕ) → U w → word_at image (next_place id_links w) ≡ 0

-- the words without one
abbrev pub Less : (n : ℕ) → (M : ℕ → ℕ → Type 0) → ℕ → ℕ → Type 0
Less n M = λ j w. M j w × (w ≢ n)

-- no word stands in the chains of two keys
abbrev pub AreInOne : (M : ℕ → ℕ → Type 0) → Type 0
AreInOne M = (a b w : ℕ) → M a w → M b w → a ≡ b

-- two words of ids stand apart
pub words_apart : (v w : ℕ) → 0 < v / 4 → 0 < w / 4 → v % 4 < 3 → w % 4 < 3 → v ≢ w
    → IsApart (next_place id_links v) 4 (next_place id_links w)
words_apart v w some_v some_w kind_v kind_w other =
    blocks_apart 3132 (v / 4 - 1) (w / 4 - 1) (40 + 4 * (v % 4)) (40 + 4 * (w % 4)) (omega arith) (omega arith)
    (λ same. ⊎_elim (λ (is : v ≡ w). absurd (other is))
    (λ (order : (v < w) ⊎ (w < v)). ⊎_elim (λ (less : v < w). inl (omega arith)) (λ (more : w < v). inr (omega arith)) order)
    (cases_order v w))

-- ---- the chain of the name

pub step_name : (U : ℕ → Type 0) (fs old : List ℕ) (N D : ℕ → ℕ → Type 0) (image : List ℕ) (key n : ℕ) → AreUnused old U
    → IsStep U fs old N D image → key < 256 → N key n → AreInOne N
    → IsStep U fs old (Less n N) D (without name_links (name_place key) n image)
step_name U fs old N D image key n are step low belongs one =
    let at = name_place key in
    let whole = whole_on old image are.whole step.kept.size in
    let long : 3132 ≤ length image = omega (arith, whole) in
    let s = stands name_links image at n (N key) name_are (step.names key low) belongs in
    record {
      kept = entries_then old image (without name_links at n image) are.whole step.kept
          (keeps_out name_links image at n (N key) names_entries whole (omega arith) (omega arith) s);
      names = take_keyed name_links image name_place key n N name_are (λ j below. omega arith) names_apart long one low
          belongs s step.names;
      ids = λ j below.
          take_other_visits name_links id_links image at (id_place j) n (N key) (D j) name_are ids_are (names_ids key j low below) (inl (omega arith))
          (omega (arith, long)) (omega (arith, long, below)) s (step.ids j below);
      free = take_other_sort name_links (free_links free_blocks) image at 16 n (N key) fs name_are free_are (names_free key low)
          (inl (omega arith)) (omega (arith, long)) (omega (arith, long)) s step.free;
      unused = λ w is.
          let some = are.some w is in
          let inside = are.within w is in
          let kind = are.kind w is in
          let count = count_same old image step.kept.size in
          word_out name_links image at n (next_place id_links w) (N key) name_are (omega arith) long belongs s (omega (arith, whole))
          (inr (omega arith))
          (λ v has right. blocks_apart 3132 (v / 1 - 1) (w / 4 - 1) (36 + 4 * (v % 1)) (40 + 4 * (w % 4)) (omega arith) (omega arith)
          (λ same. inl (omega arith)))
          ∙ step.unused w is;
    }

-- ---- the chain of an id

step_out : (U : ℕ → Type 0) (fs old : List ℕ) (N D : ℕ → ℕ → Type 0) (image : List ℕ) (key n : ℕ) → AreUnused old U
    → IsStep U fs old N D image → key < 256 → D key n → AreInOne D → ((j w : ℕ) → D j w → U w → ⊥)
    → IsStep U fs old N (Less n D) (without id_links (id_place key) n image)
step_out U fs old N D image key n are step low belongs one never =
    let at = id_place key in
    let whole = whole_on old image are.whole step.kept.size in
    let long : 3132 ≤ length image = omega (arith, whole) in
    let s = stands id_links image at n (D key) ids_are (step.ids key low) belongs in
    record {
      kept = entries_then old image (without id_links at n image) are.whole step.kept
          (keeps_out id_links image at n (D key) ids_entries whole (omega arith) (omega arith) s);
      names = λ j below.
          take_other_visits id_links name_links image at (name_place j) n (D key) (N j) ids_are name_are (ids_names key j low below) (inl (omega arith))
          (omega (arith, long)) (omega (arith, long, below)) s (step.names j below);
      ids = take_keyed id_links image id_place key n D ids_are (λ j below. omega arith) ids_apart long one low
          belongs s step.ids;
      free = take_other_sort id_links (free_links free_blocks) image at 16 n (D key) fs ids_are free_are (ids_free key low)
          (inl (omega arith)) (omega (arith, long)) (omega (arith, long)) s step.free;
      unused = λ w is.
          let some = are.some w is in
          let inside = are.within w is in
          let kind = are.kind w is in
          let count = count_same old image step.kept.size in
          word_out id_links image at n (next_place id_links w) (D key) ids_are (omega arith) long belongs s (omega (arith, whole))
          (inr (omega arith))
          (λ v has right. words_apart v w (right_names id_links image v right).some some (right_names id_links image v right).kind kind
          (λ same. never key w (subst (D key) same has) is))
          ∙ step.unused w is;
    }

step_none : (U : ℕ → Type 0) (fs old : List ℕ) (N D : ℕ → ℕ → Type 0) (image : List ℕ) (n : ℕ) → IsStep U fs old N D image
    → ((j : ℕ) → D j n → ⊥) → IsStep U fs old N (Less n D) image
step_none U fs old N D image n step none = record {
  kept = step.kept;
  names = step.names;
  ids = λ j below.
      visits_as id_links image (id_place j) (D j) (Less n D j) (λ w has. (has, λ same. none j (subst (D j) same has)))
      (λ w has. has.0) (step.ids j below);
  free = step.free;
  unused = step.unused;
}

pub step_id : (U : ℕ → Type 0) (fs old : List ℕ) (N D : ℕ → ℕ → Type 0) (image : List ℕ) (id n : ℕ) → AreUnused old U
    → IsStep U fs old N D image → (id ≢ 0 → D (id_key id) n) → (id ≡ 0 → (j : ℕ) → D j n → ⊥) → AreInOne D
    → ((j w : ℕ) → D j w → U w → ⊥) → IsStep U fs old N (Less n D) (without_id id n image)
step_id U fs old N D image id n are step some none one never =
    let At : Bool → Type 0 = λ b. IsStep U fs old N (Less n D) (cond b image (without id_links (id_place (id_key id)) n image)) in
    ⊎_elim
    (λ (no : id ≡ 0). subst At (sym (eq-eqb id 0 no)) (step_none U fs old N D image n step (none no)))
    (λ (is : id ≢ 0). subst At (sym (ne_eqb id 0 is))
    (step_out U fs old N D image (id_key id) n are step (omega arith) (some is) one never))
    (cases_eq id 0)

-- ---- what is there to be taken out

pub name_there : (U : ℕ → Type 0) (fs old : List ℕ) (N D : ℕ → ℕ → Type 0) (image : List ℕ) (key n : ℕ) → AreUnused old U
    → IsStep U fs old N D image → key < 256 → N key n → HasWord name_links (name_place key) n image
name_there U fs old N D image key n are step low belongs =
    let s = stands name_links image (name_place key) n (N key) name_are (step.names key low) belongs in
    (whole_on old image are.whole step.kept.size, (s.front, s.back, s.chain))

pub id_there : (U : ℕ → Type 0) (fs old : List ℕ) (N D : ℕ → ℕ → Type 0) (image : List ℕ) (id n : ℕ) → AreUnused old U
    → IsStep U fs old N D image → (id ≢ 0 → D (id_key id) n) → HasIdWord id n image
id_there U fs old N D image id n are step some = λ is.
    let s = stands id_links image (id_chain id) n (D (id_key id)) ids_are (step.ids (id_key id) (omega arith)) (some is) in
    (whole_on old image are.whole step.kept.size, (s.front, s.back, s.chain))

-- ---- all chains of an entry

-- the id of a kind in an entry's block
abbrev pub id_in : (kind : ℕ) → List ℕ → ℕ
id_in kind block = if kind == 0 then word_at block 8 else if kind == 1 then word_at block 12 else word_at block 16

-- the block of a number stands in the chains of the name and the ids that it has
pub record IsIn (U : ℕ → Type 0) (old : List ℕ) (N D : ℕ → ℕ → Type 0) (n : ℕ) (block : List ℕ) : Type 0 where
  pub are : AreUnused old U
  pub name : N (name_key (name_in block)) n
  pub some : (kind w : ℕ) → w / 4 ≡ n → w % 4 ≡ kind → kind < 3 → id_in kind block ≢ 0 → D (id_key (id_in kind block)) w
  pub none : (kind w : ℕ) → w / 4 ≡ n → w % 4 ≡ kind → kind < 3 → id_in kind block ≡ 0 → (j : ℕ) → D j w → ⊥
  pub one_name : AreInOne N
  pub one_id : AreInOne D
  pub never : (j w : ℕ) → D j w → U w → ⊥

less_one : (n : ℕ) (M : ℕ → ℕ → Type 0) → AreInOne M → AreInOne (Less n M)
less_one n M one = λ a b w x y. one a b w x.0 y.0

abbrev pub LessIds : (n : ℕ) → (D : ℕ → ℕ → Type 0) → ℕ → ℕ → Type 0
LessIds n D = Less (4 * n + 2) (Less (4 * n + 1) (Less (4 * n) D))

-- the images in between
abbrev pub without_name : (n : ℕ) → (block image : List ℕ) → List ℕ
without_name n block image = without name_links (name_chain (name_in block)) n image

abbrev pub without_rw : (n : ℕ) → (block image : List ℕ) → List ℕ
without_rw n block image = without_id (word_at block 8) (4 * n) (without_name n block image)

abbrev pub without_ro : (n : ℕ) → (block image : List ℕ) → List ℕ
without_ro n block image = without_id (word_at block 12) (4 * n + 1) (without_rw n block image)

pub after_name : (U : ℕ → Type 0) (fs old : List ℕ) (N D : ℕ → ℕ → Type 0) (n : ℕ) (block : List ℕ) → IsIn U old N D n block
    → IsStep U fs old N D old → IsStep U fs old (Less n N) D (without_name n block old)
after_name U fs old N D n block in_chains step =
    step_name U fs old N D old (name_key (name_in block)) n in_chains.are step (omega arith) in_chains.name in_chains.one_name

pub rw_some : (U : ℕ → Type 0) (old : List ℕ) (N D : ℕ → ℕ → Type 0) (n : ℕ) (block : List ℕ) → IsIn U old N D n block
    → word_at block 8 ≢ 0 → D (id_key (word_at block 8)) (4 * n)
rw_some U old N D n block in_chains is = in_chains.some 0 (4 * n) (omega arith) (omega arith) (omega arith) is

pub after_rw : (U : ℕ → Type 0) (fs old : List ℕ) (N D : ℕ → ℕ → Type 0) (n : ℕ) (block : List ℕ) → IsIn U old N D n block
    → IsStep U fs old N D old → IsStep U fs old (Less n N) (Less (4 * n) D) (without_rw n block old)
after_rw U fs old N D n block in_chains step =
    step_id U fs old (Less n N) D (without_name n block old) (word_at block 8) (4 * n) in_chains.are
    (after_name U fs old N D n block in_chains step) (rw_some U old N D n block in_chains)
    (λ no. in_chains.none 0 (4 * n) (omega arith) (omega arith) (omega arith) no) in_chains.one_id in_chains.never

pub ro_some : (U : ℕ → Type 0) (old : List ℕ) (N D : ℕ → ℕ → Type 0) (n : ℕ) (block : List ℕ) → IsIn U old N D n block
    → word_at block 12 ≢ 0 → Less (4 * n) D (id_key (word_at block 12)) (4 * n + 1)
ro_some U old N D n block in_chains is =
    (in_chains.some 1 (4 * n + 1) (omega arith) (omega arith) (omega arith) is, λ same. omega arith)

pub after_ro : (U : ℕ → Type 0) (fs old : List ℕ) (N D : ℕ → ℕ → Type 0) (n : ℕ) (block : List ℕ) → IsIn U old N D n block
    → IsStep U fs old N D old → IsStep U fs old (Less n N) (Less (4 * n + 1) (Less (4 * n) D)) (without_ro n block old)
after_ro U fs old N D n block in_chains step =
    step_id U fs old (Less n N) (Less (4 * n) D) (without_rw n block old) (word_at block 12) (4 * n + 1) in_chains.are
    (after_rw U fs old N D n block in_chains step) (ro_some U old N D n block in_chains)
    (λ no j has. in_chains.none 1 (4 * n + 1) (omega arith) (omega arith) (omega arith) no j has.0)
    (less_one (4 * n) D in_chains.one_id) (λ j w has is. in_chains.never j w has.0 is)

pub backup_some : (U : ℕ → Type 0) (old : List ℕ) (N D : ℕ → ℕ → Type 0) (n : ℕ) (block : List ℕ) → IsIn U old N D n block
    → word_at block 16 ≢ 0 → Less (4 * n + 1) (Less (4 * n) D) (id_key (word_at block 16)) (4 * n + 2)
backup_some U old N D n block in_chains is =
    ((in_chains.some 2 (4 * n + 2) (omega arith) (omega arith) (omega arith) is, λ same. omega arith), λ same. omega arith)

pub after_left : (U : ℕ → Type 0) (fs old : List ℕ) (N D : ℕ → ℕ → Type 0) (n : ℕ) (block : List ℕ) → IsIn U old N D n block
    → IsStep U fs old N D old → IsStep U fs old (Less n N) (LessIds n D) (left n block old)
unfolding left
after_left U fs old N D n block in_chains step =
    step_id U fs old (Less n N) (Less (4 * n + 1) (Less (4 * n) D)) (without_ro n block old) (word_at block 16) (4 * n + 2) in_chains.are
    (after_ro U fs old N D n block in_chains step) (backup_some U old N D n block in_chains)
    (λ no j has. in_chains.none 2 (4 * n + 2) (omega arith) (omega arith) (omega arith) no j has.0.0)
    (less_one (4 * n + 1) (Less (4 * n) D) (less_one (4 * n) D in_chains.one_id)) (λ j w has is. in_chains.never j w has.0.0 is)
