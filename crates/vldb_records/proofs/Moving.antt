-- The chains of an image while a block goes to those of other keys, one after the other.
use Rattle.std.proofs.Common.{◌≡◌, ◌≢◌, ℕ, ◌+◌, ◌-◌, ◌*◌, ◌/◌, ◌%◌, ◌<◌, ◌≤◌, ◌⊎◌, inl, inr, ⊎_elim, true, false, Bool, cond, eqb, List, ◌∷◌, ◌++◌, length, refl, sym, ap, subst, ◌∙◌, arith}
use Rattle.std.specs.Str.{bytes_eq}
use Rattle.std.proofs.lemmas.Bool.{cases_Bool, cases_eq, eq-eqb, ne_eqb}
use Rattle.std.proofs.lemmas.Slice.Eq.{bytes_eq-Decides}
use Rattle.db_blocks.specs.Blocks.{block_count, block_place, word_at, kind_of}
use Rattle.db_chains.specs.declared.links.Links.{Links}
use Rattle.db_chains.specs.Chains.{HasChain}
use Rattle.db_chains.specs.Changes.{put_in, put_word, taken_out, without}
use Rattle.db_chains.specs.Free.{free_links}
use Rattle.db_chains.specs.Links.{AreLinks, is_right, mark_place, next_place}
use Rattle.db_chains.specs.Walks.{place_behind}
use Rattle.db_chains.proofs.Apart.{blocks_apart}
use Rattle.db_chains.proofs.Bytes.{word_here, word_len}
use Rattle.db_chains.proofs.Changed.{behind_free, head_free, next_within, stands_behind}
use Rattle.db_chains.proofs.Framed.{block_mark}
use Rattle.db_chains.proofs.Entered.{put_keyed, put_other_sort, put_other_visits, visits_as}
use Rattle.db_chains.proofs.Words.{right_from}
use Rattle.vldb_chains.specs.Keys.{id_key}
use Rattle.vldb_chains.specs.Places.{free_blocks, id_links, name_links}
use Rattle.vldb_entries.specs.Location.{IsLocation, Location}
use Rattle.vldb_entries.specs.declared.entries.VlEntry.{VlEntry}
use Rattle.vldb_entries.specs.Forms.{block_at, blocks_in}
use Rattle.vldb_records.specs.Records.{IsIdWord, IsLaidOut, IsNameWord, id_of, id_place, name_place}
use Rattle.vldb_records.specs.Changes.{first_by_id, id_moved, name_moved, without_id}
use Rattle.vldb_records.proofs.HeadSet.{free_are, ids_are, name_are}
use Rattle.vldb_records.proofs.Kept.{KeepsEntries, entries_then, kind_stays}
use Rattle.db_chains.proofs.Leaving.{stands}
use Rattle.db_chains.specs.Keys.{name_key}
use Rattle.vldb_records.proofs.Left.{AreInOne, AreUnused, IsStep, Less, step_id, step_name, words_apart}
use Rattle.vldb_records.proofs.Removed.{IsUnused, number_same}
use Rattle.vldb_records.proofs.Stages.{ids_apart, ids_free, ids_names, names_apart, names_free, names_ids}
use Rattle.vldb_records.proofs.Stays.{KeepsForms, count_same, keeps_put_in, whole_on, word_put_in}

-- ---- which words stand in the chains

-- A block of a number of an image that is laid out is an entry's.
pub record IsMoving (s : Location) (old : List ℕ) (n : ℕ) : Type 0 where
  pub valid : IsLocation s
  pub lies : IsLaidOut old s
  pub some : 0 < n
  pub within : n ≤ blocks_in old
  pub kind : kind_of (block_at old (n - 1)) ≡ 1

-- the block has this name, and all others the names of their entries
abbrev pub NameWords : (s : Location) → (old : List ℕ) → (n : ℕ) → (name : List ℕ) → (key w : ℕ) → Type 0
NameWords s old n name = λ key w. (IsNameWord s old key w × (w ≢ n)) ⊎ ((w ≡ n) × (name_key name ≡ key))

-- the same of the ids of each kind
abbrev pub IdWords : (s : Location) → (old : List ℕ) → (n : ℕ) → (ids : ℕ → ℕ) → (key w : ℕ) → Type 0
IdWords s old n ids = λ key w.
    (IsIdWord s old key w × (w / 4 ≢ n)) ⊎ ((w / 4 ≡ n) × (w % 4 < 3) × (ids (w % 4) ≢ 0) × (id_key (ids (w % 4)) ≡ key))

abbrev pub NoWords : (s : Location) → (old : List ℕ) → (n : ℕ) → (ids : ℕ → ℕ) → (w : ℕ) → Type 0
NoWords s old n ids = λ w. (IsUnused s old w × (w / 4 ≢ n)) ⊎ ((w / 4 ≡ n) × (w % 4 < 3) × (ids (w % 4) ≡ 0))

-- other ids are the same but for those of a kind
abbrev pub AreSameBut : (kind : ℕ) → (ids other : ℕ → ℕ) → Type 0
AreSameBut kind ids other = (c : ℕ) → c ≢ kind → c < 3 → other c ≡ ids c

one_name : (s : Location) (old : List ℕ) (n : ℕ) (name : List ℕ) → IsMoving s old n → AreInOne (NameWords s old n name)
one_name s old n name m = λ a b w x y.
    ⊎_elim
    (λ (p : IsNameWord s old a w × (w ≢ n)). ⊎_elim
    (λ (q : IsNameWord s old b w × (w ≢ n)).
    sym p.0.keyed
    ∙ ap (λ (f : VlEntry). name_key f.name) (number_same s old w p.0.entry q.0.entry m.valid p.0.number q.0.number) ∙ q.0.keyed)
    (λ (q : (w ≡ n) × (name_key name ≡ b)). absurd (p.1 q.0)) y)
    (λ (p : (w ≡ n) × (name_key name ≡ a)). ⊎_elim
    (λ (q : IsNameWord s old b w × (w ≢ n)). absurd (q.1 p.0))
    (λ (q : (w ≡ n) × (name_key name ≡ b)). sym p.1 ∙ q.1) y)
    x

one_id : (s : Location) (old : List ℕ) (n : ℕ) (ids : ℕ → ℕ) → IsMoving s old n → AreInOne (IdWords s old n ids)
one_id s old n ids m = λ a b w x y.
    ⊎_elim
    (λ (p : IsIdWord s old a w × (w / 4 ≢ n)). ⊎_elim
    (λ (q : IsIdWord s old b w × (w / 4 ≢ n)).
    sym p.0.keyed
    ∙ ap (λ (f : VlEntry). id_key (id_of (w % 4) f)) (number_same s old (w / 4) p.0.entry q.0.entry m.valid p.0.number q.0.number)
    ∙ q.0.keyed)
    (λ (q : (w / 4 ≡ n) × (w % 4 < 3) × (ids (w % 4) ≢ 0) × (id_key (ids (w % 4)) ≡ b)). absurd (p.1 q.0)) y)
    (λ (p : (w / 4 ≡ n) × (w % 4 < 3) × (ids (w % 4) ≢ 0) × (id_key (ids (w % 4)) ≡ a)). ⊎_elim
    (λ (q : IsIdWord s old b w × (w / 4 ≢ n)). absurd (q.1 p.0))
    (λ (q : (w / 4 ≡ n) × (w % 4 < 3) × (ids (w % 4) ≢ 0) × (id_key (ids (w % 4)) ≡ b)). sym p.3 ∙ q.3) y)
    x

never_both : (s : Location) (old : List ℕ) (n : ℕ) (ids : ℕ → ℕ) → IsMoving s old n → (j w : ℕ) → IdWords s old n ids j w
    → NoWords s old n ids w → ⊥
never_both s old n ids m j w x y =
    ⊎_elim
    (λ (p : IsIdWord s old j w × (w / 4 ≢ n)). ⊎_elim
    (λ (q : IsUnused s old w × (w / 4 ≢ n)).
    p.0.some (ap (λ (f : VlEntry). id_of (w % 4) f) (number_same s old (w / 4) p.0.entry q.0.0 m.valid p.0.number q.0.1) ∙ q.0.3))
    (λ (q : (w / 4 ≡ n) × (w % 4 < 3) × (ids (w % 4) ≡ 0)). p.1 q.0) y)
    (λ (p : (w / 4 ≡ n) × (w % 4 < 3) × (ids (w % 4) ≢ 0) × (id_key (ids (w % 4)) ≡ j)). ⊎_elim
    (λ (q : IsUnused s old w × (w / 4 ≢ n)). q.1 p.0)
    (λ (q : (w / 4 ≡ n) × (w % 4 < 3) × (ids (w % 4) ≡ 0)). p.2 q.2) y)
    x

pub none_are : (s : Location) (old : List ℕ) (n : ℕ) (ids : ℕ → ℕ) → IsMoving s old n → AreUnused old (NoWords s old n ids)
none_are s old n ids m = record {
  whole = m.lies.size;
  some = λ w u. ⊎_elim (λ (was : IsUnused s old w × (w / 4 ≢ n)). was.0.1.some)
      (λ (own : (w / 4 ≡ n) × (w % 4 < 3) × (ids (w % 4) ≡ 0)). omega (arith, own.0, m.some)) u;
  within = λ w u. ⊎_elim (λ (was : IsUnused s old w × (w / 4 ≢ n)). was.0.1.within)
      (λ (own : (w / 4 ≡ n) × (w % 4 < 3) × (ids (w % 4) ≡ 0)). omega (arith, own.0, m.within)) u;
  kind = λ w u. ⊎_elim (λ (was : IsUnused s old w × (w / 4 ≢ n)). was.0.2)
      (λ (own : (w / 4 ≡ n) × (w % 4 < 3) × (ids (w % 4) ≡ 0)). own.1) u;
}

-- ---- other ids of the block

ids_as : (s : Location) (old : List ℕ) (n : ℕ) (ids other : ℕ → ℕ) (j w : ℕ)
    → (w / 4 ≡ n → w % 4 < 3 → other (w % 4) ≡ ids (w % 4)) → IdWords s old n ids j w → IdWords s old n other j w
ids_as s old n ids other j w same has =
    ⊎_elim
    (λ (was : IsIdWord s old j w × (w / 4 ≢ n)). inl was)
    (λ (own : (w / 4 ≡ n) × (w % 4 < 3) × (ids (w % 4) ≢ 0) × (id_key (ids (w % 4)) ≡ j)).
    let is = same own.0 own.1 in
    inr (own.0, own.1, (λ none. own.2 (sym is ∙ none)), ap id_key is ∙ own.3))
    has

none_as : (s : Location) (old : List ℕ) (n : ℕ) (ids other : ℕ → ℕ) (w : ℕ)
    → (w / 4 ≡ n → w % 4 < 3 → other (w % 4) ≡ ids (w % 4)) → NoWords s old n ids w → NoWords s old n other w
none_as s old n ids other w same is =
    ⊎_elim
    (λ (was : IsUnused s old w × (w / 4 ≢ n)). inl was)
    (λ (own : (w / 4 ≡ n) × (w % 4 < 3) × (ids (w % 4) ≡ 0)). inr (own.0, own.1, same own.0 own.1 ∙ own.2))
    is

same_ids : (s : Location) (old : List ℕ) (n : ℕ) (fs : List ℕ) (N : ℕ → ℕ → Type 0) (ids other : ℕ → ℕ) (image : List ℕ)
    → ((c : ℕ) → c < 3 → other c ≡ ids c) → IsStep (NoWords s old n ids) fs old N (IdWords s old n ids) image
    → IsStep (NoWords s old n other) fs old N (IdWords s old n other) image
same_ids s old n fs N ids other image same step = record {
  kept = step.kept;
  names = step.names;
  ids = λ j below.
      visits_as id_links image (id_place j) (IdWords s old n ids j) (IdWords s old n other j)
      (λ w has. ids_as s old n ids other j w (λ block low. same (w % 4) low) has)
      (λ w has. ids_as s old n other ids j w (λ block low. sym (same (w % 4) low)) has) (step.ids j below);
  free = step.free;
  unused = λ w is. step.unused w (none_as s old n other ids w (λ block low. sym (same (w % 4) low)) is);
}

-- no word of a kind whose id is 0, and each of one whose id is not
no_word : (s : Location) (old : List ℕ) (n : ℕ) (ids : ℕ → ℕ) (j w kind : ℕ) → ids kind ≡ 0 → IdWords s old n ids j w → w / 4 ≡ n
    → w % 4 ≡ kind → ⊥
no_word s old n ids j w kind zero_id has block rest =
    ⊎_elim
    (λ (was : IsIdWord s old j w × (w / 4 ≢ n)). was.1 block)
    (λ (own : (w / 4 ≡ n) × (w % 4 < 3) × (ids (w % 4) ≢ 0) × (id_key (ids (w % 4)) ≡ j)). own.2 (ap ids rest ∙ zero_id))
    has

a_word : (s : Location) (old : List ℕ) (n : ℕ) (ids : ℕ → ℕ) (w kind : ℕ) → ids kind ≢ 0 → NoWords s old n ids w → w / 4 ≡ n
    → w % 4 ≡ kind → ⊥
a_word s old n ids w kind some is block rest =
    ⊎_elim
    (λ (was : IsUnused s old w × (w / 4 ≢ n)). was.1 block)
    (λ (own : (w / 4 ≡ n) × (w % 4 < 3) × (ids (w % 4) ≡ 0)). some (ap ids (sym rest) ∙ own.2))
    is

pub own_word : (s : Location) (old : List ℕ) (n : ℕ) (ids : ℕ → ℕ) (w kind : ℕ) → kind < 3 → w / 4 ≡ n → w % 4 ≡ kind → ids kind ≢ 0
    → IdWords s old n ids (id_key (ids kind)) w
own_word s old n ids w kind low block rest some =
    let own : ids (w % 4) ≡ ids kind = ap ids rest in
    inr (block, omega (arith, rest, low), (λ none. some (sym own ∙ none)), ap id_key own)

-- ---- a word goes out

-- the place behind a word that went out is 0
zero_taken : (l : Links) (image : List ℕ) (at n : ℕ) (front back : List ℕ) → AreLinks l → at + 4 ≤ l.head → l.head ≤ length image
    → HasChain l image at (front ++ n ∷ back) → word_at (taken_out l (place_behind l at front) image) (next_place l n) ≡ 0
unfolding taken_out
zero_taken l image at n front back links in_head long chain =
    let p = place_behind l at front in
    let r = next_place l n in
    let y = word_at image r in
    let mid = put_word p y image in
    let there = stands_behind l image at n front back chain in
    let free = behind_free l image at front (n ∷ back) links (head_free l image at links (inl in_head) (omega arith)) chain in
    let size : length mid ≡ length image = word_len image p y free.within in
    let room = (next_within l image n links there.1).0 in
    subst (λ (v : ℕ). word_at (put_word (next_place l v) 0 (put_word p (word_at image (next_place l v)) image)) r ≡ 0)
    (sym there.0) (word_here mid r 0 (omega arith))

zero_out : (U : ℕ → Type 0) (fs old : List ℕ) (N D : ℕ → ℕ → Type 0) (image : List ℕ) (id w : ℕ) → AreUnused old U
    → IsStep U fs old N D image → (id ≢ 0 → D (id_key id) w) → (id ≡ 0 → U w)
    → word_at (without_id id w image) (next_place id_links w) ≡ 0
zero_out U fs old N D image id w are step some none =
    let at = id_place (id_key id) in
    let whole = whole_on old image are.whole step.kept.size in
    let At : Bool → Type 0 = λ b. word_at (cond b image (without id_links at w image)) (next_place id_links w) ≡ 0 in
    ⊎_elim
    (λ (no : id ≡ 0). subst At (sym (eq-eqb id 0 no)) (step.unused w (none no)))
    (λ (is : id ≢ 0).
    let s = stands id_links image at w (D (id_key id)) ids_are (step.ids (id_key id) (omega arith)) (some is) in
    subst At (sym (ne_eqb id 0 is))
    (subst (λ (i : List ℕ). word_at i (next_place id_links w) ≡ 0) (sym s.out)
    (zero_taken id_links image at w s.front s.back ids_are (omega arith) (omega (arith, whole)) s.chain)))
    (cases_eq id 0)

left_id : (s : Location) (old : List ℕ) (n : ℕ) (fs : List ℕ) (N : ℕ → ℕ → Type 0) (ids other : ℕ → ℕ) (image : List ℕ) (kind w : ℕ)
    → IsMoving s old n → kind < 3 → w / 4 ≡ n → w % 4 ≡ kind → other kind ≡ 0 → AreSameBut kind ids other
    → IsStep (NoWords s old n ids) fs old N (IdWords s old n ids) image
    → IsStep (NoWords s old n other) fs old N (IdWords s old n other) (without_id (ids kind) w image)
left_id s old n fs N ids other image kind w m low block rest zero_id same step =
    let id = ids kind in
    let U = NoWords s old n ids in
    let D = IdWords s old n ids in
    let new = without_id id w image in
    let are = none_are s old n ids m in
    let out = step_id U fs old N D image id w are step (λ is. own_word s old n ids w kind low block rest is)
    (λ no j has. no_word s old n ids j w kind no has block rest) (one_id s old n ids m) (never_both s old n ids m) in
    let gone : word_at new (next_place id_links w) ≡ 0 =
    zero_out U fs old N D image id w are step (λ is. own_word s old n ids w kind low block rest is)
    (λ no. inr (block, omega (arith, rest, low), ap ids rest ∙ no)) in
    record {
      kept = out.kept;
      names = out.names;
      ids = λ j below.
          visits_as id_links new (id_place j) (Less w D j) (IdWords s old n other j)
          (λ v has. ids_as s old n ids other j v
          (λ in_block less. same (v % 4) (λ is. has.1 (omega (arith, in_block, is, block, rest))) less) has.0)
          (λ v has. (
            ids_as s old n other ids j v
                (λ in_block less. sym (same (v % 4) (no_word s old n other j v kind zero_id has in_block) less)) has,
            λ is. no_word s old n other j v kind zero_id has (omega (arith, is, block)) (omega (arith, is, rest)),
          ))
          (out.ids j below);
      free = out.free;
      unused = λ v is. ⊎_elim
          (λ (here : v ≡ w). subst (λ (x : ℕ). word_at new (next_place id_links x) ≡ 0) (sym here) gone)
          (λ (there : v ≢ w). out.unused v (none_as s old n other ids v
          (λ in_block less. sym (same (v % 4) (λ k. there (omega (arith, in_block, k, block, rest))) less)) is))
          (cases_eq v w);
    }

-- ---- a word comes in front of a chain

as_entries : (k : ℕ) (old new : List ℕ) → kind_of (block_at old k) ≡ 1 → KeepsForms k old new → KeepsEntries old new
as_entries k old new kind kept = record {
  size = kept.size;
  head = kept.head;
  forms = kept.forms;
  others = λ j less other. kept.others j less (λ same. other (ap (λ (i : ℕ). kind_of (block_at old i)) same ∙ kind));
}

right_at : (l : Links) (image : List ℕ) (k w : ℕ) → l.head ≡ 3132 → l.mark ≡ 1 → kind_of (block_at image k) ≡ 1 → k < blocks_in image
    → w / l.step ≡ k + 1 → w % l.step < l.kinds → is_right l image w ≡ true
right_at l image k w head mark own below block kind =
    let place : mark_place l w ≡ block_place 3132 k = omega (arith, head, block) in
    right_from l image (blocks_in image) w (ap (λ (h : ℕ). block_count h image) head) (omega (arith, block))
    (omega (arith, block, below)) kind (ap (word_at image) place ∙ sym (block_mark 3132 k image) ∙ own ∙ sym mark)

own_kind : (s : Location) (old : List ℕ) (n : ℕ) (image : List ℕ) → IsMoving s old n → KeepsEntries old image
    → kind_of (block_at image (n - 1)) ≡ 1
own_kind s old n image m kept = kind_stays old image (n - 1) m.lies.size kept (omega (arith, m.some, m.within)) ∙ m.kind

entered_id : (s : Location) (old : List ℕ) (n : ℕ) (fs : List ℕ) (N : ℕ → ℕ → Type 0) (ids other : ℕ → ℕ) (image : List ℕ)
    (kind w : ℕ) → IsMoving s old n → kind < 3 → w / 4 ≡ n → w % 4 ≡ kind → ids kind ≡ 0 → other kind ≢ 0 → AreSameBut kind ids other
    → IsStep (NoWords s old n ids) fs old N (IdWords s old n ids) image
    → IsStep (NoWords s old n other) fs old N (IdWords s old n other) (put_in id_links (id_place (id_key (other kind))) w image)
entered_id s old n fs N ids other image kind w m low block rest zero_id some same step =
    let k = n - 1 in
    let key = id_key (other kind) in
    let at = id_place key in
    let new = put_in id_links at w image in
    let D = IdWords s old n ids in
    let key_low : key < 256 = omega arith in
    let whole = whole_on old image m.lies.size step.kept.size in
    let count : blocks_in image ≡ blocks_in old = count_same old image step.kept.size in
    let below : k < blocks_in image = omega (arith, m.some, m.within, count) in
    let kind_is = own_kind s old n image m step.kept in
    let right : is_right id_links image w ≡ true =
    right_at id_links image k w refl refl kind_is below (omega (arith, block, m.some)) (omega (arith, rest, low)) in
    let long : 3132 ≤ length image = omega (arith, whole) in
    let place : next_place id_links w ≡ block_place 3132 k + (40 + 4 * kind) = omega (arith, block, rest, m.some) in
    let first : at + 4 ≤ 3132 = omega arith in
    let chain = step.ids key key_low in
    record {
      kept = entries_then old image new m.lies.size step.kept (as_entries k image new kind_is
          (keeps_put_in id_links image at w k (40 + 4 * kind) whole below (omega arith) first place (omega arith) (omega arith)));
      names = λ j less.
          put_other_visits id_links name_links image at (name_place j) w chain.words (N j) ids_are name_are (ids_names key j key_low less)
          (inl first) (omega (arith, long)) (omega (arith, long, less)) right chain.chain (step.names j less);
      ids = λ j less.
          visits_as id_links new (id_place j) (λ v. D j v ⊎ ((j ≡ key) × (v ≡ w))) (IdWords s old n other j)
          (λ v in_chain. ⊎_elim
          (λ (was : D j v). ids_as s old n ids other j v
          (λ in_block l. same (v % 4) (no_word s old n ids j v kind zero_id was in_block) l) was)
          (λ (own : (j ≡ key) × (v ≡ w)).
          subst (λ (i : ℕ). IdWords s old n other i v) (sym own.0)
          (own_word s old n other v kind low (omega (arith, own.1, block)) (omega (arith, own.1, rest)) some)) in_chain)
          (λ v has. ⊎_elim
          (λ (here : v ≡ w). inr (
            one_id s old n other m j key v has
                (own_word s old n other v kind low (omega (arith, here, block)) (omega (arith, here, rest)) some),
            here,
          ))
          (λ (there : v ≢ w). inl (ids_as s old n other ids j v
          (λ in_block l. sym (same (v % 4) (λ is. there (omega (arith, in_block, is, block, rest))) l)) has))
          (cases_eq v w))
          (put_keyed id_links image id_place key w D ids_are (λ i l. omega arith) ids_apart long right
          (λ i has. no_word s old n ids i w kind zero_id has block rest) key_low step.ids j less);
      free = put_other_sort id_links (free_links free_blocks) image at 16 w chain.words fs ids_are free_are (ids_free key key_low)
          (inl first) (omega (arith, long)) (omega (arith, long)) right chain.chain step.free;
      unused = λ v is.
          let apart : v ≢ w = λ here. a_word s old n other v kind some is (omega (arith, here, block)) (omega (arith, here, rest)) in
          let was = none_as s old n other ids v
          (λ in_block l. sym (same (v % 4) (λ k. a_word s old n other v kind some is in_block k) l)) is in
          let are = none_are s old n ids m in
          let some_v = are.some v was in
          let in_v = are.within v was in
          let kind_v = are.kind v was in
          word_put_in id_links image at w (next_place id_links v) (omega (arith, first, long)) (omega (arith, whole, below, place, low))
          (omega (arith, whole, in_v, some_v, kind_v, count)) (inr (omega arith))
          (words_apart w v (omega (arith, block, m.some)) some_v (omega (arith, rest, low)) kind_v (λ here. apart (sym here)))
          ∙ step.unused v was;
    }

-- ---- a word moves

pub moved_id : (s : Location) (old : List ℕ) (n : ℕ) (fs : List ℕ) (N : ℕ → ℕ → Type 0) (ids other : ℕ → ℕ) (image : List ℕ)
    (kind w : ℕ) → IsMoving s old n → kind < 3 → w / 4 ≡ n → w % 4 ≡ kind → AreSameBut kind ids other
    → IsStep (NoWords s old n ids) fs old N (IdWords s old n ids) image
    → IsStep (NoWords s old n other) fs old N (IdWords s old n other) (id_moved (ids kind) (other kind) w image)
moved_id s old n fs N ids other image kind w m low block rest same step =
    let is = other kind in
    let Step = λ (i : List ℕ). IsStep (NoWords s old n other) fs old N (IdWords s old n other) i in
    let mid : ℕ → ℕ = λ c. cond (eqb c kind) 0 (ids c) in
    let mid_own : mid kind ≡ 0 = ap (λ (b : Bool). cond b 0 (ids kind)) (eq-eqb kind kind refl) in
    let mid_rest : AreSameBut kind ids mid = λ c no less. ap (λ (b : Bool). cond b 0 (ids c)) (ne_eqb c kind no) in
    let rest_mid : AreSameBut kind mid other = λ c no less. same c no less ∙ sym (mid_rest c no less) in
    let out = without_id (ids kind) w image in
    let At : Bool → Type 0 = λ b. Step (cond b image (first_by_id is w out)) in
    let In : Bool → Type 0 = λ b. Step (cond b out (put_in id_links (id_place (id_key is)) w out)) in
    ⊎_elim
    (λ (equal : ids kind ≡ is). subst At (sym (eq-eqb (ids kind) is equal))
    (same_ids s old n fs N ids other image
    (λ c less. ⊎_elim (λ (here : c ≡ kind). ap other here ∙ sym equal ∙ ap ids (sym here)) (λ (there : c ≢ kind). same c there less)
    (cases_eq c kind)) step))
    (λ (differ : ids kind ≢ is). subst At (sym (ne_eqb (ids kind) is differ))
    (let left = left_id s old n fs N ids mid image kind w m low block rest mid_own mid_rest step in
    ⊎_elim
    (λ (none : is ≡ 0). subst In (sym (eq-eqb is 0 none))
    (same_ids s old n fs N mid other out
    (λ c less. ⊎_elim (λ (here : c ≡ kind). ap other here ∙ none ∙ sym (ap mid here ∙ mid_own))
    (λ (there : c ≢ kind). rest_mid c there less) (cases_eq c kind)) left))
    (λ (some : is ≢ 0). subst In (sym (ne_eqb is 0 some))
    (entered_id s old n fs N mid other out kind w m low block rest mid_own some rest_mid left))
    (cases_eq is 0)))
    (cases_eq (ids kind) is)

names_in : (s : Location) (old : List ℕ) (n : ℕ) (U : ℕ → Type 0) (fs : List ℕ) (a b : List ℕ) (D : ℕ → ℕ → Type 0) (image : List ℕ)
    → IsMoving s old n → AreUnused old U → IsStep U fs old (Less n (NameWords s old n a)) D image
    → IsStep U fs old (NameWords s old n b) D (put_in name_links (name_place (name_key b)) n image)
names_in s old n U fs a b D image m are step =
    let k = n - 1 in
    let key = name_key b in
    let at = name_place key in
    let new = put_in name_links at n image in
    let N = Less n (NameWords s old n a) in
    let key_low : key < 256 = omega arith in
    let whole = whole_on old image m.lies.size step.kept.size in
    let count : blocks_in image ≡ blocks_in old = count_same old image step.kept.size in
    let below : k < blocks_in image = omega (arith, m.some, m.within, count) in
    let block : n / 1 ≡ k + 1 = omega (arith, m.some) in
    let rest : n % 1 ≡ 0 = omega arith in
    let kind_is = own_kind s old n image m step.kept in
    let right : is_right name_links image n ≡ true =
    right_at name_links image k n refl refl kind_is below block (omega (arith, rest)) in
    let long : 3132 ≤ length image = omega (arith, whole) in
    let place : next_place name_links n ≡ block_place 3132 k + 36 = omega (arith, block, rest) in
    let first : at + 4 ≤ 3132 = omega arith in
    let chain = step.names key key_low in
    record {
      kept = entries_then old image new m.lies.size step.kept (as_entries k image new kind_is
          (keeps_put_in name_links image at n k 36 whole below (omega arith) first place (omega arith) (omega arith)));
      names = λ j less.
          visits_as name_links new (name_place j) (λ v. N j v ⊎ ((j ≡ key) × (v ≡ n))) (NameWords s old n b j)
          (λ v in_chain. ⊎_elim
          (λ (was : N j v). ⊎_elim
          (λ (word_of : IsNameWord s old j v × (v ≢ n)). let r : NameWords s old n b j v = inl word_of in r)
          (λ (own : (v ≡ n) × (name_key a ≡ j)). absurd (was.1 own.0)) was.0)
          (λ (own : (j ≡ key) × (v ≡ n)). let r : NameWords s old n b j v = inr (own.1, sym own.0) in r) in_chain)
          (λ v has. ⊎_elim
          (λ (word_of : IsNameWord s old j v × (v ≢ n)).
          let r : N j v ⊎ ((j ≡ key) × (v ≡ n)) = inl (inl word_of, word_of.1) in r)
          (λ (own : (v ≡ n) × (name_key b ≡ j)). let r : N j v ⊎ ((j ≡ key) × (v ≡ n)) = inr (sym own.1, own.0) in r) has)
          (put_keyed name_links image name_place key n N name_are (λ i l. omega arith) names_apart long right
          (λ i has. has.1 refl) key_low step.names j less);
      ids = λ j less.
          put_other_visits name_links id_links image at (id_place j) n chain.words (D j) name_are ids_are (names_ids key j key_low less)
          (inl first) (omega (arith, long)) (omega (arith, long, less)) right chain.chain (step.ids j less);
      free = put_other_sort name_links (free_links free_blocks) image at 16 n chain.words fs name_are free_are (names_free key key_low)
          (inl first) (omega (arith, long)) (omega (arith, long)) right chain.chain step.free;
      unused = λ w is.
          let some_w = are.some w is in
          let in_w = are.within w is in
          let kind_w = are.kind w is in
          word_put_in name_links image at n (next_place id_links w) (omega (arith, first, long)) (omega (arith, whole, below, place))
          (omega (arith, whole, in_w, some_w, kind_w, count)) (inr (omega arith))
          (blocks_apart 3132 (n / 1 - 1) (w / 4 - 1) (36 + 4 * (n % 1)) (40 + 4 * (w % 4)) (omega arith) (omega arith)
          (λ same. inl (omega arith)))
          ∙ step.unused w is;
    }

pub moved_name : (s : Location) (old : List ℕ) (n : ℕ) (U : ℕ → Type 0) (fs : List ℕ) (a b : List ℕ) (D : ℕ → ℕ → Type 0)
    (image : List ℕ) → IsMoving s old n → AreUnused old U → IsStep U fs old (NameWords s old n a) D image
    → IsStep U fs old (NameWords s old n b) D (name_moved a b n image)
moved_name s old n U fs a b D image m are step =
    let N = NameWords s old n a in
    let out = without name_links (name_place (name_key a)) n image in
    let At : Bool → Type 0 = λ t.
    IsStep U fs old (NameWords s old n b) D (cond t image (put_in name_links (name_place (name_key b)) n out)) in
    ⊎_elim
    (λ (equal : bytes_eq a b ≡ true). subst At (sym equal)
    (subst (λ (x : List ℕ). IsStep U fs old (NameWords s old n x) D image) ((bytes_eq-Decides a b).0 equal) step))
    (λ (differ : bytes_eq a b ≡ false). subst At (sym differ)
    (names_in s old n U fs a b D out m are
    (step_name U fs old N D image (name_key a) n are step (omega arith) (inr (refl, refl)) (one_name s old n a m))))
    (cases_Bool (bytes_eq a b))
