-- The image while the block of an entry goes to the chains of another one, and what a draft is told of it.
use Rattle.std.proofs.Common.{◌≡◌, ◌≢◌, ℕ, zero, suc, ◌+◌, ◌-◌, ◌*◌, ◌/◌, ◌%◌, ◌<◌, inl, inr, ⊎_elim, Bool, cond, List, Option, length, refl, sym, ap, subst, ◌∙◌, arith}
use Rattle.std.specs.Prelude.{◌==◌, if◌then◌else◌}
use Rattle.std.specs.Option.{option_map}
use Rattle.std.proofs.lemmas.Bool.{cases_eq, ne_eqb}
use Rattle.db_image.specs.declared.faults.RecordFault.{RecordFault}
use Rattle.db_blocks.specs.Blocks.{word_at}
use Rattle.db_blocks.specs.Ends.{HasCause}
use Rattle.db_chains.specs.Ends.{HasWord}
use Rattle.db_chains.proofs.Entered.{visits_as}
use Rattle.db_chains.specs.Keys.{name_key}
use Rattle.db_chains.proofs.Results.{cause_at, cause_so}
use Rattle.vldb_chains.specs.Keys.{id_key, name_chain}
use Rattle.vldb_chains.specs.Places.{id_links, name_links}
use Rattle.vldb_entries.specs.declared.entries.VlEntry.{VlEntry}
use Rattle.vldb_entries.specs.Location.{IsLocation, Location}
use Rattle.vldb_entries.specs.Forms.{block_of, name_in}
use Rattle.vldb_records.proofs.Becoming.{becomes_then}
use Rattle.vldb_entries.proofs.EntryAgain.{name_again}
use Rattle.vldb_records.specs.Records.{IsIdWord, IsNameWord, IsNumberOf, id_of, id_place, name_place, unlinked}
use Rattle.vldb_records.specs.Changes.{id_moved, moved, name_moved}
use Rattle.vldb_records.specs.Ends.{HasEntry, HasIdWord}
use Rattle.vldb_records.proofs.Fields.{block_len, name_stays}
use Rattle.vldb_records.proofs.Left.{IsStep, id_in, id_there}
use Rattle.vldb_records.proofs.Moving.{IdWords, IsMoving, NameWords, NoWords, moved_id, moved_name, none_are, own_word}
use Rattle.vldb_records.proofs.RemoveClauses.{has_name}
use Rattle.vldb_records.proofs.Removed.{IsUnused, first_step, id_told, number_same, own_kind}

pub moving : (n : ℕ) (block image : List ℕ) (h : HasEntry n block image) → IsMoving h.state image n
moving n block image h = record {
  valid = h.valid;
  lies = h.laid;
  some = h.number.some;
  within = h.number.within;
  kind = own_kind h.state h.entry image (n - 1) h.laid.size (omega (arith, h.number.some, h.number.within)) h.number.block;
}

-- ---- the ids of the block in between

abbrev pub ids_0 : VlEntry → ℕ → ℕ
ids_0 f = λ c. id_of c f

abbrev ids_1 : (e f : VlEntry) → ℕ → ℕ
ids_1 e f = λ c. if c == 0 then e.rw else id_of c f

abbrev ids_2 : (e f : VlEntry) → ℕ → ℕ
ids_2 e f = λ c. if c == 0 then e.rw else if c == 1 then e.ro else f.backup

but_0 : (e f : VlEntry) (c : ℕ) → c ≢ 0 → c < 3 → ids_1 e f c ≡ ids_0 f c
but_0 e f c other low = ap (λ (b : Bool). cond b e.rw (id_of c f)) (ne_eqb c 0 other)

but_1 : (e f : VlEntry) (c : ℕ) → c ≢ 1 → c < 3 → ids_2 e f c ≡ ids_1 e f c
but_1 e f c other low =
    ⊎_elim (λ (first : c ≡ 0). subst (λ (x : ℕ). ids_2 e f x ≡ ids_1 e f x) (sym first) refl)
    (λ (some : c ≢ 0). rw (ne_eqb c 0 some, ne_eqb c 1 other) refl)
    (cases_eq c 0)

but_2 : (e f : VlEntry) (c : ℕ) → c ≢ 2 → c < 3 → ids_0 e c ≡ ids_2 e f c
but_2 e f zero other low = refl
but_2 e f (suc zero) other low = refl
but_2 e f (suc (suc zero)) other low = absurd (other refl)
but_2 e f (suc (suc (suc m))) other low = absurd (omega arith)

-- ---- the images in between

abbrev pub image_1 : (n : ℕ) → (block : List ℕ) → VlEntry → List ℕ → List ℕ
image_1 n block e image = name_moved (name_in block) e.name n image

abbrev pub image_2 : (n : ℕ) → (block : List ℕ) → VlEntry → List ℕ → List ℕ
image_2 n block e image = id_moved (word_at block 8) e.rw (4 * n) (image_1 n block e image)

abbrev pub image_3 : (n : ℕ) → (block : List ℕ) → VlEntry → List ℕ → List ℕ
image_3 n block e image = id_moved (word_at block 12) e.ro (4 * n + 1) (image_2 n block e image)

-- the chains of the name and of the ids as these have the block
abbrev pub IsMoved : (n : ℕ) → (block image : List ℕ) → HasEntry n block image → (name : List ℕ) → (ids : ℕ → ℕ) → List ℕ → Type 0
IsMoved n block image h name ids new =
    IsStep (NoWords h.state image n ids) h.laid.free.words image (NameWords h.state image n name) (IdWords h.state image n ids) new

first_names : (s : Location) (old : List ℕ) (n : ℕ) (f : VlEntry) (key w : ℕ) → IsLocation s → IsNumberOf s old n f
    → IsNameWord s old key w → NameWords s old n f.name key w
first_names s old n f key w valid number has =
    ⊎_elim
    (λ (same : w ≡ n).
    let is = number_same s old n f has.entry valid number (subst (λ (m : ℕ). IsNumberOf s old m has.entry) same has.number) in
    let r : NameWords s old n f.name key w = inr (same, ap (λ (x : VlEntry). name_key x.name) is ∙ has.keyed) in r)
    (λ (other : w ≢ n). let r : NameWords s old n f.name key w = inl (has, other) in r)
    (cases_eq w n)

names_first : (s : Location) (old : List ℕ) (n : ℕ) (f : VlEntry) (key w : ℕ) → IsNumberOf s old n f → NameWords s old n f.name key w
    → IsNameWord s old key w
names_first s old n f key w number has =
    ⊎_elim
    (λ (was : IsNameWord s old key w × (w ≢ n)). was.0)
    (λ (own : (w ≡ n) × (name_key f.name ≡ key)).
    let r : IsNameWord s old key w =
    record { entry = f; number = subst (λ (m : ℕ). IsNumberOf s old m f) (sym own.0) number; keyed = own.1 } in r)
    has

first_ids : (s : Location) (old : List ℕ) (n : ℕ) (f : VlEntry) (key w : ℕ) → IsLocation s → IsNumberOf s old n f
    → IsIdWord s old key w → IdWords s old n (ids_0 f) key w
first_ids s old n f key w valid number has =
    ⊎_elim
    (λ (same : w / 4 ≡ n).
    let is = number_same s old n has.entry f valid (subst (λ (m : ℕ). IsNumberOf s old m has.entry) same has.number) number in
    let own : id_of (w % 4) has.entry ≡ id_of (w % 4) f = ap (λ (x : VlEntry). id_of (w % 4) x) is in
    let r : IdWords s old n (ids_0 f) key w =
    inr (same, has.kind, (λ none. has.some (own ∙ none)), ap id_key (sym own) ∙ has.keyed) in r)
    (λ (other : w / 4 ≢ n). let r : IdWords s old n (ids_0 f) key w = inl (has, other) in r)
    (cases_eq (w / 4) n)

ids_first : (s : Location) (old : List ℕ) (n : ℕ) (f : VlEntry) (key w : ℕ) → IsNumberOf s old n f → IdWords s old n (ids_0 f) key w
    → IsIdWord s old key w
ids_first s old n f key w number has =
    ⊎_elim
    (λ (was : IsIdWord s old key w × (w / 4 ≢ n)). was.0)
    (λ (own : (w / 4 ≡ n) × (w % 4 < 3) × (id_of (w % 4) f ≢ 0) × (id_key (id_of (w % 4) f) ≡ key)).
    let r : IsIdWord s old key w = record {
      entry = f;
      number = subst (λ (m : ℕ). IsNumberOf s old m f) (sym own.0) number;
      kind = own.1;
      some = own.2;
      keyed = own.3;
    } in r)
    has

unused_first : (s : Location) (old : List ℕ) (n : ℕ) (f : VlEntry) (w : ℕ) → IsNumberOf s old n f → NoWords s old n (ids_0 f) w
    → IsUnused s old w
unused_first s old n f w number is =
    ⊎_elim
    (λ (was : IsUnused s old w × (w / 4 ≢ n)). was.0)
    (λ (own : (w / 4 ≡ n) × (w % 4 < 3) × (id_of (w % 4) f ≡ 0)).
    let r : IsUnused s old w = (f, subst (λ (m : ℕ). IsNumberOf s old m f) (sym own.0) number, own.1, own.2) in r)
    is

form_told : (n : ℕ) (block image : List ℕ) (h : HasEntry n block image)
    → (length block ≡ 192) × (unlinked block ≡ block_of h.state.addresses h.entry)
form_told n block image h = (
  ap length h.bytes ∙ block_len image (n - 1) h.laid.size (omega (arith, h.number.some, h.number.within)),
  ap unlinked h.bytes ∙ h.number.block.1,
)

name_told : (n : ℕ) (block image : List ℕ) (h : HasEntry n block image) → name_in block ≡ h.entry.name
name_told n block image h =
    let t = form_told n block image h in
    name_stays block t.0 ∙ ap name_in t.1
    ∙ name_again h.state.addresses h.entry (h.valid.records h.entry.rw h.entry h.number.block.0)

told_id : (n : ℕ) (block image : List ℕ) (h : HasEntry n block image) (kind : ℕ) → kind < 3
    → id_in kind block ≡ id_of kind h.entry
told_id n block image h kind low =
    let t = form_told n block image h in
    id_told h.state h.entry block kind h.valid h.number.block.0 t.0 t.1 low

step_0 : (n : ℕ) (block image : List ℕ) (h : HasEntry n block image) → IsMoved n block image h (name_in block) (ids_0 h.entry) image
step_0 n block image h =
    let s = h.state in
    let f = h.entry in
    let first = first_step s image h.laid in
    let N = NameWords s image n f.name in
    let D = IdWords s image n (ids_0 f) in
    subst (λ (x : List ℕ). IsMoved n block image h x (ids_0 f) image) (sym (name_told n block image h)) record {
      kept = first.kept;
      names = λ key low.
          visits_as name_links image (name_place key) (IsNameWord s image key) (N key)
          (λ w has. first_names s image n f key w h.valid h.number has) (λ w has. names_first s image n f key w h.number has)
          (first.names key low);
      ids = λ key low.
          visits_as id_links image (id_place key) (IsIdWord s image key) (D key)
          (λ w has. first_ids s image n f key w h.valid h.number has) (λ w has. ids_first s image n f key w h.number has)
          (first.ids key low);
      free = first.free;
      unused = λ w is. first.unused w (unused_first s image n f w h.number is);
    }

step_1 : (n : ℕ) (block image : List ℕ) (e : VlEntry) (h : HasEntry n block image)
    → IsMoved n block image h e.name (ids_0 h.entry) (image_1 n block e image)
step_1 n block image e h =
    let m = moving n block image h in
    moved_name h.state image n (NoWords h.state image n (ids_0 h.entry)) h.laid.free.words (name_in block) e.name
    (IdWords h.state image n (ids_0 h.entry)) image m (none_are h.state image n (ids_0 h.entry) m) (step_0 n block image h)

step_2 : (n : ℕ) (block image : List ℕ) (e : VlEntry) (h : HasEntry n block image)
    → IsMoved n block image h e.name (ids_1 e h.entry) (image_2 n block e image)
step_2 n block image e h =
    let f = h.entry in
    subst (λ (i : ℕ). IsMoved n block image h e.name (ids_1 e f) (id_moved i e.rw (4 * n) (image_1 n block e image)))
    (sym (told_id n block image h 0 (omega arith)))
    (moved_id h.state image n h.laid.free.words (NameWords h.state image n e.name) (ids_0 f) (ids_1 e f) (image_1 n block e image) 0
    (4 * n) (moving n block image h) (omega arith) (omega arith) (omega arith) (but_0 e f) (step_1 n block image e h))

step_3 : (n : ℕ) (block image : List ℕ) (e : VlEntry) (h : HasEntry n block image)
    → IsMoved n block image h e.name (ids_2 e h.entry) (image_3 n block e image)
step_3 n block image e h =
    let f = h.entry in
    subst (λ (i : ℕ). IsMoved n block image h e.name (ids_2 e f) (id_moved i e.ro (4 * n + 1) (image_2 n block e image)))
    (sym (told_id n block image h 1 (omega arith)))
    (moved_id h.state image n h.laid.free.words (NameWords h.state image n e.name) (ids_1 e f) (ids_2 e f) (image_2 n block e image) 1
    (4 * n + 1) (moving n block image h) (omega arith) (omega arith) (omega arith) (but_1 e f) (step_2 n block image e h))

pub step_4 : (n : ℕ) (block image : List ℕ) (e : VlEntry) (h : HasEntry n block image)
    → IsMoved n block image h e.name (ids_0 e) (moved n block e image)
unfolding moved
step_4 n block image e h =
    let f = h.entry in
    subst (λ (i : ℕ). IsMoved n block image h e.name (ids_0 e) (id_moved i e.backup (4 * n + 2) (image_3 n block e image)))
    (sym (told_id n block image h 2 (omega arith)))
    (moved_id h.state image n h.laid.free.words (NameWords h.state image n e.name) (ids_2 e f) (ids_0 e) (image_3 n block e image) 2
    (4 * n + 2) (moving n block image h) (omega arith) (omega arith) (omega arith) (but_2 e f) (step_3 n block image e h))

-- ---- what is there to be taken out

has_id : (n : ℕ) (block image : List ℕ) (h : HasEntry n block image) (name new : List ℕ) (ids : ℕ → ℕ) (kind w id : ℕ) → kind < 3
    → w / 4 ≡ n → w % 4 ≡ kind → IsMoved n block image h name ids new → id ≡ ids kind → HasIdWord id w new
has_id n block image h name new ids kind w id low block_is rest step is =
    subst (λ (i : ℕ). HasIdWord i w new) (sym is)
    (id_there (NoWords h.state image n ids) h.laid.free.words image (NameWords h.state image n name) (IdWords h.state image n ids) new
    (ids kind) w (none_are h.state image n ids (moving n block image h)) step
    (λ some. own_word h.state image n ids w kind low block_is rest some))

-- ---- faults, and bytes

pub name_cause : (a : Option (List ℕ)) (n : ℕ) (name block : List ℕ) (fault : RecordFault) → name ≡ name_in block
    → HasCause a (HasWord name_links (name_chain name) n) fault → HasCause a (HasEntry n block) fault
name_cause a n name block fault is cause =
    cause_so a (HasEntry n block) (HasWord name_links (name_chain name) n) fault
    (λ image h. subst (λ (x : List ℕ). HasWord name_links (name_chain x) n image) (sym is) (has_name n block image h)) cause

pub rw_cause : (a b : Option (List ℕ)) (n id : ℕ) (block : List ℕ) (e : VlEntry) (fault : RecordFault) → id ≡ word_at block 8
    → b ≡ option_map (image_1 n block e) a → HasCause b (HasIdWord id (4 * n)) fault → HasCause a (HasEntry n block) fault
rw_cause a b n id block e fault is made cause =
    cause_at a b (image_1 n block e) (HasEntry n block) (HasIdWord id (4 * n)) fault made
    (λ image h. has_id n block image h e.name (image_1 n block e image) (ids_0 h.entry) 0 (4 * n) id (omega arith)
    (omega arith) (omega arith) (step_1 n block image e h)
    (is ∙ told_id n block image h 0 (omega arith))) cause

pub ro_cause : (a b : Option (List ℕ)) (n id : ℕ) (block : List ℕ) (e : VlEntry) (fault : RecordFault) → id ≡ word_at block 12
    → b ≡ option_map (image_2 n block e) a → HasCause b (HasIdWord id (4 * n + 1)) fault → HasCause a (HasEntry n block) fault
ro_cause a b n id block e fault is made cause =
    cause_at a b (image_2 n block e) (HasEntry n block) (HasIdWord id (4 * n + 1)) fault made
    (λ image h. has_id n block image h e.name (image_2 n block e image) (ids_1 e h.entry) 1 (4 * n + 1) id (omega arith)
    (omega arith) (omega arith) (step_2 n block image e h)
    (is ∙ told_id n block image h 1 (omega arith))) cause

pub backup_cause : (a b : Option (List ℕ)) (n id : ℕ) (block : List ℕ) (e : VlEntry) (fault : RecordFault) → id ≡ word_at block 16
    → b ≡ option_map (image_3 n block e) a → HasCause b (HasIdWord id (4 * n + 2)) fault → HasCause a (HasEntry n block) fault
backup_cause a b n id block e fault is made cause =
    cause_at a b (image_3 n block e) (HasEntry n block) (HasIdWord id (4 * n + 2)) fault made
    (λ image h. has_id n block image h e.name (image_3 n block e image) (ids_2 e h.entry) 2 (4 * n + 2) id (omega arith)
    (omega arith) (omega arith) (step_3 n block image e h)
    (is ∙ told_id n block image h 2 (omega arith))) cause

pub name_made : (a b : Option (List ℕ)) (n : ℕ) (name other block : List ℕ) (e : VlEntry) → name ≡ name_in block → other ≡ e.name
    → b ≡ option_map (name_moved name other n) a → b ≡ option_map (image_1 n block e) a
name_made a b n name other block e is its made =
    made ∙ ap (λ (x : List ℕ). option_map (name_moved x other n) a) is
    ∙ ap (λ (x : List ℕ). option_map (name_moved (name_in block) x n) a) its

pub rw_made : (a b c : Option (List ℕ)) (n id : ℕ) (block : List ℕ) (e : VlEntry) → id ≡ word_at block 8
    → b ≡ option_map (image_1 n block e) a → c ≡ option_map (id_moved id e.rw (4 * n)) b → c ≡ option_map (image_2 n block e) a
rw_made a b c n id block e is first second =
    becomes_then (image_1 n block e) (id_moved (word_at block 8) e.rw (4 * n)) a b c first
    (second ∙ ap (λ (i : ℕ). option_map (id_moved i e.rw (4 * n)) b) is)

pub ro_made : (a b c : Option (List ℕ)) (n id : ℕ) (block : List ℕ) (e : VlEntry) → id ≡ word_at block 12
    → b ≡ option_map (image_2 n block e) a → c ≡ option_map (id_moved id e.ro (4 * n + 1)) b → c ≡ option_map (image_3 n block e) a
ro_made a b c n id block e is first second =
    becomes_then (image_2 n block e) (id_moved (word_at block 12) e.ro (4 * n + 1)) a b c first
    (second ∙ ap (λ (i : ℕ). option_map (id_moved i e.ro (4 * n + 1)) b) is)
