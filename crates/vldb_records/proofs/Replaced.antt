-- The image after an entry was replaced holds the database with the other one.
use Rattle.std.proofs.Common.{◌≡◌, ◌≢◌, ℕ, ◌+◌, ◌-◌, ◌*◌, ◌/◌, ◌%◌, ◌<◌, ◌⊎◌, inl, inr, ⊎_elim, true, List, Some, None, length, refl, sym, ap, subst, ◌∙◌, arith}
use Rattle.std.proofs.lemmas.Bool.{cases_eq}
use Rattle.db_blocks.specs.Blocks.{block_place, word_at, kind_of}
use Rattle.db_blocks.proofs.Maps.{some_same, under_other, under_same}
use Rattle.db_chains.specs.Links.{next_place}
use Rattle.db_chains.proofs.Words.{in_block}
use Rattle.db_chains.specs.Visits.{Visits}
use Rattle.db_chains.proofs.Entered.{visits_as}
use Rattle.db_chains.specs.Keys.{name_key}
use Rattle.vldb_chains.specs.Keys.{id_key}
use Rattle.vldb_chains.specs.Places.{id_links, name_links}
use Rattle.vldb_entries.specs.declared.entries.VlEntry.{VlEntry}
use Rattle.vldb_entries.specs.Location.{IsLocation, IsRecord, Location, MayEnter, has_id, with_entered, without_entry}
use Rattle.vldb_entries.specs.Forms.{block_at, block_of, blocks_in, head_of}
use Rattle.vldb_entries.proofs.EntryAgain.{length-block}
use Rattle.vldb_entries.proofs.Locations.{each_without, location_entered}
use Rattle.vldb_records.specs.Records.{HasFree, IsBlockOf, IsFree, IsIdWord, IsLaidOut, IsNameWord, IsNumberOf, id_of, id_place, name_place, unlinked, unlinked_head}
use Rattle.vldb_records.specs.Changes.{moved, with_fields}
use Rattle.vldb_records.specs.Ends.{HasEntry}
use Rattle.vldb_records.proofs.Fields.{block_len, free_kind}
use Rattle.vldb_records.proofs.Inserted.{form_same, not_free, own_id}
use Rattle.vldb_records.proofs.Kept.{kind_stays}
use Rattle.vldb_records.proofs.Lookups.{is_false}
use Rattle.vldb_records.proofs.Moves.{ids_0, step_4}
use Rattle.vldb_records.proofs.Moving.{IdWords, NameWords, NoWords}
use Rattle.vldb_records.proofs.Removed.{IsUnused, own_kind}
use Rattle.vldb_records.proofs.Stays.{count_same, whole_on}
use Rattle.vldb_records.proofs.Written.{HasFields, apart_in, form_written, free_written, ids_written, names_written, written}

-- The block of a number, which was an entry's, is another one's, which may be in its place; all others are as they were but for the words
-- of chains.
record IsReplaced (s : Location) (e f : VlEntry) (old : List ℕ) (k : ℕ) (new : List ℕ) : Type 0 where
  valid : IsLocation s
  is : IsRecord e
  may : MayEnter f.rw e s
  lies : IsLaidOut old s
  within : k < blocks_in old
  was : IsBlockOf s f (block_at old k)
  size : length new ≡ length old
  own : unlinked (block_at new k) ≡ block_of s.addresses e
  others : (j : ℕ) → j < blocks_in old → kind_of (block_at old j) ≢ 1 → block_at new j ≡ block_at old j
  forms : (j : ℕ) → j < blocks_in old → j ≢ k → unlinked (block_at new j) ≡ unlinked (block_at old j)

-- ---- entries

-- no other entry has the read-write id of one that may come in
not_own : (s : Location) (e f g : VlEntry) (x : ℕ) → IsLocation s → IsRecord e → MayEnter f.rw e s → s.entry x ≡ Some g → x ≢ f.rw
    → x ≢ e.rw
not_own s e f g x valid is may at other = λ same.
    let has : has_id e.rw g ≡ true =
    subst (λ (i : ℕ). has_id i g ≡ true) (valid.ids x g at ∙ same) (own_id g (valid.records x g at)) in
    is_false (has_id e.rw g) has (may.ids x e.rw g at other (own_id e is))

entry_there : (s : Location) (e f g : VlEntry) (x : ℕ) → IsLocation s → IsRecord e → MayEnter f.rw e s → s.entry x ≡ Some g → x ≢ f.rw
    → (with_entered f.rw e s).entry x ≡ Some g
entry_there s e f g x valid is may at other =
    under_other e.rw x (Some e) (without_entry f.rw s).entry (not_own s e f g x valid is may at other)
    ∙ under_other f.rw x None s.entry other ∙ at

entry_back : (s : Location) (e f g : VlEntry) (x : ℕ) → (with_entered f.rw e s).entry x ≡ Some g
    → ((x ≡ e.rw) × (g ≡ e)) ⊎ ((x ≢ f.rw) × (s.entry x ≡ Some g))
entry_back s e f g x at =
    ⊎_elim
    (λ (same : x ≡ e.rw). inl (same, some_same (sym at ∙ under_same e.rw x (Some e) (without_entry f.rw s).entry same)))
    (λ (other : x ≢ e.rw).
    let mid : (without_entry f.rw s).entry x ≡ Some g = sym (under_other e.rw x (Some e) (without_entry f.rw s).entry other) ∙ at in
    inr (each_without s f.rw (λ y h. (y ≢ f.rw) × (s.entry y ≡ Some h)) (λ y h there out. (out, there)) x g mid))
    (cases_eq x e.rw)

-- ---- blocks

other_entry : (s : Location) (e f g : VlEntry) (old : List ℕ) (k : ℕ) (new : List ℕ) (j : ℕ) → IsReplaced s e f old k new
    → j < blocks_in old → j ≢ k → IsBlockOf s g (block_at old j) → g.rw ≢ f.rw
other_entry s e f g old k new j done below other of = λ same.
    let is : g ≡ f = some_same (sym of.0 ∙ ap s.entry same ∙ done.was.0) in
    other (done.lies.one j k f below done.within (subst (λ (x : VlEntry). IsBlockOf s x (block_at old j)) is of) done.was)

block_there : (s : Location) (e f g : VlEntry) (old : List ℕ) (k : ℕ) (new : List ℕ) (j : ℕ) → IsReplaced s e f old k new
    → j < blocks_in old → j ≢ k → IsBlockOf s g (block_at old j) → IsBlockOf (with_entered f.rw e s) g (block_at new j)
block_there s e f g old k new j done below other of = (
  entry_there s e f g g.rw done.valid done.is done.may of.0 (other_entry s e f g old k new j done below other of),
  done.forms j below other ∙ of.1,
)

block_own : (s : Location) (e f : VlEntry) (old : List ℕ) (k : ℕ) (new : List ℕ) → IsReplaced s e f old k new
    → IsBlockOf (with_entered f.rw e s) e (block_at new k)
block_own s e f old k new done = (under_same e.rw e.rw (Some e) (without_entry f.rw s).entry refl, done.own)

free_stays : (s : Location) (e f : VlEntry) (old : List ℕ) (k : ℕ) (new : List ℕ) (j : ℕ) → IsReplaced s e f old k new
    → j < blocks_in old → IsFree (block_at old j) → IsFree (block_at new j)
free_stays s e f old k new j done below free =
    let kind : kind_of (block_at old j) ≡ 0 = free_kind (block_at old j) (block_len old j done.lies.size below) free in
    subst IsFree (sym (done.others j below (λ one. omega (arith, kind, one)))) free

block_was : (s : Location) (e f g : VlEntry) (old : List ℕ) (k : ℕ) (new : List ℕ) (j : ℕ) → IsReplaced s e f old k new
    → j < blocks_in old → j ≢ k → IsBlockOf (with_entered f.rw e s) g (block_at new j) → IsBlockOf s g (block_at old j)
block_was s e f g old k new j done below other of =
    let after = location_entered s f.rw e done.valid done.is done.may in
    let inside : j < blocks_in new = omega (arith, below, count_same old new done.size) in
    ⊎_elim
    (λ (free : IsFree (block_at old j)).
    absurd (not_free s.addresses new j g (whole_on old new done.lies.size done.size) inside
    (free_stays s e f old k new j done below free) of.1))
    (λ (found : (h : VlEntry) × IsBlockOf s h (block_at old j)).
    let h = found.0 in
    let form : block_of s.addresses h ≡ block_of s.addresses g = sym found.1.1 ∙ sym (done.forms j below other) ∙ of.1 in
    let same : h ≡ g = form_same s.addresses h g (done.valid.records h.rw h found.1.0) (done.valid.hosts h.rw h found.1.0)
    (after.records g.rw g of.0) (after.hosts g.rw g of.0) form in
    subst (λ (x : VlEntry). IsBlockOf s x (block_at old j)) same found.1)
    (done.lies.blocks j below)

block_back : (s : Location) (e f g : VlEntry) (old : List ℕ) (k : ℕ) (new : List ℕ) (j : ℕ) → IsReplaced s e f old k new
    → j < blocks_in old → IsBlockOf (with_entered f.rw e s) g (block_at new j)
    → ((j ≡ k) × (g ≡ e)) ⊎ ((j ≢ k) × IsBlockOf s g (block_at old j))
block_back s e f g old k new j done below of =
    let after = location_entered s f.rw e done.valid done.is done.may in
    ⊎_elim
    (λ (same : j ≡ k).
    let form : block_of s.addresses g ≡ block_of s.addresses e =
    sym of.1 ∙ ap (λ (i : ℕ). unlinked (block_at new i)) same ∙ done.own in
    inl (same, form_same s.addresses g e (after.records g.rw g of.0) (after.hosts g.rw g of.0) done.is done.may.hosts form))
    (λ (other : j ≢ k). inr (other, block_was s e f g old k new j done below other of))
    (cases_eq j k)

-- the entry that comes in is none of the others
not_other : (s : Location) (e f g : VlEntry) (old : List ℕ) (k : ℕ) (new : List ℕ) (j : ℕ) → IsReplaced s e f old k new
    → j < blocks_in old → j ≢ k → IsBlockOf s g (block_at old j) → g ≡ e → ⊥
not_other s e f g old k new j done below other of same =
    not_own s e f g g.rw done.valid done.is done.may of.0 (other_entry s e f g old k new j done below other of)
    (ap (λ (x : VlEntry). x.rw) same)

-- ---- numbers of blocks

number_there : (s : Location) (e f g : VlEntry) (old : List ℕ) (k : ℕ) (new : List ℕ) (m : ℕ) → IsReplaced s e f old k new → m - 1 ≢ k
    → IsNumberOf s old m g → IsNumberOf (with_entered f.rw e s) new m g
number_there s e f g old k new m done other is = record {
  some = is.some;
  within = omega (arith, is.within, count_same old new done.size);
  block = block_there s e f g old k new (m - 1) done (omega (arith, is.some, is.within)) other is.block;
}

number_own : (s : Location) (e f : VlEntry) (old : List ℕ) (k : ℕ) (new : List ℕ) (m : ℕ) → IsReplaced s e f old k new → m ≡ k + 1
    → IsNumberOf (with_entered f.rw e s) new m e
number_own s e f old k new m done is =
    let back : m - 1 ≡ k = omega arith in record {
      some = omega arith;
      within = omega (arith, done.within, count_same old new done.size);
      block = subst (λ (j : ℕ). IsBlockOf (with_entered f.rw e s) e (block_at new j)) (sym back) (block_own s e f old k new done);
    }

number_back : (s : Location) (e f g : VlEntry) (old : List ℕ) (k : ℕ) (new : List ℕ) (m : ℕ) → IsReplaced s e f old k new
    → IsNumberOf (with_entered f.rw e s) new m g → ((m ≡ k + 1) × (g ≡ e)) ⊎ ((m - 1 ≢ k) × IsNumberOf s old m g)
number_back s e f g old k new m done is =
    let count : blocks_in new ≡ blocks_in old = count_same old new done.size in
    ⊎_elim
    (λ (own : (m - 1 ≡ k) × (g ≡ e)). inl (omega (arith, own.0, is.some), own.1))
    (λ (was : (m - 1 ≢ k) × IsBlockOf s g (block_at old (m - 1))).
    inr (was.0, record { some = is.some; within = omega (arith, is.within); block = was.1 }))
    (block_back s e f g old k new (m - 1) done (omega (arith, is.some, is.within, count)) is.block)

-- ---- words of chains

name_there : (s : Location) (e f : VlEntry) (old : List ℕ) (k n : ℕ) (new : List ℕ) (key w : ℕ) → n ≡ k + 1 → IsReplaced s e f old k new
    → NameWords s old n e.name key w → IsNameWord (with_entered f.rw e s) new key w
name_there s e f old k n new key w next done has =
    ⊎_elim
    (λ (was : IsNameWord s old key w × (w ≢ n)).
    let is = was.0 in
    let other = was.1 in
    let r : IsNameWord (with_entered f.rw e s) new key w = record {
      entry = is.entry;
      number = number_there s e f is.entry old k new w done (λ same. other (omega (arith, same, is.number.some, next))) is.number;
      keyed = is.keyed;
    } in r)
    (λ (own : (w ≡ n) × (name_key e.name ≡ key)).
    let r : IsNameWord (with_entered f.rw e s) new key w =
    record { entry = e; number = number_own s e f old k new w done (own.0 ∙ next); keyed = own.1 } in r)
    has

name_back : (s : Location) (e f : VlEntry) (old : List ℕ) (k n : ℕ) (new : List ℕ) (key w : ℕ) → n ≡ k + 1 → IsReplaced s e f old k new
    → IsNameWord (with_entered f.rw e s) new key w → NameWords s old n e.name key w
name_back s e f old k n new key w next done is =
    ⊎_elim
    (λ (own : (w ≡ k + 1) × (is.entry ≡ e)).
    let r : NameWords s old n e.name key w =
    inr (own.0 ∙ sym next, ap (λ (x : VlEntry). name_key x.name) (sym own.1) ∙ is.keyed) in r)
    (λ (was : (w - 1 ≢ k) × IsNumberOf s old w is.entry).
    let r : NameWords s old n e.name key w =
    inl (record { entry = is.entry; number = was.1; keyed = is.keyed }, λ same. was.0 (omega (arith, same, next))) in r)
    (number_back s e f is.entry old k new w done is.number)

id_there : (s : Location) (e f : VlEntry) (old : List ℕ) (k n : ℕ) (new : List ℕ) (key w : ℕ) → n ≡ k + 1 → IsReplaced s e f old k new
    → IdWords s old n (ids_0 e) key w → IsIdWord (with_entered f.rw e s) new key w
id_there s e f old k n new key w next done has =
    ⊎_elim
    (λ (was : IsIdWord s old key w × (w / 4 ≢ n)).
    let is = was.0 in
    let other = was.1 in
    let r : IsIdWord (with_entered f.rw e s) new key w = record {
      entry = is.entry;
      number = number_there s e f is.entry old k new (w / 4) done (λ same. other (omega (arith, same, is.number.some, next))) is.number;
      kind = is.kind;
      some = is.some;
      keyed = is.keyed;
    } in r)
    (λ (own : (w / 4 ≡ n) × (w % 4 < 3) × (id_of (w % 4) e ≢ 0) × (id_key (id_of (w % 4) e) ≡ key)).
    let r : IsIdWord (with_entered f.rw e s) new key w = record {
      entry = e;
      number = number_own s e f old k new (w / 4) done (own.0 ∙ next);
      kind = own.1;
      some = own.2;
      keyed = own.3;
    } in r)
    has

id_back : (s : Location) (e f : VlEntry) (old : List ℕ) (k n : ℕ) (new : List ℕ) (key w : ℕ) → n ≡ k + 1 → IsReplaced s e f old k new
    → IsIdWord (with_entered f.rw e s) new key w → IdWords s old n (ids_0 e) key w
id_back s e f old k n new key w next done is =
    ⊎_elim
    (λ (own : (w / 4 ≡ k + 1) × (is.entry ≡ e)).
    let same : id_of (w % 4) is.entry ≡ id_of (w % 4) e = ap (λ (x : VlEntry). id_of (w % 4) x) own.1 in
    let r : IdWords s old n (ids_0 e) key w =
    inr (own.0 ∙ sym next, is.kind, (λ none. is.some (same ∙ none)), ap id_key (sym same) ∙ is.keyed) in r)
    (λ (was : (w / 4 - 1 ≢ k) × IsNumberOf s old (w / 4) is.entry).
    let word_of : IsIdWord s old key w =
    record { entry = is.entry; number = was.1; kind = is.kind; some = is.some; keyed = is.keyed } in
    let r : IdWords s old n (ids_0 e) key w = inl (word_of, λ same. was.0 (omega (arith, same, next))) in r)
    (number_back s e f is.entry old k new (w / 4) done is.number)

-- ---- the image

replaced_from : (n : ℕ) (block old new : List ℕ) (e : VlEntry) (h : HasEntry n block old) → IsRecord e → MayEnter h.entry.rw e h.state
    → HasFields (n - 1) (block_of h.state.addresses e) (moved n block e old) new
    → IsReplaced h.state e h.entry old (n - 1) new
replaced_from n block old new e h is may has =
    let k = n - 1 in
    let s = h.state in
    let mid = moved n block e old in
    let kept = (step_4 n block old e h).kept in
    let whole = h.laid.size in
    let below : k < blocks_in old = omega (arith, h.number.some, h.number.within) in
    let count : blocks_in mid ≡ blocks_in old = count_same old mid kept.size in
    let kind : kind_of (block_at old k) ≡ 1 = own_kind s h.entry old k whole below h.number.block in
    record {
      valid = h.valid;
      is = is;
      may = may;
      lies = h.laid;
      within = below;
      was = h.number.block;
      size = has.size ∙ kept.size;
      own = form_written s.addresses mid new e h.entry k is (whole_on old mid whole kept.size) (omega arith)
          (kept.forms k below ∙ h.number.block.1) has;
      others = λ j less other.
          has.others j (omega arith) (λ same. other (ap (λ (i : ℕ). kind_of (block_at old i)) same ∙ kind)) ∙ kept.others j less other;
      forms = λ j less other. ap unlinked (has.others j (omega arith) other) ∙ kept.forms j less;
    }

head_replaced : (s : Location) (own : ℕ) (e : VlEntry) (count : ℕ) → head_of s count ≡ head_of (with_entered own e s) count
unfolding head_of
head_replaced s own e count = refl

one_after : (s : Location) (e f g : VlEntry) (old : List ℕ) (k : ℕ) (new : List ℕ) (i j : ℕ) → IsReplaced s e f old k new
    → i < blocks_in old → j < blocks_in old → IsBlockOf (with_entered f.rw e s) g (block_at new i)
    → IsBlockOf (with_entered f.rw e s) g (block_at new j) → i ≡ j
one_after s e f g old k new i j done in_i in_j at_i at_j =
    ⊎_elim
    (λ (own : (i ≡ k) × (g ≡ e)). ⊎_elim
    (λ (also : (j ≡ k) × (g ≡ e)). own.0 ∙ sym also.0)
    (λ (was : (j ≢ k) × IsBlockOf s g (block_at old j)). absurd (not_other s e f g old k new j done in_j was.0 was.1 own.1))
    (block_back s e f g old k new j done in_j at_j))
    (λ (was : (i ≢ k) × IsBlockOf s g (block_at old i)). ⊎_elim
    (λ (own : (j ≡ k) × (g ≡ e)). absurd (not_other s e f g old k new i done in_i was.0 was.1 own.1))
    (λ (also : (j ≢ k) × IsBlockOf s g (block_at old j)). done.lies.one i j g in_i in_j was.1 also.1)
    (block_back s e f g old k new j done in_j at_j))
    (block_back s e f g old k new i done in_i at_i)

blocks_after : (s : Location) (e f : VlEntry) (old : List ℕ) (k : ℕ) (new : List ℕ) (j : ℕ) → IsReplaced s e f old k new
    → j < blocks_in old → IsFree (block_at new j) ⊎ ((g : VlEntry) × IsBlockOf (with_entered f.rw e s) g (block_at new j))
blocks_after s e f old k new j done below =
    ⊎_elim
    (λ (same : j ≡ k).
    inr (e, subst (λ (i : ℕ). IsBlockOf (with_entered f.rw e s) e (block_at new i)) (sym same) (block_own s e f old k new done)))
    (λ (other : j ≢ k). ⊎_elim
    (λ (free : IsFree (block_at old j)). inl (free_stays s e f old k new j done below free))
    (λ (of : (g : VlEntry) × IsBlockOf s g (block_at old j)). inr (of.0, block_there s e f of.0 old k new j done below other of.1))
    (done.lies.blocks j below))
    (cases_eq j k)

only_after : (s : Location) (e f g : VlEntry) (old : List ℕ) (k : ℕ) (new : List ℕ) (x : ℕ) → IsReplaced s e f old k new
    → (with_entered f.rw e s).entry x ≡ Some g
    → (j : ℕ) × (j < blocks_in new) × IsBlockOf (with_entered f.rw e s) g (block_at new j)
only_after s e f g old k new x done at =
    let count : blocks_in new ≡ blocks_in old = count_same old new done.size in
    ⊎_elim
    (λ (own : (x ≡ e.rw) × (g ≡ e)). (
      k,
      omega (arith, done.within),
      subst (λ (y : VlEntry). IsBlockOf (with_entered f.rw e s) y (block_at new k)) (sym own.1)
          (block_own s e f old k new done),
    ))
    (λ (was : (x ≢ f.rw) × (s.entry x ≡ Some g)).
    let o = done.lies.only x g was.1 in
    let less = o.1 in
    let other : o.0 ≢ k = λ same.
    let is : g ≡ f = form_same s.addresses g f (done.valid.records x g was.1) (done.valid.hosts x g was.1)
    (done.valid.records f.rw f done.was.0) (done.valid.hosts f.rw f done.was.0)
    (sym o.2.1 ∙ ap (λ (i : ℕ). unlinked (block_at old i)) same ∙ done.was.1) in
    was.0 (sym (done.valid.ids x g was.1) ∙ ap (λ (y : VlEntry). y.rw) is) in
    (o.0, omega arith, block_there s e f g old k new o.0 done less other o.2))
    (entry_back s e f g x at)

none_after : (s : Location) (e f g : VlEntry) (old : List ℕ) (k n : ℕ) (new : List ℕ) (j kind w : ℕ) → IsReplaced s e f old k new
    → n ≡ k + 1 → j < blocks_in old → IsBlockOf (with_entered f.rw e s) g (block_at new j) → kind < 3 → id_of kind g ≡ 0
    → w / 4 ≡ j + 1 → w % 4 ≡ kind → NoWords s old n (ids_0 e) w
none_after s e f g old k n new j kind w done next below of low none block rest =
    ⊎_elim
    (λ (own : (j ≡ k) × (g ≡ e)).
    let r : NoWords s old n (ids_0 e) w =
    inr (
      omega (arith, block, own.0, next),
      omega (arith, rest, low),
      ap (λ (c : ℕ). id_of c e) rest ∙ ap (λ (x : VlEntry). id_of kind x) (sym own.1) ∙ none,
    ) in r)
    (λ (was : (j ≢ k) × IsBlockOf s g (block_at old j)).
    let back : w / 4 - 1 ≡ j = omega arith in
    let number : IsNumberOf s old (w / 4) g = record {
      some = omega arith;
      within = omega arith;
      block = subst (λ (i : ℕ). IsBlockOf s g (block_at old i)) (sym back) was.1;
    } in
    let unused : IsUnused s old w = (g, number, omega (arith, rest, low), ap (λ (c : ℕ). id_of c g) rest ∙ none) in
    let r : NoWords s old n (ids_0 e) w = inl (unused, λ same. was.0 (omega (arith, same, block, next))) in r)
    (block_back s e f g old k new j done below of)

free_after : (n : ℕ) (block old new : List ℕ) (e : VlEntry) (h : HasEntry n block old)
    → HasFields (n - 1) (block_of h.state.addresses e) (moved n block e old) new
    → IsReplaced h.state e h.entry old (n - 1) new → HasFree new
free_after n block old new e h has done =
    let k = n - 1 in
    let s = h.state in
    let mid = moved n block e old in
    let step = step_4 n block old e h in
    let whole = h.laid.size in
    let count : blocks_in new ≡ blocks_in old = count_same old new done.size in
    let kind : kind_of (block_at mid k) ≡ 1 =
    kind_stays old mid k whole step.kept done.within ∙ own_kind s h.entry old k whole done.within done.was in
    record {
      words = h.laid.free.words;
      chain = free_written mid new (block_of s.addresses e) k 16 h.laid.free.words (whole_on old mid whole step.kept.size) has kind
          (omega arith) step.free;
      ascending = h.laid.free.ascending;
      each = λ j below free.
          let less : j < blocks_in old = omega arith in
          ⊎_elim
          (λ (was : IsFree (block_at old j)). h.laid.free.each j less was)
          (λ (of : (g : VlEntry) × IsBlockOf s g (block_at old j)).
          absurd (⊎_elim
          (λ (same : j ≡ k).
          not_free s.addresses new k e (whole_on old new whole done.size) (omega (arith, done.within))
          (subst (λ (i : ℕ). IsFree (block_at new i)) same free) done.own)
          (λ (other : j ≢ k).
          not_free s.addresses new j of.0 (whole_on old new whole done.size) below free (done.forms j less other ∙ of.1.1))
          (cases_eq j k)))
          (h.laid.blocks j less);
    }

laid_after : (n : ℕ) (block old new : List ℕ) (e : VlEntry) (h : HasEntry n block old)
    → HasFields (n - 1) (block_of h.state.addresses e) (moved n block e old) new
    → IsReplaced h.state e h.entry old (n - 1) new → IsLaidOut new (with_entered h.entry.rw e h.state)
laid_after n block old new e h has done =
    let k = n - 1 in
    let s = h.state in
    let f = h.entry in
    let t = with_entered f.rw e s in
    let b = block_of s.addresses e in
    let mid = moved n block e old in
    let step = step_4 n block old e h in
    let whole = whole_on old mid h.laid.size step.kept.size in
    let next : n ≡ k + 1 = omega (arith, h.number.some) in
    let count : blocks_in new ≡ blocks_in old = count_same old new done.size in
    record {
      size = whole_on old new h.laid.size done.size;
      head = ap unlinked_head has.head ∙ step.kept.head ∙ h.laid.head ∙ head_replaced s f.rw e (blocks_in old)
          ∙ ap (head_of t) (sym count);
      blocks = λ j below. blocks_after s e f old k new j done (omega arith);
      only = λ x g at. only_after s e f g old k new x done at;
      one = λ i j g in_i in_j at_i at_j. one_after s e f g old k new i j done (omega arith) (omega arith) at_i at_j;
      names = λ key low.
          let v = step.names key low in
          let there : Visits name_links new (name_place key) (NameWords s old n e.name key) = record {
            words = v.words;
            chain = names_written mid new b k (name_place key) v.words whole has (omega arith) v.chain;
            only = v.only;
            each = v.each;
          } in
          visits_as name_links new (name_place key) (NameWords s old n e.name key) (IsNameWord t new key)
          (λ w in_chain. name_there s e f old k n new key w next done in_chain)
          (λ w is. name_back s e f old k n new key w next done is) there;
      ids = λ key low.
          let v = step.ids key low in
          let there : Visits id_links new (id_place key) (IdWords s old n (ids_0 e) key) = record {
            words = v.words;
            chain = ids_written mid new b k (id_place key) v.words whole has (omega arith) v.chain;
            only = v.only;
            each = v.each;
          } in
          visits_as id_links new (id_place key) (IdWords s old n (ids_0 e) key) (IsIdWord t new key)
          (λ w in_chain. id_there s e f old k n new key w next done in_chain)
          (λ w is. id_back s e f old k n new key w next done is) there;
      unused = λ j g below of kind low none.
          let o = 40 + 4 * kind in
          let w = 4 * (j + 1) + kind in
          let less : j < blocks_in old = omega arith in
          let block_is : w / 4 ≡ j + 1 = omega arith in
          let rest : w % 4 ≡ kind = omega arith in
          let place : block_place 3132 j + o ≡ next_place id_links w = omega arith in
          let apart = apart_in k j o (inr (omega arith, omega arith)) in
          in_block 3132 new j o (192 - o) (omega arith) (omega arith)
          ∙ has.words (block_place 3132 j + o) (omega (arith, whole, less, step.kept.size, h.laid.size)) apart.0 apart.1
          ∙ ap (word_at mid) place
          ∙ step.unused w (none_after s e f g old k n new j kind w done next less of low none block_is rest);
      free = free_after n block old new e h has done;
    }

pub laid_replaced : (n : ℕ) (block old : List ℕ) (e : VlEntry) (h : HasEntry n block old) → IsRecord e → MayEnter h.entry.rw e h.state
    → IsLaidOut (with_fields (n - 1) (block_of h.state.addresses e) (moved n block e old)) (with_entered h.entry.rw e h.state)
laid_replaced n block old e h is may =
    let k = n - 1 in
    let b = block_of h.state.addresses e in
    let mid = moved n block e old in
    let new = with_fields k b mid in
    let kept = (step_4 n block old e h).kept in
    let has = written mid b k (whole_on old mid h.laid.size kept.size)
    (omega (arith, h.number.some, h.number.within, count_same old mid kept.size)) (length-block h.state.addresses e is) in
    laid_after n block old new e h has (replaced_from n block old new e h is may has)
