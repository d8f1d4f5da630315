-- The image after an entry was inserted holds the database with it.
use Rattle.std.proofs.Common.{◌≡◌, ◌≢◌, ℕ, zero, suc, ◌+◌, ◌-◌, ◌*◌, ◌/◌, ◌%◌, ◌<◌, ◌≤◌, ◌⊎◌, inl, inr, ⊎_elim, true, not, ◌&&◌, ◌||◌, eqb, List, Some, None, take, refl, sym, ap, subst, ◌∙◌, arith}
use Rattle.std.specs.List.{All, Contains}
use Rattle.std.proofs.lemmas.Bool.{cases_eq, eq-eqb}
use Rattle.db_blocks.specs.Blocks.{IsWhole, word_at, kind_of}
use Rattle.db_blocks.specs.Bytes.{words, zeros}
use Rattle.db_blocks.proofs.BlockPlaces.{changed_laid, laid}
use Rattle.db_blocks.proofs.Maps.{some_same, under_other, under_same}
use Rattle.db_chains.specs.Free.{next_number, with_taken}
use Rattle.db_chains.proofs.Words.{in_block}
use Rattle.db_chains.proofs.Entered.{visits_as}
use Rattle.db_chains.specs.Keys.{name_key}
use Rattle.vldb_chains.specs.Keys.{id_key}
use Rattle.vldb_chains.specs.Places.{free_blocks, id_links, name_links}
use Rattle.vldb_entries.specs.declared.entries.VlEntry.{VlEntry}
use Rattle.vldb_entries.specs.Location.{IsLocation, IsRecord, Location, MayEnter, has_id, with_entered, without_entry}
use Rattle.vldb_entries.specs.Forms.{block_at, block_of, blocks_in, entry_in, head_of, whole}
use Rattle.vldb_entries.proofs.EntryAgain.{entry_again, kind_again, length-block, not_zero}
use Rattle.vldb_entries.proofs.Locations.{each_without, location_entered}
use Rattle.vldb_records.specs.Records.{HasFree, Holds, IsBlockOf, IsFree, IsIdWord, IsLaidOut, IsNameWord, IsNumberOf, id_of, id_place, name_place, unlinked, unlinked_head}
use Rattle.vldb_records.specs.Changes.{after_insert, entered}
use Rattle.vldb_records.proofs.Fields.{block_len, free_kind, number_stays}
use Rattle.vldb_records.proofs.HeadTold.{laid_addresses}
use Rattle.vldb_records.proofs.Held.{holds_from}
use Rattle.vldb_records.proofs.Lookups.{is_false}
use Rattle.vldb_records.proofs.Stages.{AlsoIds, AlsoName, IsOwnBlock, IsStage, stage_entered}
use Rattle.vldb_records.proofs.Stays.{KeepsForms, count_same, keeps_none, whole_on}
use Rattle.vldb_records.proofs.Taken.{IsBase, is_base}

-- ---- entries

has_own : (a b c : ℕ) → 0 < a → (not (eqb a 0) && (eqb a a || eqb b a || eqb c a)) ≡ true
has_own a b c low = rw (not_zero a low, eq-eqb a a refl) refl

pub own_id : (e : VlEntry) → IsRecord e → has_id e.rw e ≡ true
own_id e is = has_own e.rw e.ro e.backup is.rw_low

-- no entry has the read-write id of one that may come in
fresh : (s : Location) (e f : VlEntry) → IsLocation s → IsRecord e → MayEnter 0 e s → s.entry e.rw ≡ Some f → ⊥
fresh s e f valid is may at =
    let has : has_id e.rw f ≡ true =
    subst (λ (n : ℕ). has_id n f ≡ true) (valid.ids e.rw f at) (own_id f (valid.records e.rw f at)) in
    is_false (has_id e.rw f) has (may.ids e.rw e.rw f at (λ none. omega (arith, none, is.rw_low)) (own_id e is))

entry_there : (s : Location) (e f : VlEntry) (x : ℕ) → IsLocation s → IsRecord e → MayEnter 0 e s → s.entry x ≡ Some f
    → (with_entered 0 e s).entry x ≡ Some f
entry_there s e f x valid is may at =
    let other : x ≢ e.rw = λ same. fresh s e f valid is may (ap s.entry (sym same) ∙ at) in
    let record_of = valid.records x f at in
    let some : x ≢ 0 = λ none. omega (arith, record_of.rw_low, valid.ids x f at, none) in
    under_other e.rw x (Some e) (without_entry 0 s).entry other ∙ under_other 0 x None s.entry some ∙ at

entry_back : (s : Location) (e f : VlEntry) (x : ℕ) → (with_entered 0 e s).entry x ≡ Some f
    → ((x ≡ e.rw) × (f ≡ e)) ⊎ (s.entry x ≡ Some f)
entry_back s e f x at =
    ⊎_elim
    (λ (same : x ≡ e.rw). inl (same, some_same (sym at ∙ under_same e.rw x (Some e) (without_entry 0 s).entry same)))
    (λ (other : x ≢ e.rw).
    let mid : (without_entry 0 s).entry x ≡ Some f = sym (under_other e.rw x (Some e) (without_entry 0 s).entry other) ∙ at in
    inr (each_without s 0 (λ y g. s.entry y ≡ Some g) (λ y g there out. there) x f mid))
    (cases_eq x e.rw)

-- ---- blocks

pub unlinked_form : (addresses : List ℕ) (e : VlEntry) → IsRecord e → unlinked (block_of addresses e) ≡ block_of addresses e
unfolding unlinked block_of words zeros laid
unlinked_form addresses e is =
    let size = length-block addresses e is in
    changed_laid (block_of addresses e) (zeros 16) 36 (omega (arith, size)) ∙ refl

pub form_same : (addresses : List ℕ) (e f : VlEntry) → IsRecord e → All (λ site. Contains addresses site.host) e.sites → IsRecord f
    → All (λ site. Contains addresses site.host) f.sites → block_of addresses e ≡ block_of addresses f → e ≡ f
form_same addresses e f is_e in_e is_f in_f same =
    sym (entry_again addresses e is_e in_e) ∙ ap (entry_in addresses) same ∙ entry_again addresses f is_f in_f

pub not_free : (addresses image : List ℕ) (j : ℕ) (f : VlEntry) → IsWhole 3132 image → j < blocks_in image → IsFree (block_at image j)
    → unlinked (block_at image j) ≡ block_of addresses f → ⊥
not_free addresses image j f whole below free form =
    let size = block_len image j whole below in
    let none : kind_of (block_at image j) ≡ 0 = free_kind (block_at image j) size free in
    let one : kind_of (block_at image j) ≡ 1 =
    number_stays (block_at image j) 0 size (omega arith) ∙ ap kind_of form ∙ kind_again addresses f in
    omega (arith, none, one)

-- An entry may come into an old image, and stands in the block of a number of the new one; all others are the old ones, and that one was
-- free where it was there.
record IsDone (s : Location) (e : VlEntry) (old : List ℕ) (k : ℕ) (new : List ℕ) : Type 0 where
  valid : IsLocation s
  is : IsRecord e
  may : MayEnter 0 e s
  lies : IsLaidOut old s
  whole : IsWhole 3132 new
  within : k < blocks_in new
  own : unlinked (block_at new k) ≡ block_of s.addresses e
  was : k < blocks_in old → IsFree (block_at old k)
  more : blocks_in old ≤ blocks_in new
  only : (j : ℕ) → j < blocks_in new → j ≢ k → j < blocks_in old
  others : (j : ℕ) → j < blocks_in old → j ≢ k → block_at new j ≡ block_at old j

was_other : (s : Location) (e f : VlEntry) (old : List ℕ) (k : ℕ) (new : List ℕ) (j : ℕ) → IsDone s e old k new → j < blocks_in old
    → IsBlockOf s f (block_at old j) → j ≢ k
was_other s e f old k new j done below is = λ same.
    not_free s.addresses old j f done.lies.size below
    (subst (λ (i : ℕ). IsFree (block_at old i)) (sym same) (done.was (omega arith))) is.1

block_there : (s : Location) (e f : VlEntry) (old : List ℕ) (k : ℕ) (new : List ℕ) (j : ℕ) → IsDone s e old k new → j < blocks_in old
    → IsBlockOf s f (block_at old j) → IsBlockOf (with_entered 0 e s) f (block_at new j)
block_there s e f old k new j done below is = (
  entry_there s e f f.rw done.valid done.is done.may is.0,
  ap unlinked (done.others j below (was_other s e f old k new j done below is)) ∙ is.1,
)

own_entry : (s : Location) (e : VlEntry) → (with_entered 0 e s).entry e.rw ≡ Some e
own_entry s e = under_same e.rw e.rw (Some e) (without_entry 0 s).entry refl

block_own : (s : Location) (e : VlEntry) (old : List ℕ) (k : ℕ) (new : List ℕ) → IsDone s e old k new
    → IsBlockOf (with_entered 0 e s) e (block_at new k)
block_own s e old k new done = (own_entry s e, done.own)

-- the block of an entry of the new database that is one of the old blocks
block_was : (s : Location) (e f : VlEntry) (old : List ℕ) (k : ℕ) (new : List ℕ) (j : ℕ) → IsDone s e old k new → j < blocks_in old
    → (with_entered 0 e s).entry f.rw ≡ Some f → unlinked (block_at old j) ≡ block_of s.addresses f → IsBlockOf s f (block_at old j)
block_was s e f old k new j done below at form =
    let after = location_entered s 0 e done.valid done.is done.may in
    ⊎_elim
    (λ (free : IsFree (block_at old j)). absurd (not_free s.addresses old j f done.lies.size below free form))
    (λ (of : (g : VlEntry) × IsBlockOf s g (block_at old j)).
    let g = of.0 in
    let same : g ≡ f = form_same s.addresses g f (done.valid.records g.rw g of.1.0) (done.valid.hosts g.rw g of.1.0)
    (after.records f.rw f at) (after.hosts f.rw f at) (sym of.1.1 ∙ form) in
    subst (λ (x : VlEntry). IsBlockOf s x (block_at old j)) same of.1)
    (done.lies.blocks j below)

block_back : (s : Location) (e f : VlEntry) (old : List ℕ) (k : ℕ) (new : List ℕ) (j : ℕ) → IsDone s e old k new → j < blocks_in new
    → IsBlockOf (with_entered 0 e s) f (block_at new j)
    → ((j ≡ k) × (f ≡ e)) ⊎ ((j ≢ k) × (j < blocks_in old) × IsBlockOf s f (block_at old j))
block_back s e f old k new j done below is =
    let after = location_entered s 0 e done.valid done.is done.may in
    ⊎_elim
    (λ (same : j ≡ k).
    let form : block_of s.addresses f ≡ block_of s.addresses e =
    sym is.1 ∙ ap (λ (i : ℕ). unlinked (block_at new i)) same ∙ done.own in
    inl (same, form_same s.addresses f e (after.records f.rw f is.0) (after.hosts f.rw f is.0) done.is done.may.hosts form))
    (λ (other : j ≢ k).
    let less = done.only j below other in
    inr (
      other,
      less,
      block_was s e f old k new j done less is.0 (ap unlinked (sym (done.others j less other)) ∙ is.1),
    ))
    (cases_eq j k)

-- the entry that comes in is none of the old ones
not_old : (s : Location) (e f : VlEntry) (block : List ℕ) → IsLocation s → IsRecord e → MayEnter 0 e s → f ≡ e → IsBlockOf s f block → ⊥
not_old s e f block valid is may same of =
    fresh s e e valid is may (subst (λ (x : VlEntry). s.entry x.rw ≡ Some x) same of.0)

-- ---- numbers of blocks

number_there : (s : Location) (e f : VlEntry) (old : List ℕ) (k : ℕ) (new : List ℕ) (n : ℕ) → IsDone s e old k new
    → IsNumberOf s old n f → IsNumberOf (with_entered 0 e s) new n f
number_there s e f old k new n done is = record {
  some = is.some;
  within = omega (arith, is.within, done.more);
  block = block_there s e f old k new (n - 1) done (omega (arith, is.some, is.within)) is.block;
}

number_own : (s : Location) (e : VlEntry) (old : List ℕ) (k : ℕ) (new : List ℕ) (n : ℕ) → IsDone s e old k new → n ≡ k + 1
    → IsNumberOf (with_entered 0 e s) new n e
number_own s e old k new n done is =
    let back : n - 1 ≡ k = omega arith in record {
      some = omega arith;
      within = omega (arith, done.within);
      block = subst (λ (j : ℕ). IsBlockOf (with_entered 0 e s) e (block_at new j)) (sym back) (block_own s e old k new done);
    }

number_back : (s : Location) (e f : VlEntry) (old : List ℕ) (k : ℕ) (new : List ℕ) (n : ℕ) → IsDone s e old k new
    → IsNumberOf (with_entered 0 e s) new n f → IsNumberOf s old n f ⊎ ((n ≡ k + 1) × (f ≡ e))
number_back s e f old k new n done is =
    ⊎_elim
    (λ (own : (n - 1 ≡ k) × (f ≡ e)). inr (omega (arith, own.0, is.some), own.1))
    (λ (was : (n - 1 ≢ k) × (n - 1 < blocks_in old) × IsBlockOf s f (block_at old (n - 1))).
    inl (record { some = is.some; within = omega (arith, was.1, is.some); block = was.2 }))
    (block_back s e f old k new (n - 1) done (omega (arith, is.some, is.within)) is.block)

-- ---- words of chains

name_there : (s : Location) (e : VlEntry) (old : List ℕ) (k : ℕ) (new : List ℕ) (key w : ℕ) → IsDone s e old k new
    → AlsoName (name_key e.name) (k + 1) (IsNameWord s old) key w → IsNameWord (with_entered 0 e s) new key w
name_there s e old k new key w done has =
    ⊎_elim
    (λ (was : IsNameWord s old key w).
    let is : IsNameWord (with_entered 0 e s) new key w = record {
      entry = was.entry;
      number = number_there s e was.entry old k new w done was.number;
      keyed = was.keyed;
    } in is)
    (λ (own : (key ≡ name_key e.name) × (w ≡ k + 1)).
    let is : IsNameWord (with_entered 0 e s) new key w =
    record { entry = e; number = number_own s e old k new w done own.1; keyed = sym own.0 } in is)
    has

name_back : (s : Location) (e : VlEntry) (old : List ℕ) (k : ℕ) (new : List ℕ) (key w : ℕ) → IsDone s e old k new
    → IsNameWord (with_entered 0 e s) new key w → AlsoName (name_key e.name) (k + 1) (IsNameWord s old) key w
name_back s e old k new key w done is =
    ⊎_elim
    (λ (was : IsNumberOf s old w is.entry). inl (record { entry = is.entry; number = was; keyed = is.keyed }))
    (λ (own : (w ≡ k + 1) × (is.entry ≡ e)). inr (sym is.keyed ∙ ap (λ (x : VlEntry). name_key x.name) own.1, own.0))
    (number_back s e is.entry old k new w done is.number)

id_own : (s : Location) (e : VlEntry) (old : List ℕ) (k : ℕ) (new : List ℕ) (key w kind id : ℕ) → IsDone s e old k new → kind < 3
    → id_of kind e ≡ id → w / 4 ≡ k + 1 → w % 4 ≡ kind → id ≢ 0 → key ≡ id_key id → IsIdWord (with_entered 0 e s) new key w
id_own s e old k new key w kind id done low is block rest some keyed =
    let own : id_of (w % 4) e ≡ id = ap (λ (c : ℕ). id_of c e) rest ∙ is in record {
      entry = e;
      number = number_own s e old k new (w / 4) done block;
      kind = omega (arith, rest);
      some = λ none. some (sym own ∙ none);
      keyed = ap id_key own ∙ sym keyed;
    }

id_there : (s : Location) (e : VlEntry) (old : List ℕ) (k : ℕ) (new : List ℕ) (key w : ℕ) → IsDone s e old k new
    → AlsoIds e (k + 1) (IsIdWord s old) key w → IsIdWord (with_entered 0 e s) new key w
id_there s e old k new key w done has =
    let n = k + 1 in
    ⊎_elim
    (λ (a : (IsIdWord s old key w ⊎ ((e.rw ≢ 0) × (key ≡ id_key e.rw) × (w ≡ 4 * n)))
    ⊎ ((e.ro ≢ 0) × (key ≡ id_key e.ro) × (w ≡ 4 * n + 1))).
    ⊎_elim
    (λ (b : IsIdWord s old key w ⊎ ((e.rw ≢ 0) × (key ≡ id_key e.rw) × (w ≡ 4 * n))).
    ⊎_elim
    (λ (was : IsIdWord s old key w).
    let is : IsIdWord (with_entered 0 e s) new key w = record {
      entry = was.entry;
      number = number_there s e was.entry old k new (w / 4) done was.number;
      kind = was.kind;
      some = was.some;
      keyed = was.keyed;
    } in is)
    (λ (own : (e.rw ≢ 0) × (key ≡ id_key e.rw) × (w ≡ 4 * n)).
    id_own s e old k new key w 0 e.rw done (omega arith) refl (omega (arith, own.2)) (omega (arith, own.2)) own.0 own.1)
    b)
    (λ (own : (e.ro ≢ 0) × (key ≡ id_key e.ro) × (w ≡ 4 * n + 1)).
    id_own s e old k new key w 1 e.ro done (omega arith) refl (omega (arith, own.2)) (omega (arith, own.2)) own.0 own.1)
    a)
    (λ (own : (e.backup ≢ 0) × (key ≡ id_key e.backup) × (w ≡ 4 * n + 2)).
    id_own s e old k new key w 2 e.backup done (omega arith) refl (omega (arith, own.2)) (omega (arith, own.2)) own.0 own.1)
    has

-- one of the three kinds of ids of an entry
id_among : (D : ℕ → ℕ → Type 0) (e : VlEntry) (n key w kind : ℕ) → w / 4 ≡ n → w % 4 ≡ kind → kind < 3 → id_of kind e ≢ 0
    → id_key (id_of kind e) ≡ key → AlsoIds e n D key w
id_among D e n key w zero block rest low some keyed = inl (inl (inr (some, sym keyed, omega arith)))
id_among D e n key w (suc zero) block rest low some keyed = inl (inr (some, sym keyed, omega arith))
id_among D e n key w (suc (suc zero)) block rest low some keyed = inr (some, sym keyed, omega arith)
id_among D e n key w (suc (suc (suc m))) block rest low some keyed = absurd (omega arith)

id_back : (s : Location) (e : VlEntry) (old : List ℕ) (k : ℕ) (new : List ℕ) (key w : ℕ) → IsDone s e old k new
    → IsIdWord (with_entered 0 e s) new key w → AlsoIds e (k + 1) (IsIdWord s old) key w
id_back s e old k new key w done is =
    ⊎_elim
    (λ (was : IsNumberOf s old (w / 4) is.entry).
    inl (inl (inl (record { entry = is.entry; number = was; kind = is.kind; some = is.some; keyed = is.keyed }))))
    (λ (own : (w / 4 ≡ k + 1) × (is.entry ≡ e)).
    let same : id_of (w % 4) is.entry ≡ id_of (w % 4) e = ap (λ (x : VlEntry). id_of (w % 4) x) own.1 in
    id_among (IsIdWord s old) e (k + 1) key w (w % 4) own.0 refl is.kind (λ none. is.some (same ∙ none)) (ap id_key (sym same) ∙ is.keyed))
    (number_back s e is.entry old k new (w / 4) done is.number)

-- ---- the image

free_after : (s : Location) (e : VlEntry) (old base : List ℕ) (k n : ℕ) (new : List ℕ) (N D : ℕ → ℕ → Type 0) (b : IsBase s e old n base)
    → n - 1 ≡ k → IsDone s e old k new → IsStage e k b.free base N D new → HasFree new
free_after s e old base k n new N D b number done stage = record {
  words = b.free;
  chain = stage.free;
  ascending = b.ascending;
  each = λ j below free.
      let other : j ≢ k = λ same.
      not_free s.addresses new k e done.whole done.within (subst (λ (i : ℕ). IsFree (block_at new i)) same free) done.own in
      let less = done.only j below other in
      b.each j less (λ same. other (same ∙ number)) (subst IsFree (done.others j less other) free);
}

unused_after : (s : Location) (e f : VlEntry) (old base fs : List ℕ) (k : ℕ) (new : List ℕ) (N D : ℕ → ℕ → Type 0) (j kind : ℕ)
    → IsDone s e old k new → IsStage e k fs base N D new → j < blocks_in new → IsBlockOf (with_entered 0 e s) f (block_at new j) → kind < 3
    → id_of kind f ≡ 0 → word_at (block_at new j) (40 + 4 * kind) ≡ 0
unused_after s e f old base fs k new N D j kind done stage below is low none =
    ⊎_elim
    (λ (own : (j ≡ k) × (f ≡ e)).
    ap (λ (i : ℕ). word_at (block_at new i) (40 + 4 * kind)) own.0
    ∙ in_block 3132 new k (40 + 4 * kind) (192 - (40 + 4 * kind)) (omega arith) (omega arith)
    ∙ stage.unused kind low (ap (λ (x : VlEntry). id_of kind x) (sym own.1) ∙ none))
    (λ (was : (j ≢ k) × (j < blocks_in old) × IsBlockOf s f (block_at old j)).
    ap (λ (x : List ℕ). word_at x (40 + 4 * kind)) (done.others j was.1 was.0) ∙ done.lies.unused j f was.1 was.2 kind low none)
    (block_back s e f old k new j done below is)

one_after : (s : Location) (e f : VlEntry) (old : List ℕ) (k : ℕ) (new : List ℕ) (i j : ℕ) → IsDone s e old k new → i < blocks_in new
    → j < blocks_in new → IsBlockOf (with_entered 0 e s) f (block_at new i) → IsBlockOf (with_entered 0 e s) f (block_at new j) → i ≡ j
one_after s e f old k new i j done in_i in_j at_i at_j =
    ⊎_elim
    (λ (own : (i ≡ k) × (f ≡ e)). ⊎_elim
    (λ (also : (j ≡ k) × (f ≡ e)). own.0 ∙ sym also.0)
    (λ (was : (j ≢ k) × (j < blocks_in old) × IsBlockOf s f (block_at old j)).
    absurd (not_old s e f (block_at old j) done.valid done.is done.may own.1 was.2))
    (block_back s e f old k new j done in_j at_j))
    (λ (was : (i ≢ k) × (i < blocks_in old) × IsBlockOf s f (block_at old i)). ⊎_elim
    (λ (own : (j ≡ k) × (f ≡ e)). absurd (not_old s e f (block_at old i) done.valid done.is done.may own.1 was.2))
    (λ (also : (j ≢ k) × (j < blocks_in old) × IsBlockOf s f (block_at old j)).
    done.lies.one i j f was.1 also.1 was.2 also.2)
    (block_back s e f old k new j done in_j at_j))
    (block_back s e f old k new i done in_i at_i)

blocks_after : (s : Location) (e : VlEntry) (old : List ℕ) (k : ℕ) (new : List ℕ) (j : ℕ) → IsDone s e old k new → j < blocks_in new
    → IsFree (block_at new j) ⊎ ((f : VlEntry) × IsBlockOf (with_entered 0 e s) f (block_at new j))
blocks_after s e old k new j done below =
    ⊎_elim
    (λ (same : j ≡ k).
    inr (e, subst (λ (i : ℕ). IsBlockOf (with_entered 0 e s) e (block_at new i)) (sym same) (block_own s e old k new done)))
    (λ (other : j ≢ k).
    let less = done.only j below other in
    ⊎_elim
    (λ (free : IsFree (block_at old j)). inl (subst IsFree (sym (done.others j less other)) free))
    (λ (of : (f : VlEntry) × IsBlockOf s f (block_at old j)). inr (of.0, block_there s e of.0 old k new j done less of.1))
    (done.lies.blocks j less))
    (cases_eq j k)

only_after : (s : Location) (e f : VlEntry) (old : List ℕ) (k : ℕ) (new : List ℕ) (x : ℕ) → IsDone s e old k new
    → (with_entered 0 e s).entry x ≡ Some f → (j : ℕ) × (j < blocks_in new) × IsBlockOf (with_entered 0 e s) f (block_at new j)
only_after s e f old k new x done at =
    ⊎_elim
    (λ (own : (x ≡ e.rw) × (f ≡ e)).
    (k, done.within, subst (λ (y : VlEntry). IsBlockOf (with_entered 0 e s) y (block_at new k)) (sym own.1) (block_own s e old k new done)))
    (λ (was : s.entry x ≡ Some f).
    let o = done.lies.only x f was in
    (o.0, omega (arith, o.1, done.more), block_there s e f old k new o.0 done o.1 o.2))
    (entry_back s e f x at)

laid_after : (s : Location) (e : VlEntry) (old base : List ℕ) (k n : ℕ) (new : List ℕ) (b : IsBase s e old n base) → n - 1 ≡ k
    → IsDone s e old k new
    → IsStage e k b.free base (AlsoName (name_key e.name) (k + 1) (IsNameWord s old)) (AlsoIds e (k + 1) (IsIdWord s old)) new
    → unlinked_head (take 3132 new) ≡ head_of (with_entered 0 e s) (blocks_in new) → IsLaidOut new (with_entered 0 e s)
laid_after s e old base k n new b number done stage head =
    let N = AlsoName (name_key e.name) (k + 1) (IsNameWord s old) in
    let D = AlsoIds e (k + 1) (IsIdWord s old) in
    let t = with_entered 0 e s in
    record {
      size = done.whole;
      head = head;
      blocks = λ j below. blocks_after s e old k new j done below;
      only = λ x f at. only_after s e f old k new x done at;
      one = λ i j f in_i in_j at_i at_j. one_after s e f old k new i j done in_i in_j at_i at_j;
      names = λ key low. visits_as name_links new (name_place key) (N key) (IsNameWord t new key)
          (λ w has. name_there s e old k new key w done has) (λ w is. name_back s e old k new key w done is) (stage.names key low);
      ids = λ key low. visits_as id_links new (id_place key) (D key) (IsIdWord t new key)
          (λ w has. id_there s e old k new key w done has) (λ w is. id_back s e old k new key w done is) (stage.ids key low);
      unused = λ j f below is kind low none. unused_after s e f old base b.free k new N D j kind done stage below is low none;
      free = free_after s e old base k n new N D b number done stage;
    }

-- ---- an insertion

zero_words : (addresses : List ℕ) (e : VlEntry) (kind : ℕ) → kind < 3 → word_at (block_of addresses e) (40 + 4 * kind) ≡ 0
unfolding block_of words zeros
zero_words addresses e zero low = refl
zero_words addresses e (suc zero) low = refl
zero_words addresses e (suc (suc zero)) low = refl
zero_words addresses e (suc (suc (suc m))) low = absurd (omega arith)

first_stage : (s : Location) (e : VlEntry) (old base : List ℕ) (n k : ℕ) (b : IsBase s e old n base) → n - 1 ≡ k
    → IsStage e k b.free base (IsNameWord s old) (IsIdWord s old) base
first_stage s e old base n k b number = record {
  kept = keeps_none k base;
  names = b.names;
  ids = b.ids;
  free = b.chain;
  unused = λ kind low none.
      sym (in_block 3132 base k (40 + 4 * kind) (192 - (40 + 4 * kind)) (omega arith) (omega arith))
      ∙ ap (λ (i : ℕ). word_at (block_at base i) (40 + 4 * kind)) (sym number)
      ∙ ap (λ (x : List ℕ). word_at x (40 + 4 * kind)) b.own ∙ zero_words s.addresses e kind low;
}

own_block : (s : Location) (e : VlEntry) (old base : List ℕ) (n k : ℕ) → IsRecord e → IsBase s e old n base → n - 1 ≡ k
    → IsOwnBlock k base
own_block s e old base n k is b number = record {
  whole = b.whole;
  within = omega (arith, b.within, number);
  kind = ap (λ (i : ℕ). kind_of (unlinked (block_at base i))) (sym number) ∙ ap (λ (x : List ℕ). kind_of (unlinked x)) b.own
      ∙ ap kind_of (unlinked_form s.addresses e is) ∙ kind_again s.addresses e;
}

-- the number of the block that was taken is no entry's
no_number : (s : Location) (e f : VlEntry) (old base : List ℕ) (n m : ℕ) → IsLaidOut old s → IsBase s e old n base → m ≡ n
    → IsNumberOf s old m f → ⊥
no_number s e f old base n m lies b same is =
    let below : n - 1 < blocks_in old = omega (arith, is.within, b.some) in
    not_free s.addresses old (n - 1) f lies.size below (b.was below)
    (ap (λ (i : ℕ). unlinked (block_at old (i - 1))) (sym same) ∙ is.block.1)

done_from : (s : Location) (e : VlEntry) (old base : List ℕ) (n k : ℕ) (new : List ℕ) → IsLocation s → IsRecord e → MayEnter 0 e s
    → IsLaidOut old s → IsBase s e old n base → n - 1 ≡ k → KeepsForms k base new → IsDone s e old k new
done_from s e old base n k new valid is may lies b number kept =
    let count : blocks_in new ≡ blocks_in base = count_same base new kept.size in
    let within : k < blocks_in base = omega (arith, b.within, number) in
    record {
      valid = valid;
      is = is;
      may = may;
      lies = lies;
      whole = whole_on base new b.whole kept.size;
      within = omega arith;
      own = kept.forms k within ∙ ap (λ (i : ℕ). unlinked (block_at base i)) (sym number) ∙ ap unlinked b.own
          ∙ unlinked_form s.addresses e is;
      was = λ below. subst (λ (i : ℕ). IsFree (block_at old i)) number (b.was (omega (arith, below, number)));
      more = omega (arith, b.more);
      only = λ j below other. b.only j (omega arith) (λ same. other (same ∙ number));
      others = λ j below other.
          kept.others j (omega (arith, b.more)) other ∙ b.others j below (λ same. other (same ∙ number));
    }

head_entered : (s : Location) (e : VlEntry) (count : ℕ) → head_of s count ≡ head_of (with_entered 0 e s) count
unfolding head_of
head_entered s e count = refl

laid_inserted : (s : Location) (e : VlEntry) (old base : List ℕ) (n k : ℕ) → IsLocation s → IsRecord e → MayEnter 0 e s → IsLaidOut old s
    → IsBase s e old n base → n - 1 ≡ k → n ≡ k + 1 → IsLaidOut (entered n e base) (with_entered 0 e s)
laid_inserted s e old base n k valid is may lies b number next =
    let new = entered (k + 1) e base in
    let stage = stage_entered e k b.free base (IsNameWord s old) (IsIdWord s old) base (own_block s e old base n k is b number)
    (first_stage s e old base n k b number)
    (λ j word. no_number s e word.entry old base n (k + 1) lies b (sym next) word.number)
    (λ j w word block. no_number s e word.entry old base n (w / 4) lies b (block ∙ sym next) word.number) in
    let done = done_from s e old base n k new valid is may lies b number stage.kept in
    let count : blocks_in base ≡ blocks_in new = sym (count_same base new stage.kept.size) in
    subst (λ (m : ℕ). IsLaidOut (entered m e base) (with_entered 0 e s)) (sym next)
    (laid_after s e old base k n new b number done stage
    (stage.kept.head ∙ b.head ∙ head_entered s e (blocks_in base) ∙ ap (head_of (with_entered 0 e s)) count))

pub holds_inserted : (image : List ℕ) (s : Location) (e : VlEntry) → Holds image s → IsRecord e → MayEnter 0 e s
    → Holds (after_insert e image) (with_entered 0 e s)
unfolding after_insert
holds_inserted image s e holds is may =
    let old = whole image in
    let block = block_of s.addresses e in
    let n = next_number free_blocks old in
    let base = with_taken free_blocks block old in
    let b = is_base s e old holds.laid is in
    let laid = laid_inserted s e old base n (n - 1) holds.valid is may holds.laid b refl (omega (arith, b.some)) in
    rw (laid_addresses image s holds)
    (holds_from (entered n e base) (with_entered 0 e s) (location_entered s 0 e holds.valid is may) laid)
