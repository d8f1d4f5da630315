-- An image in which one block, or the head, is another holds the registry that is changed so.
use Rattle.std.proofs.Common.{◌≡◌, ◌≢◌, ℕ, ℤ, ◌<◌, ◌≤◌, Bool, true, false, cond, List, Option, Some, None, length, take, sym, ap, subst, ◌∙◌, ⊎_elim, arith}
use Rattle.std.specs.Ordering.{int_eq}
use Rattle.std.proofs.lemmas.Bool.{cases_eq, cases_Bool}
use Rattle.std.proofs.lemmas.Bool.Decides.{Decides-int_eq}
use Rattle.db_blocks.specs.Blocks.{kind_of}
use Rattle.prdb_layout.specs.Blocks.{block_count}
use Rattle.prdb_layout.specs.Records.{IsBlock, IsLaidOut, block_in, block_place, entry_in, head_with}
use Rattle.prdb_layout.specs.Registry.{Registry, IsRegistry}
use Rattle.prdb_layout.specs.State.{PrEntry}
use Rattle.db_blocks.proofs.Scanned.{count_is}
use Rattle.db_blocks.proofs.BlockPlaces.{IsPut}

-- ---- an id under which something else stands

int_same : (a b : ℤ) → a ≡ b → int_eq a b ≡ true
int_same a b e = (Decides-int_eq a b).1 e

int_other : (a b : ℤ) → a ≢ b → int_eq a b ≡ false
int_other a b other =
    ⊎_elim (λ (t : int_eq a b ≡ true). absurd (other ((Decides-int_eq a b).0 t))) (λ (f : int_eq a b ≡ false). f) (cases_Bool (int_eq a b))

-- the entries with this under an id
abbrev pub set_under : ℤ → Option PrEntry → (ℤ → Option PrEntry) → ℤ → Option PrEntry
set_under x content entry id = cond (int_eq id x) content (entry id)

pub under_same : (x id : ℤ) (content : Option PrEntry) (entry : ℤ → Option PrEntry) → id ≡ x → set_under x content entry id ≡ content
under_same x id content entry same = ap (λ (b : Bool). cond b content (entry id)) (int_same id x same)

pub under_other : (x id : ℤ) (content : Option PrEntry) (entry : ℤ → Option PrEntry) → id ≢ x → set_under x content entry id ≡ entry id
under_other x id content entry other = ap (λ (b : Bool). cond b content (entry id)) (int_other id x other)

pub by_id : {P : Type 0} (a b : ℤ) → (a ≡ b → P) → (a ≢ b → P) → P
by_id {P} a b same other = ⊎_elim (λ (t : int_eq a b ≡ true). same ((Decides-int_eq a b).0 t))
    (λ (f : int_eq a b ≡ false). other (λ e. let t = int_same a b e in absurd cc)) (cases_Bool (int_eq a b))

pub some_same : {X : Type 0} {x y : X} → Some x ≡ Some y → x ≡ y
some_same e = cc

-- ---- one block is another one

-- the entry of an id, if it has one, is in this block or in none, and in this block is no other
pub record IsAlone (image : List ℕ) (k : ℕ) (x : ℤ) : Type 0 where
  pub here : k < block_count image → kind_of (block_in image k) ≡ 1 → (entry_in (block_in image k)).id ≡ x
  pub others : (j : ℕ) → j < block_count image → j ≢ k → kind_of (block_in image j) ≡ 1 → (entry_in (block_in image j)).id ≢ x

-- what the new block holds: this entry, or none
abbrev pub IsContent : (x : ℤ) → Option PrEntry → List ℕ → Type 0
IsContent x None block = kind_of block ≢ 1
IsContent x (Some e) block = (kind_of block ≡ 1) × (entry_in block ≡ e) × (e.id ≡ x)

pub record IsStep (old new : List ℕ) (k m : ℕ) (block : List ℕ) : Type 0 where
  pub put : IsPut 2112 k block old new m
  pub below : k < m
  pub kept : block_count old ≤ m
  pub only : (j : ℕ) → j < m → j ≢ k → j < block_count old

new_there : (old new : List ℕ) (k m : ℕ) (block : List ℕ) (x : ℤ) (content : Option PrEntry) (r : Registry) → IsLaidOut old r
    → IsStep old new k m block
    → IsAlone old k x → IsContent x content block → (j : ℕ) → j < m → kind_of (block_in new j) ≡ 1
    → set_under x content r.entry (entry_in (block_in new j)).id ≡ Some (entry_in (block_in new j))
new_there old new k m block x None r laid next alone is j below kind =
    ⊎_elim
    (λ (same : j ≡ k). absurd (is (ap kind_of (sym next.put.here) ∙ ap (λ (i : ℕ). kind_of (block_in new i)) (sym same) ∙ kind)))
    (λ (other : j ≢ k).
    let was = next.only j below other in
    let b : block_in new j ≡ block_in old j = next.put.others j was other in
    let old_kind : kind_of (block_in old j) ≡ 1 = ap kind_of (sym b) ∙ kind in
    subst (λ (c : List ℕ). set_under x None r.entry (entry_in c).id ≡ Some (entry_in c)) (sym b)
    (under_other x (entry_in (block_in old j)).id None r.entry (alone.others j was other old_kind) ∙ laid.there j was old_kind))
    (cases_eq j k)
new_there old new k m block x (Some e) r laid next alone is j below kind =
    ⊎_elim
    (λ (same : j ≡ k).
    let b : block_in new j ≡ block = ap (block_in new) same ∙ next.put.here in
    subst (λ (c : List ℕ). set_under x (Some e) r.entry (entry_in c).id ≡ Some (entry_in c)) (sym b)
    (under_same x (entry_in block).id (Some e) r.entry (ap (λ (y : PrEntry). y.id) is.1 ∙ is.2) ∙ ap Some (sym is.1)))
    (λ (other : j ≢ k).
    let was = next.only j below other in
    let b : block_in new j ≡ block_in old j = next.put.others j was other in
    let old_kind : kind_of (block_in old j) ≡ 1 = ap kind_of (sym b) ∙ kind in
    subst (λ (c : List ℕ). set_under x (Some e) r.entry (entry_in c).id ≡ Some (entry_in c)) (sym b)
    (under_other x (entry_in (block_in old j)).id (Some e) r.entry (alone.others j was other old_kind) ∙ laid.there j was old_kind))
    (cases_eq j k)

abbrev StandsIn : List ℕ → ℕ → PrEntry → Type 0
StandsIn image m e = (k : ℕ) × (k < m) × (kind_of (block_in image k) ≡ 1) × (entry_in (block_in image k) ≡ e)

old_stands : (old new : List ℕ) (k m : ℕ) (block : List ℕ) (x id : ℤ) (r : Registry) (e : PrEntry) → IsLaidOut old r → IsRegistry r
    → IsStep old new k m block
    → IsAlone old k x → id ≢ x → r.entry id ≡ Some e → StandsIn new m e
old_stands old new k m block x id r e laid valid next alone other at =
    let o = laid.only id e at in
    let apart : o.0 ≢ k = λ same. other (
    sym (valid.ids id e at) ∙ ap (λ (y : PrEntry). y.id) (sym o.3) ∙ ap (λ (j : ℕ). (entry_in (block_in old j)).id) same
    ∙ alone.here (subst (λ (j : ℕ). j < block_count old) same o.1) (ap (λ (j : ℕ). kind_of (block_in old j)) (sym same) ∙ o.2)) in
    let b : block_in new o.0 ≡ block_in old o.0 = next.put.others o.0 o.1 apart in
    (o.0, omega (arith, o.1, next.kept), ap kind_of b ∙ o.2, ap entry_in b ∙ o.3)

new_only : (old new : List ℕ) (k m : ℕ) (block : List ℕ) (x : ℤ) (content : Option PrEntry) (r : Registry) → IsLaidOut old r → IsRegistry r
    → IsStep old new k m block → IsAlone old k x → IsContent x content block
    → (id : ℤ) (e : PrEntry) → set_under x content r.entry id ≡ Some e → StandsIn new m e
new_only old new k m block x None r laid valid next alone is id e at =
    by_id id x
    (λ same. let none = sym (under_same x id None r.entry same) ∙ at in absurd cc)
    (λ other. old_stands old new k m block x id r e laid valid next alone other (sym (under_other x id None r.entry other) ∙ at))
new_only old new k m block x (Some f) r laid valid next alone is id e at =
    by_id id x
    (λ same.
    let here : f ≡ e = some_same (sym (under_same x id (Some f) r.entry same) ∙ at) in
    (k, next.below, ap kind_of next.put.here ∙ is.0, ap entry_in next.put.here ∙ is.1 ∙ here))
    (λ other. old_stands old new k m block x id r e laid valid next alone other (sym (under_other x id (Some f) r.entry other) ∙ at))

content_id : (x : ℤ) (content : Option PrEntry) (block : List ℕ) → IsContent x content block → kind_of block ≡ 1 → (entry_in block).id ≡ x
content_id x None block is kind = absurd (is kind)
content_id x (Some e) block is kind = ap (λ (y : PrEntry). y.id) is.1 ∙ is.2

-- a block of the new image that is not this one stood in the old one
stood : (old new : List ℕ) (k m : ℕ) (block : List ℕ) (x : ℤ) → IsStep old new k m block → IsAlone old k x → (j : ℕ) → j < m → j ≢ k
    → kind_of (block_in new j) ≡ 1 → (entry_in (block_in new j)).id ≢ x
stood old new k m block x next alone j below other kind =
    let was = next.only j below other in
    let b : block_in new j ≡ block_in old j = next.put.others j was other in
    λ same. alone.others j was other (ap kind_of (sym b) ∙ kind) (ap (λ (c : List ℕ). (entry_in c).id) (sym b) ∙ same)

new_one : (old new : List ℕ) (k m : ℕ) (block : List ℕ) (x : ℤ) (content : Option PrEntry) (r : Registry) → IsLaidOut old r
    → IsStep old new k m block
    → IsAlone old k x → IsContent x content block → (i j : ℕ) → i < m → j < m → kind_of (block_in new i) ≡ 1 → kind_of (block_in new j) ≡ 1
    → (entry_in (block_in new i)).id ≡ (entry_in (block_in new j)).id → i ≡ j
new_one old new k m block x content r laid next alone is i j in_i in_j kind_i kind_j same =
    let id_at : (n : ℕ) → n ≡ k → kind_of (block_in new n) ≡ 1 → (entry_in (block_in new n)).id ≡ x =
    λ n at kind. let b : block_in new n ≡ block = ap (block_in new) at ∙ next.put.here in
    ap (λ (c : List ℕ). (entry_in c).id) b ∙ content_id x content block is (ap kind_of (sym b) ∙ kind) in
    ⊎_elim
    (λ (i_is : i ≡ k). ⊎_elim
    (λ (j_is : j ≡ k). i_is ∙ sym j_is)
    (λ (j_not : j ≢ k). absurd (stood old new k m block x next alone j in_j j_not kind_j (sym same ∙ id_at i i_is kind_i)))
    (cases_eq j k))
    (λ (i_not : i ≢ k). ⊎_elim
    (λ (j_is : j ≡ k). absurd (stood old new k m block x next alone i in_i i_not kind_i (same ∙ id_at j j_is kind_j)))
    (λ (j_not : j ≢ k).
    let was_i = next.only i in_i i_not in
    let was_j = next.only j in_j j_not in
    let b_i : block_in new i ≡ block_in old i = next.put.others i was_i i_not in
    let b_j : block_in new j ≡ block_in old j = next.put.others j was_j j_not in
    laid.one i j was_i was_j (ap kind_of (sym b_i) ∙ kind_i) (ap kind_of (sym b_j) ∙ kind_j)
    (ap (λ (c : List ℕ). (entry_in c).id) (sym b_i) ∙ same ∙ ap (λ (c : List ℕ). (entry_in c).id) b_j))
    (cases_eq j k))
    (cases_eq i k)

new_blocks : (old new : List ℕ) (k m : ℕ) (block : List ℕ) (r : Registry) → IsLaidOut old r → IsStep old new k m block → IsBlock block
    → (j : ℕ) → j < m → IsBlock (block_in new j)
new_blocks old new k m block r laid next is j below =
    ⊎_elim
    (λ (same : j ≡ k). subst IsBlock (sym (ap (block_in new) same ∙ next.put.here)) is)
    (λ (other : j ≢ k). let was = next.only j below other in subst IsBlock (sym (next.put.others j was other)) (laid.blocks j was))
    (cases_eq j k)

-- What is true of the blocks of an image and of nothing else of it.
pub record HaveBlocks (image : List ℕ) (m : ℕ) (entry : ℤ → Option PrEntry) : Type 0 where
  pub blocks : (k : ℕ) → k < m → IsBlock (block_in image k)
  pub there : (k : ℕ) → k < m → kind_of (block_in image k) ≡ 1 → entry (entry_in (block_in image k)).id ≡ Some (entry_in (block_in image k))
  pub only : (id : ℤ) (e : PrEntry) → entry id ≡ Some e → StandsIn image m e
  pub one : (j k : ℕ) → j < m → k < m → kind_of (block_in image j) ≡ 1 → kind_of (block_in image k) ≡ 1
      → (entry_in (block_in image j)).id ≡ (entry_in (block_in image k)).id → j ≡ k

pub have_new : (old new : List ℕ) (k m : ℕ) (block : List ℕ) (x : ℤ) (content : Option PrEntry) (r : Registry) → IsLaidOut old r
    → IsRegistry r
    → IsStep old new k m block → IsAlone old k x → IsContent x content block → IsBlock block
    → HaveBlocks new m (set_under x content r.entry)
have_new old new k m block x content r laid valid next alone is block_is = record {
  blocks = new_blocks old new k m block r laid next block_is;
  there = new_there old new k m block x content r laid next alone is;
  only = new_only old new k m block x content r laid valid next alone is;
  one = new_one old new k m block x content r laid next alone is;
}

-- the same blocks in another image
pub have_same : (old new : List ℕ) (m : ℕ) (entry : ℤ → Option PrEntry) → ((j : ℕ) → j < m → block_in new j ≡ block_in old j)
    → HaveBlocks old m entry
    → HaveBlocks new m entry
have_same old new m entry same h = record {
  blocks = λ k below. subst IsBlock (sym (same k below)) (h.blocks k below);
  there =
      λ k below kind. subst (λ (c : List ℕ). entry (entry_in c).id ≡ Some (entry_in c)) (sym (same k below))
      (h.there k below (ap kind_of (sym (same k below)) ∙ kind));
  only = λ id e at. let o = h.only id e at in (o.0, o.1, ap kind_of (same o.0 o.1) ∙ o.2, ap entry_in (same o.0 o.1) ∙ o.3);
  one =
      λ j k in_j in_k kind_j kind_k ids. h.one j k in_j in_k (ap kind_of (sym (same j in_j)) ∙ kind_j)
      (ap kind_of (sym (same k in_k)) ∙ kind_k)
      (ap (λ (c : List ℕ). (entry_in c).id) (sym (same j in_j)) ∙ ids ∙ ap (λ (c : List ℕ). (entry_in c).id) (same k in_k));
}

pub blocks_of_laid : (image : List ℕ) (r : Registry) → IsLaidOut image r → HaveBlocks image (block_count image) r.entry
blocks_of_laid image r laid = record { blocks = laid.blocks; there = laid.there; only = laid.only; one = laid.one }

pub laid_from : (image : List ℕ) (m : ℕ) (r : Registry) → length image ≡ block_place m
    → take 2112 image ≡ head_with r.max_user r.max_group m
    → HaveBlocks image m r.entry → IsLaidOut image r
laid_from image m r size head h =
    let count : block_count image ≡ m = count_is 2112 image m size in
    record {
      size = size ∙ ap block_place (sym count);
      head = head ∙ ap (head_with r.max_user r.max_group) (sym count);
      blocks = λ k below. h.blocks k (omega (arith, below, count));
      there = λ k below. h.there k (omega (arith, below, count));
      only = λ id e at. let o = h.only id e at in (o.0, omega (arith, o.1, count), o.2, o.3);
      one = λ j k in_j in_k. h.one j k (omega (arith, in_j, count)) (omega (arith, in_k, count));
    }
