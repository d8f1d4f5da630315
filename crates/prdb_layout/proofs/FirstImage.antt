-- The empty image holds the first registry.
use Rattle.std.proofs.Common.{◌≡◌, ℕ, ℤ, pos, negsuc, zero, suc, ◌<◌, ◌≤◌, Bool, true, false, cond, List, [], ◌∷◌, Option, Some, IsSome, IsSomeAnd, length, get_or, take, refl, sym, ap, subst, ◌∙◌, ⊎_elim, inr, arith}
use Rattle.std.specs.List.{All, find, flat_map}
use Rattle.std.specs.Ordering.{int_eq}
use Rattle.std.proofs.lemmas.Bool.{cases_lt}
use Rattle.std.proofs.lemmas.Bool.Decides.{Decides-int_eq}
use Rattle.std.proofs.lemmas.Int.{ints}
use Rattle.std.proofs.lemmas.List.{take_at, length-map, get_or-map}
use Rattle.std.proofs.lemmas.List.Elements.{All-from_recursion}
use Rattle.db_blocks.specs.Bytes.{words, zeros}
use Rattle.db_blocks.specs.Blocks.{block_in as any_block, kind_of}
use Rattle.prdb_layout.specs.Layout.{head_of, numbers_of, block_of, layout}
use Rattle.prdb_layout.specs.Names.{is_user_name}
use Rattle.prdb_layout.specs.Records.{Holds, IsBlock, IsLaidOut, block_in, entry_in, field_numbers, head_with, new_block, whole, with_fields}
use Rattle.prdb_layout.specs.Registry.{IsRegistry, IsRecord, IsAmong, IsFixedId, first_registry, is_group_name, is_name_for}
use Rattle.prdb_layout.specs.State.{PrEntry, IsPrEntry, administrators, fixed, fixed_entries, initial_state}
use Rattle.prdb_layout.proofs.Changed.{HaveBlocks, laid_from}
use Rattle.prdb_layout.proofs.EntryFields.{entry_with, kind_with, is_new_block}
use Rattle.prdb_layout.proofs.Initial.{length-initial}
use Rattle.prdb_layout.proofs.FixedEntries.{fixed-are_entries, fixed-names_differ, fixed-ids_differ}
use Rattle.prdb_layout.proofs.Lengths.{length-head}

nth : ℕ → PrEntry
nth k = get_or fixed_entries k (fixed [] 0 (pos 0))

-- ---- the blocks

block_at : (k : ℕ) → k < 6 → block_in (layout initial_state) k ≡ new_block (nth k)
unfolding nth any_block layout head_of words zeros fixed_entries block_of numbers_of with_fields field_numbers
block_at zero below = refl
block_at (suc zero) below = refl
block_at (suc (suc zero)) below = refl
block_at (suc (suc (suc zero))) below = refl
block_at (suc (suc (suc (suc zero)))) below = refl
block_at (suc (suc (suc (suc (suc zero))))) below = refl
block_at (suc (suc (suc (suc (suc (suc k)))))) below = absurd (omega arith)

is_entry_at : (k : ℕ) → k < 6 → IsPrEntry (nth k)
unfolding nth fixed_entries
is_entry_at k below = fixed-are_entries k (fixed [] 0 (pos 0)) below

zeros_len : length (zeros 192) ≡ 192
unfolding zeros
zeros_len = refl

entry_at : (k : ℕ) → k < 6 → entry_in (block_in (layout initial_state) k) ≡ nth k
entry_at k below = ap entry_in (block_at k below) ∙ entry_with (nth k) (zeros 192) zeros_len (is_entry_at k below)

kind_at : (k : ℕ) → k < 6 → kind_of (block_in (layout initial_state) k) ≡ 1
kind_at k below = ap kind_of (block_at k below) ∙ kind_with (nth k) (zeros 192)

found_at : (k : ℕ) → k < 6 → first_registry.entry (nth k).id ≡ Some (nth k)
unfolding nth fixed_entries
found_at zero below = refl
found_at (suc zero) below = refl
found_at (suc (suc zero)) below = refl
found_at (suc (suc (suc zero))) below = refl
found_at (suc (suc (suc (suc zero)))) below = refl
found_at (suc (suc (suc (suc (suc zero))))) below = refl
found_at (suc (suc (suc (suc (suc (suc k)))))) below = absurd (omega arith)

-- ---- what is found among entries

find_step : (b : Bool) (x e : PrEntry) (o : Option PrEntry) (P : Type 0) → cond b (Some x) o ≡ Some e → (b ≡ true → x ≡ e → P)
    → (o ≡ Some e → P) → P
find_step true x e o P is here later = here refl cc
find_step false x e o P is here later = later is

-- it is one of them, and passes
found_one : (es : List PrEntry) (id : ℤ) (e d : PrEntry) → find (λ x. int_eq x.id id) es ≡ Some e
    → (k : ℕ) × (k < length es) × (get_or es k d ≡ e) × (e.id ≡ id)
found_one [] id e d is = absurd cc
found_one (x ∷ es) id e d is =
    find_step (int_eq x.id id) x e (find (λ y. int_eq y.id id) es)
    ((k : ℕ) × (k < length (x ∷ es)) × (get_or (x ∷ es) k d ≡ e) × (e.id ≡ id)) is
    (λ passes same. (0, omega arith, same, ap (λ (y : PrEntry). y.id) (sym same) ∙ (Decides-int_eq x.id id).0 passes))
    (λ later. let o = found_one es id e d later in (suc o.0, omega (arith, o.1), o.2, o.3))

six : length fixed_entries ≡ 6
unfolding fixed_entries
six = refl

first_has : (id : ℤ) (e : PrEntry) → first_registry.entry id ≡ Some e → (k : ℕ) × (k < 6) × (nth k ≡ e) × (e.id ≡ id)
unfolding nth
first_has id e at = let o = found_one fixed_entries id e (fixed [] 0 (pos 0)) at in (o.0, omega (arith, o.1, six), o.2, o.3)

-- ---- the image

ids_less : (j k : ℕ) → j < k → k < 6 → (nth j).id ≡ (nth k).id → ⊥
unfolding nth
ids_less j k less in_k same =
    fixed-ids_differ j k (pos 0) less (omega (arith, six, length-map fixed_entries (λ (e : PrEntry). e.id)))
    (get_or-map (λ (e : PrEntry). e.id) fixed_entries j (fixed [] 0 (pos 0)) (pos 0) (omega (arith, six)) ∙ same
    ∙ sym (get_or-map (λ (e : PrEntry). e.id) fixed_entries k (fixed [] 0 (pos 0)) (pos 0) (omega (arith, six))))

names_less : (j k : ℕ) → j < k → k < 6 → (nth j).name ≡ (nth k).name → ⊥
unfolding nth
names_less j k less in_k same =
    fixed-names_differ j k [] less (omega (arith, six, length-map fixed_entries (λ (e : PrEntry). e.name)))
    (get_or-map (λ (e : PrEntry). e.name) fixed_entries j (fixed [] 0 (pos 0)) [] (omega (arith, six)) ∙ same
    ∙ sym (get_or-map (λ (e : PrEntry). e.name) fixed_entries k (fixed [] 0 (pos 0)) [] (omega (arith, six))))

ids_apart : (j k : ℕ) → j < 6 → k < 6 → (nth j).id ≡ (nth k).id → j ≡ k
ids_apart j k in_j in_k same =
    ⊎_elim (λ (less : j < k). absurd (ids_less j k less in_k same))
    (λ (more : k ≤ j). ⊎_elim (λ (less : k < j). absurd (ids_less k j less in_j (sym same))) (λ (no_less : j ≤ k). omega arith)
    (cases_lt k j))
    (cases_lt j k)

names_apart : (j k : ℕ) → j < 6 → k < 6 → (nth j).name ≡ (nth k).name → j ≡ k
names_apart j k in_j in_k same =
    ⊎_elim (λ (less : j < k). absurd (names_less j k less in_k same))
    (λ (more : k ≤ j). ⊎_elim (λ (less : k < j). absurd (names_less k j less in_j (sym same))) (λ (no_less : j ≤ k). omega arith)
    (cases_lt k j))
    (cases_lt j k)

blocks_first : HaveBlocks (layout initial_state) 6 first_registry.entry
blocks_first = record {
  blocks = λ k below. subst IsBlock (sym (block_at k below)) (is_new_block (nth k) (is_entry_at k below));
  there = λ k below kind. subst (λ (e : PrEntry). first_registry.entry e.id ≡ Some e) (sym (entry_at k below)) (found_at k below);
  only = λ id e at. let o = first_has id e at in (o.0, o.1, kind_at o.0 o.1, entry_at o.0 o.1 ∙ o.2);
  one = λ j k in_j in_k kind_j kind_k same. ids_apart j k in_j in_k
      (ap (λ (e : PrEntry). e.id) (sym (entry_at j in_j)) ∙ same ∙ ap (λ (e : PrEntry). e.id) (entry_at k in_k));
}

head_first : take 2112 (layout initial_state) ≡ head_with (pos 0) (negsuc 204) 6
unfolding layout head_of fixed_entries words
head_first = take_at (head_of initial_state) (flat_map block_of initial_state.entries) 2112 (length-head initial_state)

laid_first : IsLaidOut (layout initial_state) first_registry
laid_first = laid_from (layout initial_state) 6 first_registry length-initial head_first blocks_first

-- ---- the registry

record_at : (k : ℕ) → k < 6 → is_name_for (nth k).id (nth k).name ≡ true
unfolding nth fixed_entries is_user_name is_group_name
record_at zero below = refl
record_at (suc zero) below = refl
record_at (suc (suc zero)) below = refl
record_at (suc (suc (suc zero))) below = refl
record_at (suc (suc (suc (suc zero)))) below = refl
record_at (suc (suc (suc (suc (suc zero))))) below = refl
record_at (suc (suc (suc (suc (suc (suc k)))))) below = absurd (omega arith)

owner_at : (k : ℕ) → k < 6 → (nth k).owner ≡ administrators
unfolding nth fixed_entries
owner_at zero below = refl
owner_at (suc zero) below = refl
owner_at (suc (suc zero)) below = refl
owner_at (suc (suc (suc zero))) below = refl
owner_at (suc (suc (suc (suc zero)))) below = refl
owner_at (suc (suc (suc (suc (suc zero))))) below = refl
owner_at (suc (suc (suc (suc (suc (suc k)))))) below = absurd (omega arith)

creator_at : (k : ℕ) → k < 6 → (nth k).creator ≡ administrators
unfolding nth fixed_entries
creator_at zero below = refl
creator_at (suc zero) below = refl
creator_at (suc (suc zero)) below = refl
creator_at (suc (suc (suc zero))) below = refl
creator_at (suc (suc (suc (suc zero)))) below = refl
creator_at (suc (suc (suc (suc (suc zero))))) below = refl
creator_at (suc (suc (suc (suc (suc (suc k)))))) below = absurd (omega arith)

has_administrators : IsSome (first_registry.entry administrators)
unfolding fixed_entries
has_administrators = refl

is_administrators : IsFixedId administrators
unfolding fixed_entries
is_administrators = (3, omega arith, refl)

among_at : (k : ℕ) → k < 6 → IsAmong first_registry.entry (nth k)
among_at k below = record {
  owner = inr (subst (λ (z : ℤ). IsSome (first_registry.entry z)) (sym (owner_at k below)) has_administrators);
  creator = subst IsFixedId (sym (creator_at k below)) is_administrators;
}

fixed_first : All (λ f. IsSomeAnd (first_registry.entry f.id) (λ e. e.name ≡ f.name)) fixed_entries
unfolding fixed_entries
fixed_first = All-from_recursion (λ f. IsSomeAnd (first_registry.entry f.id) (λ e. e.name ≡ f.name)) fixed_entries
    (refl, (refl, (refl, (refl, (refl, (refl, tt))))))

valid_first : IsRegistry first_registry
valid_first = record {
  ids = λ id e at. (first_has id e at).3;
  records = λ id e at. let o = first_has id e at in subst IsRecord o.2 record { fields = is_entry_at o.0 o.1; name = record_at o.0 o.1 };
  among = λ id e at. let o = first_has id e at in subst (IsAmong first_registry.entry) o.2 (among_at o.0 o.1);
  names = λ a b e f at_a at_b same.
      let o = first_has a e at_a in
      let p = first_has b f at_b in
      let k : o.0 ≡ p.0 = names_apart o.0 p.0 o.1 p.1 (ap (λ (x : PrEntry). x.name) o.2 ∙ same ∙ ap (λ (x : PrEntry). x.name) (sym p.2)) in
      sym o.3 ∙ ap (λ (x : PrEntry). x.id) (sym o.2 ∙ ap nth k ∙ p.2) ∙ p.3;
  fixed = fixed_first;
  maxima =
      record {
        user_low = omega (arith, ints);
        user_high = omega (arith, ints);
        group_low = omega (arith, ints);
        group_high = omega
            (arith, ints);
      };
}

pub empty_holds : Holds [] first_registry
unfolding whole
empty_holds = record { valid = valid_first; laid = laid_first }
