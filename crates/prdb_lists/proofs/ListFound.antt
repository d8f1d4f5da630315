-- The list that is read of an id's entry is that of its pairs.
use Rattle.std.proofs.Common.{◌≡◌, ℕ, ℤ, zero, suc, ◌<◌, true, false, Bool, List, [], ◌++◌, length, take, drop, Option, Some, None, IsSome, refl, sym, ap, subst, ◌∙◌, ⊎_elim, arith}
use Rattle.std.specs.Prelude.{◌<ℤ◌, ◌||◌, pos}
use Rattle.std.specs.List.{Contains}
use Rattle.std.proofs.lemmas.Bool.{cases_Bool}
use Rattle.db_blocks.specs.Blocks.{block_in as any_block, word_at}
use Rattle.db_blocks.specs.Bytes.{word, words, zeros}
use Rattle.prdb_layout.specs.Layout.{layout, head_of, block_of as entry_block, numbers_of}
use Rattle.prdb_layout.specs.Records.{IsLaidOut, block_in, entry_in, whole}
use Rattle.prdb_layout.specs.Registry.{Registry}
use Rattle.prdb_layout.specs.State.{PrEntry, fixed_entries, initial_state}
use Rattle.prdb_layout.proofs.Initial.{length-initial}
use Rattle.entry_scans.specs.Lists.{IsListOf}
use Rattle.prdb_lists.specs.Found.{IsFound}
use Rattle.prdb_lists.specs.Layout.{AreLists, HoldsPairs, IsListed, link_word}
use Rattle.prdb_lists.specs.Members.{Members, are_paired}
use Rattle.prdb_lists.proofs.BlockIds.{count_of}
use Rattle.prdb_lists.proofs.ListRead.{none_left}

-- ---- what a scan found

is_not : (o : Option PrEntry) → o ≡ None → IsSome o → ⊥
is_not o none there = let no : IsSome {T = PrEntry} None = subst (λ (v : Option PrEntry). IsSome v) none there in absurd cc

option_cases : {X P : Type 0} (o : Option X) → (o ≡ None → P) → ((x : X) → o ≡ Some x → P) → P
option_cases None none some = none refl
option_cases (Some x) none some = some x refl

-- ---- over a draft

pub is_first_or : (a b : Bool) → a ≡ true → (a || b) ≡ true
is_first_or true b e = refl
is_first_or false b e = absurd cc

pub none_or : (a b : Bool) → a ≡ false → b ≡ false → (a || b) ≡ false
none_or true b p q = absurd cc
none_or false b p q = q

-- an id that is no entry's is in no pair
pub none_paired : (image : List ℕ) (r : Registry) (m : Members) (id : ℤ) → HoldsPairs image r m → r.entry id ≡ None → (other : ℤ)
    → are_paired m id other ≡ false
none_paired image r m id h none other =
    none_or (m.has id other) (m.has other id)
    (⊎_elim (λ (yes : m.has id other ≡ true). absurd (is_not (r.entry id) none (h.valid id other yes).2))
    (λ (no : m.has id other ≡ false). no) (cases_Bool (m.has id other)))
    (⊎_elim (λ (yes : m.has other id ≡ true). absurd (is_not (r.entry id) none (h.valid other id yes).3))
    (λ (no : m.has other id ≡ false). no) (cases_Bool (m.has other id)))

-- ---- the first image has no pairs

pub front_zero : (k : ℕ) → k < 6 → take 8 (drop 24 (block_in (layout initial_state) k)) ≡ word 0 ++ link_word 0
unfolding any_block layout head_of words zeros fixed_entries entry_block numbers_of
front_zero zero below = refl
front_zero (suc zero) below = refl
front_zero (suc (suc zero)) below = refl
front_zero (suc (suc (suc zero))) below = refl
front_zero (suc (suc (suc (suc zero)))) below = refl
front_zero (suc (suc (suc (suc (suc zero))))) below = refl
front_zero (suc (suc (suc (suc (suc (suc k)))))) below = absurd (omega arith)

pub whole_none : whole [] ≡ layout initial_state
unfolding whole
whole_none = refl

-- no entry of the first image has a pair
list_none : (r : Registry) (m : Members) (h : HoldsPairs [] r m) (id : ℤ) → IsSome (r.entry id) → (h.lists id).ids ≡ []
list_none r m h id there =
    let laid : IsLaidOut (layout initial_state) r = subst (λ (i : List ℕ). IsLaidOut i r) whole_none h.holds.laid in
    let are : AreLists (layout initial_state) r h.lists = subst (λ (i : List ℕ). AreLists i r h.lists) whole_none h.are in
    option_cases (r.entry id)
    (λ none. absurd (is_not (r.entry id) none there))
    (λ e at.
    let o = laid.only id e at in
    let six : o.0 < 6 = omega (arith, o.1, length-initial) in
    let same : (entry_in (block_in (layout initial_state) o.0)).id ≡ id = ap (λ (y : PrEntry). y.id) o.3 ∙ h.holds.valid.ids id e at in
    let listed : IsListed (layout initial_state) id (block_in (layout initial_state) o.0) (h.lists id) =
    subst (λ (x : ℤ). IsListed (layout initial_state) x (block_in (layout initial_state) o.0) (h.lists x)) same (are.listed o.0 o.1 o.2) in
    let count : word_at (block_in (layout initial_state) o.0) 24
    ≡ length (h.lists id).ids = count_of (block_in (layout initial_state) o.0) (h.lists id) listed.front listed.few in
    let zero_count : word_at (block_in (layout initial_state) o.0) 24
    ≡ 0 = count_of (block_in (layout initial_state) o.0) (record { ids = []; more = [] }) (front_zero o.0 six) (omega arith) in
    none_left (h.lists id).ids (omega (arith, count, zero_count)))

nothing : (xs : List ℤ) (x : ℤ) → xs ≡ [] → Contains xs x → ⊥
nothing xs x none there = let c : Contains {X = ℤ} [] x = subst (λ (l : List ℤ). Contains l x) none there in omega (arith, c.1)

pub first_has_none : (r : Registry) (m : Members) → HoldsPairs [] r m → (a b : ℤ) → m.has a b ≡ false
first_has_none r m h a b =
    ⊎_elim
    (λ (yes : m.has a b ≡ true).
    let v = h.valid a b yes in
    absurd (nothing (h.lists a).ids b (list_none r m h a v.2) (h.all a v.2 b (is_first_or (m.has a b) (m.has b a) yes))))
    (λ (no : m.has a b ≡ false). no)
    (cases_Bool (m.has a b))

-- ---- what the list says

pub no_list : (m : Members) (id : ℤ) → IsFound m id None → IsListOf (λ other. are_paired m id other ≡ true) []
no_list m id none = record {
  ascending = λ i j d less below. absurd (omega arith);
  each = λ x c. absurd (omega (arith, c.1));
  all = λ x paired. let no = none x in absurd cc;
}

-- ---- whether a pair is there

-- of a user the list has the groups alone
or_first : (a b : Bool) → (a || b) ≡ true → b ≡ false → a ≡ true
or_first true b e fails = refl
or_first false b e fails = absurd cc

pub has_of : (image : List ℕ) (r : Registry) (m : Members) (a b : ℤ) (ids : List ℤ) → HoldsPairs image r m → (a <ℤ pos 0 → ⊥)
    → IsListOf (λ other. are_paired m a other ≡ true) ids
    → (Contains ids b → m.has a b ≡ true) × (m.has a b ≡ true → Contains ids b)
has_of image r m a b ids h user list = (
  λ there.
      let back : m.has b a ≡ false =
      ⊎_elim (λ (yes : m.has b a ≡ true). absurd (user (h.valid b a yes).1)) (λ (no : m.has b a ≡ false). no) (cases_Bool (m.has b a)) in
      or_first (m.has a b) (m.has b a) (list.each b there) back,
  λ yes. list.all b (is_first_or (m.has a b) (m.has b a) yes),
)

pub same_truth : (a b : Bool) → (a ≡ true → b ≡ true) → (b ≡ true → a ≡ true) → a ≡ b
same_truth true true p q = refl
same_truth true false p q = sym (p refl)
same_truth false true p q = q refl
same_truth false false p q = refl
