-- The pages that are kept, as a list of numbers and bytes.
use Rattle.std.proofs.Common.{◌≡◌, ◌≢◌, ◌<◌, ◌≤◌, ◌+◌, ◌*◌, ◌/◌, ◌-◌, ◌∙◌, ◌&&◌, ◌||◌, ℕ, nat_eq, nat_lt, nat_le, Bool, true, false, cond, List, [], ◌∷◌, length, slice_get, take, Option, Some, None, ap, sym, subst, refl, arith}
use Rattle.std.specs.Cmp.{nat_eq_equiv}
use Rattle.std.specs.Option.{option_map_or}
use Rattle.std.specs.List.{IsDistinct, filter}
use Rattle.std.specs.Map.{keys_of, lookup, lookup_entry, remove_entry}
use Rattle.std.proofs.lemmas.Bool.{eqb-false}
use Rattle.std.proofs.lemmas.Bool.Decides.{nat_tests}
use Rattle.std.proofs.lemmas.Map.{NonePasses}
use Rattle.std.proofs.lemmas.Map.Entries.{none_past_head}
use Rattle.std.proofs.lemmas.List.Elements.{filter_agree}
use Rattle.std.proofs.lemmas.Nat.{div-add-mod'}
use Rattle.lru.specs.LruCache.{lru_cache, promoted, put_entries}
use Rattle.page_file.specs.Kept.{lies_apart}

-- a position lies in its page
pub in_page : (n : ℕ) → (n / 1024 * 1024 ≤ n) × (n < n / 1024 * 1024 + 1024)
in_page n = (grind (arith, div-add-mod'), grind (arith, div-add-mod'))

-- a filter of a filter
pub filter_again : {X : Type 0} (p q : X → Bool) (xs : List X) → filter p (filter q xs) ≡ filter (λ x. q x && p x) xs
filter_again p q [] = refl
filter_again {X} p q (x ∷ xs) =
    by (q x) (filter_again p q xs)
  where
    by : (b : Bool) → filter p (filter q xs) ≡ filter (λ y. q y && p y) xs
        → filter p (cond b (x ∷ filter q xs) (filter q xs)) ≡ cond (b && p x) (x ∷ filter (λ y. q y && p y) xs)
        (filter (λ y. q y && p y) xs)
    by true rest = ap (λ (l : List X). cond (p x) (x ∷ l) l) rest
    by false rest = rest

-- each number but one
abbrev pub is_other : ℕ → ℕ → Bool
is_other page n = nat_lt n page || nat_le (page + 1) n

is_same : (page n : ℕ) → nat_eq page n ≡ true → page ≡ n
is_same page n same = grind (arith, nat_tests)

either : (a b : Bool) → a ≡ true → (a || b) ≡ true
either a b is = rw is refl

or_else : (a b : Bool) → a ≡ false → (a || b) ≡ b
or_else a b is = rw is refl

other_than : (page n : ℕ) → nat_eq page n ≡ false → is_other page n ≡ true
other_than page n differs =
    by (nat_lt n page) refl
  where
    by : (b : Bool) → nat_lt n page ≡ b → is_other page n ≡ true
    by true below = either (nat_lt n page) (nat_le (page + 1) n) below
    by false past =
        let apart : page ≢ n = eqb-false page n differs in
        let above : nat_le (page + 1) n ≡ true = grind (arith, nat_tests) in
        or_else (nat_lt n page) (nat_le (page + 1) n) past ∙ above

not_other : (page n : ℕ) → nat_eq page n ≡ true → is_other page n ≡ false
not_other page n same =
    let one : page ≡ n = is_same page n same in
    let below : nat_lt n page ≡ false = grind (arith, nat_tests) in
    let above : nat_le (page + 1) n ≡ false = grind (arith, nat_tests) in
    or_else (nat_lt n page) (nat_le (page + 1) n) below ∙ above

none_is : {V : Type 0} (page : ℕ) (es : List (ℕ × V)) → NonePasses (nat_eq page) es → filter (λ e. is_other page e.0) es ≡ es
none_is page [] none = refl
none_is {V} page (e ∷ es) none =
    ap (λ (b : Bool). cond b (e ∷ filter (λ f. is_other page f.0) es) (filter (λ f. is_other page f.0) es)) (other_than page e.0 none.0)
    ∙ ap (λ (l : List (ℕ × V)). e ∷ l) (none_is page es none.1)

-- of numbers that differ, one that is removed leaves the others
pub removed : {V : Type 0} (page : ℕ) (es : List (ℕ × V)) → IsDistinct nat_eq (keys_of es)
    → remove_entry (nat_eq page) es ≡ filter (λ e. is_other page e.0) es
unfolding IsDistinct
removed page [] distinct = refl
removed {V} page (e ∷ es) distinct =
    by (nat_eq page e.0) refl (removed page es distinct.1)
  where
    kept : List (ℕ × V)
    kept = filter (λ f. is_other page f.0) es

    by : (b : Bool) → nat_eq page e.0 ≡ b → remove_entry (nat_eq page) es ≡ filter (λ f. is_other page f.0) es
        → remove_entry (nat_eq page) (e ∷ es) ≡ filter (λ f. is_other page f.0) (e ∷ es)
    by true same rest =
        ap (λ (b : Bool). cond b es (e ∷ remove_entry (nat_eq page) es)) same
        ∙ sym (none_is page es (none_past_head nat_eq_equiv page e es distinct same))
        ∙ sym (ap (λ (b : Bool). cond b (e ∷ kept) kept) (not_other page e.0 same))
    by false differs rest =
        ap (λ (b : Bool). cond b es (e ∷ remove_entry (nat_eq page) es)) differs
        ∙ ap (λ (l : List (ℕ × V)). e ∷ l) rest
        ∙ sym (ap (λ (b : Bool). cond b (e ∷ kept) kept) (other_than page e.0 differs))

-- all numbers but those from one on before another
abbrev pub is_outside : (first end n : ℕ) → Bool
is_outside first end n = nat_lt n first || nat_le end n

-- two tests that are true of the same are equal
same_test : (a b : Bool) → (a ≡ true → b ≡ true) → (b ≡ true → a ≡ true) → a ≡ b
same_test true true there back = refl
same_test true false there back = sym (there refl)
same_test false true there back = back refl
same_test false false there back = refl

one_more : (first page n : ℕ) → first ≤ page → (is_outside first page n && is_other page n) ≡ is_outside first (page + 1) n
one_more first page n after = same_test _ _ (λ a. grind (arith, nat_tests)) (λ b. grind (arith, nat_tests))

-- one more number is left out
pub outside_more : {V : Type 0} (first page : ℕ) (es : List (ℕ × V)) → first ≤ page
    → filter (λ e. is_other page e.0) (filter (λ e. is_outside first page e.0) es) ≡ filter (λ e. is_outside first (page + 1) e.0) es
outside_more first page es after =
    filter_again (λ e. is_other page e.0) (λ e. is_outside first page e.0) es
    ∙ filter_agree (λ e. is_outside first page e.0 && is_other page e.0) (λ e. is_outside first (page + 1) e.0)
    (λ e. one_more first page e.0 after) es

outside_none : (first n : ℕ) → is_outside first first n ≡ true
outside_none first n =
    by (nat_lt n first) refl
  where
    by : (b : Bool) → nat_lt n first ≡ b → is_outside first first n ≡ true
    by true below = either (nat_lt n first) (nat_le first n) below
    by false past = let above : nat_le first n ≡ true = grind (arith, nat_tests) in or_else (nat_lt n first) (nat_le first n) past ∙ above

filter_all : {X : Type 0} (p : X → Bool) (xs : List X) → ((x : X) → p x ≡ true) → filter p xs ≡ xs
filter_all p [] all = refl
filter_all {X} p (x ∷ xs) all =
    ap (λ (b : Bool). cond b (x ∷ filter p xs) (filter p xs)) (all x) ∙ ap (λ (l : List X). x ∷ l) (filter_all p xs all)

-- none is left out yet
pub outside_all : {V : Type 0} (first : ℕ) (es : List (ℕ × V)) → filter (λ e. is_outside first first e.0) es ≡ es
outside_all first es = filter_all (λ e. is_outside first first e.0) es (λ e. outside_none first e.0)

-- no page is left of none
pub none_left : {X : Type 0} (p : X → Bool) (xs : List X) → length xs ≡ 0 → filter p xs ≡ xs
none_left p [] none = refl
none_left p (x ∷ xs) none = absurd (omega arith)

no_entry : {V : Type 0} (test : ℕ → Bool) (es : List (ℕ × V)) → lookup test es ≡ None → lookup_entry test es ≡ None
no_entry test [] none = refl
no_entry {V} test (e ∷ es) none =
    by (test e.0) none (no_entry test es)
  where
    by : (b : Bool) → cond b (Some e.1) (lookup test es) ≡ None → (lookup test es ≡ None → lookup_entry test es ≡ None)
        → cond b (Some e) (lookup_entry test es) ≡ None
    by true none rest = cc
    by false none rest = rest none

-- the page in front is found there, and stays there
pub record IsInFront {V : Type 0} (page : ℕ) (v : V) (es : List (ℕ × V)) : Type 0 where
  pub found : lookup (nat_eq page) es ≡ Some v
  pub front : promoted (nat_eq page) es ≡ es

pub in_front : {V : Type 0} (es : List (ℕ × V)) (page : ℕ) (v : V) → slice_get es 0 ≡ Some (page, v) → IsInFront page v es
in_front [] page v is = absurd cc
in_front {V} (e ∷ es) page v is =
    let same : (page, v) ≡ e = cc in
    subst (λ (first : ℕ × V). IsInFront page v (first ∷ es)) same
    (record { found = rw (nat_eq_equiv.refl page); front = rw (nat_eq_equiv.refl page) })

-- a page that is not kept is brought nowhere
pub not_brought : {V : Type 0} (page : ℕ) (es : List (ℕ × V)) → lookup (nat_eq page) es ≡ None → promoted (nat_eq page) es ≡ es
not_brought {V} page es none =
    ap (λ (o : Option (ℕ × V)). option_map_or (λ e. e ∷ remove_entry (nat_eq page) es) o es) (no_entry (nat_eq page) es none)

-- a new page pushes the last one out
pub put_new : {V : Type 0} (es : List (ℕ × V)) (cap page : ℕ) (v : V) → lookup (nat_eq page) es ≡ None
    → put_entries nat_eq (lru_cache es cap) page v ≡ (page, v) ∷ take (cap - 1) es
put_new {V} es cap page v none =
    ap (λ (o : Option (ℕ × V)). option_map_or (λ e. (e.0, v) ∷ remove_entry (nat_eq page) es) o ((page, v) ∷ take (cap - 1) es))
    (no_entry (nat_eq page) es none)

-- a page has no byte of a range where it stands before its first page or behind its last
apart_test : (from to first last page : ℕ) → from < to → first * 1024 ≤ from → from < first * 1024 + 1024 → last * 1024 ≤ to - 1
    → to - 1 < last * 1024 + 1024 → lies_apart from to page ≡ is_outside first (last + 1) page
apart_test from to first last page some a b c d = same_test _ _ (λ is. grind (arith, nat_tests)) (λ is. grind (arith, nat_tests))

pub apart_pages : (from to : ℕ) (es : List (ℕ × List ℕ)) → from < to
    → filter (λ e. is_outside (from / 1024) ((to - 1) / 1024 + 1) e.0) es ≡ filter (λ e. lies_apart from to e.0) es
apart_pages from to es some =
    let low = in_page from in
    let high = in_page (to - 1) in
    filter_agree (λ e. is_outside (from / 1024) ((to - 1) / 1024 + 1) e.0) (λ e. lies_apart from to e.0)
    (λ e. sym (apart_test from to (from / 1024) ((to - 1) / 1024) e.0 some low.0 low.1 high.0 high.1)) es

none_between : (from to page : ℕ) → to ≤ from → lies_apart from to page ≡ true
none_between from to page none =
    let no_byte : nat_le to from ≡ true = grind (arith, nat_tests) in
    either (nat_le to from || nat_le to (page * 1024)) (nat_le (page * 1024 + 1024) from)
    (either (nat_le to from) (nat_le to (page * 1024)) no_byte)

-- no byte, no page
pub apart_none : (from to : ℕ) (es : List (ℕ × List ℕ)) → to ≤ from → filter (λ e. lies_apart from to e.0) es ≡ es
apart_none from to es none = filter_all (λ e. lies_apart from to e.0) es (λ e. none_between from to e.0 none)
