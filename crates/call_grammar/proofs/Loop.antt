-- Reading items one after the other, as a loop does.
use Rattle.std.proofs.Common.{◌≡◌, ℕ, suc, ◌-◌, ◌+◌, ◌≤◌, ◌<◌, List, [], ◌∷◌, ◌++◌, Option, Some, None, refl, sym, ap, ◌∙◌, append_assoc, arith}
use Rattle.std.proofs.lemmas.List.{append-nil}
use Rattle.call_grammar.specs.declared.faults.NotRead.{NotRead}
use Rattle.call_grammar.specs.declared.faults.NotRead.TheVariants as fault
use Rattle.call_grammar.specs.Items.{Count}
use Rattle.call_grammar.specs.Reading.{◌>>=◌, Fails, ItemsOf, items_at, list_at}

-- what was read before, and what is still read
abbrev pub with_front : {A S : Type 0} → List A → Option (List A × S) → Option (List A × S)
with_front front read = read >>= λ x. Some (front ++ x.0, x.1)

regroup : {A S : Type 0} (front : List A) (n : A) (read : Option (List A × S)) → with_front front (read >>= λ x. Some (n ∷ x.0, x.1)) ≡ with_front (front ++ n ∷ []) read
regroup {A = A} front n (Some x) = ap (λ (ns : List A). Some (ns, x.1)) (simp append_assoc)
regroup front n None = refl

pub goes_on : {A S : Type 0} (at : S → Option (A × S)) (front : List A) (count i : ℕ) (s : S) (n : A) (after : S) (total : Option (List A × S)) → i < count → at s ≡ Some (n, after)
    → with_front front (items_at at (count - i) s) ≡ total → with_front (front ++ n ∷ []) (items_at at (count - (i + 1)) after) ≡ total
goes_on at front count i s n after total lt h so_far =
    let k : count - i ≡ suc (count - (i + 1)) = omega arith in
    let one : with_front front (items_at at (count - i) s) ≡ with_front (front ++ n ∷ []) (items_at at (count - (i + 1)) after) = rw (k, h) (regroup front n (items_at at (count - (i + 1)) after)) in
    sym one ∙ so_far

pub ends : {A S : Type 0} (at : S → Option (A × S)) (front : List A) (count i : ℕ) (s : S) (total : Option (List A × S)) → i < count → at s ≡ None
    → with_front front (items_at at (count - i) s) ≡ total → total ≡ None
ends at front count i s total lt h so_far =
    let k : count - i ≡ suc (count - (i + 1)) = omega arith in
    let one : with_front front (items_at at (count - i) s) ≡ None = rw (k, h) refl in
    sym so_far ∙ one

pub is_done : {A S : Type 0} (at : S → Option (A × S)) (front : List A) (count i : ℕ) (s : S) (total : Option (List A × S)) → count ≤ i
    → with_front front (items_at at (count - i) s) ≡ total → total ≡ Some (front, s)
is_done {A = A} at front count i s total le so_far =
    let k : count - i ≡ 0 = omega arith in
    let one : with_front front (items_at at (count - i) s) ≡ Some (front, s) = rw k (ap (λ (ns : List A). Some (ns, s)) (append-nil front)) in
    sym so_far ∙ one

nothing_before : {A S : Type 0} (read : Option (List A × S)) → with_front [] read ≡ read
nothing_before (Some x) = refl
nothing_before None = refl

-- an item that was not read ends the list
pub ends_by : {A S : Type 0} (at : S → Option (A × S)) (e : NotRead) (front : List A) (count i : ℕ) (s : S) (total : Option (List A × S)) → i < count
    → Fails e (at s) → with_front front (items_at at (count - i) s) ≡ total → Fails e total
ends_by at fault.None front count i s total lt h so_far = ends at front count i s total lt h so_far
ends_by at fault.NoMemory front count i s total lt h so_far = tt

-- before the first item the whole list is still read
pub counted : {A S : Type 0} (item_at : ItemsOf S) (most : ℕ) (at : S → Option (A × S)) (front : List A) (from s : S) (count : ℕ) → front ≡ [] → item_at (Count most) from ≡ Some (count, s)
    → with_front front (items_at at (count - 0) s) ≡ list_at item_at most at from
unfolding list_at
counted item_at most at front from s count nothing e =
    let k : count - 0 ≡ count = omega arith in
    rw (nothing, k, e) (nothing_before (items_at at count s))

-- a count that does not stand there ends the list
pub uncounted : {A S : Type 0} (item_at : ItemsOf S) (most : ℕ) (at : S → Option (A × S)) (from : S) → item_at (Count most) from ≡ None → list_at item_at most at from ≡ None
unfolding list_at
uncounted item_at most at from h = rw h refl
