-- The hosts of a cell, in their order.
use Rattle.std.proofs.Common.{◌≡◌, ◌<◌, ◌+◌, ℕ, zero, suc, List, [], ◌∷◌, ◌++◌, length, get_or, refl, sym, ap, subst, ◌∙◌, arith}
use Rattle.std.specs.Prelude.{Contains, IsPermutation}
use Rattle.std.proofs.lemmas.List.Sorted.{Contains-permutation, IsPermutation-sym}
use Rattle.ubik_types.specs.declared.hosts.Host.{Host}
use Rattle.ubik_types.specs.Hosts.{IsAscending, IsCell}
use Rattle.cell_runs.specs.Script.{hosts_from, hosts_of}

pub length-hosts_from : (k n : ℕ) → length (hosts_from k n) ≡ n
length-hosts_from k zero = refl
length-hosts_from k (suc n) = let rest = length-hosts_from (k + 1) n in omega (arith, rest)

pub length-hosts_of : (n : ℕ) → length (hosts_of n) ≡ n
length-hosts_of n = length-hosts_from 0 n

ascending_from : (k n : ℕ) → IsAscending (hosts_from k n)
ascending_from k zero = tt
ascending_from k (suc zero) = tt
ascending_from k (suc (suc n)) = (omega arith, ascending_from (k + 1) (suc n))

-- a host behind the first one is above it
above_first : (a : Host) (hosts : List Host) (k : ℕ) (d : Host) → IsAscending (a ∷ hosts) → k < length hosts → a.0 < (get_or hosts k d).0
above_first a [] k d up lt = absurd (omega arith)
above_first a (b ∷ hosts) zero d up lt = up.0
above_first a (b ∷ hosts) (suc k) d up lt =
    let rest = above_first b hosts k d up.1 (omega arith) in omega (arith, rest, up.0)

rest_ascending : (a : Host) (hosts : List Host) → IsAscending (a ∷ hosts) → IsAscending hosts
rest_ascending a [] up = tt
rest_ascending a (b ∷ hosts) up = up.1

-- what is in a list and behind its first is so in another that begins with the same
behind : (x : Host) (xs ys : List Host) → IsAscending (x ∷ xs) → ((z : Host) → Contains (x ∷ xs) z → Contains (x ∷ ys) z) → (z : Host)
    → Contains xs z
    → Contains ys z
behind x xs ys up all z (k, lt, is) = by (all z (suc k, omega arith, is))
  where
    by : Contains (x ∷ ys) z → Contains ys z
    by (zero, lt', same) =
        let more : x.0 < (get_or xs k z).0 = above_first x xs k z up lt in
        let e : (get_or xs k z).0 ≡ z.0 = ap (λ (h : Host). h.0) is in
        let f : x.0 ≡ z.0 = ap (λ (h : Host). h.0) same in
        absurd (omega (arith, more, e, f))
    by (suc j, lt', same) = (j, omega arith, same)

none_in : (z : Host) → Contains [] z → ⊥
none_in z (k, lt, is) = absurd (omega (arith, lt))

same_first : (x y : Host) (xs ys : List Host) → IsAscending (x ∷ xs) → IsAscending (y ∷ ys) → Contains (y ∷ ys) x → Contains (x ∷ xs) y
    → x ≡ y
same_first x y xs ys up up' (zero, lt, is) there = sym is
same_first x y xs ys up up' (suc k, lt, is) (zero, lt', is') = is'
same_first x y xs ys up up' (suc k, lt, is) (suc j, lt', is') =
    let one : y.0 < (get_or ys k x).0 = above_first y ys k x up' (omega (arith, lt)) in
    let two : x.0 < (get_or xs j y).0 = above_first x xs j y up (omega (arith, lt')) in
    let e : (get_or ys k x).0 ≡ x.0 = ap (λ (h : Host). h.0) is in
    let f : (get_or xs j y).0 ≡ y.0 = ap (λ (h : Host). h.0) is' in
    absurd (omega (arith, one, two, e, f))

-- two ascending lists of the same hosts are the same
pub same_ascending : (xs ys : List Host) → IsAscending xs → IsAscending ys → ((z : Host) → Contains xs z → Contains ys z)
    → ((z : Host) → Contains ys z → Contains xs z) → xs ≡ ys
same_ascending [] [] up up' to from = refl
same_ascending [] (y ∷ ys) up up' to from = absurd (none_in y (from y (0, omega arith, refl)))
same_ascending (x ∷ xs) [] up up' to from = absurd (none_in x (to x (0, omega arith, refl)))
same_ascending (x ∷ xs) (y ∷ ys) up up' to from =
    let is : x ≡ y = same_first x y xs ys up up' (to x (0, omega arith, refl)) (from y (0, omega arith, refl)) in
    let P : Host → Type 0 = λ h. IsAscending (h ∷ ys) in
    let Q : Host → Type 0 = λ h. (z : Host) → Contains (x ∷ xs) z → Contains (h ∷ ys) z in
    let R : Host → Type 0 = λ h. (z : Host) → Contains (h ∷ ys) z → Contains (x ∷ xs) z in
    let rest : xs ≡ ys =
    same_ascending xs ys (rest_ascending x xs up) (rest_ascending y ys up')
    (behind x xs ys up (subst Q (sym is) to)) (behind x ys xs (subst P (sym is) up') (subst R (sym is) from)) in
    ap (λ (h : Host). h ∷ xs) is ∙ ap (λ (l : List Host). y ∷ l) rest

-- the cell that is made of the hosts of a script has them in their order
pub cell_hosts : (n : ℕ) (hosts cell : List Host) → hosts ≡ hosts_of n → IsCell cell → IsPermutation hosts cell → cell ≡ hosts
cell_hosts n hosts cell are is same =
    sym (same_ascending hosts cell (subst IsAscending (sym are) (ascending_from 0 n)) is.ascending
    (λ z there. Contains-permutation hosts cell z same there)
    (λ z there. Contains-permutation cell hosts z (IsPermutation-sym hosts cell same) there))

next_from : (k n : ℕ) → hosts_from k n ++ record { 0 = 167772161 + (k + n) } ∷ [] ≡ hosts_from k (suc n)
next_from k zero = ap (λ (m : ℕ). record { 0 = 167772161 + m } ∷ []) (omega arith)
next_from k (suc n) =
    let same : k + suc n ≡ k + 1 + n = omega arith in
    ap (λ (m : ℕ). record { 0 = 167772161 + k } ∷ (hosts_from (k + 1) n ++ record { 0 = 167772161 + m } ∷ [])) same
    ∙ ap (λ (l : List Host). record { 0 = 167772161 + k } ∷ l) (next_from (k + 1) n)

-- the host behind the first ones
pub next_host : (n : ℕ) → hosts_of n ++ record { 0 = 167772161 + n } ∷ [] ≡ hosts_of (n + 1)
next_host n =
    let same : n + 1 ≡ suc n = omega arith in
    ap (λ (m : ℕ). hosts_of n ++ record { 0 = 167772161 + m } ∷ []) (omega arith) ∙ next_from 0 n ∙ ap hosts_of (sym same)
