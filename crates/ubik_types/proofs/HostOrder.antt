-- Lists of hosts in order: the first that stands twice, and the place of a host.
use Rattle.std.proofs.Common.{◌≡◌, ℕ, zero, suc, ◌+◌, ◌<◌, ◌≤◌, ◌==◌, cond, Option, Some, None, List, [], ◌∷◌, length, drop, get_or, slice_get, position, refl, ap, sym, ◌∙◌, subst, ⊎_elim, IfSome, IsPermutation, arith}
use Rattle.std.specs.List.{position_or_len}
use Rattle.std.specs.List.Sorted.{IsSortedByKey, IsNonDecreasingBy}
use Rattle.std.specs.Ordering.{nat_cmp}
use Rattle.std.proofs.lemmas.List.Quantifiers.{position-Some}
use Rattle.std.proofs.lemmas.Option.{slice_get-get_or, slice_get_within}
use Rattle.std.proofs.lemmas.List.Sorted.{sum_by-IsPermutation, IsNonDecreasingBy-from_sort}
use Rattle.std.proofs.lemmas.List.Sums.{sum_by-cons}
use Rattle.std.proofs.lemmas.Bool.{cases_lt}
use Rattle.std.proofs.lemmas.Bool.Decides.{nat_tests}
use Rattle.ubik_types.specs.declared.hosts.Host.{Host}
use Rattle.ubik_types.specs.Hosts.{IsAscending, IsRising, IsLowestRepeated, times}

-- the first host that equals the next
abbrev pub first_twice : List Host → Option Host
first_twice [] = None
first_twice (a ∷ []) = None
first_twice (a ∷ b ∷ hosts) = cond (a.0 == b.0) (Some a) (first_twice (b ∷ hosts))

rising-from_not_decreasing : (hosts : List Host) → IsNonDecreasingBy (λ (host : Host). host.0) hosts → IsRising hosts
rising-from_not_decreasing [] up = tt
rising-from_not_decreasing (a ∷ []) up = tt
rising-from_not_decreasing (a ∷ b ∷ hosts) up =
    (up 0 1 a (omega arith) (omega arith), rising-from_not_decreasing (b ∷ hosts) (λ i j d le inside. up (suc i) (suc j) d (omega arith) (omega arith)))

pub rising-from_sorted : (hosts : List Host) → IsSortedByKey (λ (host : Host). host.0) nat_cmp hosts → IsRising hosts
rising-from_sorted hosts sorted =
    rising-from_not_decreasing hosts (IsNonDecreasingBy-from_sort (λ (host : Host). host.0) hosts sorted)

pub ascending-tail : (a : Host) (hosts : List Host) → IsAscending (a ∷ hosts) → IsAscending hosts
ascending-tail a [] up = tt
ascending-tail a (b ∷ hosts) up = up.1

-- each host of the rest is above the first
pub head_below : (a : Host) (hosts : List Host) (i : ℕ) (host : Host) → IsAscending (a ∷ hosts) → slice_get hosts i ≡ Some host → a.0 < host.0
head_below a [] i host up e = cc
head_below a (b ∷ hosts) zero host up e = let s : b ≡ host = cc in omega (arith, ap (λ (x : Host). x.0) s)
head_below a (b ∷ hosts) (suc i) host up e = omega (arith, head_below b hosts i host up.1 e)

pub place : (hosts : List Host) (i : ℕ) (host : Host) → IsAscending hosts → slice_get hosts i ≡ Some host → position_or_len (λ (other : Host). other.0 == host.0) hosts ≡ i
place [] i host up e = cc
place (a ∷ hosts) zero host up e = let s : a ≡ host = cc in let t = ap (λ (x : Host). x.0) s in grind (arith, nat_tests)
place (a ∷ hosts) (suc i) host up e = let below = head_below a hosts i host up e in let rest = place hosts i host (ascending-tail a hosts up) e in grind (arith, nat_tests)

pub position-from_place : (hosts : List Host) (i : ℕ) (host : Host) → IsAscending hosts → slice_get hosts i ≡ Some host → position (λ (other : Host). other.0 == host.0) hosts ≡ Some i
position-from_place hosts i host up e =
    let inside = slice_get_within hosts i host e in
    let p = place hosts i host up e in
    grind (arith, nat_tests)

times-cons : (host a : Host) (hosts : List Host) → times host (a ∷ hosts) ≡ cond (a.0 == host.0) 1 0 + times host hosts
times-cons host a hosts = sum_by-cons (λ (other : Host). cond (other.0 == host.0) 1 0) a hosts

rising-tail : (a : Host) (hosts : List Host) → IsRising (a ∷ hosts) → IsRising hosts
rising-tail a [] up = tt
rising-tail a (b ∷ hosts) up = up.1

-- a host that stands in the rest is not below the first
head_not_above : (a : Host) (hosts : List Host) (other : Host) → IsRising (a ∷ hosts) → 0 < times other hosts → a.0 ≤ other.0
head_not_above a [] other up some = omega arith
head_not_above a (b ∷ hosts) other up some =
    let e = times-cons other b hosts in
    let rest : 0 < times other hosts → b.0 ≤ other.0 = head_not_above b hosts other up.1 in
    grind (arith, nat_tests)

same_host : (a b : Host) → a.0 ≡ b.0 → a ≡ b
same_host a b e = ap (λ (n : ℕ). let host : Host = record { 0 = n } in host) e

lowest_repeated-here : (a b : Host) (hosts : List Host) → IsRising (a ∷ b ∷ hosts) → a.0 ≡ b.0 → IsLowestRepeated (a ∷ b ∷ hosts) a
lowest_repeated-here a b hosts up same = record {
  repeated = (let e = times-cons a a (b ∷ hosts) in let f = times-cons a b hosts in grind (arith, nat_tests));
  lowest = λ other twice. (let e = times-cons other a (b ∷ hosts) in let f = head_not_above a (b ∷ hosts) other up in grind (arith, nat_tests));
}

lowest_repeated-later : (a b : Host) (hosts : List Host) (host : Host) → a.0 < b.0 → IsRising (a ∷ b ∷ hosts) → IsLowestRepeated (b ∷ hosts) host → IsLowestRepeated (a ∷ b ∷ hosts) host
lowest_repeated-later a b hosts host below up rest = record {
  repeated = (let e = times-cons host a (b ∷ hosts) in let f = rest.repeated in grind (arith, nat_tests));
  lowest = λ other twice. (let e = times-cons other a (b ∷ hosts) in let g = times-cons other b hosts in let f = head_not_above b hosts other up.1 in let h = rest.lowest other in grind (arith, nat_tests));
}

pub lowest_repeated : (hosts : List Host) (host : Host) → IsRising hosts → first_twice hosts ≡ Some host → IsLowestRepeated hosts host
lowest_repeated [] host up e = cc
lowest_repeated (a ∷ []) host up e = cc
lowest_repeated (a ∷ b ∷ hosts) host up e =
    ⊎_elim
    (λ (below : a.0 < b.0). lowest_repeated-later a b hosts host below up (lowest_repeated (b ∷ hosts) host up.1 (grind (arith, nat_tests))))
    (λ (past : b.0 ≤ a.0). (let same : a.0 ≡ b.0 = omega arith in let is : a ≡ host = grind (arith, nat_tests) in let P : Host → Type 0 = λ h. IsLowestRepeated (a ∷ b ∷ hosts) h in subst P is (lowest_repeated-here a b hosts up same)))
    (cases_lt a.0 b.0)

pub ascending-from_none : (hosts : List Host) → IsRising hosts → first_twice hosts ≡ None → IsAscending hosts
ascending-from_none [] up e = tt
ascending-from_none (a ∷ []) up e = tt
ascending-from_none (a ∷ b ∷ hosts) up e =
    ⊎_elim
    (λ (below : a.0 < b.0). (below, ascending-from_none (b ∷ hosts) up.1 (grind (arith, nat_tests))))
    (λ (past : b.0 ≤ a.0). absurd (let same : a.0 ≡ b.0 = omega arith in grind (arith, nat_tests)))
    (cases_lt a.0 b.0)

here-at : (hosts : List Host) (j : ℕ) (d : Host) → suc j < length hosts → (get_or hosts j d).0 ≡ (get_or hosts (suc j) d).0 → first_twice (drop j hosts) ≡ Some (get_or hosts (suc j) d)
here-at [] j d inside same = absurd (omega arith)
here-at (a ∷ []) j d inside same = absurd (omega arith)
here-at (a ∷ b ∷ hosts) zero d inside same = let s = same_host a b same in grind (arith, nat_tests)
here-at (a ∷ b ∷ hosts) (suc j) d inside same = here-at (b ∷ hosts) j d (omega arith) same

here-past : (hosts : List Host) (j : ℕ) (d : Host) → suc j < length hosts → ((get_or hosts j d).0 ≡ (get_or hosts (suc j) d).0 → ⊥) → first_twice (drop j hosts) ≡ first_twice (drop (suc j) hosts)
here-past [] j d inside apart = absurd (omega arith)
here-past (a ∷ []) j d inside apart = absurd (omega arith)
here-past (a ∷ b ∷ hosts) zero d inside apart = grind (arith, nat_tests)
here-past (a ∷ b ∷ hosts) (suc j) d inside apart = here-past (b ∷ hosts) j d (omega arith) apart

-- the scan of the hosts from the place j on, where i is the next
pub first_twice-at : (hosts : List Host) (j i : ℕ) (d : Host) → i ≡ suc j → i < length hosts → (get_or hosts j d).0 ≡ (get_or hosts i d).0 → first_twice (drop j hosts) ≡ Some (get_or hosts i d)
first_twice-at hosts j i d next inside same =
    let P : ℕ → Type 0 = λ n. n < length hosts → (get_or hosts j d).0 ≡ (get_or hosts n d).0 → first_twice (drop j hosts) ≡ Some (get_or hosts n d) in
    subst P (sym next) (here-at hosts j d) inside same

pub first_twice-past : (hosts : List Host) (j i : ℕ) (d : Host) → i ≡ suc j → i < length hosts → ((get_or hosts j d).0 ≡ (get_or hosts i d).0 → ⊥) → first_twice (drop j hosts) ≡ first_twice (drop i hosts)
first_twice-past hosts j i d next inside apart =
    let P : ℕ → Type 0 = λ n. n < length hosts → ((get_or hosts j d).0 ≡ (get_or hosts n d).0 → ⊥) → first_twice (drop j hosts) ≡ first_twice (drop n hosts) in
    subst P (sym next) (here-past hosts j d) inside apart

pub first_twice-end : (hosts : List Host) (j : ℕ) → length hosts ≤ suc j → first_twice (drop j hosts) ≡ None
first_twice-end [] zero past = refl
first_twice-end [] (suc j) past = refl
first_twice-end (a ∷ []) zero past = refl
first_twice-end (a ∷ []) (suc j) past = first_twice-end [] j (omega arith)
first_twice-end (a ∷ b ∷ hosts) zero past = absurd (omega arith)
first_twice-end (a ∷ b ∷ hosts) (suc j) past = first_twice-end (b ∷ hosts) j (omega arith)

-- what `position` finds is the host
pub place-finds : (hosts : List Host) (host : Host) (r : Option ℕ) → r ≡ position (λ (other : Host). other.0 == host.0) hosts → IfSome r (λ i. slice_get hosts i ≡ Some host)
place-finds hosts host None e = tt
place-finds hosts host (Some i) e =
    let p = position-Some (λ (other : Host). other.0 == host.0) hosts i host (sym e) in
    let same : (get_or hosts i host).0 ≡ host.0 = (let test = p.1 in grind (arith, nat_tests)) in
    slice_get-get_or hosts i host p.0 ∙ ap (λ (h : Host). Some h) (same_host (get_or hosts i host) host same)

-- which host is the lowest repeated one does not depend on the order
pub lowest_repeated-permutation : (hosts sorted : List Host) (host : Host) → IsPermutation hosts sorted → IsLowestRepeated sorted host → IsLowestRepeated hosts host
lowest_repeated-permutation hosts sorted host same lowest =
    let count : (h : Host) → times h sorted ≡ times h hosts = λ h. sum_by-IsPermutation (λ (other : Host). cond (other.0 == h.0) 1 0) hosts sorted same in
    record {
      repeated = omega (arith, count host, lowest.repeated);
      lowest = λ other twice. lowest.lowest other (omega (arith, count other));
    }
