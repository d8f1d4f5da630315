-- Votes and openings: who is in lease is past its opening, and no vote shortens a lease.
use Rattle.std.proofs.Common.{Bool, true, false, cond, ◌==◌, ◌≡◌, ◌⊎◌, inl, inr, ℕ, zero, suc, ◌+◌, ◌<◌, ◌≤◌, List, [], ◌∷◌, refl}
use Rattle.std.proofs.Common.{ap, ◌∙◌, arith}
use Rattle.std.proofs.lemmas.Bool.{cond_both}
use Rattle.std.proofs.lemmas.Bool.Decides.{nat_tests}
use Rattle.std.proofs.lemmas.List.Sums.{sum_by-cons}
use Rattle.std.specs.Prelude.{Option, Some, None, ◌&&◌, ◌||◌, nat_lt, nat_le, slice_get}
use Rattle.ubik_types.specs.declared.limits.TheConstants.{BIGTIME}
use Rattle.ubik_types.specs.Lease.{counted, with_start, is_from, start_of, is_counted, vote_counted, supporters, lease_from, lease_end}
use Rattle.ubik_types.specs.Quorum.{size, lowest_bonus, IsVoteQuorum}
use Rattle.ubik_types.specs.Votes.{VoteState, beacon_heard, is_server, answers_yes, answered}
use Rattle.ubik_votes.specs.Greatest.{IsSupported, RestsOnGreatest}
use Rattle.lease_model.proofs.Places.{le_true, lt_true, and_both, or_either, with_start-length, with_start-either}
use Rattle.cell_orders.specs.Orders.{HasOpened, Premises}

-- ---- a lease never ends earlier

size-cons : (a : Bool) (set : List Bool) → size (a ∷ set) ≡ cond a 1 0 + size set
size-cons a set = sum_by-cons (λ (marked : Bool). cond marked 1 0) a set

counted_from : (q s : ℕ) (o : Option ℕ) → is_from q o ≡ true → is_from q (counted o s) ≡ true
counted_from q s None is = absurd (cc)
counted_from q s (Some b) is = grind (arith, nat_tests)

one_or_more : (a b : Bool) → (a ≡ true → b ≡ true) → cond a 1 0 ≤ cond b 1 0
one_or_more true true f = omega arith
one_or_more true false f = absurd (let is : false ≡ true = f refl in cc)
one_or_more false true f = omega arith
one_or_more false false f = omega arith

size_grows : (starts : List (Option ℕ)) (v s q : ℕ) → size (supporters starts q) ≤ size (supporters (with_start starts v s) q)
size_grows [] v s q = omega arith
size_grows (x ∷ starts) zero s q =
    omega (
      arith,
      size-cons (is_from q x) (supporters starts q),
      size-cons (is_from q (counted x s)) (supporters starts q),
      one_or_more (is_from q x) (is_from q (counted x s)) (counted_from q s x),
    )
size_grows (x ∷ starts) (suc v) s q =
    omega (
      arith,
      size-cons (is_from q x) (supporters starts q),
      size-cons (is_from q x) (supporters (with_start starts v s) q),
      size_grows starts v s q,
    )

bonus_grows : (starts : List (Option ℕ)) (v s q : ℕ) → lowest_bonus (supporters starts q) ≤ lowest_bonus (supporters (with_start starts v s) q)
bonus_grows [] v s q = omega arith
bonus_grows (x ∷ starts) zero s q = one_or_more (is_from q x) (is_from q (counted x s)) (counted_from q s x)
bonus_grows (x ∷ starts) (suc v) s q = omega arith

supported_still : (n : ℕ) (starts : List (Option ℕ)) (v s q : ℕ) → IsSupported n starts q → IsSupported n (with_start starts v s) q
supported_still n starts v s q is = omega (arith, size_grows starts v s q, bonus_grows starts v s q)

lease_from_more : (a b : ℕ) → a ≤ b → lease_from a ≤ lease_from b
lease_from_more a b more = grind (arith, nat_tests)

pub until_rises : Premises → (n : ℕ) (starts : List (Option ℕ)) (v s : ℕ) → lease_end n starts ≤ lease_end n (with_start starts v s)
until_rises premises n starts v s = by (premises.rests n starts) (premises.rests n (with_start starts v s))
  where
    by : RestsOnGreatest n starts → RestsOnGreatest n (with_start starts v s) → lease_end n starts ≤ lease_end n (with_start starts v s)
    by a b = omega (arith, a.2, b.2, lease_from_more a.0 b.0 (at_least (nat_le a.0 b.0) refl))
      where
        at_least : (t : Bool) → nat_le a.0 b.0 ≡ t → a.0 ≤ b.0
        at_least true is = le_true a.0 b.0 is
        at_least false is =
            let less : b.0 < a.0 = grind (arith, nat_tests) in
            absurd (b.1.no_greater a.0 less (supported_still n starts v s a.0 (a.1.supported (omega arith))))

-- ---- a server in lease is past its opening

bonus_within : (set : List Bool) → lowest_bonus set ≤ size set
bonus_within [] = omega arith
bonus_within (true ∷ set) = omega (arith, size-cons true set)
bonus_within (false ∷ set) = omega arith

-- some start is counted where some supporter is
someone : (starts : List (Option ℕ)) (q : ℕ) → 0 < size (supporters starts q) →
    (v : ℕ) × (s : ℕ) × (slice_get starts v ≡ Some (Some s))
someone [] q some = absurd (omega arith)
someone (None ∷ starts) q some =
    let rest = someone starts q (omega (arith, size-cons false (supporters starts q))) in (suc rest.0, rest.1, rest.2)
someone (Some s ∷ starts) q some = (0, s, refl)

pub past_opening : Premises → (n now opened : ℕ) (votes : VoteState) (starts : List (Option ℕ)) → 0 < now → now ≤ lease_end n starts →
    HasOpened n now opened votes starts → opened < now
past_opening premises n now opened votes starts some leased is = by (premises.rests n starts)
  where
    by : RestsOnGreatest n starts → opened < now
    by a = at (a.0 == 0) refl
      where
        at : (t : Bool) → (a.0 == 0) ≡ t → opened < now
        at true none =
            let z : a.0 ≡ 0 = grind (arith, nat_tests) in
            let zero_is : lease_end n starts ≡ lease_from 0 = a.2 ∙ ap lease_from z in
            absurd (omega arith)
        at false other =
            let supported : IsVoteQuorum n (supporters starts a.0) = a.1.supported (grind (arith, nat_tests)) in
            let some_size : 0 < size (supporters starts a.0) = omega (arith, bonus_within (supporters starts a.0)) in
            let start = someone starts a.0 some_size in
            let both = is.counted start.0 start.1 start.2 in
            let first : opened < start.1 = both.0 in
            let second : start.1 ≤ now = both.1 in
            omega arith

-- ---- votes

to_whom : (k : ℕ) (o : Option ℕ) → is_server k o ≡ true → (j : ℕ) × (o ≡ Some j)
to_whom k None is = absurd (cc)
to_whom k (Some j) is = (j, refl)

-- who says yes is past its opening
yes_past : (n now opened k : ℕ) (claim : Bool) (votes : VoteState) (starts : List (Option ℕ)) → answers_yes votes now k claim ≡ true →
    HasOpened n now opened votes starts → opened < now
yes_past n now opened k claim votes starts is since =
    by (or_either (nat_lt (votes.yes_at + BIGTIME) now) (is_server k votes.yes_to)
    (and_both (nat_lt (votes.yes_at + BIGTIME) now || is_server k votes.yes_to) _ is).0)
  where
    by : (nat_lt (votes.yes_at + BIGTIME) now ≡ true) ⊎ (is_server k votes.yes_to ≡ true) → opened < now
    by (inl late) =
        let less : votes.yes_at + BIGTIME < now = lt_true _ _ late in
        let first : opened ≤ votes.yes_at = since.before in
        omega arith
    by (inr same) =
        let w = to_whom k votes.yes_to same in
        let less : opened < votes.yes_at = since.given w.0 w.1 in
        let past : votes.yes_at ≤ now = since.past in
        omega arith

pub opened_hears : (n now opened k : ℕ) (claim : Bool) (votes : VoteState) (starts : List (Option ℕ)) → HasOpened n now opened votes starts →
    HasOpened n now opened (answered votes now k claim) starts
opened_hears n now opened k claim votes starts is =
    cond_both (answers_yes votes now k claim) (record (beacon_heard votes now k claim) { yes_to = Some k; yes_at = now })
    (beacon_heard votes now k claim) (λ (v : VoteState). HasOpened n now opened v starts)
    (λ yes.
    let past : opened < now = yes_past n now opened k claim votes starts yes is in
    record { before = omega arith; past = omega arith; given = λ j to. past; counted = is.counted; each = is.each })
    (λ _. record { before = is.before; past = is.past; given = is.given; counted = is.counted; each = is.each })

pub opened_starts : (n now opened k s : ℕ) (votes : VoteState) (starts : List (Option ℕ)) → opened < s → s ≤ now →
    HasOpened n now opened votes starts → HasOpened n now opened votes (with_start starts k s)
opened_starts n now opened k s votes starts after until is = record {
  before = is.before;
  past = is.past;
  given = is.given;
  counted = λ v t get. by v t (with_start-either starts k s v t get);
  each = with_start-length starts k s ∙ is.each;
}
  where
    by : (v t : ℕ) → ((v ≡ k) × (t ≡ s)) ⊎ (slice_get starts v ≡ Some (Some t)) → (opened < t) × (t ≤ now)
    by v t (inl w) = let same : t ≡ s = w.1 in (omega arith, omega arith)
    by v t (inr old) = is.counted v t old

pub opened_asks : (n now opened me : ℕ) (claim : Bool) (votes : VoteState) (starts : List (Option ℕ)) →
    answers_yes votes now me claim ≡ true → HasOpened n now opened votes starts →
    HasOpened n now opened (answered votes now me claim) (with_start starts me now)
opened_asks n now opened me claim votes starts due is =
    opened_starts n now opened me now (answered votes now me claim) starts (yes_past n now opened me claim votes starts due is) (omega arith)
    (opened_hears n now opened me claim votes starts is)

start_get : (starts : List (Option ℕ)) (me s : ℕ) → start_of starts me ≡ Some s → slice_get starts me ≡ Some (Some s)
start_get [] me s is = absurd (cc)
start_get (x ∷ starts) zero s is = ap (λ (o : Option ℕ). Some o) is
start_get (x ∷ starts) (suc me) s is = start_get starts me s is

from_some : (start : ℕ) (o : Option ℕ) → is_from start o ≡ true → (s : ℕ) × (o ≡ Some s) × (start ≤ s)
from_some start None is = absurd (cc)
from_some start (Some s) is = (s, refl, le_true start s is)

-- a start that counts is between the opening and this moment
counts_past : (n now opened me start : ℕ) (votes : VoteState) (starts : List (Option ℕ)) → is_counted opened me starts start ≡ true →
    HasOpened n now opened votes starts → (opened < start) × (start ≤ now)
counts_past n now opened me start votes starts is since =
    let both = and_both (nat_lt opened start) (is_from start (start_of starts me)) is in
    let own = from_some start (start_of starts me) both.1 in
    let past = since.counted me own.0 (start_get starts me own.0 own.1) in
    let first : start ≤ own.0 = own.2 in
    let second : own.0 ≤ now = past.1 in
    (lt_true _ _ both.0, omega arith)

module _ (n now opened me k start : ℕ) (granted : Bool) (votes : VoteState) (starts : List (Option ℕ)) where
  pub opened_counts : HasOpened n now opened votes starts → HasOpened n now opened votes (vote_counted opened me starts k start granted)
  opened_counts is =
      cond_both (granted && is_counted opened me starts start) (with_start starts k start) starts
      (λ (later : List (Option ℕ)). HasOpened n now opened votes later)
      (λ counts.
      let past = counts_past n now opened me start votes starts (and_both granted _ counts).1 is in
      opened_starts n now opened k start votes starts past.0 past.1 is)
      (λ _. is)

  pub until_counts : Premises → lease_end n starts ≤ lease_end n (vote_counted opened me starts k start granted)
  until_counts premises =
      cond_both (granted && is_counted opened me starts start) (with_start starts k start) starts
      (λ (later : List (Option ℕ)). lease_end n starts ≤ lease_end n later) (λ _. until_rises premises n starts k start) (λ _. omega arith)
