-- Each event keeps each part of the invariant.
use Rattle.std.proofs.Common.{true, ◌≡◌, ℕ, ◌+◌, ◌<◌, ◌≤◌, List, ◌∷◌, length, map, sym, ap, subst, ◌∙◌, ◌⊎◌, inl, inr, arith}
use Rattle.std.proofs.lemmas.Bool.Decides.{nat_tests}
use Rattle.std.specs.Prelude.{Option, Some, None, nat_lt, slice_get}
use Rattle.ubik_types.specs.Votes.{is_server}
use Rattle.ubik_types.specs.Lease.{with_start}
use Rattle.lease_model.specs.Invariant.{ClocksNear, BeaconsPast, YesesPast, YesesGiven, MayBeTo, YesBinds, IsBound, YesesApart, StartsGiven}
use Rattle.lease_model.specs.Invariant.{AreCounted, IsCounted}
use Rattle.lease_model.specs.Leases.{Voter, Standing, Down, Halted, Up, Server, Beacon, Yes, IsIn}
use Rattle.lease_model.specs.Rules.{Rules}
use Rattle.lease_model.specs.Runs.{at_server, ticked, said, is_free}
use Rattle.lease_model.proofs.Places.{or_either, lt_true, get_same, in_more, in_cases, Was, at_before, each_all, with_start-length}
use Rattle.lease_model.proofs.Places.{with_start-either}

-- ---- clocks that only go forward

-- each server was there before, at no later clock
abbrev pub Older : List Server → List Server → Type 0
Older xs ys = (j : ℕ) (y : Server) → slice_get ys j ≡ Some y → (x : Server) × (slice_get xs j ≡ Some x) × (x.clock ≤ y.clock)

-- and at the same clock
abbrev pub SameClocks : List Server → List Server → Type 0
SameClocks xs ys = (j : ℕ) (y : Server) → slice_get ys j ≡ Some y → (x : Server) × (slice_get xs j ≡ Some x) × (x.clock ≡ y.clock)

was_older : (xs : List Server) (k j : ℕ) (f : Server → Server) (y : Server) → ((x : Server) → x.clock ≤ (f x).clock) →
    (w : Was xs k f j y) → w.0.clock ≤ y.clock
was_older xs k j f y grows w = by w.2
  where
    by : ((j ≡ k) × (y ≡ f w.0)) ⊎ ((j ≡ k → ⊥) × (y ≡ w.0)) → w.0.clock ≤ y.clock
    by (inl p) = let h : w.0.clock ≤ (f w.0).clock = grows w.0 in subst (λ (z : Server). w.0.clock ≤ z.clock) (sym p.1) h
    by (inr p) = let h : w.0.clock ≡ y.clock = ap (λ (z : Server). z.clock) (sym p.1) in omega arith

pub older_at : (xs : List Server) (k : ℕ) (f : Server → Server) → ((x : Server) → x.clock ≤ (f x).clock) → Older xs (at_server xs k f)
older_at xs k f grows j y is =
    let w : Was xs k f j y = at_before xs k j f y is in (w.0, w.1, was_older xs k j f y grows w)

pub older_all : (xs : List Server) (seconds : ℕ) → Older xs (map (ticked seconds) xs)
older_all xs seconds =
    each_all (λ j x. slice_get xs j ≡ Some x) (λ j y. (x : Server) × (slice_get xs j ≡ Some x) × (x.clock ≤ y.clock)) xs (ticked seconds)
    (λ j x is. is) (λ j x is. (x, is, omega arith))

pub same_at : (xs : List Server) (k : ℕ) (f : Server → Server) → ((x : Server) → x.clock ≡ (f x).clock) → SameClocks xs (at_server xs k f)
same_at xs k f same j y is = (w.0, w.1, by w.2)
  where
    w : Was xs k f j y
    w = at_before xs k j f y is

    by : ((j ≡ k) × (y ≡ f w.0)) ⊎ ((j ≡ k → ⊥) × (y ≡ w.0)) → w.0.clock ≡ y.clock
    by (inl p) = same w.0 ∙ ap (λ (z : Server). z.clock) (sym p.1)
    by (inr p) = ap (λ (z : Server). z.clock) (sym p.1)

pub near_same : (r : Rules) (xs ys : List Server) → SameClocks xs ys → ClocksNear r xs → ClocksNear r ys
near_same r xs ys same near j k x y at_j at_k =
    let a = same j x at_j in
    let b = same k y at_k in
    let h : a.0.clock ≤ b.0.clock + r.skew = near j k a.0 b.0 a.1 b.1 in
    let left : a.0.clock ≡ x.clock = a.2 in
    let right : b.0.clock ≡ y.clock = b.2 in
    omega arith

pub beacons_older : (xs ys : List Server) (beacons : List Beacon) → length ys ≡ length xs → Older xs ys → BeaconsPast xs beacons →
    BeaconsPast ys beacons
beacons_older xs ys beacons same older past b inside = (within, before)
  where
    within : b.asker < length ys
    within = let h : b.asker < length xs = (past b inside).0 in omega arith

    before : (y : Server) → slice_get ys b.asker ≡ Some y → b.start ≤ y.clock
    before y get =
        let w = older b.asker y get in
        let h : b.start ≤ w.0.clock = (past b inside).1 w.0 w.1 in
        let more : w.0.clock ≤ y.clock = w.2 in
        omega arith

pub yeses_older : (xs ys : List Server) (yeses : List Yes) → Older xs ys → YesesPast xs yeses → YesesPast ys yeses
yeses_older xs ys yeses older past y x inside get =
    let w = older y.voter x get in
    let h : y.at ≤ w.0.clock = past y w.0 inside w.1 in
    let more : w.0.clock ≤ x.clock = w.2 in
    omega arith

-- ---- counted starts

pub given_more : (k : ℕ) (y : Yes) (yeses : List Yes) (starts : List (Option ℕ)) → StartsGiven k yeses starts →
    StartsGiven k (y ∷ yeses) starts
given_more k y yeses starts given v s is = let w = given v s is in (w.0, in_more y yeses _ w.1)

-- a start that was given is counted
given_with : (k : ℕ) (yeses : List Yes) (starts : List (Option ℕ)) (voter start at : ℕ) →
    IsIn yeses (record { voter = voter; asker = k; start = start; at = at }) → StartsGiven k yeses starts →
    StartsGiven k yeses (with_start starts voter start)
given_with k yeses starts voter start at inside given v s is = by (with_start-either starts voter start v s is)
  where
    by : ((v ≡ voter) × (s ≡ start)) ⊎ (slice_get starts v ≡ Some (Some s)) →
        (at : ℕ) × IsIn yeses (record { voter = v; asker = k; start = s; at = at })
    by (inl p) =
        let same : record { voter = voter; asker = k; start = start; at = at } ≡ record { voter = v; asker = k; start = s; at = at } = cc in
        (at, subst (IsIn yeses) same inside)
    by (inr p) = given v s p

pub counted_with : (k : ℕ) (yeses : List Yes) (n : ℕ) (starts : List (Option ℕ)) (voter start at : ℕ) →
    IsIn yeses (record { voter = voter; asker = k; start = start; at = at }) → AreCounted k yeses n starts →
    AreCounted k yeses n (with_start starts voter start)
counted_with k yeses n starts voter start at inside counted =
    (given_with k yeses starts voter start at inside counted.0, with_start-length starts voter start ∙ counted.1)

pub counted_more : (k : ℕ) (y : Yes) (yeses : List Yes) (n : ℕ) (standing : Standing) → IsCounted k yeses n standing →
    IsCounted k (y ∷ yeses) n standing
counted_more k y yeses n Down is = tt
counted_more k y yeses n (Halted starts) is = (given_more k y yeses starts is.0, is.1)
counted_more k y yeses n (Up v) is = (given_more k y yeses v.starts is.0, is.1)

-- ---- what a free voter is bound by

free_either : (r : Rules) (asker now : ℕ) (v : Voter) → is_free r asker now v ≡ true → (v.yes_at + r.keep < now) ⊎ (v.yes_to ≡ Some asker)
free_either r asker now v free = by (or_either (nat_lt (v.yes_at + r.keep) now) (is_server asker v.yes_to) free)
  where
    to_server : (to : Option ℕ) → is_server asker to ≡ true → to ≡ Some asker
    to_server None is = absurd (cc)
    to_server (Some other) is =
        let same : other ≡ asker = grind (arith, nat_tests) in ap (λ (n : ℕ). Some n) same

    by : (nat_lt (v.yes_at + r.keep) now ≡ true) ⊎ (is_server asker v.yes_to ≡ true) → (v.yes_at + r.keep < now) ⊎ (v.yes_to ≡ Some asker)
    by (inl p) = inl (lt_true _ _ p)
    by (inr p) = inr (to_server v.yes_to p)

-- each older yes of the voter went to the same server, or is past
abbrev pub IsPast : Rules → ℕ → ℕ → Yes → Type 0
IsPast r asker now y = (y.at ≤ now) × ((y.asker ≡ asker) ⊎ (y.at + r.keep < now))

pub free_binds : (r : Rules) (k asker now : ℕ) (yeses : List Yes) (v : Voter) → IsBound r k yeses now (Up v) →
    is_free r asker now v ≡ true → (y : Yes) → IsIn yeses y → y.voter ≡ k → IsPast r asker now y
free_binds r k asker now yeses v bound free y inside of_k = (not_after, by (free_either r asker now v free) old.1)
  where
    old : (y.at ≤ v.yes_at) × (MayBeTo y.asker v.yes_to ⊎ (y.at + r.keep < v.yes_at))
    old = bound.1 y inside of_k

    last : v.yes_at ≤ now
    last = bound.0

    first : y.at ≤ v.yes_at
    first = old.0

    not_after : y.at ≤ now
    not_after = omega arith

    by : (v.yes_at + r.keep < now) ⊎ (v.yes_to ≡ Some asker) → MayBeTo y.asker v.yes_to ⊎ (y.at + r.keep < v.yes_at) →
        (y.asker ≡ asker) ⊎ (y.at + r.keep < now)
    by (inl p) q = inr (omega arith)
    by (inr p) (inl q) = inl (subst (MayBeTo y.asker) p q)
    by (inr p) (inr q) = inr (omega arith)

-- ---- a yes is given

module _ (r : Rules) (k asker start now : ℕ) (yeses : List Yes) where
  abbrev pub given_yes : Yes
  given_yes = record { voter = k; asker = asker; start = start; at = now }

  -- its voter is bound by it
  pub bound_said : (v : Voter) → ((y : Yes) → IsIn yeses y → y.voter ≡ k → IsPast r asker now y) →
      YesBinds r k (given_yes ∷ yeses) (said asker now v)
  bound_said v past y inside of_k = by (in_cases given_yes yeses y inside)
    where
      old : IsPast r asker now y → (y.at ≤ now) × (MayBeTo y.asker (Some asker) ⊎ (y.at + r.keep < now))
      old p = p

      by : (given_yes ≡ y) ⊎ IsIn yeses y → (y.at ≤ now) × (MayBeTo y.asker (Some asker) ⊎ (y.at + r.keep < now))
      by (inl p) =
          let at : now ≡ y.at = ap (λ (z : Yes). z.at) p in
          (omega arith, inl (ap (λ (z : Yes). z.asker) (sym p)))
      by (inr p) = old (past y p of_k)

  -- all others are bound as before
  pub bound_other : (j : ℕ) (clock : ℕ) (standing : Standing) → (j ≡ k → ⊥) → IsBound r j yeses clock standing →
      IsBound r j (given_yes ∷ yeses) clock standing
  bound_other j clock Down other is = tt
  bound_other j clock (Halted starts) other is = tt
  bound_other j clock (Up v) other is = (is.0, each)
    where
      each : YesBinds r j (given_yes ∷ yeses) v
      each y inside of_j = by (in_cases given_yes yeses y inside)
        where
          by : (given_yes ≡ y) ⊎ IsIn yeses y → (y.at ≤ v.yes_at) × (MayBeTo y.asker v.yes_to ⊎ (y.at + r.keep < v.yes_at))
          by (inl p) = absurd (other (sym of_j ∙ sym (ap (λ (z : Yes). z.voter) p)))
          by (inr p) = is.1 y p of_j

  -- two yeses of one voter
  abbrev pub AreApart : Yes → Yes → Type 0
  AreApart y z = (y.asker ≡ z.asker) ⊎ ((y.at + r.keep < z.at) ⊎ (z.at + r.keep < y.at))

  pub apart_said : ((y : Yes) → IsIn yeses y → y.voter ≡ k → IsPast r asker now y) → YesesApart r yeses → YesesApart r (given_yes ∷ yeses)
  apart_said past apart y z in_y in_z same = by (in_cases given_yes yeses y in_y) (in_cases given_yes yeses z in_z)
    where
      earlier : (a b : Yes) → given_yes ≡ b → IsPast r asker now a → AreApart a b
      earlier a b is p =
          elim p.1 as (λ _. AreApart a b) [
            | inl q ↦ inl (q ∙ ap (λ (z : Yes). z.asker) is)
            | inr q ↦ inr (inl (subst (λ (n : ℕ). a.at + r.keep < n) (ap (λ (z : Yes). z.at) is) q))
          ]

      turned : (a b : Yes) → AreApart a b → AreApart b a
      turned a b (inl p) = inl (sym p)
      turned a b (inr (inl p)) = inr (inr p)
      turned a b (inr (inr p)) = inr (inl p)

      by : (given_yes ≡ y) ⊎ IsIn yeses y → (given_yes ≡ z) ⊎ IsIn yeses z → AreApart y z
      by (inl p) (inl q) = inl (ap (λ (z : Yes). z.asker) (sym p ∙ q))
      by (inl p) (inr q) =
          let voter : z.voter ≡ k = sym same ∙ sym (ap (λ (z : Yes). z.voter) p) in
          turned z y (earlier z y p (past z q voter))
      by (inr p) (inl q) =
          let voter : y.voter ≡ k = same ∙ sym (ap (λ (z : Yes). z.voter) q) in
          earlier y z q (past y p voter)
      by (inr p) (inr q) = apart y z p q same

  pub given_said : start ≤ now + r.skew → YesesGiven r yeses → YesesGiven r (given_yes ∷ yeses)
  given_said soon given y inside = by (in_cases given_yes yeses y inside)
    where
      by : (given_yes ≡ y) ⊎ IsIn yeses y → y.start ≤ y.at + r.skew
      by (inl p) = subst (λ (z : Yes). z.start ≤ z.at + r.skew) p soon
      by (inr p) = given y p

  pub past_said : (xs : List Server) (x : Server) → slice_get xs k ≡ Some x → now ≤ x.clock → YesesPast xs yeses →
      YesesPast xs (given_yes ∷ yeses)
  past_said xs x get clock past y z inside at_z = by (in_cases given_yes yeses y inside)
    where
      by : (given_yes ≡ y) ⊎ IsIn yeses y → y.at ≤ z.clock
      by (inl p) =
          let voter : k ≡ y.voter = ap (λ (z : Yes). z.voter) p in
          let same : x ≡ z = get_same xs y.voter x z (subst (λ (i : ℕ). slice_get xs i ≡ Some x) voter get) at_z in
          let at : now ≡ y.at = ap (λ (z : Yes). z.at) p in
          let of_clock : x.clock ≡ z.clock = ap (λ (z : Server). z.clock) same in
          omega arith
      by (inr p) = past y z p at_z
