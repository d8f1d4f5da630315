-- By the invariant at most one server is in lease, and leases of two servers are ordered by their clocks.
use Rattle.std.proofs.Common.{Bool, true, false, ◌≡◌, ℕ, ◌+◌, ◌*◌, ◌<◌, ◌≤◌, ◌==◌, List, length, refl, sym, ◌∙◌, ◌⊎◌, inl, inr, arith}
use Rattle.std.proofs.lemmas.Bool.Decides.{nat_tests}
use Rattle.std.specs.Prelude.{Option, Some, None, slice_get, IsSomeAnd}
use Rattle.ubik_types.specs.Lease.{supporters}
use Rattle.lease_model.specs.Invariant.{AreCounted, IsCounted, Invariant, WereGiven}
use Rattle.lease_model.specs.Laws.{Exclude, LeasesExclude}
use Rattle.lease_model.specs.Leases.{Standing, Down, Halted, Up, Server, Leases, IsIn, IsLeased, IsLeasedIn}
use Rattle.lease_model.specs.Rules.{Rules, AreSafe}
use Rattle.lease_model.specs.Runs.{after_all, first}
use Rattle.lease_model.proofs.Places.{get_within, within_get, supporter_at, supporters-length}
use Rattle.lease_model.proofs.Steps.{run_keeps, first_keeps}

-- who is in lease was given the yeses of a vote quorum
starts_given : (r : Rules) (s : Leases) (m now : ℕ) (starts : List (Option ℕ)) → AreCounted m s.yeses (length s.servers) starts →
    IsLeased r (length s.servers) starts now → WereGiven r s m now
starts_given r s m now starts counted leased = record {
  set = supporters starts leased.0;
  each = supporters-length starts leased.0 ∙ counted.1;
  suffices = leased.1;
  yes = yes;
}
  where
    yes : (v : ℕ) → slice_get (supporters starts leased.0) v ≡ Some true →
        (start at : ℕ) × (now ≤ start + r.lease) × IsIn s.yeses (record { voter = v; asker = m; start = start; at = at })
    yes v is =
        let w = supporter_at starts leased.0 v is in
        let y = counted.0 v w.0 w.1 in
        let from : leased.0 ≤ w.0 = w.2 in
        let until : now ≤ leased.0 + r.lease = leased.2 in
        (w.0, y.0, omega arith, y.1)

pub lease_given : (r : Rules) (s : Leases) (m : ℕ) (x : Server) → Invariant r s → slice_get s.servers m ≡ Some x →
    IsLeasedIn r (length s.servers) x.standing x.clock → WereGiven r s m x.clock
lease_given r s m x kept get leased = by x.standing (kept.counted m x get) leased
  where
    by : (standing : Standing) → IsCounted m s.yeses (length s.servers) standing → IsLeasedIn r (length s.servers) standing x.clock →
        WereGiven r s m x.clock
    by Down counted is = absurd is
    by (Halted starts) counted is = starts_given r s m x.clock starts counted is
    by (Up v) counted is = starts_given r s m x.clock v.starts counted is

-- a yes to server m, for a start from a moment on
abbrev YesFrom : Rules → Leases → ℕ → ℕ → ℕ → Type 0
YesFrom r s v m since = (start at : ℕ) × (since ≤ start + r.lease) × IsIn s.yeses (record { voter = v; asker = m; start = start; at = at })

ordered : (since clock skew lease keep start at start' at' voter : ℕ) → (at + keep < at') ⊎ (at' + keep < at) → start ≤ at + skew →
    start' ≤ at' + skew → at ≤ voter → at' ≤ voter → voter ≤ clock + skew → since ≤ start + lease → clock ≤ start' + lease →
    lease + 2 * skew ≤ keep → since < clock
ordered since clock skew lease keep start at start' at' voter (inl p) a b c d e f g h = omega arith
ordered since clock skew lease keep start at start' at' voter (inr p) a b c d e f g h = omega arith

same_or : (h k : ℕ) → ((h ≡ k → ⊥) → ⊥) → h ≡ k
same_or h k other = by (h == k) refl
  where
    by : (b : Bool) → (h == k) ≡ b → h ≡ k
    by true is = grind (arith, nat_tests)
    by false is = absurd (other (λ same. absurd (differ is same)))
      where
        differ : (h == k) ≡ false → h ≡ k → ⊥
        differ is same = grind (arith, nat_tests)

with_voter : (r : Rules) (s : Leases) (m h since : ℕ) (x : Server) → AreSafe r → Invariant r s → slice_get s.servers h ≡ Some x →
    (m ≡ h → ⊥) → (v : ℕ) → YesFrom r s v m since → YesFrom r s v h x.clock → (z : Server) × (slice_get s.servers v ≡ Some z) →
    since < x.clock
with_voter r s m h since x safe kept get other v one two voter =
    by (kept.apart (record { voter = v; asker = m; start = one.0; at = one.1 })
    (record { voter = v; asker = h; start = two.0; at = two.1 }) one.3 two.3 refl)
  where
    by : (m ≡ h) ⊎ ((one.1 + r.keep < two.1) ⊎ (two.1 + r.keep < one.1)) → since < x.clock
    by (inl same) = absurd (other same)
    by (inr p) =
        let from_one : one.0 ≤ one.1 + r.skew = kept.given (record { voter = v; asker = m; start = one.0; at = one.1 }) one.3 in
        let from_two : two.0 ≤ two.1 + r.skew = kept.given (record { voter = v; asker = h; start = two.0; at = two.1 }) two.3 in
        let by_one : one.1 ≤ voter.0.clock =
        kept.yeses (record { voter = v; asker = m; start = one.0; at = one.1 }) voter.0 one.3 voter.1 in
        let by_two : two.1 ≤ voter.0.clock =
        kept.yeses (record { voter = v; asker = h; start = two.0; at = two.1 }) voter.0 two.3 voter.1 in
        let near : voter.0.clock ≤ x.clock + r.skew = kept.near v h voter.0 x voter.1 get in
        let since_one : since ≤ one.0 + r.lease = one.2 in
        let since_two : x.clock ≤ two.0 + r.lease = two.2 in
        let outlasts : r.lease + 2 * r.skew ≤ r.keep = safe.outlasts in
        ordered since x.clock r.skew r.lease r.keep one.0 one.1 two.0 two.1 voter.0.clock p from_one from_two by_one by_two near since_one
        since_two outlasts

-- Separation: where server m was given the yeses of a vote quorum for starts from `since` on, and another server is in lease, the
-- clock of that one is past that moment.
pub separated : (r : Rules) (s : Leases) (m h since : ℕ) (x : Server) → AreSafe r → Invariant r s → WereGiven r s m since →
    slice_get s.servers h ≡ Some x → WereGiven r s h x.clock → (m ≡ h → ⊥) → since < x.clock
separated r s m h since x safe kept before get now other =
    let both = safe.overlap (length s.servers) before.set now.set before.each now.each before.suffices now.suffices in
    with_voter r s m h since x safe kept get other both.0 (before.yes both.0 both.1) (now.yes both.0 both.2)
    (get_within s.servers both.0 (let w = within_get before.set both.0 true both.1 in let e = before.each in omega arith))

pub exclude : (r : Rules) (s : Leases) → AreSafe r → Invariant r s → Exclude r s
exclude r s safe kept h k first second = by (slice_get s.servers h) (slice_get s.servers k) refl refl first second
  where
    by : (a b : Option Server) → slice_get s.servers h ≡ a → slice_get s.servers k ≡ b →
        IsSomeAnd a (λ x. IsLeasedIn r (length s.servers) x.standing x.clock) →
        IsSomeAnd b (λ x. IsLeasedIn r (length s.servers) x.standing x.clock) → h ≡ k
    by None b at_h at_k one two = absurd one
    by (Some x) None at_h at_k one two = absurd two
    by (Some x) (Some y) at_h at_k one two =
        same_or h k (λ other.
        let left : x.clock < y.clock =
        separated r s h k x.clock y safe kept (lease_given r s h x kept at_h one) at_k (lease_given r s k y kept at_k two) other in
        let right : y.clock < x.clock =
        separated r s k h y.clock x safe kept (lease_given r s k y kept at_k two) at_h (lease_given r s h x kept at_h one)
        (λ same. other (sym same)) in
        omega arith)

pub leases_exclude : LeasesExclude
leases_exclude r safe clock failed events run =
    exclude r (after_all r (first r clock failed) events) safe
    (run_keeps r (first r clock failed) events safe.binds run (first_keeps r clock failed))
