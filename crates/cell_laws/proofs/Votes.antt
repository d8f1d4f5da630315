-- What the rules of votes do to a server, as the model of leases sees it.
use Rattle.std.proofs.Common.{Bool, true, false, cond, ◌≡◌, ℕ, ◌+◌, ◌<◌, ◌≤◌, ◌==◌, List, [], ◌∷◌, max, refl, sym, ap, subst, ◌∙◌, ◌⊎◌, inl}
use Rattle.std.proofs.Common.{inr, arith}
use Rattle.std.proofs.lemmas.Bool.{cond-true, cond-false}
use Rattle.std.proofs.lemmas.Bool.Decides.{nat_tests}
use Rattle.std.specs.Prelude.{Option, Some, None, ◌||◌, nat_lt}
use Rattle.ubik_types.specs.declared.limits.TheConstants.{SMALLTIME, BIGTIME}
use Rattle.ubik_types.specs.Lease.{supporters, quorum_start, lease_from, is_in_lease}
use Rattle.ubik_types.specs.Quorum.{is_vote_quorum}
use Rattle.ubik_types.specs.Votes.{VoteState, beacon_heard, answers_yes, answered, is_server}
use Rattle.lease_model.specs.Leases.{Voter, IsLeased}
use Rattle.lease_model.specs.Rules.{cell_rules}
use Rattle.lease_model.specs.Runs.{is_free, said}
use Rattle.lease_model.proofs.Places.{and_both, le_true}

-- the votes of a server as a voter of the model
abbrev pub voter_with : VoteState → List (Option ℕ) → Voter
voter_with votes starts = record { yes_to = votes.yes_to; yes_at = votes.yes_at; starts = starts }

-- a yes is kept
pub answered_yes : (votes : VoteState) (starts : List (Option ℕ)) (now k : ℕ) (claim : Bool) → answers_yes votes now k claim ≡ true →
    voter_with (answered votes now k claim) starts ≡ said k now (voter_with votes starts)
answered_yes votes starts now k claim is =
    ap (λ (v : VoteState). voter_with v starts)
    (cond-true (answers_yes votes now k claim) (record (beacon_heard votes now k claim) { yes_to = Some k; yes_at = now })
    (beacon_heard votes now k claim) is)

pub answered_no : (votes : VoteState) (starts : List (Option ℕ)) (now k : ℕ) (claim : Bool) → answers_yes votes now k claim ≡ false →
    voter_with (answered votes now k claim) starts ≡ voter_with votes starts
answered_no votes starts now k claim is =
    ap (λ (v : VoteState). voter_with v starts)
    (cond-false (answers_yes votes now k claim) (record (beacon_heard votes now k claim) { yes_to = Some k; yes_at = now })
    (beacon_heard votes now k claim) is)

-- who says yes is free
pub yes_free : (votes : VoteState) (starts : List (Option ℕ)) (now k : ℕ) (claim : Bool) → answers_yes votes now k claim ≡ true →
    is_free cell_rules k now (voter_with votes starts) ≡ true
yes_free votes starts now k claim is =
    (and_both (nat_lt (votes.yes_at + BIGTIME) now || is_server k votes.yes_to) _ is).0

-- ---- leases

max_either : (a b : ℕ) → (max a b ≡ a) ⊎ (max a b ≡ b)
max_either a b = grind (arith)

-- the start that a quorum supports
quorum_supports : (n : ℕ) (starts among : List (Option ℕ)) (q : ℕ) → quorum_start n starts among ≡ q → 0 < q →
    is_vote_quorum n (supporters starts q) ≡ true
quorum_supports n starts [] q is some = absurd (omega arith)
quorum_supports n starts (None ∷ among) q is some = quorum_supports n starts among q is some
quorum_supports n starts (Some s ∷ among) q is some =
    by (is_vote_quorum n (supporters starts s)) refl is (λ e. quorum_supports n starts among q e some)
  where
    own : is_vote_quorum n (supporters starts s) ≡ true → s ≡ q → is_vote_quorum n (supporters starts q) ≡ true
    own suffices e = subst (λ (t : ℕ). is_vote_quorum n (supporters starts t) ≡ true) e suffices

    Rest : Type 0
    Rest = quorum_start n starts among ≡ q → is_vote_quorum n (supporters starts q) ≡ true

    greater : is_vote_quorum n (supporters starts s) ≡ true → max s (quorum_start n starts among) ≡ q → Rest →
        (max s (quorum_start n starts among) ≡ s) ⊎ (max s (quorum_start n starts among) ≡ quorum_start n starts among) →
        is_vote_quorum n (supporters starts q) ≡ true
    greater suffices e rest (inl p) = own suffices (sym p ∙ e)
    greater suffices e rest (inr p) = rest (sym p ∙ e)

    by : (b : Bool) → is_vote_quorum n (supporters starts s) ≡ b →
        cond b (max s (quorum_start n starts among)) (quorum_start n starts among) ≡ q → Rest →
        is_vote_quorum n (supporters starts q) ≡ true
    by true suffices e rest = greater suffices e rest (max_either s (quorum_start n starts among))
    by false suffices e rest = rest e

-- a server that is in lease is so in the model
pub leased_is : (n : ℕ) (starts : List (Option ℕ)) (now : ℕ) → 0 < now → is_in_lease n starts now ≡ true → IsLeased cell_rules n starts now
leased_is n starts now moment leased = by (quorum_start n starts starts) refl (le_true now _ leased)
  where
    by : (q : ℕ) → quorum_start n starts starts ≡ q → now ≤ lease_from (quorum_start n starts starts) → IsLeased cell_rules n starts now
    by q is until = at (q == 0) refl (subst (λ (t : ℕ). now ≤ lease_from t) is until)
      where
        at : (b : Bool) → (q == 0) ≡ b → now ≤ cond b 0 (SMALLTIME + q) → IsLeased cell_rules n starts now
        at true zero_is until = absurd (omega arith)
        at false zero_is until =
            let some : 0 < q = grind (arith, nat_tests) in
            (q, quorum_supports n starts starts q is some, omega arith)
