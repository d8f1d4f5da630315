-- What a counted vote changes in the list of starts.
use Rattle.std.proofs.Common.{◌≡◌, ℕ, zero, suc, ◌<◌, ◌^◌, Bool, true, false, ◌&&◌, IsTrue, Option, Some, None, IfSome, List, [], ◌∷◌, length, take, set, get_or, refl, ap, arith}
use Rattle.ubik_types.specs.Lease.{counted, with_start, start_of, is_from, no_starts, is_counted, vote_counted}
use Rattle.ubik_types.specs.Votes.{VoteState, fresh_votes}
use Rattle.std.proofs.lemmas.Bool.Decides.{nat_tests}
use Rattle.ubik_votes.specs.Voter.{Voter, fresh_voter}
use Rattle.ubik_votes.specs.Greatest.{AreMoments}

pub set-counted : (starts : List (Option ℕ)) (server start : ℕ) → server < length starts → set starts server (counted (get_or starts server None) start) ≡ with_start starts server start
set-counted [] server start inside = absurd (omega arith)
set-counted (s ∷ starts) zero start inside = refl
set-counted (s ∷ starts) (suc server) start inside = ap (λ (rest : List (Option ℕ)). s ∷ rest) (set-counted starts server start (omega arith))

pub take-with_start : (n : ℕ) (starts : List (Option ℕ)) (server start : ℕ) → take n (with_start starts server start) ≡ with_start (take n starts) server start
take-with_start zero starts server start = refl
take-with_start (suc n) [] server start = refl
take-with_start (suc n) (s ∷ starts) zero start = refl
take-with_start (suc n) (s ∷ starts) (suc server) start = ap (λ (rest : List (Option ℕ)). s ∷ rest) (take-with_start n starts server start)

pub length-with_start : (starts : List (Option ℕ)) (server start : ℕ) → length (with_start starts server start) ≡ length starts
length-with_start [] server start = refl
length-with_start (s ∷ starts) zero start = refl
length-with_start (s ∷ starts) (suc server) start = omega (arith, length-with_start starts server start)

moment-counted : (s : Option ℕ) (start : ℕ) → IfSome s (λ t. t < 2 ^ 31) → start < 2 ^ 31 → IfSome (counted s start) (λ t. t < 2 ^ 31)
moment-counted None start was now = now
moment-counted (Some before) start was now = omega arith

pub moments-with_start : (starts : List (Option ℕ)) (server start : ℕ) → AreMoments starts → start < 2 ^ 31 → AreMoments (with_start starts server start)
moments-with_start [] server start were now = tt
moments-with_start (s ∷ starts) zero start were now = (moment-counted s start were.0 now, were.1)
moments-with_start (s ∷ starts) (suc server) start were now = (were.0, moments-with_start starts server start were.1 now)

pub moments-take : (n : ℕ) (starts : List (Option ℕ)) → AreMoments starts → AreMoments (take n starts)
moments-take zero starts were = tt
moments-take (suc n) [] were = tt
moments-take (suc n) (s ∷ starts) were = (were.0, moments-take n starts were.1)

pub moments-at : (starts : List (Option ℕ)) (server : ℕ) → AreMoments starts → IfSome (get_or starts server None) (λ t. t < 2 ^ 31)
moments-at [] server were = tt
moments-at (s ∷ starts) zero were = were.0
moments-at (s ∷ starts) (suc server) were = moments-at starts server were.1

pub start_of-take : (n : ℕ) (starts : List (Option ℕ)) (server : ℕ) → server < n → start_of (take n starts) server ≡ get_or starts server None
start_of-take zero starts server inside = absurd (omega arith)
start_of-take (suc n) [] server inside = refl
start_of-take (suc n) (s ∷ starts) zero inside = refl
start_of-take (suc n) (s ∷ starts) (suc server) inside = start_of-take n starts server (omega arith)

-- a start that is not after one that is a moment
pub moment-from : (answer : Bool) (start : ℕ) (s : Option ℕ) → answer ≡ is_from start s → IfSome s (λ t. t < 2 ^ 31) → IsTrue answer → start < 2 ^ 31
moment-from true start None is own yes_it_is = cc
moment-from true start (Some t) is own yes_it_is = grind (arith, nat_tests)
moment-from false start s is own yes_it_is = absurd (grind (arith, yes_it_is))

-- a server that starts
pub fresh-view : (n me now : ℕ) (votes : VoteState) (starts : List (Option ℕ)) → votes ≡ fresh_votes now → starts ≡ no_starts n → (let voter : Voter = record { servers = n; me = me; opened = now; votes = votes; starts = starts } in voter ≡ fresh_voter n me now)
fresh-view n me now votes starts are none = cc

-- the starts after a vote that counts
pub counted-vote : (opened me : ℕ) (starts after : List (Option ℕ)) (from start : ℕ) (vote : Bool) → (vote && is_counted opened me starts start) ≡ true → after ≡ with_start starts from start → after ≡ vote_counted opened me starts from start vote
counted-vote opened me starts after from start vote rule is = rw rule is
