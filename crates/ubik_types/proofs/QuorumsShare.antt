-- Two sets that are large enough have a server in common.
use Rattle.std.proofs.Common.{◌≡◌, ℕ, suc, ◌+◌, ◌<◌, Bool, true, false, cond, List, [], ◌∷◌, length, refl, arith}
use Rattle.std.proofs.lemmas.List.Sums.{sum_by-cons}
use Rattle.ubik_types.specs.Quorum.{size, IsVoteQuorum, IsMajority, SharesServer}

size-cons : (a : Bool) (set : List Bool) → size (a ∷ set) ≡ cond a 1 0 + size set
size-cons a set = sum_by-cons (λ (marked : Bool). cond marked 1 0) a set

-- a server that both rests share
later : (a b : Bool) (xs ys : List Bool) → SharesServer xs ys → SharesServer (a ∷ xs) (b ∷ ys)
later a b xs ys h = (suc h.0, h.1, h.2)

-- two sets of more marks together than there are servers
crowded : (a b : List Bool) → length a ≡ length b → length a < size a + size b → SharesServer a b
crowded [] [] same more = absurd (omega arith)
crowded [] (b ∷ ys) same more = absurd (omega arith)
crowded (a ∷ xs) [] same more = absurd (omega arith)
crowded (true ∷ xs) (true ∷ ys) same more = (0, refl, refl)
crowded (true ∷ xs) (false ∷ ys) same more =
    later true false xs ys (crowded xs ys (omega arith) (omega (arith, size-cons true xs, size-cons false ys)))
crowded (false ∷ xs) (true ∷ ys) same more =
    later false true xs ys (crowded xs ys (omega arith) (omega (arith, size-cons false xs, size-cons true ys)))
crowded (false ∷ xs) (false ∷ ys) same more =
    later false false xs ys (crowded xs ys (omega arith) (omega (arith, size-cons false xs, size-cons false ys)))

pub vote_quorums-share : (n : ℕ) (a b : List Bool) → length a ≡ n → length b ≡ n → IsVoteQuorum n a → IsVoteQuorum n b → SharesServer a b
vote_quorums-share n [] b la lb qa qb = absurd (omega arith)
vote_quorums-share n (a ∷ xs) [] la lb qa qb = absurd (omega arith)
vote_quorums-share n (true ∷ xs) (true ∷ ys) la lb qa qb = (0, refl, refl)
vote_quorums-share n (true ∷ xs) (false ∷ ys) la lb qa qb = crowded (true ∷ xs) (false ∷ ys) (omega arith) (omega arith)
vote_quorums-share n (false ∷ xs) (true ∷ ys) la lb qa qb = crowded (false ∷ xs) (true ∷ ys) (omega arith) (omega arith)
vote_quorums-share n (false ∷ xs) (false ∷ ys) la lb qa qb = crowded (false ∷ xs) (false ∷ ys) (omega arith) (omega arith)

pub majorities-share : (n : ℕ) (a b : List Bool) → length a ≡ n → length b ≡ n → IsMajority n a → IsMajority n b → SharesServer a b
majorities-share n a b la lb qa qb = crowded a b (omega arith) (omega arith)
