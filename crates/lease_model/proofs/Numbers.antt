-- The numbers of a cell are safe.
use Rattle.std.proofs.Common.{◌≡◌, ℕ, ◌<◌, Bool, true, List, length, refl, arith}
use Rattle.std.proofs.lemmas.Bool.Decides.{nat_tests}
use Rattle.std.specs.Prelude.{nat_lt}
use Rattle.ubik_types.specs.Quorum.{is_vote_quorum, IsVoteQuorum, SharesServer}
use Rattle.lease_model.specs.Rules.{Overlap, AreSafe, cell_rules}

lt_true : (a b : ℕ) → nat_lt a b ≡ true → a < b
lt_true a b is = grind (arith, nat_tests)

-- two vote quorums of a cell have a server in common
abbrev pub QuorumsShare : Type 0
QuorumsShare =
    (n : ℕ) (a b : List Bool) → length a ≡ n → length b ≡ n → IsVoteQuorum n a → IsVoteQuorum n b → SharesServer a b

module _ (share : QuorumsShare) where
  quorums_overlap : Overlap is_vote_quorum
  quorums_overlap n a b la lb qa qb = share n a b la lb (lt_true n _ qa) (lt_true n _ qb)

  pub cell_is_safe : AreSafe cell_rules
  cell_is_safe = record { outlasts = omega arith; binds = refl; overlap = quorums_overlap }

  pub kept_74_is_safe : AreSafe (record cell_rules { keep = 74 })
  kept_74_is_safe = record { outlasts = omega arith; binds = refl; overlap = quorums_overlap }

  pub lease_61_is_safe : AreSafe (record cell_rules { lease = 61 })
  lease_61_is_safe = record { outlasts = omega arith; binds = refl; overlap = quorums_overlap }
