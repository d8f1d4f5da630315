use Rattle.std.proofs.Common.{◌≡◌, IfSome, length}
use Rattle.std.specs.Prelude.{option_map}
use Rattle.server_rounds.specs.Round.{HasLeft, after_hands}
use Rattle.server_rounds.proofs.rounds.hand_over.Given as goal

abbrev pub invariant-loop-sending : goal.invariant-loop-sending
invariant-loop-sending g l = record {
  left : IfSome (g.P.Post.record_of l.post) (HasLeft l.out);
  handed : option_map (after_hands l.out) (g.P.Post.record_of l.post) ≡ option_map (after_hands l.fn.out) (g.P.Post.record_of l.fn.post);
}

abbrev pub decreases-loop-sending : goal.decreases-loop-sending
decreases-loop-sending g l = length l.out
