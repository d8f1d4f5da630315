use Rattle.std.proofs.Common.{rules}
use Rattle.server_rounds.proofs.Handing.{stopped, whole}
use Rattle.server_rounds.proofs.rounds.work_round.Goals as goal

pub returns-in-Done-clause-rounds : goal.returns-in-Done-clause-rounds
returns-in-Done-clause-rounds g c =
    whole _ _ _ _ c.in-Turn.now c.in-Turn.turn _ c.turn-end.new.out c.in-Turn.ensures.told c.in-Done.ensures.told c.hand_over.ensures.handed

pub returns-in_default : goal.returns-in_default
returns-in_default g c = record {
  rounds = stopped _ _ _ _ c.in-Turn.now c.in-Turn.turn _ c.turn-end.new.out c.in-Turn.ensures.told c.turn-end.ensures.told c.hand_over.ensures.handed (search rules);
  empty = c.hand_over.ensures.empty;
}
