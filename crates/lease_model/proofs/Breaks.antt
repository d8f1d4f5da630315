-- Runs that leave two servers in lease, where a number is another one.
use Rattle.std.proofs.Common.{◌+◌, ◌*◌, false, List, [], ◌∷◌, refl, arith}
use Rattle.lease_model.specs.Laws.{BothInLease, is_half}
use Rattle.lease_model.specs.Rules.{Rules, cell_rules}
use Rattle.lease_model.specs.Runs.{Event, Tick, Tick_all, Ask, Answer, Count, Start, Stop}

-- The other server's clock is ahead by the skew. It asks when the lowest server is free, which says yes; and then the lowest one
-- asks when its own clock is ahead by the skew, and its yes is past.
late_yes : Rules → List Event
late_yes r =
    let start = 101 + r.keep + r.skew in
    Tick_all (1 + r.keep) ∷ Tick 1 r.skew ∷ Ask 1
    ∷ Answer 0 (record { asker = 1; start = start })
    ∷ Count (record { voter = 0; asker = 1; start = start; at = 101 + r.keep })
    ∷ Tick_all r.lease ∷ Tick 0 (2 * r.skew) ∷ Ask 0 ∷ []

-- the lowest server votes for the other one, stops, starts, and votes for itself
forgetful : List Event
forgetful =
    Ask 1
    ∷ Answer 0 (record { asker = 1; start = 100 })
    ∷ Count (record { voter = 0; asker = 1; start = 100; at = 100 })
    ∷ Stop 0 ∷ Start 0 ∷ Ask 0 ∷ []

-- each votes for itself
halves : List Event
halves = Tick_all 76 ∷ Ask 0 ∷ Ask 1 ∷ []

pub skew_of_8 : BothInLease (record cell_rules { skew = 8 })
unfolding late_yes
skew_of_8 = record {
  events = late_yes (record cell_rules { skew = 8 });
  run = (refl, (refl, (refl, (((0, refl), refl), ((0, refl), (refl, (refl, (refl, tt))))))));
  lowest = (252, refl, omega arith);
  other = (184, refl, omega arith);
}

pub yes_kept_73 : BothInLease (record cell_rules { keep = 73 })
unfolding late_yes
yes_kept_73 = record {
  events = late_yes (record cell_rules { keep = 73 });
  run = (refl, (refl, (refl, (((0, refl), refl), ((0, refl), (refl, (refl, (refl, tt))))))));
  lowest = (248, refl, omega arith);
  other = (181, refl, omega arith);
}

pub lease_of_62 : BothInLease (record cell_rules { lease = 62 })
unfolding late_yes
lease_of_62 = record {
  events = late_yes (record cell_rules { lease = 62 });
  run = (refl, (refl, (refl, (((0, refl), refl), ((0, refl), (refl, (refl, (refl, tt))))))));
  lowest = (252, refl, omega arith);
  other = (183, refl, omega arith);
}

pub votes_forgotten : BothInLease (record cell_rules { start_binds = false })
unfolding forgetful
votes_forgotten = record {
  events = forgetful;
  run = (refl, (((0, refl), refl), ((0, refl), (tt, (tt, (refl, tt))))));
  lowest = (100, refl, omega arith);
  other = (100, refl, omega arith);
}

pub quorum_of_half : BothInLease (record cell_rules { suffices = is_half })
unfolding halves
quorum_of_half = record {
  events = halves;
  run = (refl, (refl, (refl, tt)));
  lowest = (176, refl, omega arith);
  other = (176, refl, omega arith);
}
