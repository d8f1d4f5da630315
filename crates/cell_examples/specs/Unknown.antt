-- Writes that are answered Unknown: one that a later order has, and one that it has not (own).
use Rattle.std.specs.Prelude.{◌≡◌, None, List, [], ◌∷◌, ◌++◌}
use Rattle.ubik_types.specs.declared.phases.Phase.TheVariants as phases
use Rattle.ubik_types.specs.declared.phases.Applied.TheVariants as applied
use Rattle.ubik_calls.specs.declared.replies.Reply.TheVariants as reply
use Rattle.cell_model.specs.World.{Event, Tick_all, IsRun, Replied}
use Rattle.cell_examples.specs.Register.{register}
use Rattle.cell_examples.specs.Showing.{two, three, delivers, beacons, recovers, asks, transaction, seen_behind, order_after}

-- The lowest of two servers leads, announces a version that both have, and commits a write, of which the other hears nothing; then
-- its lease is over.
abbrev pub written_alone : List Event
written_alone =
    Tick_all 76 ∷ beacons 0 ∷ recovers 0 ∷ delivers 2 ∷ delivers 3 ∷ delivers 4 ∷ delivers 5 ∷ asks 0 1 (7 ∷ []) ∷ Tick_all 61 ∷ []

-- It leads again, and sends its database to the other.
abbrev pub led_again : List Event
led_again = recovers 0 ∷ beacons 0 ∷ recovers 0 ∷ delivers 10 ∷ delivers 11 ∷ delivers 12 ∷ delivers 13 ∷ []

-- A write is answered Unknown while no order has it; a later one has.
pub record UnknownIsOrdered : Type 0 where
  pub run : IsRun register two (written_alone ++ led_again)
  pub answered : seen_behind two written_alone (recovers 0) ≡ Replied 0 1 (reply.NoQuorum 237 236 phases.None applied.Unknown) None ∷ []
  pub before : order_after two written_alone ≡ []
  pub later : order_after two (written_alone ++ led_again) ≡ transaction 176 (7 ∷ []) ∷ []

-- The lowest of three servers leads by the vote of the next, announces a version that both have, and commits a write. Packets 9 to 11
-- bring it to the next server, 12 to 14 to the last.
abbrev pub written_of_three : List Event
written_of_three =
    Tick_all 76 ∷ beacons 0 ∷ delivers 1 ∷ delivers 3 ∷ recovers 0 ∷ delivers 4 ∷ delivers 6 ∷ delivers 7 ∷ delivers 8
    ∷ asks 0 1 (7 ∷ []) ∷ []

-- its lease is over, and so is the next server's yes
abbrev pub waited_out : List Event
waited_out = written_of_three ++ Tick_all 76 ∷ []

-- The next server leads by the vote of the last, which has its database then; both have a write of another call.
abbrev pub led_by_next : List Event
led_by_next =
    recovers 0 ∷ beacons 1 ∷ delivers 16 ∷ delivers 17 ∷ recovers 1 ∷ delivers 19 ∷ delivers 20 ∷ delivers 21 ∷ delivers 22
    ∷ asks 1 2 (8 ∷ []) ∷ delivers 26 ∷ delivers 27 ∷ delivers 28 ∷ delivers 29 ∷ []

-- A write is answered Unknown; a later order has another one, and not this.
pub record UnknownIsLeftOut : Type 0 where
  pub run : IsRun register three (waited_out ++ led_by_next)
  pub answered : seen_behind three waited_out (recovers 0) ≡ Replied 0 1 (reply.NoQuorum 252 236 phases.None applied.Unknown) None ∷ []
  pub later : order_after three (waited_out ++ led_by_next) ≡ transaction 252 (8 ∷ []) ∷ []
