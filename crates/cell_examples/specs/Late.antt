-- Packets of an old sync site, and of an old poll, that come late (own).
use Rattle.std.specs.Prelude.{◌≡◌, None, Some, List, [], ◌∷◌, ◌++◌}
use Rattle.ubik_types.specs.Phase.{Poll, Fetch}
use Rattle.cell_model.specs.Durable.{durable}
use Rattle.cell_model.specs.World.{Event, Tick_all, IsRun}
use Rattle.cell_examples.specs.Register.{register}
use Rattle.cell_examples.specs.Showing.{three, delivers, beacons, recovers, asks, version, transaction, announcements_of, order_after, disk_after, phase_after}
use Rattle.cell_examples.specs.Unknown.{written_of_three}

-- The next server keeps the write, and not its commit. The last server leads by its vote, and asks it for its database.
abbrev pub fetch_begun : List Event
fetch_begun =
    written_of_three
    ++ delivers 9 ∷ delivers 10 ∷ Tick_all 76 ∷ beacons 2 ∷ delivers 16 ∷ delivers 17 ∷ recovers 2 ∷ delivers 19 ∷ delivers 20 ∷ []

-- The last server has it, under a version of its own.
abbrev pub fetched : List Event
fetched = fetch_begun ++ delivers 21 ∷ delivers 22 ∷ []

-- the old commit comes
abbrev pub late_commit : List Event
late_commit = fetched ++ delivers 11 ∷ []

-- The next server gets the database of the last one, and then a write of another call.
abbrev pub spread_then : List Event
spread_then =
    delivers 23 ∷ delivers 25 ∷ delivers 26 ∷ delivers 27 ∷ asks 2 2 (8 ∷ []) ∷ delivers 31 ∷ delivers 32 ∷ delivers 33
    ∷ delivers 34 ∷ []

-- A late commit changes its receiver, and nothing that is announced; what it brought is no longer there once the receiver counts as
-- a holder, and no later order has it.
pub record LateCommitIsUndone : Type 0 where
  pub run : IsRun register three (late_commit ++ spread_then)
  pub before : disk_after three fetched 1 ≡ Some (durable (version 176 1) [])
  pub changed : disk_after three late_commit 1 ≡ Some (durable (version 176 2) (7 ∷ []))
  pub announced : announcements_of three late_commit ≡ announcements_of three fetched
  pub receiver : disk_after three (late_commit ++ spread_then) 1 ≡ Some (durable (version 252 2) (8 ∷ []))
  pub later : order_after three (late_commit ++ spread_then) ≡ transaction 252 (8 ∷ []) ∷ []

-- The old commit comes during the fetch. The database that was asked for is no longer there, which is told the last server.
abbrev pub fetch_missed : List Event
fetch_missed = fetch_begun ++ delivers 11 ∷ delivers 21 ∷ []

-- It polls anew in the same second, and gets the answer to the first poll again.
abbrev pub polled_twice : List Event
polled_twice = fetch_missed ++ delivers 23 ∷ []

-- the same a second later
abbrev pub polled_later : List Event
polled_later = fetch_missed ++ Tick_all 1 ∷ delivers 23 ∷ []

-- Two polls of one second have one number: an answer to the first counts for the second, though its server has another version by
-- then. For a poll of another second it does not count.
pub record PollsOfOneSecond : Type 0 where
  pub run : IsRun register three (polled_twice ++ delivers 20 ∷ [])
  pub first :
      phase_after three fetch_begun 2
      ≡ Some (Fetch (record { number = 252; answers = None ∷ Some (version 176 1) ∷ Some (version 0 0) ∷ [] }) (version 176 1) 1)
  pub second :
      phase_after three polled_twice 2 ≡ Some (Poll (record { number = 252; answers = None ∷ None ∷ Some (version 0 0) ∷ [] }))
  pub counted :
      phase_after three (polled_twice ++ delivers 20 ∷ []) 2
      ≡ Some (Fetch (record { number = 252; answers = None ∷ Some (version 176 1) ∷ Some (version 0 0) ∷ [] }) (version 176 1) 1)
  pub other_by_then : disk_after three polled_twice 1 ≡ Some (durable (version 176 2) (7 ∷ []))
  pub later_run : IsRun register three (polled_later ++ delivers 20 ∷ [])
  pub not_counted :
      phase_after three (polled_later ++ delivers 20 ∷ []) 2
      ≡ Some (Poll (record { number = 253; answers = None ∷ None ∷ Some (version 0 0) ∷ [] }))
