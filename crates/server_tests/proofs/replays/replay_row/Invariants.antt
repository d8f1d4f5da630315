use Rattle.server_tests.proofs.replays.replay_row.Given as goal

abbrev pub ghosts-replay-L-Ledger : goal.ghosts-replay-L-Ledger
ghosts-replay-L-Ledger g a = record { name = a.blank.name; parts = a.blank.parts }
