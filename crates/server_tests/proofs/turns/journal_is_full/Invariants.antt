use Rattle.server_tests.proofs.turns.journal_is_full.Given as goal

abbrev pub ghosts-third_turn_is_refused-L-Ledger : goal.ghosts-third_turn_is_refused-L-Ledger
ghosts-third_turn_is_refused-L-Ledger g a = record { name = a.blank.name; parts = a.blank.parts }
