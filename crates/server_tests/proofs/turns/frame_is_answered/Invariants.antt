use Rattle.server_tests.proofs.turns.frame_is_answered.Given as goal

abbrev pub ghosts-frame_is_answered_so-L-Ledger : goal.ghosts-frame_is_answered_so-L-Ledger
ghosts-frame_is_answered_so-L-Ledger g a = record { name = a.blank.name; parts = a.blank.parts }
