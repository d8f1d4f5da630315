use Rattle.station_sessions.proofs.cells.run.Given as goal

abbrev pub ghosts-run_as-A-Ledger : goal.ghosts-run_as-A-Ledger
ghosts-run_as-A-Ledger g a = record { name = a.first.name; parts = a.first.parts }

abbrev pub ghosts-run_as-B-Ledger : goal.ghosts-run_as-B-Ledger
ghosts-run_as-B-Ledger g a = record { name = a.second.name; parts = a.second.parts }

abbrev pub ghosts-run_as-C-Ledger : goal.ghosts-run_as-C-Ledger
ghosts-run_as-C-Ledger g a = record { name = a.third.name; parts = a.third.parts }
