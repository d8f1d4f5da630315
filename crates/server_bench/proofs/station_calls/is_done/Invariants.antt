use Rattle.server_bench.proofs.station_calls.is_done.Given as goal

abbrev pub ghosts-is_done_as-L-Ledger : goal.ghosts-is_done_as-L-Ledger
ghosts-is_done_as-L-Ledger a = record { name = a.blank.name; parts = a.blank.parts }
