use Rattle.server_bench.proofs.station_calls.tell_blocks.Given as goal

abbrev pub ghosts-tell_blocks_as-L-Ledger : goal.ghosts-tell_blocks_as-L-Ledger
ghosts-tell_blocks_as-L-Ledger a = record { name = a.blank.name; parts = a.blank.parts }

abbrev pub ghosts-tell_blocks_as-2-L-Ledger : goal.ghosts-tell_blocks_as-2-L-Ledger
ghosts-tell_blocks_as-2-L-Ledger a = record { name = a.blank.name; parts = a.blank.parts }
