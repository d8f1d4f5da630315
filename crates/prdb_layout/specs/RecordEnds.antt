-- An entry as the code has it.
use Rattle.prdb_layout.specs.State.{PrEntry}
use Rattle.prdb_layout.specs.declared.records.PrEntry.{PrEntry as CodeEntry}

-- an entry without where its name lies in memory
abbrev pub seen : CodeEntry → PrEntry
seen e = record { name = e.name; flags = e.flags; id = e.id; owner = e.owner; creator = e.creator; quota = e.quota }
