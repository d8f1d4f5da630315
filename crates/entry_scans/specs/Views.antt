-- An entry as it stands in a block.
use Rattle.prdb_layout.specs.State.{PrEntry}
use Rattle.entry_scans.specs.declared.views.EntryView.{EntryView}

-- the entry, without where its name lies in memory
abbrev pub viewed : EntryView → PrEntry
viewed e = record { name = e.name.now; flags = e.flags; id = e.id; owner = e.owner; creator = e.creator; quota = e.quota }
