use Rattle.std.proofs.Common.{[], drop}
use Rattle.tool_base.specs.Running.{Led}
use Rattle.vldb_entries.specs.declared.entries.VlEntry.{VlEntry}
use Rattle.vos_tool.specs.Locking.{releases_lock}
use Rattle.vos_tool.specs.Each.{each}
use Rattle.vos_tool.proofs.listing.release_each.Given as goal

abbrev pub invariant-loop-entry : goal.invariant-loop-entry
invariant-loop-entry g l =
    Led (each (λ (e : VlEntry). releases_lock e.rw) l.entries) l.initial.client (g.L.Link.exchanges l.initial.link) []
    (each (λ (e : VlEntry). releases_lock e.rw) (drop l.entry-index l.entries)) l.client (g.L.Link.exchanges l.link)
