use Rattle.std.proofs.Common.{◌≡◌, Option}
use Rattle.std.specs.Option.{option_map}
use Rattle.std.proofs.lemmas.Int.{to_z-of_z}
use Rattle.prdb_layout.specs.RecordEnds.{seen}
use Rattle.prdb_layout.specs.Registry.{Registry}
use Rattle.prdb_layout.specs.declared.records.PrEntry.{PrEntry}
use Rattle.pt_looks.proofs.States.{ok_so}
use Rattle.pt_looks.proofs.finds.entry_of.Goals as goal

pub returns-clause-found : goal.returns-clause-found
returns-clause-found g c =
    let fits = c.ranges.id in
    let found = c.entry_of_id.ensures.found in
    ok_so c.entry_of_id.result c.args.d.now.bytes (λ (found : Option PrEntry) (r : Registry). option_map seen found ≡ r.entry c.args.id)
    (simp to_z-of_z at found)
