use Rattle.std.proofs.Common.{sym, ◌∙◌, refl}
use Rattle.std.proofs.lemmas.Int.{to_z-of_z}
use Rattle.vldb_chains.specs.Keys.{id_chain}
use Rattle.vldb_chains.specs.Places.{id_links}
use Rattle.vldb_records.proofs.Lookups.{costs_free}
use Rattle.vl_service.proofs.Found.{typed_meant, typed_refused}
use Rattle.vl_service.proofs.looks.entry_by_id.Goals as goal

pub returns-then-not-is_volume_type-clause-meant : goal.returns-then-not-is_volume_type-clause-meant
returns-then-not-is_volume_type-clause-meant g c =
    let fits = c.ranges.volume_type in
    let test = sym c.is_volume_type.ensures ∙ c.if-not-is_volume_type.true in
    typed_refused c.args.d.now.bytes c.args.volume_type c.args.id _ (simp to_z-of_z at test) refl

pub returns-clause-meant : goal.returns-clause-meant
returns-clause-meant g c =
    let fits = c.ranges.volume_type in
    let test = sym c.is_volume_type.ensures ∙ c.if-not-is_volume_type.false in
    let found = c.in_ok-found.ensures.found in
    typed_meant c.args.d.now.bytes c.args.volume_type c.args.id c.in_ok-found.found c.in_ok-end.end (simp to_z-of_z at test)
    (simp to_z-of_z at found) c.in_ok-end.ensures.told

pub returns-then-not-is_volume_type-clause-cost : goal.returns-then-not-is_volume_type-clause-cost
returns-then-not-is_volume_type-clause-cost g c =
    costs_free g.I.ImageRead c.args.d.now.bytes id_links (id_chain c.args.id) 1024 c.args.d.now c.args.d.now refl
