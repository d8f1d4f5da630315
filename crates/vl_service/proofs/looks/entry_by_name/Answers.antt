use Rattle.std.proofs.Common.{sym, ◌∙◌, refl}
use Rattle.vldb_chains.specs.Keys.{name_chain}
use Rattle.vldb_chains.specs.Places.{name_links}
use Rattle.vldb_records.proofs.Lookups.{costs_free}
use Rattle.vl_service.proofs.Found.{named_meant, named_refused}
use Rattle.vl_service.proofs.looks.entry_by_name.Goals as goal

pub returns-then-not-is_name-clause-meant : goal.returns-then-not-is_name-clause-meant
returns-then-not-is_name-clause-meant g c =
    named_refused c.args.d.now.bytes c.args.name.now _ (sym c.is_name.ensures ∙ c.if-not-is_name.true) refl

pub returns-clause-meant : goal.returns-clause-meant
returns-clause-meant g c =
    named_meant c.args.d.now.bytes c.args.name.now c.in_ok-found.found c.in_ok-end.end
    (sym c.is_name.ensures ∙ c.if-not-is_name.false) c.in_ok-found.ensures.found c.in_ok-end.ensures.told

pub returns-then-not-is_name-clause-cost : goal.returns-then-not-is_name-clause-cost
returns-then-not-is_name-clause-cost g c =
    costs_free g.I.ImageRead c.args.d.now.bytes name_links (name_chain c.args.name.now) 1024 c.args.d.now c.args.d.now refl
