use Rattle.std.proofs.Common.{eqb, List, length, ap, ◌∙◌}
use Rattle.vldb_entries.specs.declared.entries.VlEntry.{VlEntry}
use Rattle.vl_service.proofs.Moved.{any_site}
use Rattle.vl_service.proofs.moving.has_site_at.Goals as goal

pub returns-clause-found : goal.returns-clause-found
returns-clause-found g c =
    any_site c.args.d.now.bytes c.args.host c.in_ok-first.first.items c.is_empty.result c.requires.host
    (c.is_empty.ensures ∙ ap (λ (xs : List VlEntry). eqb (length xs) 0) c.as_slice.ensures.value) c.in_ok-first.ensures.found
