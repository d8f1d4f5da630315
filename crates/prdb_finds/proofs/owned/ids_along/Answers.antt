use Rattle.std.proofs.Common.{ap, ◌∙◌}
use Rattle.std.specs.Int.{w32, cast_signed}
use Rattle.std.specs.Prelude.{map}
use Rattle.prdb_finds.proofs.OwnedLists.{told_ids}
use Rattle.prdb_finds.proofs.owned.ids_along.Goals as goal

pub returns-clause-found : goal.returns-clause-found
returns-clause-found g c =
    told_ids c.args.d.now.bytes c.args.at c.in_ok-words.words.items c.in_ok-ids.ids.items c.put_in_order.new.ids.items
    (rw c.owned_links.ensures.is at c.in_ok-words.ensures.found)
    (c.in_ok-ids.ensures ∙ ap (map (cast_signed w32)) c.deref.ensures.value) c.put_in_order.ensures.same
