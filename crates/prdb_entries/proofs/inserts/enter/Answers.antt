use Rattle.std.proofs.Common.{◌*◌, arith}
use Rattle.db_image.specs.declared.services.Layout.{Layout}
use Rattle.db_chains.specs.Ends.{first_cost}
use Rattle.db_chains.proofs.Drafted.{drafts_after}
use Rattle.prdb_entries.specs.Changes.{enter_cost, owner_cost}
use Rattle.prdb_entries.proofs.inserts.enter.Goals as goal

pub returns-then-is_owned-clause-frame : goal.returns-then-is_owned-clause-frame
returns-then-is_owned-clause-frame g c =
    let layout = c.args.d.now.layout in
    let len = c.put_first-2.new.d.len in
    drafts_after g.I.ImageRead (2 * first_cost layout) (λ (l : Layout). owner_cost l len) (enter_cost layout c.args.d.now.len) c.args.d.now
    c.put_first-2.new.d c.enter_owned.new.d _ _
    (drafts_after g.I.ImageRead (first_cost layout) first_cost (2 * first_cost layout) c.args.d.now c.put_first.new.d c.put_first-2.new.d
    _ _
    c.put_first.ensures.frame c.put_first-2.ensures.frame (omega arith))
    c.enter_owned.ensures.frame (omega (arith, c.put_first.ensures.len, c.put_first-2.ensures.len))
