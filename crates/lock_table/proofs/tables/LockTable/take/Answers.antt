use Rattle.std.proofs.Common.{◌≡◌, ◌∷◌, ◌++◌, [], ◌<◌, ◌^◌}
use Rattle.std.proofs.lemmas.List.Elements.{All-push}
use Rattle.lock_table.specs.declared.ranges.HeldRange.{HeldRange}
use Rattle.lock_table.specs.Ranges.{range_end, held_range}
use Rattle.lock_table.proofs.Places.{apart-push}
use Rattle.lock_table.proofs.tables.LockTable.take.Goals as goal

pub invariant_of-self-2 : goal.invariant_of-self-2
invariant_of-self-2 c =
    let wanted : HeldRange = held_range c.args.start c.args.len c.args.write c.args.who in
    let was = c.self.invariant.table in
    let now : c.push.new.self.items ≡ c.self.inside.held.items ++ wanted ∷ [] = c.in_ok-push.ensures.items in
    record {
      room = c.self.invariant.room;
      table = record {
        apart = rw now (apart-push c.self.inside.held.items wanted was.apart (rw (← c.self.view_is) at c.requires.free));
        ends = rw now (All-push (λ (range : HeldRange). range_end range < 2 ^ 32) c.self.inside.held.items wanted was.ends c.requires.fits);
        not_more = was.not_more;
      };
    }
