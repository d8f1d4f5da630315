use Rattle.std.proofs.Common.{◌≡◌, ◌==◌, ◌<◌, ◌^◌, not}
use Rattle.std.proofs.lemmas.List.Elements.{All-filter}
use Rattle.std.proofs.lemmas.List.Kept.{AllPairs-filter}
use Rattle.lock_table.specs.declared.ranges.HeldRange.{HeldRange}
use Rattle.lock_table.specs.Ranges.{range_end, Conflicts}
use Rattle.lock_table.specs.Table.{others}
use Rattle.lock_table.proofs.tables.LockTable.release.Goals as goal

pub invariant_of-self : goal.invariant_of-self
invariant_of-self c =
    let was = c.self.invariant.table in
    let now : c.keep_others.new.held.items ≡ others c.self.inside.held.items c.args.who = c.keep_others.ensures in
    record {
      room = c.self.invariant.room;
      table = record {
        apart = rw now (AllPairs-filter (λ (a b : HeldRange). ¬ Conflicts a b) (λ (range : HeldRange). not (range.holder == c.args.who)) c.self.inside.held.items was.apart);
        ends = rw now (All-filter (λ (range : HeldRange). not (range.holder == c.args.who)) (λ (range : HeldRange). range_end range < 2 ^ 32) c.self.inside.held.items was.ends);
        not_more = was.not_more;
      };
    }
