use Rattle.std.proofs.Common.{ap, ◌∙◌, rules}
use Rattle.std.specs.Prelude.{length}
use Rattle.prdb_lists.proofs.WithList.{length-with_list}
use Rattle.prdb_lists.proofs.Written.{list_made}
use Rattle.prdb_lists.proofs.writes.with_list.Goals as goal

pub returns-clause-made : goal.returns-clause-made
returns-clause-made c = λ ids is_count is_first.
    list_made c.in_ok-after.after.items c.extend_from_slice.new.self.items c.push_words.new.out.items c.extend_from_slice-2.new.self.items
    c.push_ids.new.out.items
    c.args.block.now c.args.more.now c.args.count c.link_to.result c.args.first.now ids
    c.in_ok-after.ensures.items c.in_ok-extend_from_slice.ensures.items c.link_to.ensures c.in_ok-push_words.ensures
    c.in_ok-extend_from_slice-2.ensures.items c.in_ok-push_ids.ensures
    is_count is_first (search rules)

pub returns-clause-len : goal.returns-clause-len
returns-clause-len c = λ ids is_count is_first.
    ap length (returns-clause-made c ids is_count is_first)
    ∙ length-with_list c.args.block.now (record { ids = ids; more = c.args.more.now }) c.told-block
