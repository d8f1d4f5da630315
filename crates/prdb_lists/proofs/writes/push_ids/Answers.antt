use Rattle.std.proofs.Common.{ℕ, List, ◌++◌, ap, ◌∙◌}
use Rattle.db_blocks.specs.Bytes.{words}
use Rattle.prdb_lists.proofs.Written.{pushed_ids}
use Rattle.prdb_lists.proofs.writes.push_ids.Goals as goal

pub returns : goal.returns
returns c =
    pushed_ids c.push_filled.result c.args.out.now.items c.push_filled.new.out.items c.args.len c.args.ids.now c.deref.result.now
    c.deref-2.result.now
    (c.deref.ensures.value ∙ c.in_ok-numbers.ensures)
    (c.deref-2.ensures.value ∙ c.in_ok-push_words.ensures ∙ ap (λ (l : List ℕ). l ++ words c.deref.result.now) c.new-bytes.ensures.items)
    c.push_filled.ensures
