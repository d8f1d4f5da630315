use Rattle.std.proofs.Common.{◌*◌, arith}
use Rattle.std.proofs.lemmas.List.FromFn.{fill_by_all}
use Rattle.db_blocks.specs.Blocks.{word_at}
use Rattle.vldb_records.proofs.heads.words_in.Goals as goal

pub returns : goal.returns
returns c = fill_by_all (λ k. word_at c.args.bytes.now (4 * k)) c.loop-k.words 255 0 c.loop-k.invariant.0
    (λ k lt. c.loop-k.invariant.1 k (omega arith))
