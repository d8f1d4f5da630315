use Rattle.std.proofs.Common.{drop, arith}
use Rattle.std.proofs.lemmas.List.{length-drop}
use Rattle.vldb_records.proofs.HeadTold.{take_all}
use Rattle.vldb_records.proofs.replaces.rest_in.Goals as goal

pub returns-clause-value : goal.returns-clause-value
returns-clause-value c =
    take_all 140 (drop 52 c.args.block.now) (omega (arith, length-drop 52 c.args.block.now, c.told-block))
