use Rattle.std.proofs.Common.{◌+◌, ◌∙◌, sym, arith}
use Rattle.db_blocks.proofs.Numbers.{number_fits}
use Rattle.db_chains.proofs.FreeClauses.{bytes_new}
use Rattle.db_chains.proofs.Results.{ok_so}
use Rattle.db_chains.proofs.free_blocks.add_block.Goals as goal

pub returns-clause-bytes : goal.returns-clause-bytes
returns-clause-bytes g c =
    ok_so c.put-2.result _ _ c.put-2.ensures.bytes
    (bytes_new c.args.d.now.bytes c.put.new.self.bytes c.put-2.new.self.bytes c.args.free c.args.count c.block_place.result
    c.args.block.now c.to_be_bytes.result c.block_place.ensures
    (c.to_be_bytes.ensures
    ∙ sym (number_fits (c.args.count + 1) (omega (arith, c.requires.count, c.requires.len)))) c.in_ok-put.ensures.bytes)
