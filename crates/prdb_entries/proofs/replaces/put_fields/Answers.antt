use Rattle.std.specs.Prelude.{◌-◌}
use Rattle.db_chains.proofs.Results.{ok_so}
use Rattle.prdb_entries.proofs.ReplaceClauses.{fields_made}
use Rattle.prdb_entries.proofs.replaces.put_fields.Goals as goal

pub returns-clause-bytes : goal.returns-clause-bytes
returns-clause-bytes g c =
    ok_so c.put-2.result _ _ c.put-2.ensures.bytes (λ made.
    fields_made c.args.d.now.bytes c.put.new.self.bytes c.put-2.new.self.bytes (c.args.number - 1) c.block_place-place.result
    c.args.block.now c.numbers_in.result.now c.name_in.result.now c.block_place-place.ensures c.numbers_in.ensures.value
    c.name_in.ensures.value c.in_ok-put.ensures.bytes made)
