use Rattle.std.proofs.Common.{ap, length, ◌∙◌, arith}
use Rattle.vldb_records.proofs.Becoming.{places_ok, places_make_ok}
use Rattle.vldb_records.proofs.changes.set_addresses.Goals as goal

pub put_whole-requires-clause-within : goal.put_whole-requires-clause-within
put_whole-requires-clause-within g c = omega (arith, ap length c.deref.ensures.value, c.in_ok-words.ensures.len)

pub returns-clause-bytes : goal.returns-clause-bytes
returns-clause-bytes g c =
    places_ok c.put_whole.result c.args.d.now.bytes c.put_whole.new.d.bytes c.args.addresses.now c.deref.result.now
    (c.deref.ensures.value ∙ c.in_ok-words.ensures.value) c.put_whole.ensures.bytes

pub returns-clause-holds : goal.returns-clause-holds
returns-clause-holds g c = places_make_ok c.put_whole.result c.args.d.now.bytes c.put_whole.new.d.bytes c.args.addresses.now
    (returns-clause-bytes g c)
