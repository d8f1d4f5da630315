use Rattle.std.proofs.Common.{string_bytes, get_or, refl, arith}
use Rattle.std.proofs.lemmas.Option.{slice_get-get_or}
use Rattle.afs_words.specs.declared.tables.Operation.TheVariants.{AddEntry}
use Rattle.afs_words.proofs.Giving.{command_item, parts}
use Rattle.afs_words.proofs.reading.read_words.Goals as goal

pub returns-in-Item : goal.returns-in-Item
returns-in-Item c =
    let operations = c.operations-operations.result.now in
    command_item string_bytes c.args.tool operations c.args.words.now _ c.word-item.result c.as_bytes.result.now c.in-Item.place
    (get_or operations c.in-Item.place AddEntry) c.read_command.result
    (parts c.args.words.now _ c.word-item.result (omega arith) c.word-item.is refl)
    c.operations-operations.ensures c.as_bytes.ensures.value c.in-Item.ensures.meaning
    (slice_get-get_or operations c.in-Item.place AddEntry (c.in-Item.ensures.bound c.in-Item.place refl)) c.read_command.ensures
