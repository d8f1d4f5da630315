use Rattle.std.proofs.Common.{get_or, refl}
use Rattle.std.proofs.lemmas.Option.{slice_get-get_or}
use Rattle.afs_words.specs.declared.tables.Operation.TheVariants.{AddEntry}
use Rattle.tool_help.proofs.Topics.{topic_item}
use Rattle.tool_help.proofs.answers.topic.Goals as goal

pub returns-in-Item : goal.returns-in-Item
returns-in-Item c =
    let operations = c.operations-operations.result.now in
    topic_item c.said_of.result c.args.tool c.args.word.now c.as_bytes.result.now c.args.alone operations c.in-Item.place
    (get_or operations c.in-Item.place AddEntry)
    c.operations-operations.ensures c.as_bytes.ensures c.in-Item.ensures.meaning
    (slice_get-get_or operations c.in-Item.place AddEntry (c.in-Item.ensures.bound c.in-Item.place refl)) c.said_of.ensures
