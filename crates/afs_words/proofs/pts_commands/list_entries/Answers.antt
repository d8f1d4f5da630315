use Rattle.std.proofs.Common.{lit<}
use Rattle.afs_words.specs.Tables.{parameters_of}
use Rattle.afs_words.specs.declared.tables.Operation.TheVariants as op
use Rattle.afs_words.proofs.Required.{within}
use Rattle.afs_words.proofs.pts_commands.list_entries.Goals as goal

pub flag-requires : goal.flag-requires
flag-requires c = within (parameters_of op.ListEntries) c.args.judged.now 0 c.requires (lit< tt)

pub flag-requires-2 : goal.flag-requires-2
flag-requires-2 c = within (parameters_of op.ListEntries) c.args.judged.now 1 c.requires (lit< tt)
