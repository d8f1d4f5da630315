use Rattle.std.proofs.Common.{lit<, refl}
use Rattle.afs_words.specs.Tables.{parameters_of}
use Rattle.afs_words.specs.declared.tables.Operation.TheVariants as op
use Rattle.afs_words.proofs.Required.{takes_in, within}
use Rattle.afs_words.proofs.pts_commands.create_group.Goals as goal

pub names-requires : goal.names-requires
names-requires c = within (parameters_of op.CreateGroup) c.args.judged.now 0 c.requires (lit< tt)

pub entry-requires : goal.entry-requires
entry-requires c = takes_in (parameters_of op.CreateGroup) c.args.judged.now 1 _ _ _ c.requires refl

pub group_ids-requires : goal.group_ids-requires
group_ids-requires c = takes_in (parameters_of op.CreateGroup) c.args.judged.now 2 _ _ _ c.requires refl
