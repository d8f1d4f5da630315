use Rattle.std.proofs.Common.{lit<, refl}
use Rattle.afs_words.specs.Tables.{parameters_of}
use Rattle.afs_words.specs.declared.tables.Operation.TheVariants as op
use Rattle.afs_words.proofs.Required.{takes_in, within}
use Rattle.afs_words.proofs.pts_commands.create_user.Goals as goal

pub names-requires : goal.names-requires
names-requires c = within (parameters_of op.CreateUser) c.args.judged.now 0 c.requires (lit< tt)

pub user_ids-requires : goal.user_ids-requires
user_ids-requires c = takes_in (parameters_of op.CreateUser) c.args.judged.now 1 _ _ _ c.requires refl
