use Rattle.std.proofs.Common.{refl}
use Rattle.afs_words.specs.Tables.{parameters_of}
use Rattle.afs_words.specs.declared.tables.Operation.TheVariants as op
use Rattle.afs_words.proofs.Required.{takes_in}
use Rattle.afs_words.proofs.pts_commands.set_max.Goals as goal

pub signed-requires : goal.signed-requires
signed-requires c = takes_in (parameters_of op.SetMax) c.args.judged.now 0 _ _ _ c.requires refl

pub signed-requires-2 : goal.signed-requires-2
signed-requires-2 c = takes_in (parameters_of op.SetMax) c.args.judged.now 1 _ _ _ c.requires refl
