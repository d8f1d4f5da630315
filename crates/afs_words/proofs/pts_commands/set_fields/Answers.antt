use Rattle.std.proofs.Common.{refl}
use Rattle.afs_words.specs.Tables.{parameters_of}
use Rattle.afs_words.specs.declared.tables.Operation.TheVariants as op
use Rattle.afs_words.proofs.Required.{takes_in}
use Rattle.afs_words.proofs.pts_commands.set_fields.Goals as goal

pub entries-requires : goal.entries-requires
entries-requires c = takes_in (parameters_of op.SetFields) c.args.judged.now 0 _ _ _ c.requires refl

pub access-requires : goal.access-requires
access-requires c = takes_in (parameters_of op.SetFields) c.args.judged.now 1 _ _ _ c.requires refl

pub signed-requires : goal.signed-requires
signed-requires c = takes_in (parameters_of op.SetFields) c.args.judged.now 2 _ _ _ c.requires refl
