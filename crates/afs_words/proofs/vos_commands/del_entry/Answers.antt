use Rattle.std.proofs.Common.{refl}
use Rattle.afs_words.specs.Tables.{parameters_of}
use Rattle.afs_words.specs.declared.tables.Operation.TheVariants as op
use Rattle.afs_words.proofs.Required.{takes_in}
use Rattle.afs_words.proofs.vos_commands.del_entry.Goals as goal

pub volumes-requires : goal.volumes-requires
volumes-requires c = takes_in (parameters_of op.DelEntry) c.args.judged.now 0 _ _ _ c.requires refl
