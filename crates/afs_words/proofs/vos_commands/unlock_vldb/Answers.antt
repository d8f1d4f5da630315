use Rattle.std.proofs.Common.{refl}
use Rattle.afs_words.specs.Tables.{parameters_of}
use Rattle.afs_words.specs.declared.tables.Operation.TheVariants as op
use Rattle.afs_words.proofs.Required.{takes_in}
use Rattle.afs_words.proofs.vos_commands.unlock_vldb.Goals as goal

pub filter_at-sites-requires : goal.filter_at-sites-requires
filter_at-sites-requires c = record {
  server = takes_in (parameters_of op.UnlockVldb) c.args.judged.now 0 _ _ _ c.requires refl;
  partition = takes_in (parameters_of op.UnlockVldb) c.args.judged.now 1 _ _ _ c.requires refl;
}
