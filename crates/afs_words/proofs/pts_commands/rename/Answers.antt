use Rattle.std.proofs.Common.{refl}
use Rattle.afs_words.specs.Tables.{parameters_of}
use Rattle.afs_words.specs.declared.tables.Operation.TheVariants as op
use Rattle.afs_words.proofs.Required.{has_value, takes_in}
use Rattle.afs_words.proofs.pts_commands.rename.Goals as goal

pub given_entry-requires : goal.given_entry-requires
given_entry-requires c = record {
  form = takes_in (parameters_of op.Rename) c.args.judged.now 0 _ _ _ c.requires refl;
  given = has_value (parameters_of op.Rename) c.args.judged.now 0 _ _ c.requires refl;
}

pub word-requires : goal.word-requires
word-requires c = has_value (parameters_of op.Rename) c.args.judged.now 1 _ _ c.requires refl
