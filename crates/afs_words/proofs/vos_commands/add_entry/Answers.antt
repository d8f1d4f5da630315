use Rattle.std.proofs.Common.{refl}
use Rattle.afs_words.specs.Tables.{parameters_of}
use Rattle.afs_words.specs.declared.tables.Operation.TheVariants as op
use Rattle.afs_words.proofs.Required.{has_address, has_partition, has_value, takes_in}
use Rattle.afs_words.proofs.vos_commands.add_entry.Goals as goal

pub word-requires : goal.word-requires
word-requires c = has_value (parameters_of op.AddEntry) c.args.judged.now 0 _ _ c.requires refl

pub place_at-place-requires : goal.place_at-place-requires
place_at-place-requires c = record {
  address = takes_in (parameters_of op.AddEntry) c.args.judged.now 1 _ _ _ c.requires refl;
  server = has_address (parameters_of op.AddEntry) c.args.judged.now 1 _ c.requires refl;
  number = takes_in (parameters_of op.AddEntry) c.args.judged.now 2 _ _ _ c.requires refl;
  partition = has_partition (parameters_of op.AddEntry) c.args.judged.now 2 _ c.requires refl;
}

pub new_id-id-requires : goal.new_id-id-requires
new_id-id-requires c = takes_in (parameters_of op.AddEntry) c.args.judged.now 3 _ _ _ c.requires refl
