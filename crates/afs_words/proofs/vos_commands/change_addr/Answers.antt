use Rattle.std.proofs.Common.{refl}
use Rattle.afs_words.specs.Tables.{parameters_of}
use Rattle.afs_words.specs.declared.tables.Operation.TheVariants as op
use Rattle.afs_words.proofs.Required.{has_address, takes_in}
use Rattle.afs_words.proofs.vos_commands.change_addr.Goals as goal

pub address-requires : goal.address-requires
address-requires c = takes_in (parameters_of op.ChangeAddr) c.args.judged.now 0 _ _ _ c.requires refl

pub unwrap-from-requires : goal.unwrap-from-requires
unwrap-from-requires c = rw c.address.ensures (has_address (parameters_of op.ChangeAddr) c.args.judged.now 0 _ c.requires refl)

pub address-to-requires : goal.address-to-requires
address-to-requires c = takes_in (parameters_of op.ChangeAddr) c.args.judged.now 1 _ _ _ c.requires refl
