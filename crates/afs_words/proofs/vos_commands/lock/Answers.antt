use Rattle.std.proofs.Common.{[], refl, ◌∷◌}
use Rattle.afs_words.specs.Tables.{volume_row}
use Rattle.afs_words.proofs.Required.{has_value, takes_in}
use Rattle.afs_words.proofs.vos_commands.lock.Goals as goal

pub given_volume-requires : goal.given_volume-requires
given_volume-requires c = record {
  form = takes_in (volume_row ∷ []) c.args.judged.now 0 _ _ _ c.requires refl;
  given = has_value (volume_row ∷ []) c.args.judged.now 0 _ _ c.requires refl;
}
