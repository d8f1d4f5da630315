use Rattle.std.proofs.Common.{refl}
use Rattle.afs_words.specs.Tables.{site_rows}
use Rattle.afs_words.proofs.Required.{has_address, has_partition, has_value, takes_in}
use Rattle.afs_words.proofs.vos_commands.site.Goals as goal

pub given_volume-requires : goal.given_volume-requires
given_volume-requires c = record {
  form = takes_in site_rows c.args.judged.now 2 _ _ _ c.requires refl;
  given = has_value site_rows c.args.judged.now 2 _ _ c.requires refl;
}

pub place_at-requires : goal.place_at-requires
place_at-requires c = record {
  address = takes_in site_rows c.args.judged.now 0 _ _ _ c.requires refl;
  server = has_address site_rows c.args.judged.now 0 _ c.requires refl;
  number = takes_in site_rows c.args.judged.now 1 _ _ _ c.requires refl;
  partition = has_partition site_rows c.args.judged.now 1 _ c.requires refl;
}
