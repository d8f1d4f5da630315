use Rattle.std.proofs.Common.{refl}
use Rattle.afs_words.specs.Tables.{entry_rows}
use Rattle.afs_words.proofs.Required.{takes_in}
use Rattle.afs_words.proofs.pts_commands.the_entries.Goals as goal

pub entries-requires : goal.entries-requires
entries-requires c = takes_in entry_rows c.args.judged.now 0 _ _ _ c.requires refl
