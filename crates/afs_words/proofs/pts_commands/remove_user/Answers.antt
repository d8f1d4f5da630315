use Rattle.std.proofs.Common.{refl}
use Rattle.afs_words.specs.Tables.{member_rows}
use Rattle.afs_words.proofs.Required.{takes_in}
use Rattle.afs_words.proofs.pts_commands.remove_user.Goals as goal

pub entries-requires : goal.entries-requires
entries-requires c = takes_in member_rows c.args.judged.now 0 _ _ _ c.requires refl

pub entries-requires-2 : goal.entries-requires-2
entries-requires-2 c = takes_in member_rows c.args.judged.now 1 _ _ _ c.requires refl
