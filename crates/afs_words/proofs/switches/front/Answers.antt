use Rattle.std.proofs.Common.{string_bytes}
use Rattle.afs_words.proofs.Giving.{front-map}
use Rattle.afs_words.proofs.switches.front.Goals as goal

pub returns : goal.returns
returns c =
    front-map string_bytes c.args.words.now c.switch_place.result c.unwrap_or-count.result c.switch_place.ensures c.unwrap_or-count.ensures
