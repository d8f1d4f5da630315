use Rattle.std.proofs.lemmas.List.{drop-take}
use Rattle.incoming_file.proofs.texts.RoomyText.truncate.Goals as goal

pub returns : goal.returns
returns c = rw (c.truncate.ensures.items, ← c.self.view_is) (drop-take 64 c.args.len c.self.inside.file.items)
