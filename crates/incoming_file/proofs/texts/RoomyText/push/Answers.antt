use Rattle.std.proofs.lemmas.List.{drop-append-le}
use Rattle.incoming_file.proofs.texts.RoomyText.push.Goals as goal

pub returns-clause-ok : goal.returns-clause-ok
returns-clause-ok c =
    rw (c.in_ok-extend_from_slice.ensures.items, ← c.self.view_is) (drop-append-le 64 c.self.inside.file.items c.args.bytes.now c.self.invariant)
