use Rattle.std.proofs.Common.{arith, length-drop}
use Rattle.incoming_file.proofs.texts.RoomyText.len.Goals as goal

pub returns : goal.returns
returns c = rw (← c.self.view_is) (omega (arith, c.len.ensures, length-drop 64 c.self.inside.file.items))
