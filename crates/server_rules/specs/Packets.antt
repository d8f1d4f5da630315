-- The packets of another server.
use Rattle.std.specs.Prelude.{ℕ}
use Rattle.ubik_types.specs.Version.{IsVersion}
use Rattle.ubik_calls.specs.declared.packets.Body.{Body}
use Rattle.ubik_calls.specs.declared.packets.Body.TheVariants as body

-- A version that the server may come to have is one, as it is in each packet that has a spelling.
abbrev pub IsBuiltBody : Body → Type 0
IsBuiltBody (body.VersionIs poll version) = IsVersion version
IsBuiltBody (body.SendPiece poll version total offset bytes) = IsVersion version
IsBuiltBody (body.SetVersion poll old new) = IsVersion new
IsBuiltBody (body.Begin old new pieces len) = IsVersion new
IsBuiltBody _ = Unit {0}

-- those that bring no piece of an image
abbrev pub IsSmall : Body → Type 0
IsSmall (body.Piece poll version total offset bytes) = ⊥
IsSmall (body.SendPiece poll version total offset bytes) = ⊥
IsSmall _ = Unit {0}

-- those of a write that another server began
abbrev pub IsOfWrite : Body → Type 0
IsOfWrite (body.Begin old new pieces len) = Unit {0}
IsOfWrite (body.PutPiece new number bytes) = Unit {0}
IsOfWrite (body.Commit old new) = Unit {0}
IsOfWrite (body.Abort new) = Unit {0}
IsOfWrite _ = ⊥

-- what a packet needs of the disk, as an act does
abbrev pub body_need : Body → ℕ
body_need (body.Beacon start claim ready version) = 0
body_need (body.Vote start granted) = 0
body_need (body.GetVersion poll) = 0
body_need (body.SetVersion poll old new) = 0
body_need (body.Begin old new pieces len) = 0
body_need (body.PutPiece new number bytes) = 0
body_need (body.Abort new) = 0
body_need (body.VersionIs poll version) = 3
body_need (body.VersionKept version) = 3
body_need _ = 2

-- a step with a packet that says this never ends for want of memory
abbrev pub BodyTakesNoMemory : Body → Type 0
BodyTakesNoMemory (body.Beacon start claim ready version) = Unit {0}
BodyTakesNoMemory (body.Vote start granted) = Unit {0}
BodyTakesNoMemory (body.GetVersion poll) = Unit {0}
BodyTakesNoMemory (body.VersionKept version) = Unit {0}
BodyTakesNoMemory (body.Abort new) = Unit {0}
BodyTakesNoMemory _ = ⊥
