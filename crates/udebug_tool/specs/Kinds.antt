-- The kinds of servers, by name and port (own).
use Rattle.std.specs.Prelude.{ℕ, List, codes, Option, Some, None, if◌then◌else◌}
use Rattle.std.specs.Str.{bytes_eq}
use Rattle.udebug_tool.specs.declared.kinds.ServerKind.{ServerKind}
use Rattle.udebug_tool.specs.declared.kinds.ServerKind.TheVariants.{VlServer, PtServer}

abbrev pub kind_of : List ℕ → Option ServerKind
kind_of word =
    if bytes_eq word (codes "vlserver") then Some VlServer else (if bytes_eq word (codes "ptserver") then Some PtServer else None)

abbrev pub kind_port : ServerKind → ℕ
kind_port VlServer = 7003
kind_port PtServer = 7002
