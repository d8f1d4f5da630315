-- `listaddrs`, `changeaddr`.
use Rattle.std.specs.Prelude.{ℕ, List, [], ◌∷◌, ◌++◌, codes, Option, Some, None}
use Rattle.std.specs.List.{flat_map}
use Rattle.vl_calls.specs.declared.calls.VlCall.TheVariants as call
use Rattle.tool_base.specs.Course.{◌>>=◌, Course, gives}
use Rattle.tool_base.specs.Texts.{joined}
use Rattle.vos_tool.specs.Asking.{asks_done, asks_hosts}
use Rattle.vos_tool.specs.Texts.{dotted, line_end}

abbrev pub address_line : ℕ → List ℕ
address_line host = dotted host ++ line_end

unfoldable pub listaddrs_text : Course (List ℕ)
listaddrs_text = do
  hosts ← asks_hosts call.GetAddrs
  gives (flat_map address_line hosts)

abbrev pub moved_text : ℕ → ℕ → List ℕ
moved_text from to = joined (codes "Changed address " ∷ dotted from ∷ codes " to " ∷ dotted to ∷ line_end ∷ [])

abbrev pub gone_text : ℕ → List ℕ
gone_text from = joined (codes "Removed address " ∷ dotted from ∷ line_end ∷ [])

abbrev pub changeaddr_text : ℕ → Option ℕ → Course (List ℕ)
changeaddr_text from (Some to) = do
  done ← asks_done (call.ChangeAddr from to)
  gives (moved_text from to)
changeaddr_text from None = do
  done ← asks_done (call.ChangeAddr from 0)
  gives (gone_text from)
