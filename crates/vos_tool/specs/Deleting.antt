-- `delentry`.
use Rattle.std.specs.Prelude.{ℕ, List, [], ◌∷◌, length, codes}
use Rattle.std.specs.Fmt.{decimal}
use Rattle.vl_calls.specs.declared.calls.VlCall.TheVariants as call
use Rattle.tool_base.specs.Course.{◌>>=◌, Course, gives}
use Rattle.tool_base.specs.Texts.{joined}
use Rattle.vos_tool.specs.Asking.{asks_done}
use Rattle.vos_tool.specs.Each.{each}
use Rattle.vos_tool.specs.Texts.{line_end}
use Rattle.vos_tool.specs.Volumes.{any_type, volume_id}

unfoldable pub deletes : List ℕ → Course (Unit {0})
deletes word = do
  id ← volume_id word
  asks_done (call.DeleteEntry id any_type)

-- one after the other
abbrev pub deletes_each : List (List ℕ) → Course (Unit {0})
deletes_each words = each deletes words

abbrev pub deleted_text : ℕ → List ℕ
deleted_text count = joined (codes "Deleted " ∷ decimal count ∷ codes " VLDB entries" ∷ line_end ∷ [])

unfoldable pub delentry_text : List (List ℕ) → Course (List ℕ)
delentry_text words = do
  done ← deletes_each words
  gives (deleted_text (length words))
