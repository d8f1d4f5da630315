-- What is written of a text, and of the end of a command.
use Rattle.std.specs.Prelude.{◌≡◌, ℕ, List, Option, Result, Ok, Err}
use Rattle.tool_base.specs.Ending.{Appended, FrontOf}
use Rattle.tool_base.specs.Stops.{end_line}
use Rattle.tool_base.specs.declared.stops.Stop.{Stop}
use Rattle.tool_base.specs.declared.stops.Stop.TheVariants.{WriteFault, NoMemory}

-- the text was written, or a front of it where the sink failed
abbrev pub Says : Result (Unit {0}) Stop → Option (List ℕ) → Option (List ℕ) → List ℕ → Type 0
Says (Ok _) before after text = Appended before after text
Says (Err why) before after text = (why ≡ WriteFault) × FrontOf before after text

-- The line of an end was written and the end stayed, or a front of the line, and a sink or memory had failed.
abbrev pub EndSaid : List ℕ → Result (Unit {0}) Stop → Result (Unit {0}) Stop → Option (List ℕ) → Option (List ℕ) → Type 0
EndSaid tool end (Err WriteFault) before after = FrontOf before after (end_line tool end)
EndSaid tool end (Err NoMemory) before after = FrontOf before after (end_line tool end)
EndSaid tool end other before after = (other ≡ end) × Appended before after (end_line tool end)

pub record SaysEnd (tool : List ℕ) (end left : Result (Unit {0}) Stop) (before after : Option (List ℕ)) : Type 0 where
  pub said : EndSaid tool end left before after
