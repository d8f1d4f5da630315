-- How a command ends: its status, and what it writes of that (own).
use Rattle.std.specs.Prelude.{ℕ, List, [], ◌∷◌, ◌++◌, codes, Result, Ok, Err}
use Rattle.std.specs.Fmt.{decimal}
use Rattle.tool_base.specs.declared.stops.Refusal.{Refusal}
use Rattle.tool_base.specs.declared.stops.Refusal.TheVariants.{Rule, LineFull, TooLarge, Malformed, BadRecord}
use Rattle.tool_base.specs.declared.stops.Stop.{Stop}
use Rattle.tool_base.specs.declared.stops.Stop.TheVariants.{Refused, NoServer, OutcomeUnknown, WriteFault, NoMemory}

abbrev pub refusal_text : Refusal → List ℕ
refusal_text (Rule number) = decimal number
refusal_text LineFull = codes "line full"
refusal_text TooLarge = codes "too large"
refusal_text Malformed = codes "malformed"
refusal_text BadRecord = codes "bad record"

abbrev pub stop_status : Stop → ℕ
stop_status (Refused refusal) = 1
stop_status NoServer = 3
stop_status WriteFault = 4
stop_status NoMemory = 5
stop_status OutcomeUnknown = 6

abbrev pub status_of : Result (Unit {0}) Stop → ℕ
status_of (Ok _) = 0
status_of (Err why) = stop_status why

-- the tool's name, `: `, what is said, and the end of the line
abbrev pub line_of : (tool said : List ℕ) → List ℕ
line_of tool said = tool ++ (codes ": " ++ (said ++ 10 ∷ []))

abbrev pub stop_line : List ℕ → Stop → List ℕ
stop_line tool (Refused refusal) = line_of tool (codes "refused " ++ refusal_text refusal)
stop_line tool NoServer = line_of tool (codes "no server")
stop_line tool OutcomeUnknown = line_of tool (codes "outcome unknown")
stop_line tool WriteFault = []
stop_line tool NoMemory = []

-- what is said of an end to who reads errors
abbrev pub end_line : List ℕ → Result (Unit {0}) Stop → List ℕ
end_line tool (Ok _) = []
end_line tool (Err why) = stop_line tool why
