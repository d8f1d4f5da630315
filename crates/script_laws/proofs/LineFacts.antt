-- What a line that means something brings with it: its numbers are within their bounds.
use Rattle.std.proofs.Common.{Bool, true, false, cond, ℕ, nat_lt, List, length, Option, Some, None, Result, IfOk}
use Rattle.cell_script.specs.Meaning.{HasBounds, line_of_split, is_idle, line_of}
use Rattle.cell_script.specs.Words.{words_of}
use Rattle.cell_script.specs.declared.readers.TheConstants.{MAX_LINE}
use Rattle.cell_script.specs.declared.lines.Line.{Line}
use Rattle.cell_script.specs.declared.lines.Line.TheVariants as line
use Rattle.cell_script.specs.declared.lines.Why.{Why}
use Rattle.cell_script.proofs.Bounds.{whole_bounds}
use Rattle.script_laws.specs.CellRuns.{TicksOn}

if_bounds : (b : Bool) (x y : Result Line Why) → IfOk x HasBounds → IfOk y HasBounds → IfOk (cond b x y) HasBounds
if_bounds true x y first second = first
if_bounds false x y first second = second

split_bounds : (words : Option (List (List ℕ))) → IfOk (line_of_split words) HasBounds
split_bounds None = tt
split_bounds (Some words) = whole_bounds words

pub line_bounds : (bytes : List ℕ) → IfOk (line_of bytes) HasBounds
line_bounds bytes =
    if_bounds (nat_lt MAX_LINE (length bytes)) _ _ tt (if_bounds (is_idle bytes) _ _ tt (split_bounds (words_of bytes)))

-- a line within its bounds lets clocks go forward
pub ticks_on : (l : Line) → HasBounds l → TicksOn l
ticks_on (line.Tick server seconds) bounds = bounds.0
ticks_on (line.TickAll seconds) bounds = bounds.0
ticks_on _ bounds = tt
