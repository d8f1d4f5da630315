-- What the lines of a script mean, and why a line has no meaning, as far as the line alone tells (own).
use Rattle.std.specs.Prelude.{ℕ, ◌≤◌, ◌==◌, ◌&&◌, nat_lt, Bool, true, false, if◌then◌else◌, List, [], ◌∷◌, length, codes, Option, Some, None, option_map, option_and_then, Result, Ok, Err}
use Rattle.std.specs.Option.{option_or}
use Rattle.std.specs.Str.{bytes_eq}
use Rattle.ubik_types.specs.declared.limits.TheConstants.{MAXSERVERS}
use Rattle.ubik_types.specs.Moment.{IsMoment}
use Rattle.disk_base.specs.declared.disks.Fill.{Fill}
use Rattle.disk_base.specs.declared.disks.Fill.TheVariants as fill
use Rattle.script_words.specs.Numbers.{number_of, number_within}
use Rattle.cell_script.specs.Words.{words_of}
use Rattle.cell_script.specs.declared.readers.TheConstants.{MAX_LINE}
use Rattle.cell_script.specs.declared.lines.TheConstants.{MAX_CLOCK, MAX_TICK, MAX_STOP}
use Rattle.cell_script.specs.declared.lines.Kind.{Kind}
use Rattle.cell_script.specs.declared.lines.Kind.TheVariants.{Location, Protection}
use Rattle.cell_script.specs.declared.lines.Line.{Line}
use Rattle.cell_script.specs.declared.lines.Line.TheVariants.{Nothing, Cell, Tick, TickAll, Beacon, Recover, Deliver, Drop, DropAll, DeliverAll, Ask, Stop, Crash, Restart, Show}
use Rattle.cell_script.specs.declared.lines.Why.{Why}
use Rattle.cell_script.specs.declared.lines.Why.TheVariants.{Syntax, Number}

-- the kind of a database
abbrev pub kind_of : List ℕ → Option Kind
kind_of word =
    if bytes_eq word (codes "pt") then Some Protection
    else (if bytes_eq word (codes "vl") then Some Location else None)

-- the number of a server, from 1 on
abbrev pub server_of : List ℕ → Option ℕ
server_of word = option_and_then (λ n. if n == 0 then None else Some n) (number_of word)

-- what a stop leaves of what was written and not synced
abbrev pub fill_of : List ℕ → Option Fill
fill_of word =
    if bytes_eq word (codes "old") then Some fill.Old
    else (if bytes_eq word (codes "new") then Some fill.New else option_map fill.Byte (number_within 0 255 word))

abbrev pub or_number : Option Line → Result Line Why
or_number None = Err Number
or_number (Some l) = Ok l

abbrev pub numbered_cell : Kind → Option ℕ → Option ℕ → Option Line
numbered_cell k (Some servers) (Some clock) = Some (Cell servers clock k)
numbered_cell k _ _ = None

-- a cell of 1 to 20 servers at a clock; the kind of its database is a word of the language
abbrev pub cell_in : List ℕ → List ℕ → Option Kind → Result Line Why
cell_in servers clock None = Err Syntax
cell_in servers clock (Some k) =
    or_number (numbered_cell k (number_within 1 MAXSERVERS servers) (number_within 1 MAX_CLOCK clock))

abbrev pub numbered_tick : Option ℕ → Option ℕ → Option Line
numbered_tick (Some server) (Some seconds) = Some (Tick server seconds)
numbered_tick _ _ = None

abbrev pub numbered_stop : Option ℕ → Option ℕ → Option Fill → Option Line
numbered_stop (Some server) (Some calls) (Some f) = Some (Stop server calls f)
numbered_stop _ _ _ = None

-- lines of a first word and nothing more, of one further word, two, and three
abbrev pub line_of_none : List ℕ → Result Line Why
line_of_none first = if bytes_eq first (codes "deliverall") then Ok DeliverAll else Err Syntax

abbrev pub line_of_server : List ℕ → Option (ℕ → Line)
line_of_server first =
    if bytes_eq first (codes "beacon") then Some Beacon
    else (if bytes_eq first (codes "recover") then Some Recover
    else (if bytes_eq first (codes "dropall") then Some DropAll
    else (if bytes_eq first (codes "crash") then Some Crash
    else (if bytes_eq first (codes "restart") then Some Restart
    else (if bytes_eq first (codes "show") then Some Show else None)))))

-- lines that name a packet, by any number
abbrev pub line_of_packet : List ℕ → Option (ℕ → Line)
line_of_packet first =
    if bytes_eq first (codes "deliver") then Some Deliver
    else (if bytes_eq first (codes "drop") then Some Drop else None)

abbrev pub with_number : Option (ℕ → Line) → Option ℕ → Option (Result Line Why)
with_number None n = None
with_number (Some f) n = Some (or_number (option_map f n))

abbrev pub or_syntax : Option (Result Line Why) → Result Line Why
or_syntax None = Err Syntax
or_syntax (Some r) = r

abbrev pub line_of_one : List ℕ → List ℕ → Result Line Why
line_of_one first a =
    if bytes_eq first (codes "tickall") then or_number (option_map TickAll (number_within 1 MAX_TICK a))
    else or_syntax (option_or (with_number (line_of_server first) (server_of a)) (with_number (line_of_packet first) (number_of a)))

abbrev pub line_of_two : List ℕ → List ℕ → List ℕ → Result Line Why
line_of_two first a b =
    if bytes_eq first (codes "tick") then or_number (numbered_tick (server_of a) (number_within 1 MAX_TICK b)) else Err Syntax

abbrev pub line_of_three : List ℕ → List ℕ → List ℕ → List ℕ → Result Line Why
line_of_three first a b c =
    if bytes_eq first (codes "cell") then cell_in a b (kind_of c)
    else (if bytes_eq first (codes "stop") then or_number (numbered_stop (server_of a) (number_within 0 MAX_STOP b) (fill_of c))
    else Err Syntax)

-- a server and one word of a call or more; the server is judged after the call
abbrev pub ask_line : List (List ℕ) → Result Line Why
ask_line (server ∷ word ∷ words) = Ok (Ask (server_of server) (word ∷ words))
ask_line _ = Err Syntax

abbrev pub line_of_counted : List ℕ → List (List ℕ) → Result Line Why
line_of_counted first [] = line_of_none first
line_of_counted first (a ∷ []) = line_of_one first a
line_of_counted first (a ∷ b ∷ []) = line_of_two first a b
line_of_counted first (a ∷ b ∷ c ∷ []) = line_of_three first a b c
line_of_counted first _ = Err Syntax

-- the line of these words, in the whole language
abbrev pub whole_line : List (List ℕ) → Result Line Why
whole_line [] = Err Syntax
whole_line (first ∷ arguments) =
    if bytes_eq first (codes "ask") then ask_line arguments else line_of_counted first arguments

abbrev pub line_of_split : Option (List (List ℕ)) → Result Line Why
line_of_split None = Err Syntax
line_of_split (Some words) = whole_line words

-- an empty line, or a comment, which begins with `#`
abbrev pub is_idle : List ℕ → Bool
is_idle [] = true
is_idle (b ∷ bytes) = b == 35

-- what a line means, or why it means nothing
abbrev pub line_of : List ℕ → Result Line Why
line_of bytes =
    if nat_lt MAX_LINE (length bytes) then Err Syntax
    else (if is_idle bytes then Ok Nothing else line_of_split (words_of bytes))

-- the numbers of a line are within their bounds
abbrev pub HasBounds : Line → Type 0
HasBounds (Cell servers clock kind) = (1 ≤ servers) × (servers ≤ MAXSERVERS) × IsMoment clock × (clock ≤ MAX_CLOCK)
HasBounds (Tick server seconds) = (1 ≤ seconds) × (seconds ≤ MAX_TICK)
HasBounds (TickAll seconds) = (1 ≤ seconds) × (seconds ≤ MAX_TICK)
HasBounds (Stop server calls f) = calls ≤ MAX_STOP
HasBounds _ = Unit {0}
