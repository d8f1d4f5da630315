-- Words that ask for help in place of a command.
use Rattle.std.specs.Prelude.{ℕ, if◌then◌else◌, List, [], ◌∷◌, codes, Option, Some, None}
use Rattle.std.specs.Str.{bytes_eq}
use Rattle.tool_help.specs.declared.asked.Help.{Help}
use Rattle.tool_help.specs.declared.asked.Help.TheVariants.{Operations, Topic, Apropos, Usage, Misused}

abbrev pub asked_alone : List ℕ → Option Help
asked_alone word =
    if bytes_eq word (codes "help") then Some Operations
    else (if bytes_eq word (codes "apropos") then Some Misused else None)

abbrev pub asked_usage : List ℕ → List ℕ → Option Help
asked_usage first second = if bytes_eq second (codes "-help") then Some (Usage first) else None

abbrev pub asked_of_one : List ℕ → List ℕ → Option Help
asked_of_one first second =
    if bytes_eq first (codes "help") then Some (Topic second)
    else (if bytes_eq first (codes "apropos") then Some (Apropos second) else asked_usage first second)

abbrev pub asked_of_many : List ℕ → Option Help
asked_of_many first =
    if bytes_eq first (codes "help") then Some Misused
    else (if bytes_eq first (codes "apropos") then Some Misused else None)

-- what the words of a command ask to be told; nothing where they are words for a server
abbrev pub asked_in : List (List ℕ) → Option Help
asked_in [] = None
asked_in (only ∷ []) = asked_alone only
asked_in (first ∷ second ∷ []) = asked_of_one first second
asked_in (first ∷ second ∷ third ∷ more) = asked_of_many first
