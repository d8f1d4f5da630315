-- What is said to who asks for help.
use Rattle.std.specs.Prelude.{◌≡◌, ◌==◌, ℕ, ◌-◌, ◌||◌, ◌^◌, Bool, true, false, nat_eq, List, [], ◌∷◌, ◌++◌, length, codes, filter, Option, Some, None, slice_get, string_bytes}
use Rattle.std.specs.List.{flat_map, starts_with}
use Rattle.std.specs.Fmt.{padded, format_spec}
use Rattle.afs_words.specs.Matching.{meant_in}
use Rattle.afs_words.specs.Tables.{operation_name, operations_of}
use Rattle.afs_words.specs.Texts.{fault_text}
use Rattle.afs_words.specs.declared.faults.WordsFault.TheVariants.{UnknownOperation, AmbiguousOperation}
use Rattle.afs_words.specs.declared.matching.Meant.{Meant}
use Rattle.afs_words.specs.declared.matching.Meant.TheVariants.{Unknown, Ambiguous, Item}
use Rattle.afs_words.specs.declared.tables.Tool.{Tool}
use Rattle.afs_words.specs.declared.tables.Operation.{Operation}
use Rattle.tool_help.specs.Sentences.{sentence_of, tool_name}
use Rattle.tool_help.specs.Usages.{usage_of}
use Rattle.tool_help.specs.declared.answers.Said.{Said}
use Rattle.tool_help.specs.declared.asked.Help.{Help}
use Rattle.tool_help.specs.declared.asked.Help.TheVariants.{Operations, Topic, Apropos, Usage, Misused}

-- a word stands somewhere in a text
abbrev pub has_part : List ℕ → List ℕ → Bool
has_part word [] = length word == 0
has_part word (b ∷ text) = starts_with nat_eq (b ∷ text) word || has_part word text

-- a word stands in the name of an operation, or in its sentence
abbrev pub speaks_of : List ℕ → Operation → Bool
speaks_of word o = has_part word (operation_name o) || has_part word (sentence_of o)

-- a name at the left of a column of 12 places
abbrev pub in_column : List ℕ → List ℕ
in_column name = padded (format_spec 32 1 0 12 (2 ^ 64 - 1)) name

-- the line of an operation
abbrev pub listed : Operation → List ℕ
listed o = in_column (operation_name o) ++ sentence_of o ++ codes "\n"

abbrev pub all_listed : Tool → List ℕ
all_listed tool = flat_map listed (operations_of tool)

-- the lines of the operations that have a word in name or sentence
abbrev pub spoken_of : List ℕ → List Operation → List ℕ
spoken_of word operations = flat_map listed (filter (speaks_of word) operations)

abbrev pub none_text : Tool → List ℕ → List ℕ
none_text tool word = codes "no operation of " ++ tool_name tool ++ codes " speaks of '" ++ word ++ codes "'\n"

abbrev pub or_none : Tool → List ℕ → List ℕ → List ℕ
or_none tool word [] = none_text tool word
or_none tool word (b ∷ text) = b ∷ text

abbrev pub apropos_text : Tool → List ℕ → List ℕ
apropos_text tool word = or_none tool word (spoken_of word (operations_of tool))

-- what an operation does, and how it is typed
abbrev pub described : Tool → Operation → List ℕ
described tool o = tool_name tool ++ codes " " ++ operation_name o ++ codes ": " ++ sentence_of o ++ codes "\n" ++ usage_of tool o

-- a line of a command
abbrev pub line_of : Tool → List ℕ → List ℕ
line_of tool text = tool_name tool ++ codes ": " ++ text ++ codes "\n"

abbrev pub misused_text : Tool → List ℕ
misused_text tool = line_of tool (codes "'help' takes one operation at most, 'apropos' one word")

-- a text, with the status of the program
pub record Says (said : Said) (status : ℕ) (text : List ℕ) : Type 0 where
  pub with_status : said.status ≡ status
  pub with_text : string_bytes said.text ≡ text

abbrev pub topic_text : Tool → Operation → Bool → List ℕ
topic_text tool o true = usage_of tool o
topic_text tool o false = described tool o

abbrev pub told_some : Said → Tool → List ℕ → Bool → Option Operation → Type 0
told_some said tool word alone (Some o) = Says said 0 (topic_text tool o alone)
told_some said tool word alone None = Says said 2 (line_of tool (fault_text (UnknownOperation word)))

abbrev pub told_of : Said → Tool → List ℕ → Bool → Meant → Type 0
told_of said tool word alone Unknown = Says said 2 (line_of tool (fault_text (UnknownOperation word)))
told_of said tool word alone Ambiguous = Says said 2 (line_of tool (fault_text (AmbiguousOperation word)))
told_of said tool word alone (Item place) = told_some said tool word alone (slice_get (operations_of tool) place)

-- what is said of the operation that a word names as the first word of a command does, or that it names none
abbrev pub Told : Said → Tool → List ℕ → Bool → Type 0
Told said tool word alone = told_of said tool word alone (meant_in operation_name (operations_of tool) word)

-- what is said to who asks
abbrev pub Answers : Tool → Help → Said → Type 0
Answers tool Operations said = Says said 0 (all_listed tool)
Answers tool (Topic word) said = Told said tool word false
Answers tool (Apropos word) said = Says said 0 (apropos_text tool word)
Answers tool (Usage word) said = Told said tool word true
Answers tool Misused said = Says said 2 (misused_text tool)
