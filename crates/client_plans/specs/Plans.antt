-- What the words of `vos` and `pts` ask for.
use Rattle.std.specs.Prelude.{◌≡◌, ℕ, if◌then◌else◌, List, [], ◌∷◌, codes, map, Option, Some, None, Result, Ok, Err, option_map, string_bytes}
use Rattle.std.specs.Str.{bytes_eq}
use Rattle.afs_words.specs.declared.tables.Tool.{Tool}
use Rattle.afs_words.specs.declared.tables.Tool.TheVariants.{Vos, Pts}
use Rattle.cell_hosts.specs.Choices.{chosen_hosts}
use Rattle.cell_hosts.specs.Texts.{fault_text}
use Rattle.cell_hosts.specs.Words.{hosts_of, words_left, refused_word, kept_words}
use Rattle.cell_hosts.specs.declared.faults.HostsFault.{HostsFault}
use Rattle.tool_help.specs.Answers.{Says, Answers, line_of}
use Rattle.tool_help.specs.Asked.{asked_in}
use Rattle.tool_help.specs.Sentences.{tool_name}
use Rattle.tool_help.specs.declared.answers.Said.{Said}
use Rattle.tool_help.specs.declared.asked.Help.{Help}
use Rattle.client_plans.specs.Texts.{asked_text}
use Rattle.client_plans.specs.declared.plans.Plan.{Plan}
use Rattle.client_plans.specs.declared.plans.Plan.TheVariants.{Say, Command, Source}
use Rattle.client_plans.specs.declared.plans.TheConstants.{NO_HOSTS, ONE_FILE}

-- a text is said, with the status of the program
abbrev pub SaysPlan : Plan → ℕ → List ℕ → Type 0
SaysPlan (Say said) status text = Says said status text
SaysPlan (Command words) status text = ⊥
SaysPlan (Source hosts file) status text = ⊥

-- what is asked is answered
abbrev pub HelpPlan : Tool → Help → Plan → Type 0
HelpPlan tool help (Say said) = Answers tool help said
HelpPlan tool help (Command words) = ⊥
HelpPlan tool help (Source hosts file) = ⊥

-- the command of these words is run
abbrev pub CommandPlan : List (List ℕ) → Plan → Type 0
CommandPlan words (Say said) = ⊥
CommandPlan words (Command list) = map string_bytes list.items ≡ words
CommandPlan words (Source hosts file) = ⊥

-- the commands of a file are run, over these hosts
abbrev pub SourcePlan : List ℕ → List ℕ → Plan → Type 0
SourcePlan hosts file (Say said) = ⊥
SourcePlan hosts file (Command words) = ⊥
SourcePlan hosts file (Source h f) = (string_bytes h ≡ hosts) × (string_bytes f ≡ file)

abbrev pub SourceOf : Tool → List ℕ → List (List ℕ) → Plan → Type 0
SourceOf tool hosts [] plan = SaysPlan plan 2 (line_of tool ONE_FILE.now)
SourceOf tool hosts (file ∷ []) plan = SourcePlan hosts file plan
SourceOf tool hosts (file ∷ second ∷ more) plan = SaysPlan plan 2 (line_of tool ONE_FILE.now)

-- the words behind `source`, where it stands first
abbrev pub source_files : List (List ℕ) → Option (List (List ℕ))
source_files [] = None
source_files (first ∷ words) = if bytes_eq first (codes "source") then Some words else None

abbrev pub PlansAs : Tool → List ℕ → Option (List (List ℕ)) → List (List ℕ) → Plan → Type 0
PlansAs tool hosts (Some files) words plan = SourceOf tool hosts files plan
PlansAs tool hosts None words plan = CommandPlan (hosts ∷ tool_name tool ∷ words) plan

-- what words ask of hosts
abbrev pub PlansOver : Tool → List ℕ → List (List ℕ) → Plan → Type 0
PlansOver tool hosts words plan = PlansAs tool hosts (source_files words) words plan

-- nothing is asked where nothing names hosts
abbrev pub PlansFor : Tool → Option (List ℕ) → List (List ℕ) → Plan → Type 0
PlansFor tool None words plan = SaysPlan plan 2 (line_of tool NO_HOSTS.now)
PlansFor tool (Some hosts) words plan = PlansOver tool hosts words plan

-- help needs no hosts
abbrev pub PlansOr : Tool → Option Help → Option (List ℕ) → List (List ℕ) → Plan → Type 0
PlansOr tool (Some help) hosts words plan = HelpPlan tool help plan
PlansOr tool None hosts words plan = PlansFor tool hosts words plan

-- what words ask that are the command's own; hosts may be given by them, by the environment, by a file
abbrev pub PlansOwn : Tool → Option (List ℕ) → List (List ℕ) → Option (List ℕ) → List ℕ → Plan → Type 0
PlansOwn tool given words variable file plan = PlansOr tool (asked_in words) (chosen_hosts given variable file) words plan

-- words that name a cell in another way are refused, and those that are ignored left out
abbrev pub PlansLeft : {X : Type 0} → (X → List ℕ) → Tool → Result (Unit {0}) HostsFault → Option (List ℕ) → List X → Option (List ℕ) → List ℕ → Plan → Type 0
PlansLeft text tool (Err fault) given words variable file plan = SaysPlan plan 2 (line_of tool (fault_text fault))
PlansLeft text tool (Ok _) given words variable file plan = PlansOwn tool given (map text (kept_words text words)) variable file plan

-- the hosts among the words come first
abbrev pub PlansBehind : {X : Type 0} → (X → List ℕ) → Tool → Result (Option X) HostsFault → List X → Option (List ℕ) → List ℕ → Plan → Type 0
PlansBehind text tool (Err fault) words variable file plan = SaysPlan plan 2 (line_of tool (fault_text fault))
PlansBehind text tool (Ok given) words variable file plan =
    PlansLeft text tool (refused_word text words) (option_map text given) words variable file plan

abbrev pub PlansUnless : {X : Type 0} → (X → List ℕ) → Tool → Option (List ℕ) → List X → Option (List ℕ) → List ℕ → Plan → Type 0
PlansUnless text tool (Some said) words variable file plan = SaysPlan plan 0 said
PlansUnless text tool None words variable file plan =
    PlansBehind text tool (hosts_of text words) (words_left text words) variable file plan

-- What the words of a program ask for, where the environment and the file of the cell say this. What a word is, is left to who
-- asks: `text` gives its bytes.
abbrev pub Plans : {X : Type 0} → (X → List ℕ) → Tool → List X → Option (List ℕ) → List ℕ → Plan → Type 0
Plans text tool words variable file plan = PlansUnless text tool (asked_text tool (map text words)) words variable file plan

-- what is said where help is asked for, and nothing else
abbrev pub HelpsAs : Tool → Option Help → Option Said → Type 0
HelpsAs tool None None = Unit {0}
HelpsAs tool None (Some said) = ⊥
HelpsAs tool (Some help) None = ⊥
HelpsAs tool (Some help) (Some said) = Answers tool help said

-- the tool that a word names, written out
abbrev pub named_tool : List ℕ → Option Tool
named_tool word =
    if bytes_eq word (codes "vos") then Some Vos
    else (if bytes_eq word (codes "pts") then Some Pts else None)

abbrev pub HelpsNamed : Option Tool → List (List ℕ) → Option Said → Type 0
HelpsNamed (Some tool) words said = HelpsAs tool (asked_in words) said
HelpsNamed None words said = said ≡ None

-- the same of the words of `afs_client`: hosts, a tool, and its words
abbrev pub HelpsClient : List (List ℕ) → Option Said → Type 0
HelpsClient [] said = said ≡ None
HelpsClient (hosts ∷ []) said = said ≡ None
HelpsClient (hosts ∷ tool ∷ words) said = HelpsNamed (named_tool tool) words said
