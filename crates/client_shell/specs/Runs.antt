-- What comes of the words of a command, and of what they plan.
use Rattle.std.specs.Prelude.{◌≡◌, ◌≢◌, ℕ, ◌⊎◌, Bool, true, false, List, [], ◌∷◌, Option, map, is_some, string_bytes}
use Rattle.disk_base.specs.Count.{HasCause}
use Rattle.afs_words.specs.declared.tables.Tool.{Tool}
use Rattle.tool_base.specs.Ending.{Appended, FrontOf}
use Rattle.afs_client.specs.Client.{ClientRan, Declines}
use Rattle.afs_client.specs.Hosts.{hosts_of}
use Rattle.afs_client.specs.Requests.{request_of}
use Rattle.tool_help.specs.Answers.{line_of}
use Rattle.tool_help.specs.declared.answers.Said.{Said}
use Rattle.client_plans.specs.declared.plans.Plan.{Plan}
use Rattle.client_plans.specs.declared.plans.Plan.TheVariants.{Say, Command, Source}
use Rattle.client_shell.specs.Standing.{Begun, Standing}
use Rattle.client_shell.specs.declared.refusals.TheConstants.{BAD_HOSTS, NESTED}

-- the text was written, and the status is its own; or a front of it, and the status is 4
abbrev pub Told : List ℕ → ℕ → ℕ → Option (List ℕ) → Option (List ℕ) → Type 0
Told text own status before after = ((status ≡ own) × Appended before after text) ⊎ ((status ≡ 4) × FrontOf before after text)

-- nothing was asked, and a line of the command says why
pub record Refused (tool : Tool) (why : List ℕ) (before after : Standing) (status : ℕ) : Type 0 where
  pub unasked : after.kept ≡ before.kept
  pub untold : after.out ≡ before.out
  pub said : Declines (line_of tool why) status before.err after.err
  pub cause : HasCause before.faults after.faults (status ≡ 4)

-- memory ran out before anything was asked or said
abbrev pub RanShort : Standing → Standing → ℕ → Type 0
RanShort before after status = (status ≡ 5) × (after ≡ before)

-- nothing was asked; a text of status 0 went to standard output, and any other to standard error
pub record Spoken (said : Said) (before after : Standing) (status : ℕ) : Type 0 where
  pub unasked : after.kept ≡ before.kept
  pub to_out : said.status ≡ 0 → (after.err ≡ before.err) × Told (string_bytes said.text) 0 status before.out after.out
  pub to_err : said.status ≢ 0 → (after.out ≡ before.out) × Told (string_bytes said.text) said.status status before.err after.err
  pub cause : HasCause before.faults after.faults ((said.status ≢ 4) × (status ≡ 4))

-- a command began, and its exchanges, texts and status are those of these words
pub record CommandRan (begun : Begun) (words : List (List ℕ)) (before after : Standing) (status : ℕ) : Type 0 where
  pub ran : ClientRan (request_of words) (begun before.kept) after.kept status before.out after.out before.err after.err
  pub cause : HasCause before.faults after.faults (status ≡ 4)

-- the first word, where there is one, is a list of hosts
abbrev pub names_hosts : List (List ℕ) → Bool
names_hosts [] = true
names_hosts (word ∷ words) = is_some (hosts_of word)

abbrev pub RunsIf : Begun → Bool → Tool → List (List ℕ) → Standing → Standing → ℕ → Type 0
RunsIf begun true tool words before after status = CommandRan begun words before after status ⊎ RanShort before after status
RunsIf begun false tool words before after status = Refused tool BAD_HOSTS.now before after status ⊎ RanShort before after status

-- what comes of the words of a command, hosts and tool before its own
abbrev pub CommandDone : Begun → Tool → List (List ℕ) → Standing → Standing → ℕ → Type 0
CommandDone begun tool words before after status = RunsIf begun (names_hosts words) tool words before after status

-- what comes of a plan of a line, in which `source` is refused
abbrev pub PlanDone : Begun → Tool → Plan → Standing → Standing → ℕ → Type 0
PlanDone begun tool (Say said) before after status = Spoken said before after status
PlanDone begun tool (Command words) before after status = CommandDone begun tool (map string_bytes words.items) before after status
PlanDone begun tool (Source hosts file) before after status = Refused tool NESTED.now before after status

-- it names no file of commands
abbrev pub IsNoFile : Plan → Type 0
IsNoFile (Source hosts file) = ⊥
IsNoFile _ = Unit {0}
