-- What the program has done: its words, the exchanges that it made, its texts and its status (own).
use Rattle.std.specs.Prelude.{◌≡◌, ℕ, ◌⊎◌, List, [], ◌∷◌, ◌++◌, Option, Result, Ok, Err}
use Rattle.io_base.specs.declared.links.Exchange.{Exchange}
use Rattle.afs_words.specs.Command.{Command}
use Rattle.afs_words.specs.declared.tables.Tool.{Tool}
use Rattle.afs_words.specs.declared.tables.Tool.TheVariants.{Vos, Pts}
use Rattle.tool_base.specs.Course.{Asker, Course}
use Rattle.tool_base.specs.Ending.{Appended, Commanded, FrontOf}
use Rattle.tool_base.specs.declared.stops.Stop.{Stop}
use Rattle.tool_base.specs.declared.stops.Stop.TheVariants.{WriteFault, NoMemory}
use Rattle.pts_tool.specs.Courses.{pts_course}
use Rattle.vos_tool.specs.Command.{vos_course}
use Rattle.afs_client.specs.Debugs.{Looked}
use Rattle.afs_client.specs.Requests.{fault_text, tool_name}
use Rattle.afs_client.specs.declared.requests.CommandRequest.{CommandRequest}
use Rattle.afs_client.specs.declared.requests.Request.{Request}
use Rattle.afs_client.specs.declared.requests.Request.TheVariants as request
use Rattle.afs_client.specs.declared.requests.RequestFault.{RequestFault}

-- the calls and texts of a command
abbrev pub course_of : Tool → Command → Course (Unit {0})
course_of Vos command = vos_course command
course_of Pts command = pts_course command

-- the port of the database of a command
abbrev pub port_of : Tool → ℕ
port_of Vos = 7003
port_of Pts = 7002

-- who asks, before the first call
abbrev pub asker_of : CommandRequest → Asker
asker_of r = record { hosts = r.hosts; port = port_of r.tool; number = 0 }

abbrev pub fault_line : RequestFault → List ℕ
fault_line fault = fault_text fault ++ 10 ∷ []

-- the line of a fault was written, or a front of it, where the sink failed or memory ran out
abbrev pub SaysFault : Result (Unit {0}) Stop → Option (List ℕ) → Option (List ℕ) → List ℕ → Type 0
SaysFault (Ok _) err err_after line = Appended err err_after line
SaysFault (Err WriteFault) err err_after line = FrontOf err err_after line
SaysFault (Err NoMemory) err err_after line = FrontOf err err_after line
SaysFault (Err other) err err_after line = ⊥

-- Status 2 has the whole line; a front of it stands where a sink failed, status 4, or memory ran out, status 5.
abbrev pub Declines : List ℕ → ℕ → Option (List ℕ) → Option (List ℕ) → Type 0
Declines line status err err_after =
    ((status ≡ 2) × Appended err err_after line) ⊎ (((status ≡ 4) ⊎ (status ≡ 5)) × FrontOf err err_after line)

-- Words that mean nothing: nothing was asked, and the line of the fault was written.
pub record Declined (line : List ℕ) (before after : List Exchange) (status : ℕ)
    (out out_after err err_after : Option (List ℕ)) : Type 0 where
  pub asks_nothing : after ≡ before
  pub out_is : Appended out out_after []
  pub err_is : Declines line status err err_after

-- A command is its course over the exchanges that were made; for `udebug` the hosts were asked of themselves, and nothing was written beside.
abbrev pub RequestRan : Request → List Exchange → List Exchange → ℕ
    → Option (List ℕ) → Option (List ℕ) → Option (List ℕ) → Option (List ℕ) → Type 0
RequestRan (request.Command r) before after status out out_after err err_after =
    Commanded (tool_name r.tool) (course_of r.tool r.words) (asker_of r) before after status out out_after err err_after
RequestRan (request.Debug r) before after status out out_after err err_after =
    Looked r before after status out out_after × (err_after ≡ err)

-- What the words ask for was run, or they are refused.
abbrev pub ClientRan : Result Request RequestFault → List Exchange → List Exchange → ℕ
    → Option (List ℕ) → Option (List ℕ) → Option (List ℕ) → Option (List ℕ) → Type 0
ClientRan (Ok request) before after status out out_after err err_after = RequestRan request before after status out out_after err err_after
ClientRan (Err fault) before after status out out_after err err_after =
    Declined (fault_line fault) before after status out out_after err err_after

-- Status 2 is that of words that mean nothing, and of no others: these have no other status but that of a sink that failed, or of want of memory.
abbrev pub WordsJudged : Result Request RequestFault → ℕ → Type 0
WordsJudged (Ok request) status = status ≡ 2 → ⊥
WordsJudged (Err fault) status = (status ≡ 2) ⊎ ((status ≡ 4) ⊎ (status ≡ 5))
