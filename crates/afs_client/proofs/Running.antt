-- What came of the words of the program.
use Rattle.std.proofs.Common.{◌≡◌, ℕ, List, [], codes, Option, Result, Ok, Err, ◌⊎◌, refl, sym, subst, inl, inr, arith}
use Rattle.std.proofs.lemmas.List.{append-nil}
use Rattle.disk_base.specs.Count.{HasCause}
use Rattle.ubik_types.specs.declared.hosts.Host.{Host}
use Rattle.io_base.specs.declared.links.Exchange.{Exchange}
use Rattle.afs_words.specs.declared.tables.Tool.{Tool}
use Rattle.afs_words.specs.declared.tables.Tool.TheVariants.{Vos, Pts}
use Rattle.tool_base.specs.Course.{Asker, Course}
use Rattle.tool_base.specs.Ending.{Appended, Commanded, FrontOf}
use Rattle.tool_base.specs.Stops.{end_line, status_of, stop_status}
use Rattle.tool_base.specs.Writing.{Says}
use Rattle.tool_base.specs.declared.stops.Stop.{Stop}
use Rattle.tool_base.specs.declared.stops.Stop.TheVariants.{Refused, NoServer, OutcomeUnknown, WriteFault, NoMemory}
use Rattle.pts_tool.specs.Courses.{pts_course}
use Rattle.vos_tool.specs.Command.{asker, vos_course}
use Rattle.afs_client.specs.Client.{ClientRan, Declines, RequestRan, SaysFault, WordsJudged, asker_of, course_of, fault_line, port_of}
use Rattle.afs_client.specs.Requests.{tool_name}
use Rattle.afs_client.specs.declared.requests.CommandRequest.{CommandRequest}
use Rattle.afs_client.specs.declared.requests.Request.{Request}
use Rattle.afs_client.specs.declared.requests.Request.TheVariants as request
use Rattle.afs_client.specs.declared.requests.RequestFault.{RequestFault}
use Rattle.afs_client.proofs.Debugging.{appended_none, front_none, short_look}

-- the course of a request, whichever its tool
asked_by : Tool → List Host → Asker
asked_by tool hosts = record { hosts = hosts; port = port_of tool; number = 0 }

pub ran_vos : (r : CommandRequest) (hosts : List Host) (before after : List Exchange) (status : ℕ) (out out1 err err1 : Option (List ℕ))
    → r.tool ≡ Vos → hosts ≡ r.hosts
    → Commanded (codes "vos") (vos_course r.words) (asker hosts) before after status out out1 err err1
    → Commanded (tool_name r.tool) (course_of r.tool r.words) (asker_of r) before after status out out1 err err1
ran_vos r hosts before after status out out1 err err1 is same done =
    let at : List Host → Type 0 = λ hs. Commanded (codes "vos") (vos_course r.words) (asker hs) before after status out out1 err err1 in
    let of : Tool → Type 0 = λ t. Commanded (tool_name t) (course_of t r.words) (record { hosts = r.hosts; port = port_of t; number = 0 })
    before after status out out1 err err1 in
    subst of (sym is) (subst at same done)

pub ran_pts : (r : CommandRequest) (hosts : List Host) (before after : List Exchange) (status : ℕ) (out out1 err err1 : Option (List ℕ))
    → r.tool ≡ Pts → hosts ≡ r.hosts
    → Commanded (codes "pts") (pts_course r.words) (record { hosts = hosts; port = 7002; number = 0 }) before after status out out1 err err1
    → Commanded (tool_name r.tool) (course_of r.tool r.words) (asker_of r) before after status out out1 err err1
ran_pts r hosts before after status out out1 err err1 is same done =
    let at : List Host → Type 0 = λ hs. Commanded (codes "pts") (pts_course r.words) (record { hosts = hs; port = 7002; number = 0 })
    before after status out out1 err err1 in
    let of : Tool → Type 0 = λ t. Commanded (tool_name t) (course_of t r.words) (record { hosts = r.hosts; port = port_of t; number = 0 })
    before after status out out1 err err1 in
    subst of (sym is) (subst at same done)

-- memory ran out before anything was asked
short_command : (tool : List ℕ) (course : Course (Unit {0})) (s : Asker) (e : List Exchange) (status : ℕ) (out err : Option (List ℕ))
    → status ≡ 5
    → Commanded tool course s e e status out out err err
short_command tool course s e status out err is = record {
  made = [];
  grown = sym (append-nil e);
  end = Err NoMemory;
  status_is = is;
  came = record {
    more_asks = (course s []).asks;
    asks_are = refl;
    out_is = front_none out (course s []).text;
    err_is = front_none err (end_line tool (course s []).result);
  };
}

pub ran_short : (meaning : Result Request RequestFault) (e : List Exchange) (status : ℕ) (out err : Option (List ℕ)) → status ≡ 5
    → ClientRan meaning e e status out out err err
ran_short (Ok (request.Command r)) e status out err is =
    short_command (tool_name r.tool) (course_of r.tool r.words) (asker_of r) e status out err is
ran_short (Ok (request.Debug r)) e status out err is = (short_look r e status out is, refl)
ran_short (Err fault) e status out err is =
    record { asks_nothing = refl; out_is = appended_none out; err_is = inr (inr is, front_none err (fault_line fault)) }

-- what the words ask for was read
pub ran_request : (meaning : Result Request RequestFault) (found : Request) (before after : List Exchange) (status : ℕ)
    (out out1 err err1 : Option (List ℕ))
    → Ok found ≡ meaning → RequestRan found before after status out out1 err err1 → ClientRan meaning before after status out out1 err err1
ran_request meaning found before after status out out1 err err1 is done =
    subst (λ (m : Result Request RequestFault). ClientRan m before after status out out1 err err1) is done

pub ran_command : (found : Request) (r : CommandRequest) (before after : List Exchange) (status : ℕ) (out out1 err err1 : Option (List ℕ))
    → found ≡ request.Command r
    → Commanded (tool_name r.tool) (course_of r.tool r.words) (asker_of r) before after status out out1 err err1
    → RequestRan found before after status out out1 err err1
ran_command found r before after status out out1 err err1 is done =
    subst (λ (f : Request). RequestRan f before after status out out1 err err1) (sym is) done

-- the status of the line of a fault
pub declined : (line : List ℕ) (why : Stop) (status : ℕ) (err err1 : Option (List ℕ)) → status ≡ stop_status why
    → SaysFault (Err why) err err1 line
    → Declines line status err err1
declined line (Refused refusal) status err err1 is said = absurd said
declined line NoServer status err err1 is said = absurd said
declined line OutcomeUnknown status err err1 is said = absurd said
declined line WriteFault status err err1 is said = inr (inl is, said)
declined line NoMemory status err err1 is said = inr (inr is, said)

pub says_fault : (line text : List ℕ) (r : Result (Unit {0}) Stop) (err err1 : Option (List ℕ)) → text ≡ line → Says r err err1 text
    → SaysFault r err err1 line
says_fault line text (Ok x) err err1 same said = subst (λ (t : List ℕ). Appended err err1 t) same said
says_fault line text (Err (Refused refusal)) err err1 same said = cc (said.0)
says_fault line text (Err NoServer) err err1 same said = cc (said.0)
says_fault line text (Err OutcomeUnknown) err err1 same said = cc (said.0)
says_fault line text (Err WriteFault) err err1 same said = subst (λ (t : List ℕ). FrontOf err err1 t) same said.1
says_fault line text (Err NoMemory) err err1 same said = cc (said.0)

status_four : (why : Stop) (status : ℕ) → status ≡ stop_status why → status ≡ 4 → why ≡ WriteFault
status_four (Refused refusal) status is four = absurd (omega arith)
status_four NoServer status is four = absurd (omega arith)
status_four OutcomeUnknown status is four = absurd (omega arith)
status_four WriteFault status is four = refl
status_four NoMemory status is four = absurd (omega arith)

-- a fault's line ends so only where the count of its sink rose
pub caused : (a b : ℕ) (why : Stop) (r : Result (Unit {0}) Stop) (status : ℕ) → r ≡ Err why → status ≡ stop_status why
    → HasCause a b (r ≡ Err WriteFault) → HasCause a b (status ≡ 4)
caused a b why r status same is cause = record {
  never_falls = cause.never_falls;
  rose = λ four. let fault : why ≡ WriteFault = status_four why status is four in cause.rose (cc);
}

-- no command ends as words that mean nothing do
not_two : (end : Result (Unit {0}) Stop) (status : ℕ) → status ≡ status_of end → status ≡ 2 → ⊥
not_two (Ok x) status is two = omega arith
not_two (Err (Refused why)) status is two = omega arith
not_two (Err NoServer) status is two = omega arith
not_two (Err OutcomeUnknown) status is two = omega arith
not_two (Err WriteFault) status is two = omega arith
not_two (Err NoMemory) status is two = omega arith

declined_so : (line : List ℕ) (status : ℕ) (err err1 : Option (List ℕ)) → Declines line status err err1 → (status ≡ 2)
    ⊎ ((status ≡ 4) ⊎ (status ≡ 5))
declined_so line status err err1 (inl said) = inl said.0
declined_so line status err err1 (inr said) = inr said.0

-- the status judges the words
pub words_judged : (meaning : Result Request RequestFault) (before after : List Exchange) (status : ℕ) (out out1 err err1 : Option (List ℕ))
    → ClientRan meaning before after status out out1 err err1 → WordsJudged meaning status
words_judged (Ok (request.Command r)) before after status out out1 err err1 ran = λ two. not_two ran.end status ran.status_is two
words_judged (Ok (request.Debug r)) before after status out out1 err err1 ran = λ two. not_two ran.0.end status ran.0.status_is two
words_judged (Err fault) before after status out out1 err err1 ran = declined_so (fault_line fault) status err err1 ran.err_is
