-- What a command's course says of its status.
use Rattle.std.proofs.Common.{◌≡◌, ℕ, Bool, true, false, List, [], ◌∷◌, ◌++◌, codes, length, Option, Some, None, Result, Ok, Err, refl, sym, ap, ◌∙◌, subst, inl, inr, arith}
use Rattle.std.specs.Prelude.{if◌then◌else◌, IfOk}
use Rattle.std.specs.Str.{bytes_eq}
use Rattle.std.proofs.lemmas.List.{length-map}
use Rattle.ubik_types.specs.declared.hosts.Host.{Host}
use Rattle.io_base.specs.declared.links.Exchange.{Exchange}
use Rattle.afs_words.specs.Command as words
use Rattle.afs_words.specs.Meaning.{meaning_of}
use Rattle.afs_words.specs.declared.faults.WordsFault.{WordsFault}
use Rattle.afs_words.specs.declared.tables.Tool.{Tool}
use Rattle.afs_words.specs.declared.tables.Tool.TheVariants.{Vos, Pts}
use Rattle.tool_base.specs.Course.{Asker, Course, Walk, ask_in, asks_in}
use Rattle.tool_base.specs.Ending.{CameOrBroke, CameToItsEnd, Commanded}
use Rattle.tool_base.specs.Stops.{status_of}
use Rattle.tool_base.specs.declared.stops.Refusal.{Refusal}
use Rattle.tool_base.specs.declared.stops.Stop.{Stop}
use Rattle.tool_base.specs.declared.stops.Stop.TheVariants.{Refused, NoServer, OutcomeUnknown, WriteFault, NoMemory}
use Rattle.udebug_tool.specs.Kinds.{kind_of}
use Rattle.udebug_tool.specs.declared.kinds.ServerKind.{ServerKind}
use Rattle.afs_client.specs.Causes.{NoneTook, Served}
use Rattle.afs_client.specs.Client.{ClientRan, asker_of, course_of}
use Rattle.afs_client.specs.Debugs.{debug_of, no_more}
use Rattle.afs_client.specs.Explained.{Explained, ExplainedFor, IsExplained}
use Rattle.afs_client.specs.Hosts.{hosts_of}
use Rattle.afs_client.specs.Questions.{Database, users_database, volumes_database}
use Rattle.afs_client.specs.Requests.{behind_hosts, request_of, tool_name, tool_of, with_command, with_tool}
use Rattle.afs_client.specs.declared.requests.Request.{Request}
use Rattle.afs_client.specs.declared.requests.Request.TheVariants as request
use Rattle.afs_client.specs.declared.requests.RequestFault.{RequestFault}
use Rattle.afs_client.proofs.Looking.{look_explained, same_length}
use Rattle.afs_client.proofs.Sounding.{Any, AskedAll, EndCause, EndsWell, Sound, Went}
use Rattle.afs_client.proofs.Users.{pts_sound}
use Rattle.afs_client.proofs.Volumes.{vos_sound}
use Rattle.afs_client.proofs.Words.{Fitting, meaning_fits}

-- where a course took all exchanges, its end has its cause in them
pub record Settled {C A : Type 0} (d : Database C) (hosts : List Host) (made : List Exchange) (r : Result A Stop) : Type 0 where
  pub cause : EndCause d (Unit {0}) hosts made r
  pub well : Served d hosts made → EndsWell d.own r

settled : {C A : Type 0} (d : Database C) (asker : Asker) (made : List Exchange) (w : Walk A) (r : Result A Stop)
    → Went d (Unit {0}) Any asker made w → w.asks ≡ asks_in made → w.result ≡ r → Settled d asker.hosts made r
settled {A = A} d asker made w r went asks is =
    let counts : length went.made ≡ length made = sym went.counts ∙ ap length asks ∙ length-map made ask_in in
    let whole : went.made ≡ made = same_length made went.made w.rest went.split counts in
    let taken : w.asks ≡ asks_in went.made = asks ∙ ap asks_in (sym whole) in
    record {
      cause = subst (λ (end : Result A Stop). EndCause d (Unit {0}) asker.hosts made end) is
          (subst (λ (es : List Exchange). EndCause d (Unit {0}) asker.hosts es w.result) whole (went.cause taken));
      well = λ served. subst (λ (end : Result A Stop). EndsWell d.own end) is
          (went.well tt taken (subst (λ (es : List Exchange). Served d asker.hosts es) (sym whole) served));
    }

came_settled : {C : Type 0} (d : Database C) (tool : List ℕ) (course : Course (Unit {0})) (asker : Asker)
    (made : List Exchange) (end : Result (Unit {0}) Stop) (out out1 err err1 : Option (List ℕ)) → Sound d (Unit {0}) Any course
    → CameToItsEnd tool (course asker made) made end out out1 err err1 → Settled d asker.hosts made end
came_settled d tool course asker made end out out1 err err1 sound came =
    settled d asker made (course asker made) end (sound asker made) came.asks_are came.ends_so

none_took : {C : Type 0} (d : Database C) (hosts : List Host) (made : List Exchange) → AskedAll d (Unit {0}) hosts made
    → NoneTook d hosts made
none_took d hosts made c = record {
  call = c.call;
  number = c.number;
  earlier = c.earlier;
  asked = c.asked;
  made_is = c.made_is;
  hosts_are = c.hosts_are;
  passed = c.passed;
  fits = c.fits tt;
}

explain_end : {C : Type 0} (d : Database C) (tool : List ℕ) (course : Course (Unit {0})) (asker : Asker)
    (before after made : List Exchange) (status : ℕ) (end : Result (Unit {0}) Stop) (out out1 err err1 : Option (List ℕ))
    → Sound d (Unit {0}) Any course
    → after ≡ before ++ made → status ≡ status_of end → CameOrBroke end tool (course asker made) made out out1 err err1
    → Explained d course asker before after status
explain_end d tool course asker before after made status (Ok x) out out1 err err1 sound grown is came = record {
  made = made;
  grown = grown;
  refused = λ one. absurd (omega arith);
  no_server = λ three. absurd (omega arith);
  unknown = λ six. absurd (omega arith);
  complete = λ served. inl is;
}
explain_end d tool course asker before after made status (Err (Refused why)) out out1 err err1 sound grown is came =
    let so = came_settled d tool course asker made (Err (Refused why)) out out1 err err1 sound came in
    record {
      made = made;
      grown = grown;
      refused = λ one. record { why = why; ends_so = came.ends_so; cause = so.cause };
      no_server = λ three. absurd (omega arith);
      unknown = λ six. absurd (omega arith);
      complete = λ served. inr (inr (inr (is, came.ends_so ∙ ap (λ (r : Refusal). Err (Refused r)) (so.well served))));
    }
explain_end d tool course asker before after made status (Err NoServer) out out1 err err1 sound grown is came =
    let so = came_settled d tool course asker made (Err NoServer) out out1 err err1 sound came in
    record {
      made = made;
      grown = grown;
      refused = λ one. absurd (omega arith);
      no_server = λ three. none_took d asker.hosts made so.cause;
      unknown = λ six. absurd (omega arith);
      complete = λ served. absurd (so.well served);
    }
explain_end d tool course asker before after made status (Err OutcomeUnknown) out out1 err err1 sound grown is came =
    let so = came_settled d tool course asker made (Err OutcomeUnknown) out out1 err err1 sound came in
    record {
      made = made;
      grown = grown;
      refused = λ one. absurd (omega arith);
      no_server = λ three. absurd (omega arith);
      unknown = λ six. so.cause;
      complete = λ served. absurd (so.well served);
    }
explain_end d tool course asker before after made status (Err WriteFault) out out1 err err1 sound grown is came = record {
  made = made;
  grown = grown;
  refused = λ one. absurd (omega arith);
  no_server = λ three. absurd (omega arith);
  unknown = λ six. absurd (omega arith);
  complete = λ served. inr (inl is);
}
explain_end d tool course asker before after made status (Err NoMemory) out out1 err err1 sound grown is came = record {
  made = made;
  grown = grown;
  refused = λ one. absurd (omega arith);
  no_server = λ three. absurd (omega arith);
  unknown = λ six. absurd (omega arith);
  complete = λ served. inr (inr (inl is));
}

explain : {C : Type 0} (d : Database C) (tool : List ℕ) (course : Course (Unit {0})) (asker : Asker)
    (before after : List Exchange) (status : ℕ) (out out1 err err1 : Option (List ℕ)) → Sound d (Unit {0}) Any course
    → Commanded tool course asker before after status out out1 err err1 → Explained d course asker before after status
explain d tool course asker before after status out out1 err err1 sound done =
    explain_end d tool course asker before after done.made status done.end out out1 err err1 sound done.grown done.status_is done.came

-- a command that was run has the cause of its status in its exchanges
explained : (tool : Tool) (command : words.Command) (asker : Asker) (before after : List Exchange) (status : ℕ)
    (out out1 err err1 : Option (List ℕ))
    → Fitting command → Commanded (tool_name tool) (course_of tool command) asker before after status out out1 err err1
    → ExplainedFor tool command asker before after status
explained Vos command asker before after status out out1 err err1 fitting done =
    explain volumes_database _ (course_of Vos command) asker before after status out out1 err err1
    (vos_sound command fitting (Unit {0})) done
explained Pts command asker before after status out out1 err err1 fitting done =
    explain users_database _ (course_of Pts command) asker before after status out out1 err err1 (pts_sound command fitting (Unit {0})) done

-- what is asked for was understood
abbrev pub WordsFit : Request → Type 0
WordsFit (request.Command r) = Fitting r.words
WordsFit (request.Debug r) = Unit {0}

abbrev pub Understood : Result Request RequestFault → Type 0
Understood meaning = IfOk meaning WordsFit

command_understood : (hosts : List Host) (tool : Tool) (meaning : Result words.Command WordsFault)
    → ((c : words.Command) → meaning ≡ Ok c → Fitting c) → Understood (with_command hosts tool meaning)
command_understood hosts tool (Ok c) fitting = fitting c refl
command_understood hosts tool (Err fault) fitting = tt

tool_understood : (hosts : List Host) (given : List (List ℕ)) (tool : Option Tool) → Understood (with_tool hosts given tool)
tool_understood hosts given None = tt
tool_understood hosts given (Some tool) = command_understood hosts tool (meaning_of tool given) (meaning_fits tool given)

kind_understood : (hosts : List Host) (given : List (List ℕ)) (kind : Option ServerKind) → Understood (no_more hosts given kind)
kind_understood hosts given None = tt
kind_understood hosts [] (Some kind) = tt
kind_understood hosts (word ∷ given) (Some kind) = tt

debug_understood : (hosts : List Host) (given : List (List ℕ)) → Understood (debug_of hosts given)
debug_understood hosts [] = tt
debug_understood hosts (word ∷ given) = kind_understood hosts given (kind_of word)

either : (b : Bool) (first second : Result Request RequestFault) → Understood first → Understood second
    → Understood (if b then first else second)
either true first second a b = a
either false first second a b = b

hosts_understood : (given : List (List ℕ)) (hosts : Option (List Host)) → Understood (behind_hosts given hosts)
hosts_understood given None = tt
hosts_understood [] (Some hosts) = tt
hosts_understood (word ∷ given) (Some hosts) =
    either (bytes_eq word (codes "udebug")) _ _ (debug_understood hosts given) (tool_understood hosts given (tool_of word))

understood : (given : List (List ℕ)) → Understood (request_of given)
understood [] = tt
understood (word ∷ given) = hosts_understood given (hosts_of word)

explain_meaning : (meaning : Result Request RequestFault) (before after : List Exchange) (status : ℕ) (out out1 err err1 : Option (List ℕ))
    → Understood meaning → ClientRan meaning before after status out out1 err err1
    → IfOk meaning (λ found. IsExplained found before after status)
explain_meaning (Ok (request.Command r)) before after status out out1 err err1 fitting ran =
    explained r.tool r.words (asker_of r) before after status out out1 err err1 fitting ran
explain_meaning (Ok (request.Debug r)) before after status out out1 err err1 fitting ran =
    look_explained r before after status out out1 ran.0
explain_meaning (Err fault) before after status out out1 err err1 fitting ran = tt

-- what the status says follows from what came of the words
pub is_explained : (given : List (List ℕ)) (before after : List Exchange) (status : ℕ) (out out1 err err1 : Option (List ℕ))
    → ClientRan (request_of given) before after status out out1 err err1
    → IfOk (request_of given) (λ found. IsExplained found before after status)
is_explained given before after status out out1 err err1 ran =
    explain_meaning (request_of given) before after status out out1 err err1 (understood given) ran
