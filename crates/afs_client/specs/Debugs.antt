-- What the words of `udebug` ask for, and what the program has done of it (own).
use Rattle.std.specs.Prelude.{◌≡◌, ℕ, ◌<◌, ◌^◌, ◌⊎◌, false, List, [], ◌∷◌, ◌++◌, map, Option, Some, None, Result, Ok, Err}
use Rattle.std.specs.List.{AllByRecursion}
use Rattle.ubik_types.specs.declared.hosts.Host.{Host}
use Rattle.io_base.specs.declared.links.Exchange.{Exchange}
use Rattle.ubik_calls.specs.declared.frames.Frame.TheVariants as frame
use Rattle.ubik_calls.specs.declared.replies.DebugIs.{DebugIs}
use Rattle.ubik_calls.specs.WireGrammar.{spelling}
use Rattle.tool_base.specs.Course.{Asker}
use Rattle.tool_base.specs.Running.{ToldSome}
use Rattle.tool_base.specs.Stops.{status_of}
use Rattle.tool_base.specs.declared.stops.Stop.{Stop}
use Rattle.udebug_tool.specs.Kinds.{kind_of, kind_port}
use Rattle.udebug_tool.specs.Looking.{looks}
use Rattle.udebug_tool.specs.Seen.{seen_answer}
use Rattle.udebug_tool.specs.declared.kinds.ServerKind.{ServerKind}
use Rattle.afs_client.specs.declared.requests.DebugRequest.{DebugRequest}
use Rattle.afs_client.specs.declared.requests.Request.{Request}
use Rattle.afs_client.specs.declared.requests.Request.TheVariants.{Debug}
use Rattle.afs_client.specs.declared.requests.RequestFault.{RequestFault}
use Rattle.afs_client.specs.declared.requests.RequestFault.TheVariants.{BadWord}

-- no word stands behind the kind
abbrev pub no_more : List Host → List (List ℕ) → Option ServerKind → Result Request RequestFault
no_more hosts words None = Err (BadWord 3)
no_more hosts [] (Some kind) = Ok (Debug (record { hosts = hosts; kind = kind }))
no_more hosts (word ∷ words) (Some kind) = Err (BadWord 4)

-- the words behind `udebug`: a kind of server
abbrev pub debug_of : List Host → List (List ℕ) → Result Request RequestFault
debug_of hosts [] = Err (BadWord 3)
debug_of hosts (word ∷ words) = no_more hosts words (kind_of word)

-- who asks, before the first question
abbrev pub debug_asker : DebugRequest → Asker
debug_asker request = record { hosts = request.hosts; port = kind_port request.kind; number = 0 }

-- The hosts were asked of themselves over the exchanges that were made, and the status is that of the end.
pub record Looked (request : DebugRequest) (before after : List Exchange) (status : ℕ) (out out_after : Option (List ℕ)) : Type 0 where
  pub end : Result (Unit {0}) Stop
  pub status_is : status ≡ status_of end
  pub told : ToldSome (looks false request.hosts) (debug_asker request) before after out out_after end

-- an exchange asked its host of itself, and this came of it
pub record Shows (seen : Option DebugIs) (e : Exchange) : Type 0 where
  pub number : ℕ
  pub counted : number < 2 ^ 32
  pub frame_is : e.frame ≡ spelling (frame.Debug number)
  pub seen_is : seen_answer number e.answer e.reply ≡ seen

-- Each host was asked in order, and none answered.
pub record NoneAnswered (hosts : List Host) (made : List Exchange) : Type 0 where
  pub hosts_are : map (λ (e : Exchange). e.host) made ≡ hosts
  pub silent : AllByRecursion (Shows None) made

-- One of the hosts answered.
pub record OneAnswered (made : List Exchange) : Type 0 where
  pub is : DebugIs
  pub earlier : List Exchange
  pub asked : Exchange
  pub later : List Exchange
  pub made_is : made ≡ earlier ++ asked ∷ later
  pub answered : Shows (Some is) asked

-- Status 3 has no host that answered, and status 0 has one; else a sink failed or memory ran out.
pub record LookExplained (hosts : List Host) (before after : List Exchange) (status : ℕ) : Type 0 where
  pub made : List Exchange
  pub grown : after ≡ before ++ made
  pub no_server : status ≡ 3 → NoneAnswered hosts made
  pub done : status ≡ 0 → OneAnswered made
  pub ends : (status ≡ 0) ⊎ ((status ≡ 3) ⊎ ((status ≡ 4) ⊎ (status ≡ 5)))
