-- What the status of a command says of its exchanges (own).
use Rattle.std.specs.Prelude.{◌≡◌, ℕ, ◌⊎◌, List, ◌++◌, Result, Err}
use Rattle.io_base.specs.declared.links.Exchange.{Exchange}
use Rattle.afs_words.specs.Command as words
use Rattle.afs_words.specs.declared.tables.Tool.{Tool}
use Rattle.afs_words.specs.declared.tables.Tool.TheVariants.{Vos, Pts}
use Rattle.tool_base.specs.Course.{Asker, Course}
use Rattle.tool_base.specs.declared.stops.Refusal.{Refusal}
use Rattle.tool_base.specs.declared.stops.Stop.{Stop}
use Rattle.tool_base.specs.declared.stops.Stop.TheVariants.{Refused}
use Rattle.afs_client.specs.Causes.{LeftUnknown, NoneTook, RefusalCause, Served}
use Rattle.afs_client.specs.Client.{asker_of, course_of}
use Rattle.afs_client.specs.Debugs.{LookExplained}
use Rattle.afs_client.specs.Questions.{Database, users_database, volumes_database}
use Rattle.afs_client.specs.declared.requests.Request.{Request}
use Rattle.afs_client.specs.declared.requests.Request.TheVariants as request

-- The command ended in a refusal, its own or one of a server.
pub record WasRefusedSo {C : Type 0} (d : Database C) (made : List Exchange) (end : Result (Unit {0}) Stop) : Type 0 where
  pub why : Refusal
  pub ends_so : end ≡ Err (Refused why)
  pub cause : RefusalCause d made why

-- the command is done, a sink failed, memory ran out, or it ended in its own refusal
abbrev pub EndedWell : Refusal → Result (Unit {0}) Stop → ℕ → Type 0
EndedWell own end status = (status ≡ 0) ⊎ ((status ≡ 4) ⊎ ((status ≡ 5) ⊎ ((status ≡ 1) × (end ≡ Err (Refused own)))))

-- The exchanges that were made are the cause of the status; where the first host answered each call, the command ended well.
pub record Explained {C : Type 0} (d : Database C) (course : Course (Unit {0})) (asker : Asker) (before after : List Exchange)
    (status : ℕ) : Type 0 where
  pub made : List Exchange
  pub grown : after ≡ before ++ made
  pub refused : status ≡ 1 → WasRefusedSo d made (course asker made).result
  pub no_server : status ≡ 3 → NoneTook d asker.hosts made
  pub unknown : status ≡ 6 → LeftUnknown d made
  pub complete : Served d asker.hosts made → EndedWell d.own (course asker made).result status

abbrev pub ExplainedFor : Tool → words.Command → Asker → List Exchange → List Exchange → ℕ → Type 0
ExplainedFor Vos command asker before after status = Explained volumes_database (course_of Vos command) asker before after status
ExplainedFor Pts command asker before after status = Explained users_database (course_of Pts command) asker before after status

-- the status of a request that was run
abbrev pub IsExplained : Request → List Exchange → List Exchange → ℕ → Type 0
IsExplained (request.Command r) before after status = ExplainedFor r.tool r.words (asker_of r) before after status
IsExplained (request.Debug r) before after status = LookExplained r.hosts before after status
