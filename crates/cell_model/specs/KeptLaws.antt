-- Laws of a cell of one server: what is acknowledged stays, and databases and replies are those of the single copy.
use Rattle.std.specs.Prelude.{◌≡◌, ℕ, ◌<◌, ◌≤◌, Bool, true, Option, Some, None, option_map, List, [], ◌∷◌, ◌++◌, ◌⊎◌, length, slice_get, All, Contains, IfSome}
use Rattle.db_image.specs.declared.services.CallReply.{CallReply}
use Rattle.db_image.specs.declared.services.CallReply.TheVariants as call_reply
use Rattle.db_image.specs.Database.{Database, changes_of}
use Rattle.ubik_types.specs.declared.hosts.Host.{Host}
use Rattle.ubik_types.specs.declared.versions.Version.{Version}
use Rattle.ubik_calls.specs.declared.replies.Reply.{Reply}
use Rattle.ubik_calls.specs.declared.replies.Reply.TheVariants as reply
use Rattle.cell_model.specs.Book.{Book, Run, Acknowledgement, Given, list_of, run_after, run_through, order_of, is_ready_site, site_database}
use Rattle.cell_model.specs.Durable.{Transaction}
use Rattle.cell_model.specs.Laws.{Begins, run_of_one}
use Rattle.cell_model.specs.Node.{Node, Down, Halted, Up}
use Rattle.cell_model.specs.SingleCopy.{image_after, reply_after}
use Rattle.cell_model.specs.Step.{Member, Basis, Announced_image, Beacon_image, Commit_on, Evaluation}
use Rattle.cell_model.specs.World.{Site, World, Asking, Event, Step, Happening, Replied, member, site_of, happens}

-- an acknowledged transaction is in this order, at its place
abbrev pub IsPlaced : List Transaction → Acknowledgement → Type 0
IsPlaced order a = slice_get order a.place ≡ Some a.transaction

-- Whatever happens, each transaction that was acknowledged before still is, and is in the order at its place.
abbrev pub AcknowledgedStay : Type 0
AcknowledgedStay =
    (db : Database) (host : Host) (clock : ℕ) (failed : Bool) (events more : List Event) →
    let r = run_of_one db host clock failed events in
    let later = run_through db r more in
    All (λ a. Contains later.acknowledged a × IsPlaced (order_of later.announcements) a) r.acknowledged

-- The transaction is the one that is acknowledged, at its place, and the order goes on with it.
abbrev pub IsAcknowledged : (r later : Run) → Transaction → Type 0
IsAcknowledged r later t =
    ((a : Acknowledgement) × (later.acknowledged ≡ a ∷ r.acknowledged) × (a.transaction ≡ t) × (a.place ≡ length (order_of r.announcements)))
    × (order_of later.announcements ≡ order_of r.announcements ++ t ∷ [])

-- After these transactions this one makes no change to the single copy: no block of its image differs. Where each block has a
-- byte, and the image did not become shorter, it is the same.
abbrev pub ChangesNothing : Database → List Transaction → Transaction → Type 0
ChangesNothing db order t =
    let old = image_after db order in
    let new = image_after db (order ++ t ∷ []) in
    (changes_of db old new ≡ []) × (0 < db.block → length old ≤ length new → new ≡ old)

abbrev pub IsRecorded : Database → (r later : Run) → Transaction → Type 0
IsRecorded db r later t = IsAcknowledged r later t ⊎ ChangesNothing db (order_of r.announcements) t

-- After each run, where the next event asks a call that writes, and its Ok is seen, the transaction is acknowledged in that
-- event and is the next one of the order, or it changes nothing.
abbrev pub OksAreAcknowledged : Type 0
OksAreAcknowledged =
    (db : Database) (host : Host) (clock : ℕ) (failed : Bool) (events : List Event) (server id : ℕ) (call fields : List ℕ) (evaluation : Option Evaluation) (short : List Bool) →
    let r = run_of_one db host clock failed events in
    let e = Step (Asking server id call) short in
    db.writes call ≡ Some true → Contains (happens db r.world e).seen (Replied server id (reply.Ok fields) evaluation) →
    IfSome (site_of r.world server) (λ site. IsRecorded db r (run_after db r e) (record { moment = site.clock; call = call }))

-- a server of a cell that is a ready sync site has the image of the single copy after these transactions
abbrev pub IsSingle : Database → List Transaction → Member → ℕ → Node → Type 0
IsSingle db order m clock Down = Unit {0}
IsSingle db order m clock (Halted h) = Unit {0}
IsSingle db order m clock (Up s) = is_ready_site m clock (Up s) ≡ true → site_database s ≡ image_after db order

-- Whatever happens, the database of each ready sync site is the image of the single copy after the order.
abbrev pub SitesAreSingle : Type 0
SitesAreSingle =
    (db : Database) (host : Host) (clock : ℕ) (failed : Bool) (events : List Event) (k : ℕ) →
    let r = run_of_one db host clock failed events in
    IfSome (site_of r.world k) (λ site. IsSingle db (order_of r.announcements) (member r.world k) site.clock site.node)

-- what a server answers of the database, and under which id
pub record Answered : Type 0 where
  pub server : ℕ
  pub id : ℕ
  pub reply : CallReply

abbrev pub answered_with : ℕ → ℕ → CallReply → Answered
answered_with server id r = record { server = server; id = id; reply = r }

-- what a copy answers at an event, if it replies so at a moment to a call: its reply to the call that is asked, at the clock of
-- the server asked. In all other events there is nothing to answer.
abbrev pub answered_by : (ℕ → List ℕ → CallReply) → World → Event → Option Answered
answered_by reply w (Step (Asking server id call) short) =
    option_map (λ (site : Site). answered_with server id (reply site.clock call)) (site_of w server)
answered_by reply w _ = None

-- the same of the single copy after these transactions
abbrev pub single_answer : Database → List Transaction → World → Event → Option Answered
single_answer db order = answered_by (reply_after db order)

-- what a reply says of the database is this answer. Ok, Rule and BadRecord say something of it, the others do not.
abbrev pub IsAnsweredBy : Option Answered → ℕ → ℕ → Reply → Type 0
IsAnsweredBy single server id (reply.Ok fields) = single ≡ Some (answered_with server id (call_reply.Done fields))
IsAnsweredBy single server id (reply.Rule number) = single ≡ Some (answered_with server id (call_reply.Rule number))
IsAnsweredBy single server id (reply.BadRecord at) = single ≡ Some (answered_with server id (call_reply.BadRecord at))
IsAnsweredBy single server id _ = Unit {0}

-- the version on which a call was evaluated
abbrev pub version_under : Basis → Version
version_under (Announced_image version) = version
version_under (Beacon_image version) = version
version_under (Commit_on old new) = old

-- a database's reply is told so: Ok and Rule are the replies that a database gives
abbrev pub IsReplyOf : CallReply → Reply → Type 0
IsReplyOf given (reply.Ok fields) = given ≡ call_reply.Done fields
IsReplyOf given (reply.Rule number) = given ≡ call_reply.Rule number
IsReplyOf given _ = ⊥

-- a commit takes its transaction into the order, as the next one
abbrev pub IsNext : Basis → (before after : List Transaction) → Transaction → Type 0
IsNext (Commit_on old new) before after t = after ≡ before ++ t ∷ []
IsNext _ before after t = Unit {0}

-- A reply that a database gave: the version under it has a list, which is the order before that event; what the single copy
-- replies to the call after that list, at the moment of the evaluation, is this reply.
pub record IsOfSingleCopy (db : Database) (before after : List Transaction) (book : Book) (e : Evaluation) (r : Reply) : Type 0 where
  pub listed : list_of book (version_under e.basis) ≡ Some before
  pub replied : IsReplyOf (reply_after db before e.moment e.call) r
  pub next : IsNext e.basis before after (record { moment = e.moment; call = e.call })

-- a reply that no database gave says nothing of an evaluation
abbrev pub IsUngiven : Reply → Type 0
IsUngiven (reply.Ok fields) = ⊥
IsUngiven (reply.Rule number) = ⊥
IsUngiven _ = Unit {0}

abbrev pub IsEvaluated : Database → (before after : List Transaction) → Book → Reply → Option Evaluation → Type 0
IsEvaluated db before after book r None = IsUngiven r
IsEvaluated db before after book r (Some e) = IsOfSingleCopy db before after book e r

-- so of what is seen in an event, between two runs
abbrev pub IsSeenSingle : Database → (r later : Run) → Event → Happening → Type 0
IsSeenSingle db r later e (Replied server id reply evaluation) =
    IsAnsweredBy (single_answer db (order_of r.announcements) r.world e) server id reply
    × IsEvaluated db (order_of r.announcements) (order_of later.announcements) later.book reply evaluation
IsSeenSingle db r later e _ = Unit {0}

-- After each run, each reply of the next event that tells of the database is that of the single copy to the call that is asked,
-- after the order before that event, at the clock of the server; and so says the evaluation behind it. A transaction is
-- evaluated on that order too, and is then the next one.
abbrev pub RepliesAreSingle : Type 0
RepliesAreSingle =
    (db : Database) (host : Host) (clock : ℕ) (failed : Bool) (events : List Event) (e : Event) →
    let r = run_of_one db host clock failed events in
    All (IsSeenSingle db r (run_after db r e) e) (happens db r.world e).seen

-- the order behind an evaluation: where it was a commit, its transaction is the next one
abbrev pub order_behind : Basis → List Transaction → Transaction → List Transaction
order_behind (Commit_on old new) order t = order ++ t ∷ []
order_behind _ order t = order

-- A reply that a database gave is what the single copy replies to the call, at the moment of the evaluation, after the order at
-- which it was evaluated; and the order behind that is a front of this one.
pub record IsGivenSingle (db : Database) (order : List Transaction) (g : Given) : Type 0 where
  pub replied : IsReplyOf (reply_after db g.order g.evaluation.moment g.evaluation.call) g.reply
  pub begins : Begins (order_behind g.evaluation.basis g.order (record { moment = g.evaluation.moment; call = g.evaluation.call })) order

-- So of each reply that a database gave in a run, and of the order of that run.
abbrev pub GivenAreSingle : Type 0
GivenAreSingle =
    (db : Database) (host : Host) (clock : ℕ) (failed : Bool) (events : List Event) →
    let r = run_of_one db host clock failed events in
    All (IsGivenSingle db (order_of r.announcements)) r.given
