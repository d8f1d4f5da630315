-- After a run of a cell of one server its database is the single copy's, and what is seen of the next event is what the single
-- copy tells.
use Rattle.std.proofs.Common.{arith, Bool, true, false, ◌≡◌, inl, inr, ℕ, zero, suc, List, [], ◌∷◌, ◌++◌, refl, sym, ap, subst, ◌∙◌}
use Rattle.std.proofs.lemmas.Bool.{and_parts}
use Rattle.std.proofs.lemmas.Option.{none-some, same_Some}
use Rattle.std.proofs.lemmas.List.Elements.{All-nil, All-cons}
use Rattle.std.specs.Prelude.{Option, Some, None, All, IfSome}
use Rattle.ubik_types.specs.declared.hosts.Host.{Host}
use Rattle.ubik_calls.specs.declared.replies.Reply.{Reply}
use Rattle.ubik_calls.specs.declared.replies.Reply.TheVariants as reply
use Rattle.db_image.specs.declared.services.CallReply.{CallReply}
use Rattle.db_image.specs.declared.services.CallReply.TheVariants as call_reply
use Rattle.db_image.specs.Database.{Database}
use Rattle.cell_model.specs.declared.events.NodeEvent.{NodeEvent}
use Rattle.cell_model.specs.declared.events.NodeEvent.TheVariants as event
use Rattle.cell_model.specs.declared.events.Output.{Output}
use Rattle.cell_model.specs.declared.events.Output.TheVariants as output
use Rattle.cell_model.specs.Book.{Book, Announcement, list_of, list_or_none, entered, announced, order_of}
use Rattle.cell_model.specs.Durable.{Durable, Transaction, Made, durable}
use Rattle.cell_model.specs.KeptLaws.{IsSingle, SitesAreSingle, Answered, answered_with, single_answer, IsAnsweredBy, IsReplyOf, IsOfSingleCopy, IsUngiven, IsEvaluated, RepliesAreSingle}
use Rattle.cell_model.specs.Laws.{run_of_one}
use Rattle.cell_model.specs.Node.{Node, Down, Halted, Up, Server}
use Rattle.cell_model.specs.NodeRule.{step_of, refusals}
use Rattle.cell_model.specs.SingleCopy.{image_after, reply_after}
use Rattle.cell_model.specs.Step.{Evaluation, Shown, Stepped, leased, is_ready}
use Rattle.cell_model.specs.World.{Site, World, Trigger, Delivery, Beacon_turn, Recover_turn, Asking, Event, Tick, Tick_all, Step, Stop, Fault, Crash, Restart, Happening, Happened, Announced, Replied, Lost, Stops, Halts, Restarts, Stays_down, occasion, SiteHappened, member, number_after, packet_of, seen_of_output, seen_from, lost_at, step_at, step_up, stop_at, fault_at, site_of, happens}
use Rattle.cell_model.specs.Writes.{own_commit, image_before}
use Rattle.cell_model.proofs.Kept.{Stands, StandsUp, StandsNode, KnowsUp, seen_at, step_at_site}
use Rattle.cell_model.proofs.KeptRuns.{world_of, by_trigger, run_kept, knows}
use Rattle.cell_model.proofs.BookVersions.{book_after, committed_version, older, list_is, goes_committed}
use Rattle.cell_model.proofs.StepKinds.{one_of, IsOwn, IsAnswer, IsGiven, IsTold, IsToldOutput, AllTold, Rests, Relabels, Commits, made_at, commit_evaluation, IsStep, step_is}

-- ---- the database of a ready server

-- where it is ready, its image is that of the order
pub ready_image : (db : Database) (book : Book) (ann : List Announcement) (s : Server) (list : List Transaction) → KnowsUp db book ann s list → is_ready s.phase ≡ true → s.image ≡ image_after db (order_of ann)
ready_image db book ann s list up ready = up.is.image_is ∙ ap (image_after db) (sym (up.ready ready))

node_single : (db : Database) (book : Book) (ann : List Announcement) (host : Host) (site : Site) (node : Node) → site.node ≡ node → Stands db book ann site → IsSingle db (order_of ann) (one_of host) site.clock node
node_single db book ann host site Down is stands = tt
node_single db book ann host site (Halted h) is stands = tt
node_single db book ann host site (Up s) is stands = λ ready.
    let P : Node → Type 0 = λ n. StandsNode ann stands.list site.durable n in
    let up : StandsUp ann stands.list site.durable s = subst P is stands.node in
    ap (image_before s.image) up.alone.flight
    ∙ ready_image db book ann s stands.list (knows db book ann site s stands up) (and_parts (leased (one_of host) s site.clock) (is_ready s.phase) ready).1

abbrev AreSingle : Database → List Transaction → World → ℕ → Type 0
AreSingle db order w k = IfSome (site_of w k) (λ site. IsSingle db order (member w k) site.clock site.node)

sites_single : (db : Database) (book : Book) (ann : List Announcement) (host : Host) (site : Site) (k : ℕ) → Stands db book ann site → AreSingle db (order_of ann) (world_of host site) k
sites_single db book ann host site zero stands = node_single db book ann host site site.node refl stands
sites_single db book ann host site (suc k) stands = tt

pub sites_are_single : SitesAreSingle
sites_are_single db host clock failed events k =
    let r = run_of_one db host clock failed events in
    let kept = run_kept db host clock failed events in
    let P : World → Type 0 = λ w. AreSingle db (order_of r.announcements) w k in
    subst P (sym kept.world) (sites_single db r.book r.announcements host kept.site k kept.stands)

-- ---- replies

-- what is seen is what the single copy tells: its answer in this event, and an evaluation between these orders
abbrev Tells : Database → Option Answered → (before after : List Transaction) → Book → Happening → Type 0
Tells db single before after book (Replied server id r evaluation) =
    IsAnsweredBy single server id r × IsEvaluated db before after book r evaluation
Tells db single before after book _ = Unit {0}

-- so of a site
abbrev AllTells : Database → Option Answered → Book → List Announcement → SiteHappened → Type 0
AllTells db single book ann h =
    All (Tells db single (order_of ann) (order_of (announced (entered book h.entries) (seen_at h) ann)) (entered book h.entries)) (seen_at h)

-- what the single copy answers to the call of the event
abbrev Answers : Database → Option Answered → List Transaction → ℕ → NodeEvent → Type 0
Answers db single order now e =
    (id : ℕ) (call : List ℕ) → e ≡ event.Ask id call → single ≡ Some (answered_with 0 id (reply_after db order now call))

-- the database's answer is the single copy's
pub told_single : (db : Database) (book : Book) (ann : List Announcement) (s : Server) (now : ℕ) (e : NodeEvent) (list : List Transaction) (id : ℕ) (answer : CallReply) → KnowsUp db book ann s list → (a : IsAnswer db s now e id answer) → reply_after db (order_of ann) now a.call ≡ answer
told_single db book ann s now e list id answer up a =
    ap (λ (image : List ℕ). (db.call image now a.call).reply) (sym (ready_image db book ann s list up a.ready)) ∙ a.answer_is

module _ (db : Database) (single : Option Answered) (book : Book) (ann : List Announcement) (s : Server) (now : ℕ) (e : NodeEvent) (list : List Transaction) (up : KnowsUp db book ann s list) (answers : Answers db single (order_of ann) now e) where
  answer_single : (id : ℕ) (answer : CallReply) → IsAnswer db s now e id answer → single ≡ Some (answered_with 0 id answer)
  answer_single id answer a =
      answers id a.call a.asked ∙ ap (λ (r : CallReply). Some (answered_with 0 id r)) (told_single db book ann s now e list id answer up a)

  -- the version of a ready server has the order as its list
  version_listed : is_ready s.phase ≡ true → list_of book s.version ≡ Some (order_of ann)
  version_listed ready = up.is.listed ∙ ap (λ (l : List Transaction). Some l) (sym (up.ready ready))

  given_single : (after : List Transaction) (id : ℕ) (r : Reply) (answer : CallReply) (evaluation : Option Evaluation) → IsGiven db s now e id answer evaluation → ((given : CallReply) → given ≡ answer → IsReplyOf given r) → IsEvaluated db (order_of ann) after book r evaluation
  given_single after id r answer evaluation given is_reply =
      let P : Option Evaluation → Type 0 = λ o. IsEvaluated db (order_of ann) after book r o in
      subst P (sym given.evaluated) (record {
        listed = version_listed given.answered.ready;
        replied = is_reply (reply_after db (order_of ann) now given.answered.call) (told_single db book ann s now e list id answer up given.answered);
        next = tt;
      })

  ungiven : (after : List Transaction) (r : Reply) (evaluation : Option Evaluation) → evaluation ≡ None → IsUngiven r → IsEvaluated db (order_of ann) after book r evaluation
  ungiven after r evaluation none is =
      let P : Option Evaluation → Type 0 = λ o. IsEvaluated db (order_of ann) after book r o in subst P (sym none) is

  reply_tells : (after : List Transaction) (id : ℕ) (r : Reply) (evaluation : Option Evaluation) → IsTold db s now e id r evaluation → Tells db single (order_of ann) after book (Replied 0 id r evaluation)
  reply_tells after id (reply.Ok fields) evaluation told =
      (answer_single id (call_reply.Done fields) told.given.answered, given_single after id (reply.Ok fields) (call_reply.Done fields) evaluation told.given (λ given is. is))
  reply_tells after id (reply.Rule number) evaluation told =
      (answer_single id (call_reply.Rule number) told.answered, given_single after id (reply.Rule number) (call_reply.Rule number) evaluation told (λ given is. is))
  reply_tells after id (reply.BadRecord at) evaluation told =
      (answer_single id (call_reply.BadRecord at) told.0, ungiven after (reply.BadRecord at) evaluation told.1 tt)
  reply_tells after id other evaluation told = (tt, ungiven after other evaluation told tt)

  output_tells : (after : List Transaction) (number : ℕ) (o : Output) (evaluation : Option Evaluation) → IsToldOutput db s now e o evaluation → Tells db single (order_of ann) after book (seen_of_output 0 number o evaluation)
  output_tells after number (output.Send packet) evaluation told = tt
  output_tells after number (output.Reply id r) evaluation told = reply_tells after id r evaluation told
  output_tells after number (output.Announce version) evaluation told = tt

  shown_tell : (after : List Transaction) (number : ℕ) (shown : List Shown) → AllTold db s now e shown → All (Tells db single (order_of ann) after book) (seen_from 0 number shown ++ [])
  shown_tell after number [] told = All-nil (Tells db single (order_of ann) after book)
  shown_tell after number (one ∷ shown) told =
      All-cons (Tells db single (order_of ann) after book) (seen_of_output 0 number one.output one.evaluation) (seen_from 0 (number_after number (packet_of one)) shown ++ [])
      (output_tells after number one.output one.evaluation told.0) (shown_tell after (number_after number (packet_of one)) shown told.1)

  rests_tell : (site : Site) (t : Stepped) → Rests db s now e t → AllTells db single book ann (step_at_site site s e t.server t.calls t.shown)
  rests_tell site t rests =
      let P : List Made → Type 0 = λ calls. AllTells db single book ann (step_at_site site s e t.server calls t.shown) in
      subst P (sym rests.calls) (shown_tell (order_of (announced book (seen_from 0 1 t.shown ++ []) ann)) 1 t.shown rests.told)

  relabels_tell : (site : Site) (t : Stepped) → Relabels s t → AllTells db single book ann (step_at_site site s e t.server t.calls t.shown)
  relabels_tell site t made =
      let P : List Shown → Type 0 = λ shown. AllTells db single book ann (step_at_site site s e t.server t.calls shown) in
      let after = book_after book s.version t.calls in
      let T : Happening → Type 0 = Tells db single (order_of ann) (list_or_none after made.new) after in
      subst P (sym made.shown) (All-cons T (Announced 0 made.new) [] tt (All-nil T))

  commits_tell : (site : Site) (t : Stepped) → Commits db s now e t → AllTells db single book ann (step_at_site site s e t.server t.calls t.shown)
  commits_tell site t made =
      let P : List Made → Type 0 = λ calls. AllTells db single book ann (step_at_site site s e t.server calls t.shown) in
      let Q : List Shown → Type 0 = λ shown. AllTells db single book ann (step_at_site site s e t.server (own_commit made.new made.changes (db.call s.image now made.answered.call).image one ∷ []) shown) in
      subst P (sym made.calls) (subst Q (sym made.shown)
      (All-cons T (Announced 0 made.new) (Replied 0 made.id (reply.Ok made.answer) (Some evaluation) ∷ []) tt
      (All-cons T (Replied 0 made.id (reply.Ok made.answer) (Some evaluation)) [] (answer_single made.id (call_reply.Done made.answer) made.answered, committed) (All-nil T))))
    where
      one : Transaction
      one = made_at now made.answered.call

      evaluation : Evaluation
      evaluation = commit_evaluation now made.answered.call s.version made.new

      after : Book
      after = committed_version book s.version made.new one ∷ book

      T : Happening → Type 0
      T = Tells db single (order_of ann) (list_or_none after made.new) after

      committed : IsOfSingleCopy db (order_of ann) (list_or_none after made.new) after evaluation (reply.Ok made.answer)
      committed = record {
        listed = older (committed_version book s.version made.new one) book s.version (order_of ann) made.fresh (version_listed made.answered.ready);
        replied = told_single db book ann s now e list made.id (call_reply.Done made.answer) up made.answered;
        next =
            list_is after made.new (list ++ one ∷ []) (goes_committed db book (durable s.version s.image) list up.is made.new made.changes now made.answered.call).listed
            ∙ ap (λ (l : List Transaction). l ++ one ∷ []) (sym (up.ready made.answered.ready));
      }

  step_tells : (site : Site) (t : Stepped) → IsStep db s now e t → AllTells db single book ann (step_at_site site s e t.server t.calls t.shown)
  step_tells site t (inl rests) = rests_tell site t rests
  step_tells site t (inr (inl made)) = relabels_tell site t made
  step_tells site t (inr (inr made)) = commits_tell site t made

-- ---- the other happenings

module _ (db : Database) (single : Option Answered) (before after : List Transaction) (book : Book) where
  abbrev T : Happening → Type 0
  T = Tells db single before after book

  -- what tells nothing
  plain : (seen : Happening) → T seen → All T (seen ∷ [])
  plain seen tells = All-cons T seen [] tells (All-nil T)

  lost_tells : (trigger : Trigger) → All T (lost_at trigger)
  lost_tells (Delivery number) = plain (Lost number) tt
  lost_tells (Beacon_turn server) = All-nil T
  lost_tells (Recover_turn server) = All-nil T
  lost_tells (Asking server id call) = All-nil T

  -- refusals of a disk that failed
  refused_tell : (e : NodeEvent) (marks : List Happening) → All T marks → All T (seen_from 0 1 (refusals e) ++ marks)
  refused_tell (event.Packet p) marks all = all
  refused_tell event.BeaconTurn marks all = all
  refused_tell event.RecoverTurn marks all = all
  refused_tell (event.Ask id call) marks all = All-cons T (Replied 0 id reply.DiskFault None) marks (tt, tt) all

-- ---- events

module _ (db : Database) (host : Host) (book : Book) (ann : List Announcement) (site : Site) (stands : Stands db book ann site) where
  abbrev order : List Transaction
  order = order_of ann

  one_step_tells : (single : Option Answered) (trigger : Trigger) (e : NodeEvent) (short : List Bool) (node : Node) → IsOwn e → site.node ≡ node → Answers db single order site.clock e → AllTells db single book ann (step_at db (one_of host) trigger e short site node)
  one_step_tells single trigger e short Down own is answers = lost_tells db single order _ book trigger
  one_step_tells single trigger e short (Halted h) own is answers =
      refused_tell db single order (order_of (announced book (seen_from 0 1 (refusals e) ++ []) ann)) book e [] (All-nil _)
  one_step_tells single trigger e short (Up s) own is answers =
      let P : Node → Type 0 = λ n. StandsNode ann stands.list site.durable n in
      let up : StandsUp ann stands.list site.durable s = subst P is stands.node in
      let t = step_of db (one_of host) s site.clock e short in
      let Q : Durable → Type 0 = λ d. AllTells db single book ann (step_up 0 (record site { durable = d }) e s.version t) in
      subst Q (sym up.durable_is)
      (step_tells db single book ann s site.clock e stands.list (knows db book ann site s stands up) answers site t (step_is db host s site.clock e short own up.alone))

  stop_tells : (single : Option Answered) (e : NodeEvent) (short : List Bool) (made : ℕ) (node : Node) → AllTells db single book ann (stop_at db (one_of host) e short made site node)
  stop_tells single e short made Down = All-nil _
  stop_tells single e short made (Halted h) = plain db single order _ _ (Stops 0) tt
  stop_tells single e short made (Up s) = plain db single order _ _ (Stops 0) tt

  fault_tells : (single : Option Answered) (e : NodeEvent) (short : List Bool) (made : ℕ) (node : Node) → AllTells db single book ann (fault_at db (one_of host) e short made site node)
  fault_tells single e short made Down = All-nil _
  fault_tells single e short made (Halted h) = All-nil _
  fault_tells single e short made (Up s) = refused_tell db single order _ _ e (Halts 0 ∷ []) (plain db single order _ _ (Halts 0) tt)

  -- the single copy answers what is asked
  asked_answers : (trigger : Trigger) (short : List Bool) (e : NodeEvent) → occasion (world_of host site) trigger ≡ Some (0, e) → Answers db (single_answer db order (world_of host site) (Step trigger short)) order site.clock e
  asked_answers (Delivery zero) short e is id call asks = absurd (none-some (0, e) is)
  asked_answers (Delivery (suc number)) short e is id call asks = absurd (none-some (0, e) is)
  asked_answers (Beacon_turn server) short e is id call asks =
      let at : event.BeaconTurn ≡ e = ap (λ (o : ℕ × NodeEvent). o.1) (same_Some (server, event.BeaconTurn) (0, e) is) in
      let never : event.BeaconTurn ≡ event.Ask id call = at ∙ asks in cc
  asked_answers (Recover_turn server) short e is id call asks =
      let at : event.RecoverTurn ≡ e = ap (λ (o : ℕ × NodeEvent). o.1) (same_Some (server, event.RecoverTurn) (0, e) is) in
      let never : event.RecoverTurn ≡ event.Ask id call = at ∙ asks in cc
  asked_answers (Asking zero other bytes) short e is id call asks =
      let at : event.Ask other bytes ≡ e = ap (λ (o : ℕ × NodeEvent). o.1) (same_Some (0, event.Ask other bytes) (0, e) is) in
      let same : event.Ask other bytes ≡ event.Ask id call = at ∙ asks in cc
  asked_answers (Asking (suc k) other bytes) short e is id call asks =
      let never : suc k ≡ 0 = ap (λ (o : ℕ × NodeEvent). o.0) (same_Some (suc k, event.Ask other bytes) (0, e) is) in
      absurd (omega arith)

  -- so of an event
  abbrev TellsOf : Event → Happened → Type 0
  TellsOf e h =
      All (Tells db (single_answer db order (world_of host site) e) order (order_of (announced (entered book h.entries) h.seen ann)) (entered book h.entries)) h.seen

  event_tells : (e : Event) → TellsOf e (happens db (world_of host site) e)
  event_tells (Tick server seconds) = All-nil _
  event_tells (Tick_all seconds) = All-nil _
  event_tells (Step trigger short) =
      by_trigger host site (TellsOf (Step trigger short)) (λ m e site. step_at db m trigger e short site site.node) trigger (All-nil _)
      (λ e own is. one_step_tells (single_answer db order (world_of host site) (Step trigger short)) trigger e short site.node own refl (asked_answers trigger short e is))
  event_tells (Stop trigger short made) =
      by_trigger host site (TellsOf (Stop trigger short made)) (λ m e site. stop_at db m e short made site site.node) trigger (All-nil _)
      (λ e own _. stop_tells None e short made site.node)
  event_tells (Fault trigger short made) =
      by_trigger host site (TellsOf (Fault trigger short made)) (λ m e site. fault_at db m e short made site site.node) trigger (All-nil _)
      (λ e own _. fault_tells None e short made site.node)
  event_tells (Crash zero) = All-nil _
  event_tells (Crash (suc k)) = All-nil _
  event_tells (Restart zero true) = plain db None order order book (Stays_down 0) tt
  event_tells (Restart zero false) = plain db None order order book (Restarts 0 site.durable.version) tt
  event_tells (Restart (suc k) failed) = All-nil _

pub replies_are_single : RepliesAreSingle
replies_are_single db host clock failed events e =
    let r = run_of_one db host clock failed events in
    let kept = run_kept db host clock failed events in
    let P : World → Type 0 = λ w.
    let h = happens db w e in
    All (Tells db (single_answer db (order_of r.announcements) w e) (order_of r.announcements) (order_of (announced (entered r.book h.entries) h.seen r.announcements)) (entered r.book h.entries)) h.seen in
    subst P (sym kept.world) (event_tells db host r.book r.announcements kept.site kept.stands e)
