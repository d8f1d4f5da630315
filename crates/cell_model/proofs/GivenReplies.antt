-- Along a run of a cell of one server each reply that a database gave is the single copy's, after the order at which it was
-- evaluated.
use Rattle.std.proofs.Common.{Bool, true, false, ◌≡◌, inl, inr, ℕ, zero, suc, List, [], ◌∷◌, ◌++◌, refl, sym, ap, subst, ◌∙◌, append_assoc}
use Rattle.std.proofs.lemmas.List.{append-nil}
use Rattle.std.proofs.lemmas.List.Elements.{All-nil, All-cons, All-weaker}
use Rattle.std.specs.Prelude.{Option, Some, None, All}
use Rattle.ubik_types.specs.declared.hosts.Host.{Host}
use Rattle.ubik_calls.specs.declared.replies.Reply.{Reply}
use Rattle.ubik_calls.specs.declared.replies.Reply.TheVariants as reply
use Rattle.db_image.specs.declared.services.CallReply.{CallReply}
use Rattle.db_image.specs.declared.services.CallReply.TheVariants as call_reply
use Rattle.db_image.specs.Database.{Database}
use Rattle.cell_model.specs.declared.events.NodeEvent.{NodeEvent}
use Rattle.cell_model.specs.declared.events.NodeEvent.TheVariants as event
use Rattle.cell_model.specs.declared.events.Output.{Output}
use Rattle.cell_model.specs.declared.events.Output.TheVariants as output
use Rattle.cell_model.specs.Book.{Book, Announcement, Given, Run, list_or_none, entered, announced, order_of, order_at, given, first_run, run_after, run_through}
use Rattle.cell_model.specs.Durable.{Durable, Transaction, Made, durable}
use Rattle.cell_model.specs.KeptLaws.{IsReplyOf, IsGivenSingle, GivenAreSingle}
use Rattle.cell_model.specs.Laws.{Begins}
use Rattle.cell_model.specs.Node.{Node, Down, Halted, Up, Server}
use Rattle.cell_model.specs.NodeRule.{step_of, refusals}
use Rattle.cell_model.specs.SingleCopy.{reply_after}
use Rattle.cell_model.specs.Step.{Evaluation, Shown, Stepped}
use Rattle.cell_model.specs.World.{Site, World, Trigger, Delivery, Beacon_turn, Recover_turn, Asking, Event, Tick, Tick_all, Step, Stop, Fault, Crash, Restart, Happening, Happened, Sent, Announced, Replied, Lost, Stops, Halts, Restarts, Stays_down, SiteHappened, number_after, packet_of, seen_of_output, seen_from, lost_at, step_at, step_up, stop_at, fault_at, happens, first_world}
use Rattle.cell_model.specs.Writes.{own_commit}
use Rattle.cell_model.proofs.Kept.{Stands, StandsUp, StandsNode, KnowsUp, seen_at, step_at_site}
use Rattle.cell_model.proofs.KeptRuns.{world_of, by_trigger, IsKept, event_leaves, goes_on, first_kept, knows}
use Rattle.cell_model.proofs.BookVersions.{book_after, list_is, goes_committed}
use Rattle.cell_model.proofs.SingleReplies.{told_single}
use Rattle.cell_model.proofs.StepKinds.{one_of, IsOwn, IsGiven, IsTold, IsToldOutput, AllTold, made_at, IsStep, step_is}

-- each reply that is seen so, and that a database gave, is one of these
abbrev Gives : (Given → Type 0) → Book → List Happening → List Announcement → Type 0
Gives P book [] ann = Unit {0}
Gives P book (Announced server version ∷ seen) ann = Gives P book seen (announced book (Announced server version ∷ []) ann)
Gives P book (Replied server id r None ∷ seen) ann = Gives P book seen ann
Gives P book (Replied server id r (Some e) ∷ seen) ann =
    P (record { server = server; id = id; reply = r; evaluation = e; order = order_at e.basis ann }) × Gives P book seen ann
Gives P book (_ ∷ seen) ann = Gives P book seen ann

all_given : (P : Given → Type 0) (book : Book) (seen : List Happening) (ann : List Announcement) (before : List Given) → Gives P book seen ann → All P before → All P (given book seen ann before)
all_given P book [] ann before gives all = all
all_given P book (Announced server version ∷ seen) ann before gives all = all_given P book seen (announced book (Announced server version ∷ []) ann) before gives all
all_given P book (Replied server id r None ∷ seen) ann before gives all = all_given P book seen ann before gives all
all_given P book (Replied server id r (Some e) ∷ seen) ann before gives all =
    let one : Given = record { server = server; id = id; reply = r; evaluation = e; order = order_at e.basis ann } in
    all_given P book seen ann (one ∷ before) gives.1 (All-cons P one before gives.0 all)
all_given P book (Sent number packet ∷ seen) ann before gives all = all_given P book seen ann before gives all
all_given P book (Lost number ∷ seen) ann before gives all = all_given P book seen ann before gives all
all_given P book (Stops server ∷ seen) ann before gives all = all_given P book seen ann before gives all
all_given P book (Halts server ∷ seen) ann before gives all = all_given P book seen ann before gives all
all_given P book (Restarts server version ∷ seen) ann before gives all = all_given P book seen ann before gives all
all_given P book (Stays_down server ∷ seen) ann before gives all = all_given P book seen ann before gives all

-- ---- a step

-- what a site gives, by the order after it
abbrev order_then : Book → List Announcement → SiteHappened → List Transaction
order_then book ann h = order_of (announced (entered book h.entries) (seen_at h) ann)

abbrev GivesAt : Database → Book → List Announcement → SiteHappened → Type 0
GivesAt db book ann h =
    Begins (order_of ann) (order_then book ann h) → Gives (IsGivenSingle db (order_then book ann h)) (entered book h.entries) (seen_at h) ann

module _ (db : Database) (book : Book) (ann : List Announcement) (s : Server) (now : ℕ) (e : NodeEvent) (list : List Transaction) (up : KnowsUp db book ann s list) where
  module _ (after : Book) (order : List Transaction) (moves : Begins (order_of ann) order) where
    given_gives : (id : ℕ) (r : Reply) (answer : CallReply) (evaluation : Option Evaluation) (seen : List Happening) → IsGiven db s now e id answer evaluation → ((given : CallReply) → given ≡ answer → IsReplyOf given r) → Gives (IsGivenSingle db order) after seen ann → Gives (IsGivenSingle db order) after (Replied 0 id r evaluation ∷ seen) ann
    given_gives id r answer evaluation seen given is_reply rest =
        let P : Option Evaluation → Type 0 = λ o. Gives (IsGivenSingle db order) after (Replied 0 id r o ∷ seen) ann in
        subst P (sym given.evaluated)
        (record { replied = is_reply (reply_after db (order_of ann) now given.answered.call) (told_single db book ann s now e list id answer up given.answered); begins = moves }, rest)

    ungiven : (id : ℕ) (r : Reply) (evaluation : Option Evaluation) (seen : List Happening) → evaluation ≡ None → Gives (IsGivenSingle db order) after seen ann → Gives (IsGivenSingle db order) after (Replied 0 id r evaluation ∷ seen) ann
    ungiven id r evaluation seen none rest =
        let P : Option Evaluation → Type 0 = λ o. Gives (IsGivenSingle db order) after (Replied 0 id r o ∷ seen) ann in subst P (sym none) rest

    reply_gives : (id : ℕ) (r : Reply) (evaluation : Option Evaluation) (seen : List Happening) → IsTold db s now e id r evaluation → Gives (IsGivenSingle db order) after seen ann → Gives (IsGivenSingle db order) after (Replied 0 id r evaluation ∷ seen) ann
    reply_gives id (reply.Ok fields) evaluation seen told rest = given_gives id (reply.Ok fields) (call_reply.Done fields) evaluation seen told.given (λ given is. is) rest
    reply_gives id (reply.Rule number) evaluation seen told rest = given_gives id (reply.Rule number) (call_reply.Rule number) evaluation seen told (λ given is. is) rest
    reply_gives id (reply.BadRecord at) evaluation seen told rest = ungiven id (reply.BadRecord at) evaluation seen told.1 rest
    reply_gives id other evaluation seen told rest = ungiven id other evaluation seen told rest

    output_gives : (number : ℕ) (o : Output) (evaluation : Option Evaluation) (seen : List Happening) → IsToldOutput db s now e o evaluation → Gives (IsGivenSingle db order) after seen ann → Gives (IsGivenSingle db order) after (seen_of_output 0 number o evaluation ∷ seen) ann
    output_gives number (output.Send packet) evaluation seen told rest = rest
    output_gives number (output.Reply id r) evaluation seen told rest = reply_gives id r evaluation seen told rest
    output_gives number (output.Announce version) evaluation seen told rest = absurd told

    shown_gives : (number : ℕ) (shown : List Shown) → AllTold db s now e shown → Gives (IsGivenSingle db order) after (seen_from 0 number shown ++ []) ann
    shown_gives number [] told = tt
    shown_gives number (one ∷ shown) told =
        output_gives number one.output one.evaluation (seen_from 0 (number_after number (packet_of one)) shown ++ []) told.0 (shown_gives (number_after number (packet_of one)) shown told.1)

  step_gives : (site : Site) (t : Stepped) → IsStep db s now e t → GivesAt db book ann (step_at_site site s e t.server t.calls t.shown)
  step_gives site t (inl rests) = λ moves.
      shown_gives (book_after book s.version t.calls) (order_of (announced (book_after book s.version t.calls) (seen_from 0 1 t.shown ++ []) ann)) moves 1 t.shown rests.told
  step_gives site t (inr (inl made)) =
      let P : List Shown → Type 0 = λ shown. GivesAt db book ann (step_at_site site s e t.server t.calls shown) in
      subst P (sym made.shown) (λ moves. tt)
  step_gives site t (inr (inr made)) =
      let P : List Made → Type 0 = λ calls. GivesAt db book ann (step_at_site site s e t.server calls t.shown) in
      let Q : List Shown → Type 0 = λ shown. GivesAt db book ann (step_at_site site s e t.server (own_commit made.new made.changes (db.call s.image now made.answered.call).image one ∷ []) shown) in
      subst P (sym made.calls) (subst Q (sym made.shown) (λ moves. (record { replied = told_single db book ann s now e list made.id (call_reply.Done made.answer) up made.answered; begins = ([], goes) }, tt)))
    where
      one : Transaction
      one = made_at now made.answered.call

      after : Book
      after = book_after book s.version (own_commit made.new made.changes (db.call s.image now made.answered.call).image one ∷ [])

      goes : list_or_none after made.new ≡ (order_of ann ++ one ∷ []) ++ []
      goes =
          list_is after made.new (list ++ one ∷ []) (goes_committed db book (durable s.version s.image) list up.is made.new made.changes now made.answered.call).listed
          ∙ ap (λ (l : List Transaction). l ++ one ∷ []) (sym (up.ready made.answered.ready)) ∙ sym (append-nil _)

-- ---- events

refused_gives : (P : Given → Type 0) (book : Book) (e : NodeEvent) (marks : List Happening) (ann : List Announcement) → Gives P book marks ann → Gives P book (seen_from 0 1 (refusals e) ++ marks) ann
refused_gives P book (event.Packet p) marks ann all = all
refused_gives P book event.BeaconTurn marks ann all = all
refused_gives P book event.RecoverTurn marks ann all = all
refused_gives P book (event.Ask id call) marks ann all = all

lost_gives : (P : Given → Type 0) (book : Book) (trigger : Trigger) (ann : List Announcement) → Gives P book (lost_at trigger) ann
lost_gives P book (Delivery number) ann = tt
lost_gives P book (Beacon_turn server) ann = tt
lost_gives P book (Recover_turn server) ann = tt
lost_gives P book (Asking server id call) ann = tt

module _ (db : Database) (host : Host) (book : Book) (ann : List Announcement) (site : Site) (stands : Stands db book ann site) where
  one_step_gives : (trigger : Trigger) (e : NodeEvent) (short : List Bool) (node : Node) → IsOwn e → site.node ≡ node → GivesAt db book ann (step_at db (one_of host) trigger e short site node)
  one_step_gives trigger e short Down own is = λ moves.
      lost_gives (IsGivenSingle db (order_then book ann (step_at db (one_of host) trigger e short site Down))) book trigger ann
  one_step_gives trigger e short (Halted h) own is = λ moves.
      refused_gives (IsGivenSingle db (order_then book ann (step_at db (one_of host) trigger e short site (Halted h)))) book e [] ann tt
  one_step_gives trigger e short (Up s) own is =
      let P : Node → Type 0 = λ n. StandsNode ann stands.list site.durable n in
      let up : StandsUp ann stands.list site.durable s = subst P is stands.node in
      let t = step_of db (one_of host) s site.clock e short in
      let Q : Durable → Type 0 = λ d. GivesAt db book ann (step_up 0 (record site { durable = d }) e s.version t) in
      subst Q (sym up.durable_is)
      (step_gives db book ann s site.clock e stands.list (knows db book ann site s stands up) site t (step_is db host s site.clock e short own up.alone))

  stop_gives : (e : NodeEvent) (short : List Bool) (made : ℕ) (node : Node) → GivesAt db book ann (stop_at db (one_of host) e short made site node)
  stop_gives e short made Down = λ moves. tt
  stop_gives e short made (Halted h) = λ moves. tt
  stop_gives e short made (Up s) = λ moves. tt

  fault_gives : (e : NodeEvent) (short : List Bool) (made : ℕ) (node : Node) → GivesAt db book ann (fault_at db (one_of host) e short made site node)
  fault_gives e short made Down = λ moves. tt
  fault_gives e short made (Halted h) = λ moves. tt
  fault_gives e short made (Up s) = λ moves.
      let h = fault_at db (one_of host) e short made site (Up s) in
      refused_gives (IsGivenSingle db (order_then book ann h)) (entered book h.entries) e (Halts 0 ∷ []) ann tt

  abbrev GivesOf : Happened → Type 0
  GivesOf h =
      let after = entered book h.entries in
      Begins (order_of ann) (order_of (announced after h.seen ann)) → Gives (IsGivenSingle db (order_of (announced after h.seen ann))) after h.seen ann

  event_gives : (e : Event) → GivesOf (happens db (world_of host site) e)
  event_gives (Tick server seconds) = λ moves. tt
  event_gives (Tick_all seconds) = λ moves. tt
  event_gives (Step trigger short) =
      by_trigger host site GivesOf (λ m e site. step_at db m trigger e short site site.node) trigger (λ moves. tt)
      (λ e own is. one_step_gives trigger e short site.node own refl)
  event_gives (Stop trigger short made) =
      by_trigger host site GivesOf (λ m e site. stop_at db m e short made site site.node) trigger (λ moves. tt)
      (λ e own _. stop_gives e short made site.node)
  event_gives (Fault trigger short made) =
      by_trigger host site GivesOf (λ m e site. fault_at db m e short made site site.node) trigger (λ moves. tt)
      (λ e own _. fault_gives e short made site.node)
  event_gives (Crash zero) = λ moves. tt
  event_gives (Crash (suc k)) = λ moves. tt
  event_gives (Restart zero true) = λ moves. tt
  event_gives (Restart zero false) = λ moves. tt
  event_gives (Restart (suc k) failed) = λ moves. tt

-- ---- runs

-- what begins a front of a list begins the list
begins_later : (front middle whole : List Transaction) → Begins front middle → Begins middle whole → Begins front whole
begins_later front middle whole one two =
    (one.0 ++ two.0, two.1 ∙ ap (λ (l : List Transaction). l ++ two.0) one.1 ∙ append_assoc front one.0 two.0)

given_after : (db : Database) (host : Host) (r : Run) (e : Event) → IsKept db host r → All (IsGivenSingle db (order_of r.announcements)) r.given → All (IsGivenSingle db (order_of (run_after db r e).announcements)) (run_after db r e).given
given_after db host r e kept all =
    let leaves = event_leaves db host r e kept in
    let later = run_after db r e in
    let order = order_of later.announcements in
    let P : World → Type 0 = λ w.
    let h = happens db w e in
    let after = entered r.book h.entries in
    Begins (order_of r.announcements) (order_of (announced after h.seen r.announcements)) → Gives (IsGivenSingle db (order_of (announced after h.seen r.announcements))) after h.seen r.announcements in
    all_given (IsGivenSingle db order) later.book (happens db r.world e).seen r.announcements r.given
    (subst P (sym kept.world) (event_gives db host r.book r.announcements kept.site kept.stands e) leaves.moves)
    (All-weaker (IsGivenSingle db (order_of r.announcements)) (IsGivenSingle db order) (λ g is. record { replied = is.replied; begins = begins_later _ (order_of r.announcements) order is.begins leaves.moves }) r.given all)

along : (db : Database) (host : Host) (r : Run) (events : List Event) → IsKept db host r → All (IsGivenSingle db (order_of r.announcements)) r.given → All (IsGivenSingle db (order_of (run_through db r events).announcements)) (run_through db r events).given
along db host r [] kept all = all
along db host r (e ∷ events) kept all = along db host (run_after db r e) events (goes_on db host r e kept) (given_after db host r e kept all)

pub given_are_single : GivenAreSingle
given_are_single db host clock failed events =
    along db host (first_run (first_world (host ∷ []) clock (failed ∷ []))) events (first_kept db host clock failed) (All-nil _)
