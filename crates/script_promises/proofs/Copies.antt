-- One order, what is kept, and single replies: of the run of a cell of one, by the laws of such runs and of the database.
use Rattle.std.proofs.Common.{◌≡◌, ℕ, Bool, true, List, [], ◌∷◌, ◌++◌, Option, Some, None, IsSome, IfSome, get_or, refl, sym, ap, subst}
use Rattle.std.proofs.lemmas.List.Elements.{All-weaker}
use Rattle.std.specs.Prelude.{All, Contains, option_map}
use Rattle.ubik_calls.specs.declared.replies.Reply.TheVariants as reply
use Rattle.db_image.specs.declared.services.CallReply.{CallReply}
use Rattle.db_image.specs.declared.services.CallReply.TheVariants as call_reply
use Rattle.db_image.specs.Standing.{Standing}
use Rattle.cell_model.specs.Book.{Run, first_run, run_after, run_through}
use Rattle.cell_model.specs.Durable.{Transaction}
use Rattle.cell_model.specs.KeptLaws.{AcknowledgedStay, OksAreAcknowledged, SitesAreSingle, RepliesAreSingle, IsPlaced, IsRecorded, IsSingle, IsSeenSingle, IsAnsweredBy, Answered, answered_with, answered_by, single_answer}
use Rattle.cell_model.specs.Laws.{AnnouncementsGrow, Grows, run_of_one}
use Rattle.cell_model.specs.Node.{Node, Down, Halted, Up}
use Rattle.cell_model.specs.SingleCopy as single
use Rattle.cell_model.specs.Step.{Member, Evaluation}
use Rattle.cell_model.specs.World.{Site, World, Trigger, Delivery, Beacon_turn, Recover_turn, Asking, Event, Tick, Tick_all, Step, Stop, Fault, Crash, Restart, Happening, Sent, Announced, Replied, Lost, Stops, Halts, Restarts, Stays_down, member, site_of, happens, first_world}
use Rattle.cell_runs.specs.Script.{Cell}
use Rattle.script_laws.specs.Runs.{first_of, FindsMemory, IsFound, IsScripted}
use Rattle.script_laws.proofs.Parts.{run-append}
use Rattle.script_promises.specs.Kept.{HasState, IsCounted, IsKept, IsSiteOf, transaction_at, state_after}
use Rattle.script_promises.specs.Lawful.{IsLawful}
use Rattle.script_promises.specs.Order.{HasOneOrder, order_in, run_at}
use Rattle.script_promises.specs.Replies.{HasSingleReplies, IsProper, IsSeenOf, meant_reply, single_in}
use Rattle.script_promises.proofs.Proper.{FineSeen, FineWorld, GoodCall, first_fine, fine_run, the_host}
use Rattle.script_promises.proofs.SingleStates.{image_stands, reply_meant, never_bad, counted}

over_some : {X : Type 0} (P Q : X → Type 0) (o : Option X) → IfSome o P → ((x : X) → P x → Q x) → IfSome o Q
over_some P Q None is goes = tt
over_some P Q (Some x) is goes = goes x is

all_both : {X : Type 0} (P Q R : X → Type 0) → ((x : X) → P x → Q x → R x) → (xs : List X) → All P xs → All Q xs → All R xs
all_both P Q R goes xs p q = λ k d inside. goes (get_or xs k d) (p k d inside) (q k d inside)

same_some : {X : Type 0} {a b : X} → Some a ≡ Some b → a ≡ b
same_some e = cc

-- ---- what is told over images and what is told by the meaning of calls is the same, as all replies are

module _ (f g : ℕ → List ℕ → CallReply) (same : (now : ℕ) (call : List ℕ) → f now call ≡ g now call) (w : World) where
  same_at : (server id : ℕ) (call : List ℕ) (found : Option Site)
      → option_map (λ (site : Site). answered_with server id (f site.clock call)) found
      ≡ option_map (λ (site : Site). answered_with server id (g site.clock call)) found
  same_at server id call None = refl
  same_at server id call (Some site) = ap (λ (r : CallReply). Some (answered_with server id r)) (same site.clock call)

  same_trigger : (trigger : Trigger) (short : List Bool) → answered_by f w (Step trigger short) ≡ answered_by g w (Step trigger short)
  same_trigger (Delivery number) short = refl
  same_trigger (Beacon_turn server) short = refl
  same_trigger (Recover_turn server) short = refl
  same_trigger (Asking server id call) short = same_at server id call (site_of w server)

  same_answer : (event : Event) → answered_by f w event ≡ answered_by g w event
  same_answer (Tick server seconds) = refl
  same_answer (Tick_all seconds) = refl
  same_answer (Step trigger short) = same_trigger trigger short
  same_answer (Stop trigger short made) = refl
  same_answer (Fault trigger short made) = refl
  same_answer (Crash server) = refl
  same_answer (Restart server failed) = refl

-- ---- calls and replies

-- bytes that are a call are a good call
good_call : (d : Standing) → IsLawful d → (call : List ℕ) → IsSome (d.database.writes call) → GoodCall d.database call
good_call d laws call some = record { some = some; answers = λ image now malformed. laws.answers image now call some malformed }

-- nothing that is told by the meaning of calls is that the database is bad
module _ (d : Standing) (laws : IsLawful d) (transactions : List Transaction) (w : World) (server id at : ℕ) where
  abbrev BadAnswer : Option Answered → Type 0
  BadAnswer o = o ≡ Some (answered_with server id (call_reply.BadRecord at))

  bad_site : (asked i : ℕ) (call : List ℕ) (found : Option Site)
      → BadAnswer (option_map (λ (site : Site). answered_with asked i (meant_reply d transactions site.clock call)) found) → ⊥
  bad_site asked i call None is = cc
  bad_site asked i call (Some site) is = never_bad d laws transactions site.clock call at (ap (λ (s : Answered). s.reply) (same_some is))

  bad_trigger : (trigger : Trigger) (short : List Bool) → BadAnswer (answered_by (meant_reply d transactions) w (Step trigger short)) → ⊥
  bad_trigger (Delivery number) short is = cc
  bad_trigger (Beacon_turn asked) short is = cc
  bad_trigger (Recover_turn asked) short is = cc
  bad_trigger (Asking asked i call) short is = bad_site asked i call (site_of w asked) is

  never_bad_record : (event : Event) → BadAnswer (answered_by (meant_reply d transactions) w event) → ⊥
  never_bad_record (Tick asked seconds) is = cc
  never_bad_record (Tick_all seconds) is = cc
  never_bad_record (Step trigger short) is = bad_trigger trigger short is
  never_bad_record (Stop trigger short made) is = cc
  never_bad_record (Fault trigger short made) is = cc
  never_bad_record (Crash asked) is = cc
  never_bad_record (Restart asked failed) is = cc

-- what is seen is proper
module _ (d : Standing) (laws : IsLawful d) (transactions : List Transaction) (w : World) (event : Event) where
  abbrev Seen : Happening → Type 0
  Seen seen = IsSeenOf (answered_by (meant_reply d transactions) w event) seen

  proper : (seen : Happening) → FineSeen seen → Seen seen → IsProper seen
  proper (Sent number packet) fine is = fine
  proper (Announced server version) fine is = tt
  proper (Replied server id (reply.Ok fields) evaluation) fine is = tt
  proper (Replied server id (reply.Rule number) evaluation) fine is = tt
  proper (Replied server id (reply.NoQuorum at until phase applied) evaluation) fine is = tt
  proper (Replied server id (reply.NotSync host heard) evaluation) fine is = fine
  proper (Replied server id (reply.LineFull holder) evaluation) fine is = fine
  proper (Replied server id (reply.TooLarge bytes) evaluation) fine is = tt
  proper (Replied server id reply.Malformed evaluation) fine is = fine
  proper (Replied server id reply.DiskFault evaluation) fine is = tt
  proper (Replied server id (reply.BadRecord at) evaluation) fine is = absurd (never_bad_record d laws transactions w server id at event is)
  proper (Replied server id reply.NoMemory evaluation) fine is = fine
  proper (Lost number) fine is = fine
  proper (Stops server) fine is = tt
  proper (Halts server) fine is = tt
  proper (Restarts server version) fine is = tt
  proper (Stays_down server) fine is = tt

-- what is seen of a reply is the single copy's answer
seen_of_single : (d : Standing) (r later : Run) (e : Event) (answer : Option Answered) → single_answer d.database (order_in r) r.world e ≡ answer
    → (seen : Happening) → IsSeenSingle d.database r later e seen → IsSeenOf answer seen
seen_of_single d r later e answer is (Replied server id replied evaluation) told =
    subst (λ (o : Option Answered). IsAnsweredBy o server id replied) is told.0
seen_of_single d r later e answer is (Sent number packet) told = tt
seen_of_single d r later e answer is (Announced server version) told = tt
seen_of_single d r later e answer is (Lost number) told = tt
seen_of_single d r later e answer is (Stops server) told = tt
seen_of_single d r later e answer is (Halts server) told = tt
seen_of_single d r later e answer is (Restarts server version) told = tt
seen_of_single d r later e answer is (Stays_down server) told = tt

-- a ready sync site's image stands for the state of the order
has_state : (d : Standing) → IsLawful d → (order : List Transaction) (m : Member) (clock : ℕ) (node : Node) → IsSingle d.database order m clock node
    → HasState d order m clock node
has_state d laws order m clock Down is = tt
has_state d laws order m clock (Halted h) is = tt
has_state d laws order m clock (Up s) is = λ ready.
    let P : List ℕ → Type 0 = λ image. d.StandsFor image (state_after d order) in subst P (sym (is ready)) (image_stands d laws order)

-- ---- a cell of one

pub record IsOfOne (c : Cell) : Type 0 where
  pub failed : Bool
  pub first : first_of c ≡ first_world (the_host ∷ []) c.opening.clock (failed ∷ [])

module _ (d : Standing) (c : Cell) (one : IsOfOne c) where
  -- its run is one of the runs that the laws speak of
  same_run : (events : List Event) → run_of_one d.database the_host c.opening.clock one.failed events ≡ run_at d c events
  same_run events = ap (λ (w : World). run_through d.database (first_run w) events) (sym one.first)

  pub one_order : AnnouncementsGrow → HasOneOrder d c
  one_order law =
      subst (λ (r : Run). Grows r.announcements) (same_run c.events) (law d.database the_host c.opening.clock one.failed c.events)

  -- ---- what is kept

  abbrev Stays : List Event → Run → Type 0
  Stays middle r =
      let later = run_through d.database r middle in
      All (λ a. Contains later.acknowledged a × IsPlaced (order_in later) a) r.acknowledged

  stays_placed : (middle : List Event) (r : Run) → Stays middle r
      → All (IsPlaced (order_in (run_through d.database r middle))) r.acknowledged
  stays_placed middle r stays =
      let later = run_through d.database r middle in
      All-weaker (λ a. Contains later.acknowledged a × IsPlaced (order_in later) a) (IsPlaced (order_in later)) (λ a both. both.1)
      r.acknowledged stays

  kept_stays : AcknowledgedStay → (front middle : List Event)
      → All (IsPlaced (order_in (run_at d c (front ++ middle)))) (run_at d c front).acknowledged
  kept_stays law front middle =
      let r = run_at d c front in
      let whole : run_through d.database r middle ≡ run_at d c (front ++ middle) =
      sym (run-append d.database (first_run (first_of c)) front middle) in
      subst (λ (x : Run). All (IsPlaced (order_in x)) r.acknowledged) whole
      (stays_placed middle r
      (subst (Stays middle) (same_run front) (law d.database the_host c.opening.clock one.failed front middle)))

  abbrev SingleAt : ℕ → Run → Type 0
  SingleAt k r = IfSome (site_of r.world k) (λ site. IsSingle d.database (order_in r) (member r.world k) site.clock site.node)

  kept_sites : IsLawful d → SitesAreSingle → (front : List Event) (k : ℕ)
      → IfSome (site_of (run_at d c front).world k) (IsSiteOf d (order_in (run_at d c front)) (member (run_at d c front).world k))
  kept_sites laws law front k =
      let r = run_at d c front in
      let m = member r.world k in
      over_some (λ site. IsSingle d.database (order_in r) m site.clock site.node) (IsSiteOf d (order_in r) m) (site_of r.world k)
      (subst (SingleAt k) (same_run front) (law d.database the_host c.opening.clock one.failed front k))
      (λ site is. (is, has_state d laws (order_in r) m site.clock site.node is))

  module _ (server id : ℕ) (call fields : List ℕ) (evaluation : Option Evaluation) (short : List Bool) where
    abbrev asking : Event
    asking = Step (Asking server id call) short

    abbrev Recorded : Run → Type 0
    Recorded r =
        Contains (happens d.database r.world asking).seen (Replied server id (reply.Ok fields) evaluation) →
        IfSome (site_of r.world server) (λ site. IsRecorded d.database r (run_after d.database r asking) (transaction_at call site))

    kept_recorded : IsLawful d → OksAreAcknowledged → (front : List Event) → d.database.writes call ≡ Some true
        → Contains (happens d.database (run_at d c front).world asking).seen (Replied server id (reply.Ok fields) evaluation)
        → IfSome (site_of (run_at d c front).world server)
        (λ site. IsCounted d (run_at d c front) (run_after d.database (run_at d c front) asking) (transaction_at call site))
    kept_recorded laws law front writes seen =
        let r = run_at d c front in
        let later = run_after d.database r asking in
        over_some (λ site. IsRecorded d.database r later (transaction_at call site)) (λ site. IsCounted d r later (transaction_at call site))
        (site_of r.world server)
        (subst Recorded (same_run front)
        (λ shown. law d.database the_host c.opening.clock one.failed front server id call fields evaluation short writes shown) seen)
        (λ site. counted d laws r later (transaction_at call site))

  pub kept : IsLawful d → AcknowledgedStay → SitesAreSingle → OksAreAcknowledged → IsKept d c
  kept laws stay sites oks = record {
    stays = λ front middle back split. kept_stays stay front middle;
    sites = λ front back split k. kept_sites laws sites front k;
    recorded = λ front back server id call fields evaluation short split writes seen.
        kept_recorded server id call fields evaluation short laws oks front writes seen;
  }

  -- ---- single replies

  abbrev AllSingle : Event → Run → Type 0
  AllSingle e r = All (IsSeenSingle d.database r (run_after d.database r e) e) (happens d.database r.world e).seen

  pub single_replies : IsLawful d → RepliesAreSingle → All (IsScripted d.database) c.events → FindsMemory c → HasSingleReplies d c
  single_replies laws law scripted found = λ front back e split.
      let r = run_at d c front in
      let later = run_after d.database r e in
      let order = order_in r in
      let same : single_answer d.database order r.world e ≡ single_in d r e =
      same_answer (single.reply_after d.database order) (meant_reply d order) (reply_meant d laws order) r.world e in
      let first : FineWorld (first_of c) = subst FineWorld (sym one.first) (first_fine c.opening.clock one.failed) in
      let fine : All FineSeen (happens d.database r.world e).seen =
      fine_run d.database (good_call d laws) (first_run (first_of c)) front back e first
      (subst (All (IsScripted d.database)) split scripted) (subst (All IsFound) split found) in
      all_both (IsSeenSingle d.database r later e) FineSeen (λ seen. IsSeenOf (single_in d r e) seen × IsProper seen)
      (λ seen told good. let is = seen_of_single d r later e (single_in d r e) same seen told in (is, proper d laws order r.world e seen good is))
      (happens d.database r.world e).seen
      (subst (AllSingle e) (same_run front) (law d.database the_host c.opening.clock one.failed front e)) fine
