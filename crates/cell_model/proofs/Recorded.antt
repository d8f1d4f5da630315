-- After a run of a cell of one server, an Ok to a call that writes is acknowledged, or the call changes nothing.
use Rattle.std.proofs.Common.{Bool, true, ◌≡◌, ◌⊎◌, inl, inr, ℕ, zero, suc, ◌-◌, List, [], ◌∷◌, ◌++◌, length, refl, sym, ap, subst, ◌∙◌, arith, length-append}
use Rattle.std.proofs.lemmas.List.Elements.{All-nil, All-cons, All-contains}
use Rattle.std.specs.Prelude.{Option, Some, None, All, Contains, IfSome}
use Rattle.ubik_types.specs.declared.hosts.Host.{Host}
use Rattle.ubik_calls.specs.declared.replies.Reply.{Reply}
use Rattle.ubik_calls.specs.declared.replies.Reply.TheVariants as reply
use Rattle.db_image.specs.Database.{Database, changes_of}
use Rattle.cell_model.specs.declared.events.NodeEvent.TheVariants as event
use Rattle.cell_model.specs.declared.events.Output.{Output}
use Rattle.cell_model.specs.declared.events.Output.TheVariants as output
use Rattle.cell_model.specs.Book.{Book, Announcement, Acknowledgement, list_or_none, entered, announced, acknowledged, order_of}
use Rattle.cell_model.specs.Durable.{Durable, Transaction, Made, durable}
use Rattle.cell_model.specs.KeptLaws.{ChangesNothing, OksAreAcknowledged}
use Rattle.cell_model.specs.Laws.{run_of_one}
use Rattle.cell_model.specs.Node.{Node, Down, Halted, Up, Server}
use Rattle.cell_model.specs.NodeRule.{step_of}
use Rattle.cell_model.specs.SingleCopy.{image_after}
use Rattle.cell_model.specs.Step.{Evaluation, Shown, Stepped}
use Rattle.cell_model.specs.World.{Site, World, Step, Asking, Happening, Announced, Replied, SiteHappened, number_after, packet_of, seen_of_output, seen_from, step_at, step_up, site_of, happens}
use Rattle.cell_model.specs.Writes.{own_commit}
use Rattle.cell_model.proofs.BlockChanges.{same_image}
use Rattle.cell_model.proofs.Kept.{Stands, StandsUp, StandsNode, KnowsUp, seen_at, step_at_site}
use Rattle.cell_model.proofs.KeptRuns.{world_of, run_kept, knows}
use Rattle.cell_model.proofs.BookVersions.{book_after, list_is, image_from-append, goes_committed}
use Rattle.cell_model.proofs.SingleReplies.{ready_image}
use Rattle.cell_model.proofs.StepKinds.{one_of, IsTold, IsToldOutput, AllTold, made_at, commit_evaluation, IsStep, step_is}

-- the transaction is acknowledged, at its place, and the order goes on with it; or it changes nothing
abbrev Recorded : Database → (before after : List Transaction) → (acks later : List Acknowledgement) → Transaction → Type 0
Recorded db before after acks later t =
    (((a : Acknowledgement) × (later ≡ a ∷ acks) × (a.transaction ≡ t) × (a.place ≡ length before)) × (after ≡ before ++ t ∷ []))
    ⊎ ChangesNothing db before t

-- if this is an Ok, the claim holds
abbrev OnOk : Type 0 → Happening → Type 0
OnOk claim (Replied server id (reply.Ok fields) evaluation) = claim
OnOk claim _ = Unit {0}

-- what is asked is known from its answer
same_call : (id other : ℕ) (call bytes : List ℕ) → event.Ask id call ≡ event.Ask other bytes → bytes ≡ call
same_call id other call bytes is = cc

-- a call that changes no block of the image of the order
unchanged : (db : Database) (order : List Transaction) (image : List ℕ) (now : ℕ) (call : List ℕ) → image ≡ image_after db order → changes_of db image (db.call image now call).image ≡ [] → ChangesNothing db order (made_at now call)
unchanged db order image now call is none =
    (no_changes, λ some longer. same_image db.head db.block (image_after db order) (image_after db (order ++ made_at now call ∷ [])) no_changes some longer)
  where
    after : (db.call image now call).image ≡ image_after db (order ++ made_at now call ∷ [])
    after = ap (λ (i : List ℕ). (db.call i now call).image) is ∙ sym (image_from-append db [] order (made_at now call ∷ []))

    no_changes : changes_of db (image_after db order) (image_after db (order ++ made_at now call ∷ [])) ≡ []
    no_changes =
        let old : changes_of db image (db.call image now call).image ≡ changes_of db (image_after db order) (db.call image now call).image =
        ap (λ (i : List ℕ). changes_of db i (db.call image now call).image) is in
        let new : changes_of db (image_after db order) (db.call image now call).image ≡ changes_of db (image_after db order) (image_after db (order ++ made_at now call ∷ [])) =
        ap (changes_of db (image_after db order)) after in
        sym new ∙ sym old ∙ none

module _ (db : Database) (book : Book) (ann : List Announcement) (acks : List Acknowledgement) (s : Server) (now id : ℕ) (call : List ℕ) (list : List Transaction) (up : KnowsUp db book ann s list) (writes : db.writes call ≡ Some true) where
  abbrev order : List Transaction
  order = order_of ann

  reply_recorded : (after : List Transaction) (later : List Acknowledgement) (other : ℕ) (r : Reply) (evaluation : Option Evaluation) → IsTold db s now (event.Ask id call) other r evaluation → OnOk (Recorded db order after acks later (made_at now call)) (Replied 0 other r evaluation)
  reply_recorded after later other (reply.Ok fields) evaluation told =
      let P : List ℕ → Type 0 = λ bytes. db.writes bytes ≡ Some true → changes_of db s.image (db.call s.image now bytes).image ≡ [] in
      let same : db.writes call ≡ Some true → changes_of db s.image (db.call s.image now call).image ≡ [] =
      subst P (same_call id other call told.given.answered.call told.given.answered.asked) told.same in
      inr (unchanged db order s.image now call (ready_image db book ann s list up told.given.answered.ready) (same writes))
  reply_recorded after later other _ evaluation told = tt

  output_recorded : (after : List Transaction) (later : List Acknowledgement) (number : ℕ) (o : Output) (evaluation : Option Evaluation) → IsToldOutput db s now (event.Ask id call) o evaluation → OnOk (Recorded db order after acks later (made_at now call)) (seen_of_output 0 number o evaluation)
  output_recorded after later number (output.Send packet) evaluation told = tt
  output_recorded after later number (output.Reply other r) evaluation told = reply_recorded after later other r evaluation told
  output_recorded after later number (output.Announce version) evaluation told = tt

  shown_recorded : (after : List Transaction) (later : List Acknowledgement) (number : ℕ) (shown : List Shown) → AllTold db s now (event.Ask id call) shown → All (OnOk (Recorded db order after acks later (made_at now call))) (seen_from 0 number shown ++ [])
  shown_recorded after later number [] told = All-nil _
  shown_recorded after later number (one ∷ shown) told =
      All-cons (OnOk (Recorded db order after acks later (made_at now call))) (seen_of_output 0 number one.output one.evaluation) (seen_from 0 (number_after number (packet_of one)) shown ++ [])
      (output_recorded after later number one.output one.evaluation told.0) (shown_recorded after later (number_after number (packet_of one)) shown told.1)

  -- what an Ok of a site claims
  abbrev Claims : SiteHappened → Type 0
  Claims h =
      let after = entered book h.entries in
      All (OnOk (Recorded db order (order_of (announced after (seen_at h) ann)) acks (acknowledged after (seen_at h) acks) (made_at now call))) (seen_at h)

  step_recorded : (site : Site) (t : Stepped) → IsStep db s now (event.Ask id call) t → Claims (step_at_site site s (event.Ask id call) t.server t.calls t.shown)
  step_recorded site t (inl rests) =
      let after = book_after book s.version t.calls in
      let seen = seen_from 0 1 t.shown ++ [] in
      shown_recorded (order_of (announced after seen ann)) (acknowledged after seen acks) 1 t.shown rests.told
  step_recorded site t (inr (inl made)) =
      let P : List Shown → Type 0 = λ shown. Claims (step_at_site site s (event.Ask id call) t.server t.calls shown) in
      subst P (sym made.shown) (All-cons (OnOk _) (Announced 0 made.new) [] tt (All-nil (OnOk _)))
  step_recorded site t (inr (inr made)) =
      let P : List Made → Type 0 = λ calls. Claims (step_at_site site s (event.Ask id call) t.server calls t.shown) in
      let Q : List Shown → Type 0 = λ shown. Claims (step_at_site site s (event.Ask id call) t.server (own_commit made.new made.changes (db.call s.image now made.answered.call).image one ∷ []) shown) in
      subst P (sym made.calls) (subst Q (sym made.shown)
      (All-cons (OnOk claim) (Announced 0 made.new) (Replied 0 made.id (reply.Ok made.answer) (Some evaluation) ∷ []) tt
      (All-cons (OnOk claim) (Replied 0 made.id (reply.Ok made.answer) (Some evaluation)) [] holds (All-nil (OnOk claim)))))
    where
      one : Transaction
      one = made_at now made.answered.call

      evaluation : Evaluation
      evaluation = commit_evaluation now made.answered.call s.version made.new

      after : Book
      after = book_after book s.version (own_commit made.new made.changes (db.call s.image now made.answered.call).image one ∷ [])

      whole : List Transaction
      whole = list_or_none after made.new

      a : Acknowledgement
      a = record { transaction = one; version = made.new; place = length whole - 1 }

      claim : Type 0
      claim = Recorded db order whole acks (a ∷ acks) (made_at now call)

      same : one ≡ made_at now call
      same = ap (made_at now) (same_call id made.id call made.answered.call made.answered.asked)

      goes : whole ≡ order ++ one ∷ []
      goes =
          list_is after made.new (list ++ one ∷ []) (goes_committed db book (durable s.version s.image) list up.is made.new made.changes now made.answered.call).listed
          ∙ ap (λ (l : List Transaction). l ++ one ∷ []) (sym (up.ready made.answered.ready))

      place : length whole - 1 ≡ length order
      place = omega (arith, ap length goes, length-append order (one ∷ []))

      holds : claim
      holds = inl ((a, refl, same, place), goes ∙ ap (λ (t : Transaction). order ++ t ∷ []) same)

-- ---- events

module _ (db : Database) (host : Host) (book : Book) (ann : List Announcement) (acks : List Acknowledgement) (site : Site) (stands : Stands db book ann site) (id : ℕ) (call : List ℕ) (short : List Bool) (writes : db.writes call ≡ Some true) where
  -- what an Ok of a site claims of the transaction
  abbrev ClaimsAt : SiteHappened → Type 0
  ClaimsAt h =
      let after = entered book h.entries in
      All (OnOk (Recorded db (order_of ann) (order_of (announced after (seen_at h) ann)) acks (acknowledged after (seen_at h) acks) (made_at site.clock call))) (seen_at h)

  site_recorded : (node : Node) → site.node ≡ node → ClaimsAt (step_at db (one_of host) (Asking 0 id call) (event.Ask id call) short site node)
  site_recorded Down is = All-nil _
  site_recorded (Halted h) is = All-cons (OnOk _) (Replied 0 id reply.DiskFault None) [] tt (All-nil (OnOk _))
  site_recorded (Up s) is =
      let P : Node → Type 0 = λ n. StandsNode ann stands.list site.durable n in
      let up : StandsUp ann stands.list site.durable s = subst P is stands.node in
      let t = step_of db (one_of host) s site.clock (event.Ask id call) short in
      let Q : Durable → Type 0 = λ d. ClaimsAt (step_up 0 (record site { durable = d }) (event.Ask id call) s.version t) in
      subst Q (sym up.durable_is)
      (step_recorded db book ann acks s site.clock id call stands.list (knows db book ann site s stands up) writes site t
      (step_is db host s site.clock (event.Ask id call) short tt up.alone))

-- what is claimed of a world
abbrev ClaimsOf : Database → Book → List Announcement → List Acknowledgement → ℕ → ℕ → List ℕ → List ℕ → Option Evaluation → List Bool → World → Type 0
ClaimsOf db book ann acks server id call fields evaluation short w =
    let h = happens db w (Step (Asking server id call) short) in
    let after = entered book h.entries in
    Contains h.seen (Replied server id (reply.Ok fields) evaluation) →
    IfSome (site_of w server) (λ site. Recorded db (order_of ann) (order_of (announced after h.seen ann)) acks (acknowledged after h.seen acks) (made_at site.clock call))

world_recorded : (db : Database) (host : Host) (book : Book) (ann : List Announcement) (acks : List Acknowledgement) (site : Site) (server id : ℕ) (call fields : List ℕ) (evaluation : Option Evaluation) (short : List Bool) → Stands db book ann site → db.writes call ≡ Some true → ClaimsOf db book ann acks server id call fields evaluation short (world_of host site)
world_recorded db host book ann acks site zero id call fields evaluation short stands writes = λ seen.
    let h = step_at db (one_of host) (Asking 0 id call) (event.Ask id call) short site site.node in
    let after = entered book h.entries in
    let claim : Type 0 = Recorded db (order_of ann) (order_of (announced after (seen_at h) ann)) acks (acknowledged after (seen_at h) acks) (made_at site.clock call) in
    All-contains (OnOk claim) (seen_at h) (Replied 0 id (reply.Ok fields) evaluation) (site_recorded db host book ann acks site stands id call short writes site.node refl) seen
world_recorded db host book ann acks site (suc k) id call fields evaluation short stands writes = λ seen. tt

pub oks_are_acknowledged : OksAreAcknowledged
oks_are_acknowledged db host clock failed events server id call fields evaluation short writes seen =
    let r = run_of_one db host clock failed events in
    let kept = run_kept db host clock failed events in
    subst (ClaimsOf db r.book r.announcements r.acknowledged server id call fields evaluation short) (sym kept.world)
    (world_recorded db host r.book r.announcements r.acknowledged kept.site server id call fields evaluation short kept.stands writes) seen
