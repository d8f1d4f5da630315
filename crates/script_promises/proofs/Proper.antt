-- What is seen in a cell of one server of which each event is one that a script may bring: no packet, and only proper replies.
use Rattle.std.proofs.Common.{inl, inr, Bool, true, false, true≢false, ◌==◌, ◌≡◌, ◌≢◌, ◌+◌, ℕ, zero, suc, List, [], ◌∷◌, ◌++◌, length, map, Option, Some, None, IsSome, refl, sym, ap, subst, ◌∙◌}
use Rattle.std.proofs.lemmas.Bool.{cond_both}
use Rattle.std.proofs.lemmas.List.Elements.{All-nil, All-cons, All-head, All-tail}
use Rattle.std.specs.Prelude.{All, nat_lt, is_some, option_map}
use Rattle.ubik_types.specs.declared.images.Change.{Change}
use Rattle.ubik_types.specs.declared.versions.TheConstants.{MAX_COUNTER}
use Rattle.ubik_types.specs.declared.phases.Phase.TheVariants as phases
use Rattle.ubik_types.specs.declared.phases.Applied.TheVariants as applied
use Rattle.ubik_types.specs.Logged.{too_large}
use Rattle.ubik_types.specs.Quorum.{is_majority}
use Rattle.ubik_types.specs.Version.{version_lt}
use Rattle.ubik_types.specs.Votes.{Heard, VoteState, answers_yes, answered, beacon_is_due, still_heard, sync_with, sync_heard}
use Rattle.ubik_types.specs.Phase.{Polled, PhaseRecord, NoPhase, Poll, Fetch, Relabel, Send, Ready}
use Rattle.ubik_calls.specs.declared.replies.Reply.{Reply}
use Rattle.ubik_calls.specs.declared.replies.Reply.TheVariants as reply
use Rattle.db_image.specs.declared.services.CallReply.{CallReply}
use Rattle.db_image.specs.declared.services.CallReply.TheVariants as call_reply
use Rattle.db_image.specs.Database.{Database, changes_of}
use Rattle.cell_model.specs.declared.events.NodeEvent.{NodeEvent}
use Rattle.cell_model.specs.declared.events.NodeEvent.TheVariants as event
use Rattle.cell_model.specs.declared.events.Output.{Output}
use Rattle.cell_model.specs.declared.events.Output.TheVariants as output
use Rattle.cell_model.specs.Asks.{read_reply, write_asked, served, asked_elsewhere, asked_as, allows_reads, not_served}
use Rattle.cell_model.specs.Evaluating.{always}
use Rattle.cell_model.specs.Lapse.{flight_refused, waiting_refused, without_writes, write_lapsed, no_quorum}
use Rattle.cell_model.specs.Node.{Node, Down, Halted, Up, Server, Flight, Waiting}
use Rattle.cell_model.specs.NodeRule.{step_of, step_by, handled, refusals}
use Rattle.cell_model.specs.Polls.{polling, new_poll, best_answer}
use Rattle.cell_model.specs.Recovery.{relabelled, polled, recovered}
use Rattle.ubik_types.specs.declared.hosts.Host.{Host}
use Rattle.cell_model.specs.Step.{Member, Evaluation, Shown, Stepped, followed, showing, quiet, with_phase, leased, is_ready, refusing, short_after}
use Rattle.cell_model.specs.Writes.{written_in, written_small, written_within, turned}
use Rattle.std.specs.List.{cons_option}
use Rattle.ubik_calls.specs.declared.packets.Packet.{Packet}
use Rattle.cell_model.specs.Book.{Run, run_after, run_through}
use Rattle.cell_model.specs.World.{Site, World, Trigger, Delivery, Beacon_turn, Recover_turn, Asking, Event, Tick, Tick_all, Step, Stop, Fault, Crash, Restart, Happening, Announced, Replied, Stops, Halts, Restarts, Stays_down, Happened, SiteHappened, ticked, packet_in, packet_of, packets_of, number_after, seen_of_output, seen_from, happened_at, lost_at, step_at, stop_at, fault_at, crash_at, restart_at, nothing, happens, first_world}
use Rattle.cell_model.proofs.KeptRuns.{world_of}
use Rattle.script_laws.specs.Runs.{AsksACall, IsFound, IsScripted}
use Rattle.cell_model.proofs.StepKinds.{IsAlone, IsAlonePhase, IsOwn, IsStep, AllTold, IsToldOutput, one_of, step_is}

-- the one server of the cell
abbrev pub the_host : Host
the_host = record { 0 = 167772161 }

abbrev only : Member
only = one_of the_host

-- ---- no packet is shown

abbrev pub AllQuiet : List Shown → Type 0
AllQuiet [] = Unit {0}
AllQuiet (one ∷ shown) = (packet_in one.output ≡ None) × AllQuiet shown

quiet_output : (db : Database) (s : Server) (now : ℕ) (e : NodeEvent) (one : Shown) (o : Output) → one.output ≡ o
    → IsToldOutput db s now e o one.evaluation → packet_in one.output ≡ None
quiet_output db s now e one (output.Send packet) is told = absurd told
quiet_output db s now e one (output.Reply id r) is told = ap packet_in is
quiet_output db s now e one (output.Announce version) is told = absurd told

quiet_told : (db : Database) (s : Server) (now : ℕ) (e : NodeEvent) (shown : List Shown) → AllTold db s now e shown → AllQuiet shown
quiet_told db s now e [] told = tt
quiet_told db s now e (one ∷ shown) told = (quiet_output db s now e one one.output refl told.0, quiet_told db s now e shown told.1)

pub quiet_step : (db : Database) (s : Server) (now : ℕ) (e : NodeEvent) (t : Stepped) → IsStep db s now e t → AllQuiet t.shown
quiet_step db s now e t (inl rests) = quiet_told db s now e t.shown rests.told
quiet_step db s now e t (inr (inl relabels)) = subst AllQuiet (sym relabels.shown) (refl, tt)
quiet_step db s now e t (inr (inr commits)) = subst AllQuiet (sym commits.shown) (refl, (refl, tt))

pub still_alone : (db : Database) (s : Server) (now : ℕ) (e : NodeEvent) (t : Stepped) → IsStep db s now e t → IsAlone t.server
still_alone db s now e t (inl rests) = rests.alone
still_alone db s now e t (inr (inl relabels)) = relabels.alone
still_alone db s now e t (inr (inr commits)) = commits.alone

-- ---- replies and votes

-- a reply that is not for want of memory, nor to bytes that are no call, and tells of no other server and no line
abbrev pub FineReply : Reply → Type 0
FineReply reply.Malformed = ⊥
FineReply reply.NoMemory = ⊥
FineReply (reply.NotSync host heard) = ⊥
FineReply (reply.LineFull holder) = ⊥
FineReply _ = Unit {0}

abbrev pub FineOutput : Output → Type 0
FineOutput (output.Reply id r) = FineReply r
FineOutput _ = Unit {0}

abbrev pub AllFine : List Shown → Type 0
AllFine [] = Unit {0}
AllFine (one ∷ shown) = FineOutput one.output × AllFine shown

-- no other server was heard to claim the lease
abbrev pub OwnHeard : Option Heard → Type 0
OwnHeard None = Unit {0}
OwnHeard (Some h) = h.server ≡ 0

pub record IsFine (t : Stepped) : Type 0 where
  pub heard : OwnHeard t.server.votes.sync
  pub shown : AllFine t.shown

still_own : (now : ℕ) (o : Option Heard) → OwnHeard o → OwnHeard (still_heard now o)
still_own now None is = tt
still_own now (Some h) is = cond_both (nat_lt (h.at + 75) now) _ _ OwnHeard (λ _. tt) (λ _. is)

sync_own : (now : ℕ) (claim : Bool) (o : Option Heard) → OwnHeard o → OwnHeard (sync_with now 0 claim o)
sync_own now true o is = refl
sync_own now false None is = tt
sync_own now false (Some h) is = cond_both (h.server == 0) _ _ OwnHeard (λ _. tt) (λ _. is)

answered_own : (votes : VoteState) (now : ℕ) (claim : Bool) → OwnHeard votes.sync → OwnHeard (answered votes now 0 claim).sync
answered_own votes now claim is =
    cond_both (answers_yes votes now 0 claim) _ _ (λ (v : VoteState). OwnHeard v.sync)
    (λ _. sync_own now claim (still_heard now votes.sync) (still_own now votes.sync is))
    (λ _. sync_own now claim (still_heard now votes.sync) (still_own now votes.sync is))

-- ---- turns

module _ (s : Server) (now : ℕ) (heard : OwnHeard s.votes.sync) where
  relabelled_fine : (poll : Polled) → IsFine (relabelled only s poll now)
  relabelled_fine poll =
      cond_both (nat_lt s.version.epoch now) _ _ IsFine (λ _. record { heard = heard; shown = (tt, tt) })
      (λ _. record { heard = heard; shown = tt })

  polled_fine : (poll : Polled) → IsFine (polled only s poll now)
  polled_fine poll =
      cond_both (is_majority 1 (map is_some poll.answers)) _ _ IsFine
      (λ _. cond_both (version_lt s.version (best_answer poll)) _ _ IsFine (λ _. record { heard = heard; shown = (tt, tt) })
      (λ _. relabelled_fine poll))
      (λ _. record { heard = heard; shown = tt })

begun_fine : (s : Server) (now : ℕ) → OwnHeard s.votes.sync → IsFine (polled only (polling only s now) (new_poll only s now) now)
begun_fine s now heard = polled_fine (polling only s now) now heard (new_poll only s now)

recovered_fine : (s : Server) (now : ℕ) (phase : PhaseRecord) → OwnHeard s.votes.sync → IsAlonePhase s.version phase
    → IsFine (recovered only s now phase)
recovered_fine s now NoPhase heard is =
    cond_both (leased only s now) _ _ IsFine (λ _. begun_fine s now heard) (λ _. record { heard = heard; shown = tt })
recovered_fine s now (Poll poll) heard is = polled_fine s now heard poll
recovered_fine s now (Fetch poll best from) heard is = absurd is
recovered_fine s now (Relabel poll) heard is = relabelled_fine s now heard poll
recovered_fine s now (Send poll spread) heard is = absurd is
recovered_fine s now (Ready poll spread announced) heard is = record { heard = heard; shown = tt }

-- ---- calls

-- bytes that the database takes for a call
pub record GoodCall (db : Database) (call : List ℕ) : Type 0 where
  pub some : IsSome (db.writes call)
  pub answers : (image : List ℕ) (now : ℕ) → (db.call image now call).reply ≢ call_reply.Malformed

module _ (db : Database) (s : Server) (now id : ℕ) (call : List ℕ) (heard : OwnHeard s.votes.sync) (none : s.flight ≡ None)
    (good : GoodCall db call) where
  replies : (r : Reply) (evaluation : Option Evaluation) → FineReply r
      → IsFine (showing s (record { output = output.Reply id r; evaluation = evaluation } ∷ []))
  replies r evaluation fine = record { heard = heard; shown = (fine, tt) }

  read_fine : (image : List ℕ) (e : Evaluation) (r : CallReply) → (db.call image now call).reply ≡ r
      → IsFine (showing s (read_reply id e r ∷ []))
  read_fine image e (call_reply.Done answer) is = replies (reply.Ok answer) (Some e) tt
  read_fine image e (call_reply.Rule number) is = replies (reply.Rule number) (Some e) tt
  read_fine image e call_reply.Malformed is = absurd (good.answers image now is)
  read_fine image e (call_reply.BadRecord at) is = replies (reply.BadRecord at) None tt

  refused : (waiting : List Waiting) → AllFine (waiting_refused waiting (no_quorum only s now phases.Poll applied.No))
  refused [] = tt
  refused (w ∷ waiting) = (tt, refused waiting)

  committed_fine : (answer image : List ℕ) (changes : List Change) (phase : PhaseRecord)
      → IsFine (written_in only s now id call answer image changes phase)
  committed_fine answer image changes (Ready poll spread announced) = record { heard = heard; shown = (tt, (tt, tt)) }
  committed_fine answer image changes NoPhase = record { heard = heard; shown = tt }
  committed_fine answer image changes (Poll poll) = record { heard = heard; shown = tt }
  committed_fine answer image changes (Fetch poll best from) = record { heard = heard; shown = tt }
  committed_fine answer image changes (Relabel poll) = record { heard = heard; shown = tt }
  committed_fine answer image changes (Send poll spread) = record { heard = heard; shown = tt }

  small_fine : (answer image : List ℕ) (changes : List Change) → IsFine (written_small only s now id call answer image changes)
  small_fine answer image [] = replies (reply.Ok answer) _ tt
  small_fine answer image (change ∷ changes) =
      cond_both (s.version.counter == MAX_COUNTER) _ _ IsFine (λ _. record { heard = heard; shown = (tt, refused s.waiting) })
      (λ _. committed_fine answer image (change ∷ changes) s.phase)

  within_fine : (answer image : List ℕ) (changes : List Change) (passed : Option ℕ)
      → IsFine (written_within only s now id call answer image changes passed)
  within_fine answer image changes None = small_fine answer image changes
  within_fine answer image changes (Some bytes) = replies (reply.TooLarge bytes) None tt

  turned_fine : (image : List ℕ) (r : CallReply) → (db.call s.image now call).reply ≡ r → IsFine (turned db only s now id call image r)
  turned_fine image (call_reply.Done answer) is =
      within_fine answer image (changes_of db s.image image) (too_large 0 (length s.image) (changes_of db s.image image))
  turned_fine image (call_reply.Rule number) is = replies (reply.Rule number) _ tt
  turned_fine image call_reply.Malformed is = absurd (good.answers s.image now is)
  turned_fine image (call_reply.BadRecord at) is = replies (reply.BadRecord at) None tt

  write_fine : (f : Option Flight) → f ≡ None → IsFine (write_asked db only s now id call false f)
  write_fine None is = turned_fine (db.call s.image now call).image (db.call s.image now call).reply refl
  write_fine (Some f) is = absurd (cc)

  served_fine : (writes : Bool) → IsFine (served db only s now id call writes false)
  served_fine true = write_fine s.flight none
  served_fine false = read_fine _ _ _ refl

  OwnPair : Option (ℕ × ℕ) → Type 0
  OwnPair None = Unit {0}
  OwnPair (Some h) = h.0 ≡ 0

  own_pair : (o : Option Heard) → OwnHeard o → OwnPair (option_map (λ (h : Heard). (h.server, h.at)) o)
  unfolding OwnPair
  own_pair None is = tt
  own_pair (Some h) is = is

  unserved_fine : (heard : Option (ℕ × ℕ)) → OwnPair heard → IsFine (showing s (refusing id (not_served only s now heard) ∷ []))
  unfolding OwnPair
  unserved_fine None is = replies _ None tt
  unserved_fine (Some h) is =
      cond_both (h.0 == 0) _ _ (λ r. IsFine (showing s (refusing id r ∷ []))) (λ _. replies _ None tt)
      (λ other. absurd (true≢false (sym (ap (λ (n : ℕ). n == 0) is) ∙ other)))

  unheard_fine : IsFine (showing s (refusing id (not_served only s now (sync_heard now s.votes)) ∷ []))
  unheard_fine =
      unserved_fine (sync_heard now s.votes) (own_pair (still_heard now s.votes.sync) (still_own now s.votes.sync heard))

  elsewhere_fine : (writes may_read : Bool) → IsFine (asked_elsewhere db only s now id call writes false may_read)
  elsewhere_fine true may_read = unheard_fine
  elsewhere_fine false true = read_fine s.image _ _ refl
  elsewhere_fine false false = unheard_fine

  as_fine : (o : Option Bool) → db.writes call ≡ o → IsFine (asked_as db only s now id call false o)
  as_fine None is = let P : Option Bool → Type 0 = λ o. IsSome o in let never = subst P is good.some in absurd (cc)
  as_fine (Some writes) is =
      cond_both (leased only s now) _ _ IsFine
      (λ _. cond_both (is_ready s.phase) _ _ IsFine (λ _. served_fine writes) (λ _. replies _ None tt))
      (λ _. elsewhere_fine writes (allows_reads s.version now s.beacon))

-- ---- a step

-- an event of a script: what is asked is a call
abbrev pub GoodEvent : Database → NodeEvent → Type 0
GoodEvent db (event.Packet p) = ⊥
GoodEvent db event.BeaconTurn = Unit {0}
GoodEvent db event.RecoverTurn = Unit {0}
GoodEvent db (event.Ask id call) = GoodCall db call

handled_fine : (db : Database) (s : Server) (now : ℕ) (e : NodeEvent) → GoodEvent db e → IsAlone s → OwnHeard s.votes.sync
    → IsFine (handled (always db) only s now e [])
handled_fine db s now (event.Packet p) good alone heard = absurd good
handled_fine db s now event.BeaconTurn good alone heard =
    cond_both (beacon_is_due s.votes now 0 (leased only s now)) _ _ IsFine
    (λ _. record { heard = answered_own s.votes now (leased only s now) heard; shown = tt })
    (λ _. record { heard = heard; shown = tt })
handled_fine db s now event.RecoverTurn good alone heard = recovered_fine s now s.phase heard alone.phase
handled_fine db s now (event.Ask id call) good alone heard = as_fine db s now id call heard alone.flight good (db.writes call) refl

pub step_fine : (db : Database) (s : Server) (now : ℕ) (e : NodeEvent) → GoodEvent db e → IsAlone s → OwnHeard s.votes.sync
    → IsFine (step_of db only s now e [])
unfolding step_by
step_fine db s now e good lone heard =
    cond_both (leased only s now) _ _ P (λ _. kept s.flight lone.flight)
    (λ _. lapses _ _ s.flight s.waiting lone.flight lone.waiting)
  where
    P : Stepped → Type 0
    P t = IsFine (followed t (λ after. handled (always db) only after now e (short_after t.shown [])))

    kept : (f : Option Flight) → f ≡ None → P (write_lapsed only s now f)
    kept None is = handled_fine db s now e good lone heard
    kept (Some f) is = absurd (cc)

    dropped : Server
    dropped = with_phase (without_writes s) NoPhase

    alone_dropped : IsAlone dropped
    alone_dropped = record { flight = refl; waiting = refl; beacon = lone.beacon; phase = tt }

    lapses : (one other : Reply) (f : Option Flight) (waiting : List Waiting) → f ≡ None → waiting ≡ []
        → P (showing dropped (flight_refused f one ++ waiting_refused waiting other))
    lapses one other None [] none is = handled_fine db dropped now e good alone_dropped heard
    lapses one other None (w ∷ waiting) none is = absurd (cc)
    lapses one other (Some f) waiting none is = absurd (cc)

-- ---- what is seen of an event

-- no packet is seen, sent or lost, and each reply is fine
abbrev pub FineSeen : Happening → Type 0
FineSeen (Announced server version) = Unit {0}
FineSeen (Replied server id r evaluation) = FineReply r
FineSeen (Stops server) = Unit {0}
FineSeen (Halts server) = Unit {0}
FineSeen (Restarts server version) = Unit {0}
FineSeen (Stays_down server) = Unit {0}
FineSeen _ = ⊥

seen_output : (number : ℕ) (o : Output) (evaluation : Option Evaluation) → packet_in o ≡ None → FineOutput o
    → FineSeen (seen_of_output 0 number o evaluation)
seen_output number (output.Send packet) evaluation quiet fine = absurd (cc)
seen_output number (output.Reply id r) evaluation quiet fine = fine
seen_output number (output.Announce version) evaluation quiet fine = tt

seen_fine : (number : ℕ) (shown : List Shown) (marks : List Happening) → AllQuiet shown → AllFine shown → All FineSeen marks
    → All FineSeen (seen_from 0 number shown ++ marks)
seen_fine number [] marks quiet fine rest = rest
seen_fine number (one ∷ shown) marks quiet fine rest =
    All-cons FineSeen (seen_of_output 0 number one.output one.evaluation) (seen_from 0 (number_after number (packet_of one)) shown ++ marks)
    (seen_output number one.output one.evaluation quiet.0 fine.0)
    (seen_fine (number_after number (packet_of one)) shown marks quiet.1 fine.1 rest)

-- the server while it is up
abbrev FineNode : Node → Type 0
FineNode Down = Unit {0}
FineNode (Halted h) = Unit {0}
FineNode (Up s) = IsAlone s × OwnHeard s.votes.sync

-- the one server of a cell in which no packet was sent
pub record FineWorld (w : World) : Type 0 where
  pub site : Site
  pub is : w ≡ world_of the_host site
  pub node : FineNode site.node

-- what a site shows and leaves
record FineSite (h : SiteHappened) : Type 0 where
  pub quiet : AllQuiet h.shown
  pub fine : AllFine h.shown
  pub marks : All FineSeen h.marks
  pub node : FineNode h.site.node

-- an event that is fine in its world
record FineHappened (h : Happened) : Type 0 where
  pub seen : All FineSeen h.seen
  pub world : FineWorld h.world

refusals_quiet : (e : NodeEvent) → AllQuiet (refusals e)
refusals_quiet (event.Packet p) = tt
refusals_quiet event.BeaconTurn = tt
refusals_quiet event.RecoverTurn = tt
refusals_quiet (event.Ask id call) = (refl, tt)

refusals_fine : (e : NodeEvent) → AllFine (refusals e)
refusals_fine (event.Packet p) = tt
refusals_fine event.BeaconTurn = tt
refusals_fine event.RecoverTurn = tt
refusals_fine (event.Ask id call) = (tt, tt)

one_fine : (h : Happening) → FineSeen h → All FineSeen (h ∷ [])
one_fine h fine = All-cons FineSeen h [] fine (All-nil FineSeen)

own : (db : Database) (e : NodeEvent) → GoodEvent db e → IsOwn e
own db (event.Packet p) good = good
own db event.BeaconTurn good = tt
own db event.RecoverTurn good = tt
own db (event.Ask id call) good = tt

site_stepped : (db : Database) (trigger : Trigger) (e : NodeEvent) (site : Site) (node : Node) → GoodEvent db e → lost_at trigger ≡ []
    → site.node ≡ node → FineNode node → FineSite (step_at db only trigger e [] site node)
site_stepped db trigger e site Down good lost is fine = record {
  quiet = tt;
  fine = tt;
  marks = subst (All FineSeen) (sym lost) (All-nil FineSeen);
  node = subst FineNode (sym is) tt;
}
site_stepped db trigger e site (Halted h) good lost is fine = record {
  quiet = refusals_quiet e;
  fine = refusals_fine e;
  marks = All-nil FineSeen;
  node = subst FineNode (sym is) tt;
}
site_stepped db trigger e site (Up s) good lost is fine =
    let t = step_of db only s site.clock e [] in
    let step = step_is db the_host s site.clock e [] (own db e good) fine.0 in
    let kept = step_fine db s site.clock e good fine.0 fine.1 in
    record {
      quiet = quiet_step db s site.clock e t step;
      fine = kept.shown;
      marks = All-nil FineSeen;
      node = (still_alone db s site.clock e t step, kept.heard);
    }

site_failed : (db : Database) (e : NodeEvent) (short : List Bool) (made : ℕ) (site : Site) (node : Node) → site.node ≡ node → FineNode node
    → FineSite (fault_at db only e short made site node)
site_failed db e short made site Down is fine = record { quiet = tt; fine = tt; marks = All-nil FineSeen; node = subst FineNode (sym is) tt }
site_failed db e short made site (Halted h) is fine =
    record { quiet = tt; fine = tt; marks = All-nil FineSeen; node = subst FineNode (sym is) tt }
site_failed db e short made site (Up s) is fine = record { quiet = refusals_quiet e; fine = refusals_fine e; marks = one_fine (Halts 0) tt; node = tt }

site_stopped : (db : Database) (e : NodeEvent) (short : List Bool) (made : ℕ) (site : Site) (node : Node) → site.node ≡ node → FineNode node
    → FineSite (stop_at db only e short made site node)
site_stopped db e short made site Down is fine = record { quiet = tt; fine = tt; marks = All-nil FineSeen; node = subst FineNode (sym is) tt }
site_stopped db e short made site (Halted h) is fine = record { quiet = tt; fine = tt; marks = one_fine (Stops 0) tt; node = tt }
site_stopped db e short made site (Up s) is fine = record { quiet = tt; fine = tt; marks = one_fine (Stops 0) tt; node = tt }

site_crashed : (site : Site) → FineSite (crash_at site)
site_crashed site = record { quiet = tt; fine = tt; marks = All-nil FineSeen; node = tt }

-- a server that was just opened heard no other
site_opened : (failed : Bool) (site : Site) → FineNode site.node → FineSite (restart_at 1 0 failed site)
site_opened true site fine = record { quiet = tt; fine = tt; marks = one_fine (Stays_down 0) tt; node = fine }
site_opened false site fine = record {
  quiet = tt;
  fine = tt;
  marks = one_fine (Restarts 0 site.durable.version) tt;
  node = (record { flight = refl; waiting = refl; beacon = refl; phase = tt }, tt);
}

no_packets : (shown : List Shown) → AllQuiet shown → packets_of shown ≡ []
no_packets [] quiet = refl
no_packets (one ∷ shown) quiet = ap (λ (p : Option Packet). cons_option p (packets_of shown)) quiet.0 ∙ no_packets shown quiet.1

at_first : (site : Site) (h : SiteHappened) → FineSite h → FineHappened (happened_at (world_of the_host site) 0 h)
at_first site h fine = record {
  seen = seen_fine 1 h.shown h.marks fine.quiet fine.fine fine.marks;
  world = record {
    site = h.site;
    is =
        ap (λ (packets : List Packet). record { hosts = the_host ∷ []; sites = h.site ∷ []; packets = packets })
        (no_packets h.shown fine.quiet);
    node = fine.node;
  };
}

module _ (db : Database) (goods : (call : List ℕ) → IsSome (db.writes call) → GoodCall db call) where
  module _ (site : Site) (fine : FineNode site.node) where
    nothing_seen : FineHappened (nothing (world_of the_host site))
    nothing_seen = record { seen = All-nil FineSeen; world = record { site = site; is = refl; node = fine } }

    -- no packet was sent, so none comes
    stepped_fine : (trigger : Trigger) → AsksACall db trigger → FineHappened (happens db (world_of the_host site) (Step trigger []))
    stepped_fine (Delivery zero) asks = nothing_seen
    stepped_fine (Delivery (suc number)) asks = nothing_seen
    stepped_fine (Beacon_turn zero) asks =
        at_first site _ (site_stepped db (Beacon_turn 0) event.BeaconTurn site site.node tt refl refl fine)
    stepped_fine (Beacon_turn (suc k)) asks = nothing_seen
    stepped_fine (Recover_turn zero) asks =
        at_first site _ (site_stepped db (Recover_turn 0) event.RecoverTurn site site.node tt refl refl fine)
    stepped_fine (Recover_turn (suc k)) asks = nothing_seen
    stepped_fine (Asking zero id call) asks =
        at_first site _ (site_stepped db (Asking 0 id call) (event.Ask id call) site site.node (goods call asks) refl refl fine)
    stepped_fine (Asking (suc k) id call) asks = nothing_seen

    failed_fine : (trigger : Trigger) (short : List Bool) (made : ℕ) → FineHappened (happens db (world_of the_host site) (Fault trigger short made))
    failed_fine (Delivery zero) short made = nothing_seen
    failed_fine (Delivery (suc number)) short made = nothing_seen
    failed_fine (Beacon_turn zero) short made = at_first site _ (site_failed db event.BeaconTurn short made site site.node refl fine)
    failed_fine (Beacon_turn (suc k)) short made = nothing_seen
    failed_fine (Recover_turn zero) short made = at_first site _ (site_failed db event.RecoverTurn short made site site.node refl fine)
    failed_fine (Recover_turn (suc k)) short made = nothing_seen
    failed_fine (Asking zero id call) short made = at_first site _ (site_failed db (event.Ask id call) short made site site.node refl fine)
    failed_fine (Asking (suc k) id call) short made = nothing_seen

    stopped_fine : (trigger : Trigger) (short : List Bool) (made : ℕ) → FineHappened (happens db (world_of the_host site) (Stop trigger short made))
    stopped_fine (Delivery zero) short made = nothing_seen
    stopped_fine (Delivery (suc number)) short made = nothing_seen
    stopped_fine (Beacon_turn zero) short made = at_first site _ (site_stopped db event.BeaconTurn short made site site.node refl fine)
    stopped_fine (Beacon_turn (suc k)) short made = nothing_seen
    stopped_fine (Recover_turn zero) short made = at_first site _ (site_stopped db event.RecoverTurn short made site site.node refl fine)
    stopped_fine (Recover_turn (suc k)) short made = nothing_seen
    stopped_fine (Asking zero id call) short made = at_first site _ (site_stopped db (event.Ask id call) short made site site.node refl fine)
    stopped_fine (Asking (suc k) id call) short made = nothing_seen

    ticked_fine : (seconds : ℕ) (w : World) → w ≡ world_of the_host (ticked seconds site)
        → FineHappened (record { world = w; seen = []; entries = [] })
    ticked_fine seconds w is = record { seen = All-nil FineSeen; world = record { site = ticked seconds site; is = is; node = fine } }

    here_fine : (e : Event) → IsScripted db e → IsFound e → FineHappened (happens db (world_of the_host site) e)
    here_fine (Tick zero seconds) scripted found = ticked_fine seconds _ refl
    here_fine (Tick (suc k) seconds) scripted found = nothing_seen
    here_fine (Tick_all seconds) scripted found = ticked_fine seconds _ refl
    here_fine (Step trigger short) scripted found =
        let P : List Bool → Type 0 = λ l. FineHappened (happens db (world_of the_host site) (Step trigger l)) in
        subst P (sym found) (stepped_fine trigger scripted)
    here_fine (Stop trigger short made) scripted found = stopped_fine trigger short made
    here_fine (Fault trigger short made) scripted found = failed_fine trigger short made
    here_fine (Crash zero) scripted found = at_first site _ (site_crashed site)
    here_fine (Crash (suc k)) scripted found = nothing_seen
    here_fine (Restart zero failed) scripted found = at_first site _ (site_opened failed site fine)
    here_fine (Restart (suc k) failed) scripted found = nothing_seen

  event_fine : (w : World) (e : Event) → FineWorld w → IsScripted db e → IsFound e → FineHappened (happens db w e)
  event_fine w e fine scripted found =
      let P : World → Type 0 = λ v. FineHappened (happens db v e) in
      subst P (sym fine.is) (here_fine fine.site fine.node e scripted found)

  -- what is seen of each event of a run
  pub fine_run : (r : Run) (front back : List Event) (e : Event) → FineWorld r.world → All (IsScripted db) (front ++ e ∷ back)
      → All IsFound (front ++ e ∷ back)
      → All FineSeen (happens db (run_through db r front).world e).seen
  fine_run r [] back e fine scripted found =
      (event_fine r.world e fine (All-head (IsScripted db) e back scripted) (All-head IsFound e back found)).seen
  fine_run r (f ∷ front) back e fine scripted found =
      let rest = front ++ e ∷ back in
      let next = event_fine r.world f fine (All-head (IsScripted db) f rest scripted) (All-head IsFound f rest found) in
      fine_run (run_after db r f) front back e next.world (All-tail (IsScripted db) f rest scripted) (All-tail IsFound f rest found)

pub first_fine : (clock : ℕ) (failed : Bool) → FineWorld (first_world (the_host ∷ []) clock (failed ∷ []))
first_fine clock true = record { site = _; is = refl; node = tt }
first_fine clock false =
    record { site = _; is = refl; node = (record { flight = refl; waiting = refl; beacon = refl; phase = tt }, tt) }
