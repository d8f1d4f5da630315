-- Rules that are changed in one place, and what a cell of such servers comes to (own).
use Rattle.std.specs.Prelude.{◌≡◌, ℕ, ◌+◌, ◌/◌, nat_le, Bool, false, if◌then◌else◌, Option, None, Some, is_some, List, [], ◌∷◌, ◌++◌, map}
use Rattle.ubik_types.specs.declared.limits.TheConstants.{SMALLTIME}
use Rattle.ubik_types.specs.Phase.{PhaseRecord, Poll}
use Rattle.ubik_types.specs.Quorum.{size}
use Rattle.ubik_calls.specs.declared.replies.Reply.TheVariants as reply
use Rattle.db_image.specs.Database.{Database}
use Rattle.cell_model.specs.declared.events.NodeEvent.{NodeEvent}
use Rattle.cell_model.specs.declared.events.NodeEvent.TheVariants as event
use Rattle.cell_model.specs.Asks.{asked, asked_elsewhere}
use Rattle.cell_model.specs.Book.{Run, first_run, run_with, order_of}
use Rattle.cell_model.specs.Lapse.{lapsed}
use Rattle.cell_model.specs.Node.{Server, ReadyBeacon, Node, Up}
use Rattle.cell_model.specs.NodeRule.{step_of}
use Rattle.cell_model.specs.Polls.{best_answer}
use Rattle.cell_model.specs.Recovery.{polled_best}
use Rattle.cell_model.specs.Step.{Member, Announced_image, Beacon_image, Stepped, cell_size, followed, leased, is_short}
use Rattle.cell_model.specs.World.{World, Site, SiteHappened, Event, Step, Trigger, Tick_all, Happening, Happened, Replied, IsEvent, happens, triggered, occasion, step_at, step_up}
use Rattle.cell_examples.specs.Register.{register, has_bytes}
use Rattle.cell_examples.specs.Showing.{host, two, three, delivers, beacons, recovers, asks, version, transaction}
use Rattle.cell_examples.specs.Unknown.{written_of_three}

-- a rule in the place of the model's
abbrev pub Rule : Type 0
Rule = Database → Member → Server → ℕ → NodeEvent → List Bool → Stepped

abbrev pub step_by : Rule → Member → Trigger → NodeEvent → List Bool → Site → Node → SiteHappened
step_by rule m trigger e short site (Up s) = step_up m.me site e s.version (rule register m s site.clock e short)
step_by rule m trigger e short site node = step_at register m trigger e short site node

-- one event of a cell of such servers
abbrev pub happens_by : Rule → World → Event → Happened
happens_by rule w (Step trigger short) =
    triggered w (λ m e site. step_by rule m trigger e short site site.node) (occasion w trigger)
happens_by rule w e = happens register w e

abbrev pub run_by : Rule → Run → List Event → Run
run_by rule r [] = r
run_by rule r (e ∷ events) = run_by rule (run_with r e (happens_by rule r.world e)) events

abbrev pub IsRunBy : Rule → World → List Event → Type 0
IsRunBy rule w [] = Unit {0}
IsRunBy rule w (e ∷ events) = IsEvent w e × IsRunBy rule (happens_by rule w e).world events

abbrev pub seen_by : Rule → World → List Event → Event → List Happening
seen_by rule w events e = (happens_by rule (run_by rule (first_run w) events).world e).seen

-- ---- a poll of half the cell

abbrev pub goes_on_at_half : Member → ℕ → Stepped → PhaseRecord → Stepped
goes_on_at_half m now t (Poll poll) =
    if nat_le (cell_size m / 2) (size (map is_some poll.answers)) then followed t (λ s. polled_best m s poll now (best_answer poll)) else t
goes_on_at_half m now t phase = t

-- it goes on where half of the cell has answered
abbrev pub poll_of_half : Rule
poll_of_half db m s now e short = let t = step_of db m s now e short in goes_on_at_half m now t t.server.phase

-- The lowest server commits a write with the next one, and answers it.
abbrev pub acknowledged_of_three : List Event
acknowledged_of_three = written_of_three ++ delivers 9 ∷ delivers 10 ∷ delivers 11 ∷ delivers 15 ∷ []

-- The last server leads by the next one's vote, takes its own database for the best, and sends it.
abbrev pub led_by_last : List Event
led_by_last =
    Tick_all 76 ∷ beacons 2 ∷ delivers 17 ∷ delivers 18 ∷ recovers 2 ∷ recovers 2 ∷ delivers 22 ∷ delivers 23 ∷ delivers 24 ∷ delivers 25 ∷ []

-- With a poll of half the cell, a write is lost that was acknowledged: a later announcement has no transaction.
pub record HalfIsTooFew : Type 0 where
  pub run : IsRunBy poll_of_half three (acknowledged_of_three ++ led_by_last)
  pub acknowledged :
      (run_by poll_of_half (first_run three) (acknowledged_of_three ++ led_by_last)).acknowledged
      ≡ record { transaction = transaction 176 (7 ∷ []); version = version 176 2; place = 0 } ∷ []
  pub kept : order_of (run_by poll_of_half (first_run three) acknowledged_of_three).announcements ≡ transaction 176 (7 ∷ []) ∷ []
  pub lost : order_of (run_by poll_of_half (first_run three) (acknowledged_of_three ++ led_by_last)).announcements ≡ []

-- ---- reads under another version than the beacon's

abbrev pub is_fresh : ℕ → Option ReadyBeacon → Bool
is_fresh now None = false
is_fresh now (Some kept) = nat_le now (kept.at + SMALLTIME)

abbrev pub asked_of_any : Database → Member → Server → ℕ → ℕ → List ℕ → Bool → Stepped
asked_of_any db m s now id call short =
    if leased m s now then asked db m s now id call short
    else asked_elsewhere db m s now id call (has_bytes call) short (is_fresh now s.beacon)

-- a fresh ready beacon allows reads whichever version it names
abbrev pub reads_any_version : Rule
reads_any_version db m s now (event.Ask id call) short =
    followed (lapsed m s now) (λ after. asked_of_any db m after now id call (is_short short))
reads_any_version db m s now e short = step_of db m s now e short

-- The lowest of two servers leads, announces a version that both have, and says that it is ready; then it commits a write, which the
-- other keeps. It does not know yet that it does.
abbrev pub kept_by_other : List Event
kept_by_other =
    Tick_all 76 ∷ beacons 0 ∷ recovers 0 ∷ delivers 2 ∷ delivers 3 ∷ delivers 4 ∷ delivers 5 ∷ beacons 0 ∷ delivers 6 ∷ asks 0 1 (7 ∷ [])
    ∷ delivers 8 ∷ delivers 9 ∷ delivers 10 ∷ []

-- With such reads the other answers what the sync site does not answer yet, though it is asked later. By the rule it refuses.
pub record VersionsMustAgree : Type 0 where
  pub run : IsRunBy reads_any_version two (kept_by_other ++ asks 1 2 [] ∷ asks 0 3 [] ∷ [])
  pub first :
      seen_by reads_any_version two kept_by_other (asks 1 2 [])
      ≡ Replied 1 2 (reply.Ok (7 ∷ [])) (Some (record { call = []; moment = 176; basis = Beacon_image (version 176 2) })) ∷ []
  pub later :
      seen_by reads_any_version two (kept_by_other ++ asks 1 2 [] ∷ []) (asks 0 3 [])
      ≡ Replied 0 3 (reply.Ok []) (Some (record { call = []; moment = 176; basis = Announced_image (version 176 1) })) ∷ []
  pub by_rule : seen_by step_of two kept_by_other (asks 1 2 []) ≡ Replied 1 2 (reply.NotSync (host 1) 176) None ∷ []
