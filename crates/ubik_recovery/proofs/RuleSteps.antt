-- The calls of a recovery are the steps of the rules.
use Rattle.std.proofs.Common.{◌≡◌, false, Some, None, refl}
use Rattle.ubik_types.specs.declared.versions.Version.{Version}
use Rattle.ubik_types.specs.declared.phases.Phase.{Phase}
use Rattle.ubik_types.specs.declared.phases.Phase.TheVariants as phase
use Rattle.ubik_types.specs.Phase as model
use Rattle.ubik_types.specs.Phase.{phase_of}
use Rattle.cell_model.specs.Polls.{polling, with_answer, only_holder}
use Rattle.cell_model.specs.Recovery as rule
use Rattle.cell_model.specs.Step.{with_phase, with_database}
use Rattle.ubik_recovery.specs.Record.{RecoveryRecord, record_in, phase_record, polled_of, spread_of, best_of, host_of, is_fetch, in_phase, poll_begun, answered_by, with_old, with_text, held_by, held_alone}
use Rattle.ubik_recovery.specs.Rules.{recovering, OfEach, PollBegins, AnswerCounts, PhaseLapses, FetchBegins, RelabellingWaits, SendBegins, ServingBegins, HolderIsAdded, WriteBegins, TextGoesOn, DatabaseIsTaken}

pub phase_of-record : (announced : Version) (r : RecoveryRecord) → phase_of (phase_record announced r) ≡ r.phase
phase_of-record announced r = by_phase r.phase
  where
    by_phase : (p : Phase) → phase_of (record_in p announced r) ≡ p
    by_phase phase.None = refl
    by_phase phase.Poll = refl
    by_phase phase.Fetch = refl
    by_phase phase.Relabel = refl
    by_phase phase.Send = refl
    by_phase phase.Ready = refl

-- the record in another phase
abbrev at_phase : RecoveryRecord → Phase → RecoveryRecord
at_phase r p = record r { phase = p }

pub poll-begins : OfEach PollBegins
poll-begins m s announced r same now = by_phase r.phase
  where
    by_phase : (p : Phase) → polling m (recovering announced (at_phase r p) s) now ≡ recovering announced (poll_begun (at_phase r p) now m.me s.version) s
    by_phase phase.None = rw same
    by_phase phase.Poll = rw same
    by_phase phase.Fetch = rw same
    by_phase phase.Relabel = rw same
    by_phase phase.Send = rw same
    by_phase phase.Ready = rw same

pub phase-lapses : OfEach PhaseLapses
phase-lapses m s announced r same = by_phase r.phase
  where
    by_phase : (p : Phase) → with_phase (recovering announced (at_phase r p) s) model.NoPhase ≡ recovering announced (in_phase (at_phase r p) phase.None m.me) s
    by_phase phase.None = refl
    by_phase phase.Poll = refl
    by_phase phase.Fetch = refl
    by_phase phase.Relabel = refl
    by_phase phase.Send = refl
    by_phase phase.Ready = refl

pub fetch-begins : OfEach FetchBegins
fetch-begins m s announced r same = by_phase r.phase
  where
    by_phase : (p : Phase) → with_phase (recovering announced (at_phase r p) s) (model.Fetch (polled_of r) (best_of r) (host_of r)) ≡ recovering announced (in_phase (at_phase r p) phase.Fetch m.me) s
    by_phase phase.None = refl
    by_phase phase.Poll = refl
    by_phase phase.Fetch = refl
    by_phase phase.Relabel = refl
    by_phase phase.Send = refl
    by_phase phase.Ready = refl

pub relabelling-waits : OfEach RelabellingWaits
relabelling-waits m s announced r same = by_phase r.phase
  where
    by_phase : (p : Phase) → with_phase (recovering announced (at_phase r p) s) (model.Relabel (polled_of r)) ≡ recovering announced (in_phase (at_phase r p) phase.Relabel m.me) s
    by_phase phase.None = refl
    by_phase phase.Poll = refl
    by_phase phase.Fetch = refl
    by_phase phase.Relabel = refl
    by_phase phase.Send = refl
    by_phase phase.Ready = refl

pub send-begins : OfEach SendBegins
send-begins m s announced r same old = by_phase r.phase
  where
    by_phase : (p : Phase) → with_phase (recovering announced (at_phase r p) s) (model.Send (polled_of r) (record { old = old; holders = only_holder m })) ≡ recovering announced (in_phase (with_old (at_phase r p) old) phase.Send m.me) s
    by_phase phase.None = rw same
    by_phase phase.Poll = rw same
    by_phase phase.Fetch = rw same
    by_phase phase.Relabel = rw same
    by_phase phase.Send = rw same
    by_phase phase.Ready = rw same

pub serving-begins : OfEach ServingBegins
serving-begins m s announced r same next = by_phase r.phase
  where
    by_phase : (p : Phase) → with_phase (recovering announced (at_phase r p) s) (model.Ready (polled_of r) (spread_of r) next) ≡ recovering next (in_phase (at_phase r p) phase.Ready m.me) s
    by_phase phase.None = refl
    by_phase phase.Poll = refl
    by_phase phase.Fetch = refl
    by_phase phase.Relabel = refl
    by_phase phase.Send = refl
    by_phase phase.Ready = refl

pub holder-is_added : OfEach HolderIsAdded
holder-is_added m s announced r same k other = by_phase r.phase other
  where
    by_phase : (p : Phase) → is_fetch p ≡ false → with_phase (recovering announced (at_phase r p) s) (rule.held_by (phase_record announced (at_phase r p)) k) ≡ recovering announced (held_by (at_phase r p) k) s
    by_phase phase.None e = refl
    by_phase phase.Poll e = refl
    by_phase phase.Fetch e = absurd (cc)
    by_phase phase.Relabel e = refl
    by_phase phase.Send e = refl
    by_phase phase.Ready e = refl

pub write-begins : OfEach WriteBegins
write-begins m s announced r same next ready = by_phase r.phase ready
  where
    by_phase : (p : Phase) → p ≡ phase.Ready → with_phase (recovering announced (at_phase r p) s) (model.Ready (polled_of r) (record (spread_of r) { holders = only_holder m }) next) ≡ recovering next (held_alone (at_phase r p) m.me) s
    by_phase phase.None e = absurd (cc)
    by_phase phase.Poll e = absurd (cc)
    by_phase phase.Fetch e = absurd (cc)
    by_phase phase.Relabel e = absurd (cc)
    by_phase phase.Send e = absurd (cc)
    by_phase phase.Ready e = rw same

pub answer-counts : OfEach AnswerCounts
answer-counts m s announced r same k version polls = by_phase r.phase polls
  where
    by_phase : (p : Phase) → p ≡ phase.Poll → with_phase (recovering announced (at_phase r p) s) (model.Poll (with_answer (polled_of r) k version)) ≡ recovering announced (answered_by (at_phase r p) k version) s
    by_phase phase.None e = absurd (cc)
    by_phase phase.Poll e = refl
    by_phase phase.Fetch e = absurd (cc)
    by_phase phase.Relabel e = absurd (cc)
    by_phase phase.Send e = absurd (cc)
    by_phase phase.Ready e = absurd (cc)

pub text-goes_on : OfEach TextGoesOn
text-goes_on m s announced r same text = by_phase r.phase
  where
    by_phase : (p : Phase) → (record (recovering announced (at_phase r p) s) { received = Some text }) ≡ recovering announced (with_text (at_phase r p) (Some text)) s
    by_phase phase.None = refl
    by_phase phase.Poll = refl
    by_phase phase.Fetch = refl
    by_phase phase.Relabel = refl
    by_phase phase.Send = refl
    by_phase phase.Ready = refl

pub database-is_taken : OfEach DatabaseIsTaken
database-is_taken m s announced r same version image = by_phase r.phase
  where
    by_phase : (p : Phase) → with_database (recovering announced (at_phase r p) s) version image ≡ recovering announced (with_text (at_phase r p) None) (with_database s version image)
    by_phase phase.None = refl
    by_phase phase.Poll = refl
    by_phase phase.Fetch = refl
    by_phase phase.Relabel = refl
    by_phase phase.Send = refl
    by_phase phase.Ready = refl
