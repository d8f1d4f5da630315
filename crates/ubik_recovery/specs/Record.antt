-- What contracts see of a server's recovery: its phase record but for the announced version, and the text that it receives
-- of another server's image. Servers are their places in the cell.
use Rattle.std.specs.Prelude.{ℕ, ◌<◌, Bool, true, false, if◌then◌else◌, Option, Some, None, List, map, replicate, set, is_some}
use Rattle.ubik_types.specs.declared.versions.Version.{Version}
use Rattle.ubik_types.specs.declared.phases.Phase.{Phase}
use Rattle.ubik_types.specs.declared.phases.Phase.TheVariants as phase
use Rattle.ubik_types.specs.Version.{zero_version, version_lt}
use Rattle.ubik_types.specs.Quorum.{size}
use Rattle.ubik_types.specs.Phase as model
use Rattle.ubik_types.specs.Phase.{Polled, Spread, PhaseRecord}
use Rattle.cell_model.specs.Node.{ReceivedText}
use Rattle.ubik_recovery.specs.declared.texts.TextSource.{TextSource}
use Rattle.cell_model.specs.Polls.{only_at, best_answer, first_with}

pub record RecoveryRecord : Type 0 where
  -- how many servers the cell has
  pub servers : ℕ
  pub phase : Phase
  -- the moment at which the poll began, and the versions that the servers answered
  pub poll : ℕ
  pub answers : List (Option Version)
  -- the version before the relabelling, and who has the present one
  pub old_version : Version
  pub holders : List Bool
  pub text : Option ReceivedText

abbrev pub polled_of : RecoveryRecord → Polled
polled_of r = record { number = r.poll; answers = r.answers }

abbrev pub spread_of : RecoveryRecord → Spread
spread_of r = record { old = r.old_version; holders = r.holders }

-- the greatest answered version, and the lowest server that answered it
abbrev pub best_of : RecoveryRecord → Version
best_of r = best_answer (polled_of r)

abbrev pub host_of : RecoveryRecord → ℕ
host_of r = first_with (best_of r) r.answers

-- the phase record of a phase
abbrev pub record_in : Phase → Version → RecoveryRecord → PhaseRecord
record_in phase.None announced r = model.NoPhase
record_in phase.Poll announced r = model.Poll (polled_of r)
record_in phase.Fetch announced r = model.Fetch (polled_of r) (best_of r) (host_of r)
record_in phase.Relabel announced r = model.Relabel (polled_of r)
record_in phase.Send announced r = model.Send (polled_of r) (spread_of r)
record_in phase.Ready announced r = model.Ready (polled_of r) (spread_of r) announced

-- the phase record, given the version that is announced
abbrev pub phase_record : Version → RecoveryRecord → PhaseRecord
phase_record announced r = record_in r.phase announced r

-- in a cell of so many servers no phase is held, and nothing of another server's image is there
abbrev pub no_recovery : ℕ → RecoveryRecord
no_recovery servers =
    record {
      servers = servers;
      phase = phase.None;
      poll = 0;
      answers = replicate servers None;
      old_version = zero_version;
      holders = replicate servers false;
      text = None;
    }

abbrev pub is_fetch : Phase → Bool
is_fetch phase.Fetch = true
is_fetch _ = false

abbrev pub is_send : Phase → Bool
is_send phase.Send = true
is_send _ = false

-- the text through a change of phase: it is emptied where a fetch ends, and where one begins
abbrev pub text_through : Phase → Phase → Option ReceivedText → Option ReceivedText
text_through before after text = if is_fetch before then None else (if is_fetch after then None else text)

-- only this server has the present version
abbrev pub held_alone : RecoveryRecord → ℕ → RecoveryRecord
held_alone r me = record r { holders = only_at true false r.servers me }

-- a server has the present version
abbrev pub held_by : RecoveryRecord → ℕ → RecoveryRecord
held_by r k = record r { holders = set r.holders k true }

-- another phase: a version that begins to be sent is with this server alone
abbrev pub in_phase : RecoveryRecord → Phase → ℕ → RecoveryRecord
in_phase r phase me =
    record (if is_send phase then held_alone r me else r) { phase = phase; text = text_through r.phase phase r.text }

-- a poll begins: only this server has answered, with its own version
abbrev pub poll_begun : RecoveryRecord → ℕ → ℕ → Version → RecoveryRecord
poll_begun r now me own =
    record r {
      phase = phase.Poll;
      poll = now;
      answers = only_at (Some own) None r.servers me;
      text = text_through r.phase phase.Poll r.text;
    }

-- a server answers the poll; a later answer takes the place of an earlier one
abbrev pub answered_by : RecoveryRecord → ℕ → Version → RecoveryRecord
answered_by r k version = record r { answers = set r.answers k (Some version) }

abbrev pub with_old : RecoveryRecord → Version → RecoveryRecord
with_old r old = record r { old_version = old }

abbrev pub with_text : RecoveryRecord → Option ReceivedText → RecoveryRecord
with_text r text = record r { text = text }

-- another recovery in the place of this one: the text goes on where no fetch begins or ends
abbrev pub adopted : RecoveryRecord → RecoveryRecord → RecoveryRecord
adopted next before = with_text next (text_through before.phase next.phase before.text)

-- what is given out where the phase is dropped: all of it, but the text only where a fetch ends so, for it stays else
abbrev pub given_out : RecoveryRecord → RecoveryRecord
given_out r = if is_fetch r.phase then r else with_text r None

-- what was given out comes back over what was left
abbrev pub restored : (given left : RecoveryRecord) → RecoveryRecord
restored given left = if is_fetch given.phase then given else with_text given left.text

-- the fetched image: of the best version, from its host
abbrev pub fetched_source : RecoveryRecord → ℕ → TextSource
fetched_source r total = record { server = host_of r; version = best_of r; total = total }

-- some server has answered
abbrev pub HasAnswer : RecoveryRecord → Type 0
HasAnswer r = 0 < size (map is_some r.answers)

-- the greater of a version and an answered one
abbrev pub later_answer : Version → Option Version → Version
later_answer best None = best
later_answer best (Some v) = if version_lt best v then v else best
