-- The calls of a recovery as steps of the rules: what each makes of the abstract server that has it.
use Rattle.std.specs.Prelude.{◌≡◌, ℕ, false, Some, None, List}
use Rattle.ubik_types.specs.declared.versions.Version.{Version}
use Rattle.ubik_types.specs.declared.phases.Phase.TheVariants as phase
use Rattle.ubik_types.specs.Phase as model
use Rattle.cell_model.specs.Node.{Server, ReceivedText}
use Rattle.cell_model.specs.Polls.{polling, with_answer, only_holder}
use Rattle.cell_model.specs.Recovery as rule
use Rattle.cell_model.specs.Step.{Member, cell_size, with_phase, with_database}
use Rattle.ubik_recovery.specs.Record.{RecoveryRecord, phase_record, polled_of, spread_of, best_of, host_of, is_fetch, in_phase, poll_begun, answered_by, with_old, with_text, held_by, held_alone}

-- the server that has this recovery, and has announced a version
abbrev pub recovering : Version → RecoveryRecord → Server → Server
recovering announced r s = record s { phase = phase_record announced r; received = r.text }

-- what is said of every server with a recovery in its cell
abbrev pub OfEach : (Member → Server → Version → RecoveryRecord → Type 0) → Type 0
OfEach Says = (m : Member) (s : Server) (announced : Version) (r : RecoveryRecord) → cell_size m ≡ r.servers → Says m s announced r

-- a poll begins
abbrev pub PollBegins : Member → Server → Version → RecoveryRecord → Type 0
PollBegins m s announced r =
    (now : ℕ) → polling m (recovering announced r s) now ≡ recovering announced (poll_begun r now m.me s.version) s

-- a server answers the poll
abbrev pub AnswerCounts : Member → Server → Version → RecoveryRecord → Type 0
AnswerCounts m s announced r =
    (k : ℕ) (version : Version) → r.phase ≡ phase.Poll
    → with_phase (recovering announced r s) (model.Poll (with_answer (polled_of r) k version)) ≡ recovering announced (answered_by r k version) s

-- the phase is dropped
abbrev pub PhaseLapses : Member → Server → Version → RecoveryRecord → Type 0
PhaseLapses m s announced r =
    with_phase (recovering announced r s) model.NoPhase ≡ recovering announced (in_phase r phase.None m.me) s

-- the best version is fetched
abbrev pub FetchBegins : Member → Server → Version → RecoveryRecord → Type 0
FetchBegins m s announced r =
    with_phase (recovering announced r s) (model.Fetch (polled_of r) (best_of r) (host_of r))
    ≡ recovering announced (in_phase r phase.Fetch m.me) s

-- the relabelling waits
abbrev pub RelabellingWaits : Member → Server → Version → RecoveryRecord → Type 0
RelabellingWaits m s announced r =
    with_phase (recovering announced r s) (model.Relabel (polled_of r)) ≡ recovering announced (in_phase r phase.Relabel m.me) s

-- the database was relabelled, and only this server has it
abbrev pub SendBegins : Member → Server → Version → RecoveryRecord → Type 0
SendBegins m s announced r =
    (old : Version) → with_phase (recovering announced r s) (model.Send (polled_of r) (record { old = old; holders = only_holder m }))
    ≡ recovering announced (in_phase (with_old r old) phase.Send m.me) s

-- a version is announced, and calls are served
abbrev pub ServingBegins : Member → Server → Version → RecoveryRecord → Type 0
ServingBegins m s announced r =
    (next : Version) → with_phase (recovering announced r s) (model.Ready (polled_of r) (spread_of r) next)
    ≡ recovering next (in_phase r phase.Ready m.me) s

-- a server has the present version
abbrev pub HolderIsAdded : Member → Server → Version → RecoveryRecord → Type 0
HolderIsAdded m s announced r =
    (k : ℕ) → is_fetch r.phase ≡ false → with_phase (recovering announced r s) (rule.held_by (phase_record announced r) k)
    ≡ recovering announced (held_by r k) s

-- a write was committed at the ready sync site, and only it has the version
abbrev pub WriteBegins : Member → Server → Version → RecoveryRecord → Type 0
WriteBegins m s announced r =
    (next : Version) → r.phase ≡ phase.Ready
    → with_phase (recovering announced r s) (model.Ready (polled_of r) (record (spread_of r) { holders = only_holder m }) next)
    ≡ recovering next (held_alone r m.me) s

-- a piece of another server's image was taken
abbrev pub TextGoesOn : Member → Server → Version → RecoveryRecord → Type 0
TextGoesOn m s announced r =
    (text : ReceivedText) → (record (recovering announced r s) { received = Some text }) ≡ recovering announced (with_text r (Some text)) s

-- another version or image is taken over, and the text is dropped
abbrev pub DatabaseIsTaken : Member → Server → Version → RecoveryRecord → Type 0
DatabaseIsTaken m s announced r =
    (version : Version) (image : List ℕ) → with_database (recovering announced r s) version image
    ≡ recovering announced (with_text r None) (with_database s version image)
