-- What parts of a server make of it: polls, texts, kept writes, and the write in flight.
use Rattle.std.proofs.Common.{Bool, true, false, true≢false, cond, ◌≡◌, ℕ, zero, suc, ◌+◌, ◌≤◌, List, [], ◌∷◌}
use Rattle.std.proofs.Common.{length, refl, sym, ap, subst, ◌∙◌, arith}
use Rattle.std.proofs.lemmas.Bool.{cond_both}
use Rattle.std.proofs.lemmas.Bool.Decides.{nat_tests}
use Rattle.std.proofs.lemmas.List.{length-set, length-replicate}
use Rattle.std.specs.List.{AllByRecursion}
use Rattle.std.specs.Prelude.{Option, Some, None, ◌&&◌, nat_lt, replicate, set}
use Rattle.ubik_types.specs.declared.images.Change.{Change}
use Rattle.ubik_types.specs.declared.versions.Version.{Version}
use Rattle.ubik_types.specs.Phase.{PhaseRecord, NoPhase, Poll, Fetch, Relabel, Send, Ready}
use Rattle.ubik_types.specs.Version.{IsVersion, zero_version, version_lt, version_eq}
use Rattle.ubik_calls.specs.declared.packets.TheConstants.{MAX_PIECE, MAX_PIECES}
use Rattle.db_image.specs.Database.{Database}
use Rattle.cell_model.specs.Node.{Server, KeptWrite, ReceivedText, Flight, Waiting}
use Rattle.cell_model.specs.Polls.{polling, new_poll}
use Rattle.cell_model.specs.Receiver.{is_sending, empty_write, with_piece, kept_with, whole_write, kept_but}
use Rattle.cell_model.specs.Recovery.{held_by}
use Rattle.cell_model.specs.Step.{Member, cell_size, is_ready, is_fetch, told_version, with_phase, with_database}
use Rattle.recovery_laws.specs.HasNoWrite.{IsPhaseOf, IsReceived, IsTextOf}
use Rattle.recovery_laws.specs.Spreads.{IsLaterVersion}
use Rattle.recovery_laws.proofs.Facts.{held_is, new_poll_is}
use Rattle.write_laws.specs.Keeping.{IsShortPiece, IsBegunWrite, IsKept, IsInFlight, IsWriting, IsKeeping}

-- ---- kept writes

none_short : (n : ℕ) → AllByRecursion IsShortPiece (replicate n None)
none_short zero = tt
none_short (suc n) = (tt, none_short n)

pub begun_is : (old new : Version) (pieces len : ℕ) → IsVersion old → IsVersion new → version_lt old new ≡ true → pieces ≤ MAX_PIECES →
    IsBegunWrite (empty_write old new pieces len)
begun_is old new pieces len before after above few = record {
  old = before;
  new = after;
  above = above;
  few = subst (λ (n : ℕ). n ≤ MAX_PIECES) (sym (length-replicate {A = Option (List ℕ)} pieces None)) few;
  short = none_short pieces;
}

set_short : (pieces : List (Option (List ℕ))) (k : ℕ) (bytes : List ℕ) → length bytes ≤ MAX_PIECE → AllByRecursion IsShortPiece pieces →
    AllByRecursion IsShortPiece (set pieces k (Some bytes))
set_short [] k bytes short all = tt
set_short (p ∷ pieces) zero bytes short all = (short, all.1)
set_short (p ∷ pieces) (suc k) bytes short all = (all.0, set_short pieces k bytes short all.1)

piece_is : (new : Version) (number : ℕ) (bytes : List ℕ) (w : KeptWrite) → length bytes ≤ MAX_PIECE → IsBegunWrite w →
    IsBegunWrite (with_piece new number bytes w)
piece_is new number bytes w short is =
    cond_both (version_eq w.new new && nat_lt number (length w.pieces)) (record w { pieces = set w.pieces number (Some bytes) }) w IsBegunWrite
    (λ _. record {
      old = is.old;
      new = is.new;
      above = is.above;
      few = subst (λ (n : ℕ). n ≤ MAX_PIECES) (sym (length-set w.pieces number (Some bytes))) is.few;
      short = set_short w.pieces number bytes short is.short;
    })
    (λ _. is)

pub kept_with_is : (new : Version) (number : ℕ) (bytes : List ℕ) (kept : Option KeptWrite) → length bytes ≤ MAX_PIECE → IsKept kept →
    IsKept (kept_with new number bytes kept)
kept_with_is new number bytes None short is = tt
kept_with_is new number bytes (Some w) short is = piece_is new number bytes w short is

pub kept_but_is : (new : Version) (kept : Option KeptWrite) → IsKept kept → IsKept (kept_but new kept)
kept_but_is new None is = tt
kept_but_is new (Some w) is = cond_both (version_eq w.new new) None (Some w) IsKept (λ _. tt) (λ _. is)

-- what a whole kept write leads to is not the first version
pub whole_later : (new : Version) (kept : Option KeptWrite) (changes : List Change) → IsVersion new → whole_write new kept ≡ Some changes →
    IsKept kept → IsLaterVersion new
whole_later new None changes version whole is = absurd (cc)
whole_later new (Some w) changes version whole is =
    record { version = version; later = later w.old w.new new is.above (same (version_eq w.new new) _ whole) }
  where
    later : (old other new : Version) → version_lt old other ≡ true → version_eq other new ≡ true → version_eq new zero_version ≡ false
    later old other new above same = grind (arith, nat_tests)

    same : (t : Bool) (o : Option (List Change)) → cond t o None ≡ Some changes → t ≡ true
    same true o whole = refl
    same false o whole = absurd (cc)

-- ---- the write in flight

pub sending_or_ready : (phase : PhaseRecord) → is_sending phase ≡ false → is_ready phase ≡ false
sending_or_ready NoPhase is = refl
sending_or_ready (Poll poll) is = refl
sending_or_ready (Fetch poll best host) is = refl
sending_or_ready (Relabel poll) is = refl
sending_or_ready (Send poll spread) is = refl
sending_or_ready (Ready poll spread announced) is = absurd (true≢false is)

-- it is there in Ready alone
no_flight_in : (db : Database) (servers : ℕ) (phase : PhaseRecord) (v : Version) (image : List ℕ) (f : Option Flight) →
    is_ready phase ≡ false → IsInFlight db servers phase v image f → f ≡ None
no_flight_in db servers phase v image None other is = refl
no_flight_in db servers phase v image (Some f) other is = absurd (true≢false (sym is.ready ∙ other))

pub none_flies : (db : Database) (servers : ℕ) (phase : PhaseRecord) (v : Version) (image : List ℕ) (f : Option Flight) → f ≡ None →
    IsInFlight db servers phase v image f
none_flies db servers phase v image None is = tt
none_flies db servers phase v image (Some f) is = absurd (cc)

ready_held : (phase : PhaseRecord) (k : ℕ) → is_ready (held_by phase k) ≡ is_ready phase
ready_held NoPhase k = refl
ready_held (Poll poll) k = refl
ready_held (Fetch poll best host) k = refl
ready_held (Relabel poll) k = refl
ready_held (Send poll spread) k = refl
ready_held (Ready poll spread announced) k = refl

told_held : (phase : PhaseRecord) (k : ℕ) (own : Version) → told_version (held_by phase k) own ≡ told_version phase own
told_held NoPhase k own = refl
told_held (Poll poll) k own = refl
told_held (Fetch poll best host) k own = refl
told_held (Relabel poll) k own = refl
told_held (Send poll spread) k own = refl
told_held (Ready poll spread announced) k own = refl

flies_held : (db : Database) (servers : ℕ) (phase : PhaseRecord) (v : Version) (image : List ℕ) (k : ℕ) (f : Option Flight) →
    IsInFlight db servers phase v image f → IsInFlight db servers (held_by phase k) v image f
flies_held db servers phase v image k None is = tt
flies_held db servers phase v image k (Some f) is = record {
  several = is.several;
  ready = ready_held phase k ∙ is.ready;
  next = is.next ∙ ap (λ (u : Version). record { epoch = u.epoch; counter = u.counter + 1 }) (sym (told_held phase k v));
  began = is.began;
  writes = is.writes;
  outcome = is.outcome;
  changes = is.changes;
  small = is.small;
}

-- ---- servers, between the parts of a step

-- all that is kept true of a server but the length of its line
pub record Keeps (db : Database) (servers : ℕ) (s : Server) : Type 0 where
  pub version : IsVersion s.version
  pub phase : IsPhaseOf servers s.phase
  pub received : IsReceived s.received
  pub kept : IsKept s.kept
  pub flight : IsInFlight db servers s.phase s.version s.image s.flight
  pub line : AllByRecursion (IsWriting db) s.waiting

module _ (db : Database) (servers : ℕ) where
  abbrev Good : Server → Type 0
  Good s = Keeps db servers s

  pub keeps : (s : Server) → IsKeeping db servers s → Good s
  keeps s is = record {
    version = is.version;
    phase = is.phase;
    received = is.received;
    kept = is.kept;
    flight = is.flight;
    line = is.line;
  }

  pub no_flight : (s : Server) (phase : PhaseRecord) → s.phase ≡ phase → is_ready phase ≡ false → Good s → s.flight ≡ None
  no_flight s phase at other good =
      no_flight_in db servers s.phase s.version s.image s.flight (ap is_ready at ∙ other) good.flight

  pub idle_flight : (s : Server) → is_sending s.phase ≡ false → Good s → s.flight ≡ None
  idle_flight s idle good = no_flight s s.phase refl (sending_or_ready s.phase idle) good

  pub phase_received : (s : Server) (phase : PhaseRecord) → IsReceived s.received → IsReceived (with_phase s phase).received
  phase_received s phase is =
      cond_both (is_fetch s.phase) None (cond (is_fetch phase) None s.received) IsReceived (λ _. tt)
      (λ _. cond_both (is_fetch phase) None s.received IsReceived (λ _. tt) (λ _. is))

  pub phase_keeps : (s : Server) (phase : PhaseRecord) → s.flight ≡ None → IsPhaseOf servers phase → Good s → Good (with_phase s phase)
  phase_keeps s phase none is good = record {
    version = good.version;
    phase = is;
    received = phase_received s phase good.received;
    kept = good.kept;
    flight = none_flies db servers phase s.version s.image s.flight none;
    line = good.line;
  }

  pub held_keeps : (s : Server) (k : ℕ) → Good s → Good (with_phase s (held_by s.phase k))
  held_keeps s k good = record {
    version = good.version;
    phase = held_is servers s.phase k good.phase;
    received = phase_received s (held_by s.phase k) good.received;
    kept = good.kept;
    flight = flies_held db servers s.phase s.version s.image k s.flight good.flight;
    line = good.line;
  }

  pub database_keeps : (s : Server) (v : Version) (image : List ℕ) → s.flight ≡ None → IsVersion v → Good s → Good (with_database s v image)
  database_keeps s v image none is good = record {
    version = is;
    phase = good.phase;
    received = tt;
    kept = tt;
    flight = none_flies db servers s.phase v image s.flight none;
    line = good.line;
  }

  pub received_keeps : (s : Server) (text : ReceivedText) → IsTextOf text → Good s → Good (record s { received = Some text })
  received_keeps s text is good = record {
    version = good.version;
    phase = good.phase;
    received = is;
    kept = good.kept;
    flight = good.flight;
    line = good.line;
  }

  pub kept_keeps : (s : Server) (kept : Option KeptWrite) → IsKept kept → Good s → Good (record s { kept = kept })
  kept_keeps s kept is good = record {
    version = good.version;
    phase = good.phase;
    received = good.received;
    kept = is;
    flight = good.flight;
    line = good.line;
  }

  -- no write is in flight, and these wait
  pub line_keeps : (s : Server) (waiting : List Waiting) → AllByRecursion (IsWriting db) waiting → Good s → Good (record s { waiting = waiting })
  line_keeps s waiting all good = record {
    version = good.version;
    phase = good.phase;
    received = good.received;
    kept = good.kept;
    flight = good.flight;
    line = all;
  }

-- a poll of its own begins
pub polling_keeps : (db : Database) (m : Member) (s : Server) (now : ℕ) → s.flight ≡ None → Keeps db (cell_size m) s →
    Keeps db (cell_size m) (polling m s now)
polling_keeps db m s now none good =
    phase_keeps db (cell_size m) s (Poll (new_poll m s now)) none (new_poll_is m s now good.version) good
