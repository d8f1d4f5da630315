-- Versions that polls name, texts that are received, hosts of a cell, and bodies of packets.
use Rattle.std.proofs.Common.{Bool, true, false, cond, ◌==◌, ◌≡◌, ℕ, zero, suc, ◌+◌, ◌<◌, ◌≤◌, List, [], ◌∷◌, ◌++◌}
use Rattle.std.proofs.Common.{length, refl, sym, subst, ◌∙◌, arith}
use Rattle.std.proofs.Math.Nat.{min-le_left}
use Rattle.std.proofs.lemmas.Bool.{cond_both}
use Rattle.std.proofs.lemmas.Bool.Decides.{nat_tests}
use Rattle.std.proofs.lemmas.List.{length-append, length-set, length-take}
use Rattle.std.specs.List.{AllByRecursion}
use Rattle.std.specs.Prelude.{◌&&◌, ◌^◌, nat_le, Option, Some, None, drop, replicate, set}
use Rattle.ubik_types.specs.declared.limits.TheConstants.{MAX_IMAGE}
use Rattle.ubik_types.specs.declared.versions.Version.{Version}
use Rattle.ubik_types.specs.Moment.{IsMoment}
use Rattle.ubik_types.specs.Phase.{Polled, PhaseRecord, NoPhase, Poll, Fetch, Relabel, Send, Ready}
use Rattle.ubik_types.specs.Version.{IsVersion, zero_version, version_lt, version_eq}
use Rattle.ubik_calls.specs.declared.packets.TheConstants.{MAX_PIECE}
use Rattle.ubik_calls.specs.declared.packets.Body.{Body}
use Rattle.ubik_calls.specs.declared.packets.Body.TheVariants as body
use Rattle.cell_model.specs.Node.{Server, ReceivedText}
use Rattle.cell_model.specs.Pieces.{piece_from}
use Rattle.cell_model.specs.Polls.{new_poll, with_answer, best_version, best_answer, only_at}
use Rattle.cell_model.specs.Recovery.{first_of_epoch, held_by, piece_fits, text_begun, continues, text_continued, text_with, sent_piece, spread_to}
use Rattle.cell_model.specs.Step.{Member, cell_size, is_fetch, told_version, with_phase, with_database}
use Rattle.cell_model.specs.Writes.{next_version}
use Rattle.cell_laws.proofs.Parts.{eq_true, and_both}
use Rattle.cell_places.proofs.Hosts.{length-only}
use Rattle.recovery_laws.specs.Spreads.{IsLaterVersion}
use Rattle.recovery_laws.specs.HasNoWrite.{IsAnswer, IsPollOf, IsPhaseOf, IsTextOf, IsReceived, HasNoWrite, IsRecoveryBody}

le_true : (a b : ℕ) → nat_le a b ≡ true → a ≤ b
le_true a b is = grind (arith, nat_tests)

-- ---- versions

pub zero_is : IsVersion zero_version
zero_is = record { epoch = omega arith; counter = omega arith }

pub first_is : (now : ℕ) → IsMoment now → IsVersion (first_of_epoch now)
first_is now moment = record { epoch = moment.fits; counter = omega arith }

pub next_is : (v : Version) → (v.counter == 2147483647) ≡ false → IsVersion v → IsVersion (next_version v)
next_is v other is =
    let below : v.counter < 2 ^ 31 = is.counter in record { epoch = is.epoch; counter = grind (arith, nat_tests) }

-- a version above another one is not the first
pub above_first : (v other : Version) → version_lt v other ≡ true → version_eq other zero_version ≡ false
above_first v other above = grind (arith, nat_tests)

-- nor is one that is not below another one, and not that
pub not_first : (v other : Version) → version_eq v other ≡ false → version_lt other v ≡ false → version_eq other zero_version ≡ false
not_first v other differs not_lower = grind (arith, nat_tests)

pub first_later : (now : ℕ) → IsMoment now → IsLaterVersion (first_of_epoch now)
first_later now moment = record { version = first_is now moment; later = grind (arith, nat_tests) }

pub next_later : (v : Version) → version_eq (next_version v) zero_version ≡ false
next_later v = grind (arith, nat_tests)

-- ---- answers

all_set : (answers : List (Option Version)) (k : ℕ) (v : Version) → IsVersion v → AllByRecursion IsAnswer answers →
    AllByRecursion IsAnswer (set answers k (Some v))
all_set [] k v is all = tt
all_set (a ∷ answers) zero v is all = (is, all.1)
all_set (a ∷ answers) (suc k) v is all = (all.0, all_set answers k v is all.1)

all_none : (n : ℕ) → AllByRecursion IsAnswer (replicate n None)
all_none zero = tt
all_none (suc n) = (tt, all_none n)

all_only : (n me : ℕ) (v : Version) → IsVersion v → AllByRecursion IsAnswer (only_at (Some v) None n me)
all_only zero me v is = tt
all_only (suc n) zero v is = (is, all_none n)
all_only (suc n) (suc me) v is = (tt, all_only n me v is)

pub new_poll_is : (m : Member) (s : Server) (now : ℕ) → IsVersion s.version → IsPollOf (cell_size m) (new_poll m s now)
new_poll_is m s now is = record {
  each = length-only (cell_size m) m.me (Some s.version) None;
  answers = all_only (cell_size m) m.me s.version is;
}

pub answered_is : (servers : ℕ) (poll : Polled) (k : ℕ) (v : Version) → IsVersion v → IsPollOf servers poll →
    IsPollOf servers (with_answer poll k v)
answered_is servers poll k v version is = record {
  each = length-set poll.answers k (Some v) ∙ is.each;
  answers = all_set poll.answers k v version is.answers;
}

-- ---- the best answer

best_is : (answers : List (Option Version)) (best : Version) → IsVersion best → AllByRecursion IsAnswer answers →
    IsVersion (best_version best answers)
best_is [] best is all = is
best_is (None ∷ answers) best is all = best_is answers best is all.1
best_is (Some v ∷ answers) best is all =
    best_is answers (cond (version_lt best v) v best) (cond_both (version_lt best v) v best IsVersion (λ _. all.0) (λ _. is)) all.1

pub best_answer_is : (servers : ℕ) (poll : Polled) → IsPollOf servers poll → IsVersion (best_answer poll)
best_answer_is servers poll is = best_is poll.answers zero_version zero_is is.answers

-- ---- phases

pub told_is : (servers : ℕ) (phase : PhaseRecord) (own : Version) → IsPhaseOf servers phase → IsVersion own →
    IsVersion (told_version phase own)
told_is servers NoPhase own phase is = is
told_is servers (Poll poll) own phase is = is
told_is servers (Fetch poll best host) own phase is = is
told_is servers (Relabel poll) own phase is = is
told_is servers (Send poll spread) own phase is = is
told_is servers (Ready poll spread announced) own phase is = phase.2

pub held_is : (servers : ℕ) (phase : PhaseRecord) (k : ℕ) → IsPhaseOf servers phase → IsPhaseOf servers (held_by phase k)
held_is servers NoPhase k is = is
held_is servers (Poll poll) k is = is
held_is servers (Fetch poll best host) k is = is
held_is servers (Relabel poll) k is = is
held_is servers (Send poll spread) k is = is
held_is servers (Ready poll spread announced) k is = is

-- ---- servers

pub phase_is : (servers : ℕ) (s : Server) (phase : PhaseRecord) → IsPhaseOf servers phase → HasNoWrite servers s →
    HasNoWrite servers (with_phase s phase)
phase_is servers s phase is good = record {
  version = good.version;
  phase = is;
  received =
      cond_both (is_fetch s.phase) None (cond (is_fetch phase) None s.received) IsReceived (λ _. tt)
      (λ _. cond_both (is_fetch phase) None s.received IsReceived (λ _. tt) (λ _. good.received));
  kept = good.kept;
  flight = good.flight;
  waiting = good.waiting;
}

pub database_is : (servers : ℕ) (s : Server) (v : Version) (image : List ℕ) → IsVersion v → HasNoWrite servers s →
    HasNoWrite servers (with_database s v image)
database_is servers s v image is good = record {
  version = is;
  phase = good.phase;
  received = tt;
  kept = refl;
  flight = good.flight;
  waiting = good.waiting;
}

pub received_is : (servers : ℕ) (s : Server) (text : ReceivedText) → IsTextOf text → HasNoWrite servers s →
    HasNoWrite servers (record s { received = Some text })
received_is servers s text is good = record {
  version = good.version;
  phase = good.phase;
  received = is;
  kept = good.kept;
  flight = good.flight;
  waiting = good.waiting;
}

-- ---- received texts

pub text_is : (may_begin : Bool) (k : ℕ) (version : Version) (total at : ℕ) (bytes : List ℕ) (before : Option ReceivedText) →
    IsVersion version → IsReceived before → IsReceived (text_with may_begin k version total at bytes before)
text_is may_begin k version total at bytes before is old =
    cond_both (piece_fits total at bytes)
    (cond (at == 0) (cond may_begin (Some (text_begun k version total bytes)) None) (text_continued k version total at bytes before)) None
    IsReceived
    (λ fits. cond_both (at == 0) (cond may_begin (Some (text_begun k version total bytes)) None)
    (text_continued k version total at bytes before) IsReceived (λ _. begun fits may_begin) (λ _. continued fits before old))
    (λ _. tt)
  where
    within : piece_fits total at bytes ≡ true → (total ≤ MAX_IMAGE) × (at + length bytes ≤ total)
    within fits =
        let both = and_both (nat_le total MAX_IMAGE) (nat_le (at + length bytes) total) fits in (le_true _ _ both.0, le_true _ _ both.1)

    begun : piece_fits total at bytes ≡ true → (b : Bool) → IsReceived (cond b (Some (text_begun k version total bytes)) None)
    begun fits true =
        let end : at + length bytes ≤ total = (within fits).1 in record { version = is; total = (within fits).0; front = omega arith }
    begun fits false = tt

    longer : (text : ReceivedText) → at + length bytes ≤ total → text.total ≡ total → length text.bytes ≡ at →
        length (text.bytes ++ bytes) ≤ text.total
    longer text end same here = let whole = length-append text.bytes bytes in omega arith

    continued : piece_fits total at bytes ≡ true → (text : Option ReceivedText) → IsReceived text →
        IsReceived (text_continued k version total at bytes text)
    continued fits None old = tt
    continued fits (Some text) old =
        cond_both (continues k version total at text) (Some (record text { bytes = text.bytes ++ bytes })) None IsReceived
        (λ goes.
        let first = and_both (text.server == k && version_eq text.version version && text.total == total) (length text.bytes == at) goes in
        let second = and_both (text.server == k && version_eq text.version version) (text.total == total) first.0 in
        record {
          version = old.version;
          total = old.total;
          front = longer text (within fits).1 (eq_true text.total total second.1) (eq_true (length text.bytes) at first.1);
        })
        (λ _. tt)

-- the version of a text that is received is not the first
abbrev pub IsLaterText : Option ReceivedText → Type 0
IsLaterText None = Unit {0}
IsLaterText (Some text) = version_eq text.version zero_version ≡ false

pub text_later : (may_begin : Bool) (k : ℕ) (version : Version) (total at : ℕ) (bytes : List ℕ) (before : Option ReceivedText) →
    version_eq version zero_version ≡ false → IsLaterText (text_with may_begin k version total at bytes before)
text_later may_begin k version total at bytes before later =
    cond_both (piece_fits total at bytes)
    (cond (at == 0) (cond may_begin (Some (text_begun k version total bytes)) None) (text_continued k version total at bytes before)) None IsLaterText
    (λ _. cond_both (at == 0) (cond may_begin (Some (text_begun k version total bytes)) None)
    (text_continued k version total at bytes before) IsLaterText
    (λ _. cond_both may_begin (Some (text_begun k version total bytes)) None IsLaterText (λ _. later) (λ _. tt)) (λ _. continued before))
    (λ _. tt)
  where
    same_later : (v other : Version) → version_eq v other ≡ true → version_eq other zero_version ≡ false → version_eq v zero_version ≡ false
    same_later v other same later = grind (arith, nat_tests)

    continued : (text : Option ReceivedText) → IsLaterText (text_continued k version total at bytes text)
    continued None = tt
    continued (Some text) =
        cond_both (continues k version total at text) (Some (record text { bytes = text.bytes ++ bytes })) None IsLaterText
        (λ goes.
        let first = and_both (text.server == k && version_eq text.version version && text.total == total) (length text.bytes == at) goes in
        let second = and_both (text.server == k && version_eq text.version version) (text.total == total) first.0 in
        same_later text.version version (and_both (text.server == k) (version_eq text.version version) second.0).1 later)
        (λ _. tt)

-- a whole text is no longer than the longest image
pub whole_fits : (text : ReceivedText) → IsTextOf text → length text.bytes ≤ MAX_IMAGE
whole_fits text is = let total : text.total ≤ MAX_IMAGE = is.total in let front : length text.bytes ≤ text.total = is.front in omega arith

-- ---- bodies

pub piece_short : (bytes : List ℕ) (at : ℕ) → length (piece_from bytes at) ≤ MAX_PIECE
piece_short bytes at =
    subst (λ (n : ℕ). n ≤ MAX_PIECE) (sym (length-take MAX_PIECE (drop at bytes))) (min-le_left MAX_PIECE (length (drop at bytes)))

pub version_body : (poll : ℕ) (v : Version) → IsVersion v → IsRecoveryBody (body.VersionIs poll v)
version_body poll v is = record { kind = tt; bounded = (tt, (is, tt)) }

pub kept_body : (v : Version) → IsVersion v → IsRecoveryBody (body.VersionKept v)
kept_body v is = record { kind = tt; bounded = (is, tt) }

pub asked_body : (poll : ℕ) (v : Version) (at : ℕ) → IsVersion v → IsRecoveryBody (body.GetPiece poll v at)
asked_body poll v at is = record { kind = tt; bounded = (tt, (is, (tt, tt))) }

pub sent_body : (s : Server) (poll at : ℕ) → IsVersion s.version → IsRecoveryBody (sent_piece s poll at)
sent_body s poll at is = record { kind = tt; bounded = (tt, (is, (tt, (tt, (piece_short s.image at, tt))))) }

pub spread_body : (s : Server) (poll : ℕ) (old : Version) (has_old : Bool) → IsVersion old → IsVersion s.version →
    IsRecoveryBody (spread_to s poll old has_old)
spread_body s poll old true before is = record { kind = tt; bounded = (tt, (before, (is, tt))) }
spread_body s poll old false before is = sent_body s poll 0 is

-- packets to one place, if any
pub bodies_if : (test : Bool) (bodies : List Body) → AllByRecursion IsRecoveryBody bodies →
    AllByRecursion IsRecoveryBody (cond test [] bodies)
bodies_if true bodies all = tt
bodies_if false bodies all = all
