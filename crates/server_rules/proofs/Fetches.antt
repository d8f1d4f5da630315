-- A fetch: what its last piece leads to; and relabelling, whatever recovery the server has.
use Rattle.std.proofs.Common.{◌≡◌, ◌∙◌, ◌+◌, ◌<◌, ◌≤◌, ⊎_elim, ℕ, Bool, true, false, cond, Option, Some, None, List, [], ◌∷◌, length, take, refl, sym, ap, arith}
use Rattle.std.specs.Prelude.{◌==◌, ◌&&◌, nat_lt}
use Rattle.std.proofs.lemmas.Bool.{and_parts}
use Rattle.std.proofs.lemmas.Bool.Decides.{nat_tests}
use Rattle.std.proofs.lemmas.List.{length-append, length-take-le}
use Rattle.ubik_types.specs.declared.phases.Phase.{Phase}
use Rattle.ubik_types.specs.declared.phases.Phase.TheVariants as phase
use Rattle.ubik_types.specs.declared.versions.Version.{Version}
use Rattle.ubik_types.specs.Phase.{Polled, PhaseRecord}
use Rattle.ubik_types.specs.Version.{version_eq, version_lt}
use Rattle.cell_model.specs.Node.{Server, ReceivedText}
use Rattle.cell_model.specs.Recovery.{bytes_received, fetch_went_on, first_of_epoch, is_whole, piece_fits, piece_received, relabelled, text_with}
use Rattle.cell_model.specs.Step.{Member, is_fetch}
use Rattle.ubik_recovery.specs.Record as recovery
use Rattle.ubik_recovery.specs.Record.{RecoveryRecord, adopted, best_of, host_of, in_phase, phase_record, polled_of, record_in, with_text}
use Rattle.ubik_recovery.specs.Rules.{recovering}
use Rattle.ubik_recovery.specs.declared.texts.TextSource.{TextSource}
use Rattle.ubik_recovery.specs.Text.{IsNext, received_bytes, with_piece}
use Rattle.server_state.specs.Receiving.{fetched}
use Rattle.server_state.specs.Recovering.{IsOfCell}

neither : {A : Type 0} (b : Bool) → ◌≡◌ {A = Option A} (cond b None None) None
neither true = refl
neither false = refl

-- the text where a phase ends
abbrev pub emptied : PhaseRecord → Option ReceivedText → Option ReceivedText
emptied p text = cond (is_fetch p) None text

pub fetch_empties : (v : Version) (r : RecoveryRecord) (text : Option ReceivedText) → r.phase ≡ phase.Fetch → emptied (phase_record v r) text ≡ None
fetch_empties v r text is = ap (λ (p : Phase). emptied (record_in p v r) text) is

-- A relabelling looks at neither phase nor text, but where a fetch ends in it.
pub relabelled_any : (m : Member) (s : Server) (poll : Polled) (now : ℕ) (p q : PhaseRecord) (a b : Option ReceivedText) → emptied p a ≡ emptied q b
    → relabelled m (record s { phase = p; received = a }) poll now ≡ relabelled m (record s { phase = q; received = b }) poll now
relabelled_any m s poll now p q a b same = rw (neither {A = ReceivedText} (is_fetch p), neither {A = ReceivedText} (is_fetch q), same) refl

-- a fetched image that is not newer: the own one is relabelled
pub fetched_relabels : (m : Member) (s : Server) (now me : ℕ) (image : List ℕ) (v : Version) (r : RecoveryRecord) → r.phase ≡ phase.Fetch → version_lt s.version (best_of r) ≡ false
    → fetched m (recovering v r s) now (polled_of r) (best_of r) image
    ≡ relabelled m (recovering v (adopted (in_phase (with_text r None) phase.Relabel me) r) s) (polled_of (in_phase (with_text r None) phase.Relabel me)) now
fetched_relabels m s now me image v r fetches older =
    let next = in_phase (with_text r None) phase.Relabel me in
    rw older (relabelled_any m s (polled_of r) now (phase_record v r) (phase_record v (adopted next r)) r.text (adopted next r).text
    (fetch_empties v r r.text fetches ∙ sym (ap (λ (p : Phase). cond (recovery.is_fetch p) None r.text) fetches)))

-- the recovery of a server that relabels after a fetch
pub of_relabelling : (n me : ℕ) (r : RecoveryRecord) → IsOfCell n r → IsOfCell n (in_phase (with_text r None) phase.Relabel me)
of_relabelling n me r of = record { servers = of.servers; answers = of.answers; old = of.old; text = λ t at. absurd (cc (neither {A = ReceivedText} (recovery.is_fetch r.phase), at)) }

pub past_newer : (v : Version) (now : ℕ) → v.epoch < now → version_lt v (first_of_epoch now) ≡ true
past_newer v now past = grind (arith, nat_tests)

pub later_epoch : (epoch now : ℕ) → epoch < now → nat_lt epoch now ≡ true
later_epoch epoch now past = grind (arith, nat_tests)

pub take_zero : {A : Type 0} (xs : List A) → take 0 xs ≡ []
take_zero [] = refl
take_zero (x ∷ xs) = refl

-- how long a text is with a piece
pub piece_end : (source : TextSource) (at : ℕ) (bytes : List ℕ) (text : Option ReceivedText) → IsNext at text → length (with_piece source at bytes text).bytes ≡ at + length bytes
piece_end source at bytes text next =
    ⊎_elim (λ first. rw first (length-append (take 0 (received_bytes text)) bytes ∙ ap (λ (xs : List ℕ). length xs + length bytes) (take_zero (received_bytes text))))
    (λ goes. length-append (take at (received_bytes text)) bytes ∙ ap (λ (n : ℕ). n + length bytes) (front_long (received_bytes text) at goes)) next
  where
    front_long : (xs : List ℕ) (at : ℕ) → at ≡ length xs → length (take at xs) ≡ at
    front_long xs at is = length-take-le at xs (omega (arith, is))

pub long_received : (text : Option ReceivedText) → length (received_bytes text) ≡ bytes_received text
long_received None = refl
long_received (Some text) = refl

pub asked_goes : (b : Bool) (k : ℕ) (version : Version) (total at : ℕ) (bytes : List ℕ) (text : Option ReceivedText) (y : ReceivedText) → b ≡ (length (received_bytes text) == 0) → text_with b k version total at bytes text ≡ Some y
    → text_with (bytes_received text == 0) k version total at bytes text ≡ Some y
asked_goes b k version total at bytes text y begins some =
    ap (λ (b : Bool). text_with b k version total at bytes text) (sym (begins ∙ ap (λ (n : ℕ). n == 0) (long_received text))) ∙ some

-- a piece that is taken is one of an image
pub fits_of : (may : Bool) (k : ℕ) (version : Version) (total at : ℕ) (bytes : List ℕ) (text : Option ReceivedText) (y : ReceivedText) → text_with may k version total at bytes text ≡ Some y → total ≤ 16777216
fits_of may k version total at bytes text y some = by (piece_fits total at bytes) refl _ some
  where
    by : (b : Bool) → piece_fits total at bytes ≡ b → (o : Option ReceivedText) → cond b o None ≡ Some y → total ≤ 16777216
    by true fits o is = grind (arith, nat_tests)
    by false fits o is = absurd cc

pub whole_at : (source : TextSource) (at : ℕ) (bytes : List ℕ) (text : Option ReceivedText) (b : Bool) → IsNext at text → ((at + length bytes) == source.total) ≡ b → is_whole (with_piece source at bytes text) ≡ b
whole_at source at bytes text b next is = ap (λ (n : ℕ). n == source.total) (piece_end source at bytes text next) ∙ is

-- the last piece of a fetched image
module _ (m : Member) (s : Server) (now k number : ℕ) (version : Version) (total at : ℕ) (bytes : List ℕ) (v : Version) (r : RecoveryRecord) (fetches : r.phase ≡ phase.Fetch) where
  fetched_in : piece_received m s now k number version total at bytes (phase_record v r) ≡ piece_received m s now k number version total at bytes (record_in phase.Fetch v r)
  fetched_in = ap (λ (p : Phase). piece_received m s now k number version total at bytes (record_in p v r)) fetches

  module _ (asked : (k == host_of r && number == r.poll && version_eq version (best_of r)) ≡ true) where
    piece_went : (text : Option ReceivedText) → text_with (bytes_received s.received == 0) k version total at bytes s.received ≡ text
        → piece_received m s now k number version total at bytes (phase_record v r) ≡ fetch_went_on m s now (polled_of r) (best_of r) (host_of r) text
    piece_went text is = fetched_in ∙ rw asked (ap (fetch_went_on m s now (polled_of r) (best_of r) (host_of r)) is)

    pub piece_ends : (text : ReceivedText) → text_with (bytes_received s.received == 0) k version total at bytes s.received ≡ Some text → is_whole text ≡ true
        → piece_received m s now k number version total at bytes (phase_record v r) ≡ fetched m s now (polled_of r) (best_of r) text.bytes
    piece_ends text is whole = piece_went (Some text) is ∙ rw whole refl

-- versions with the same numbers
pub same_version : (a b : Version) → version_eq a b ≡ true → a ≡ b
same_version a b is =
    let epoch : a.epoch ≡ b.epoch = grind (arith, nat_tests) in
    let counter : a.counter ≡ b.counter = grind (arith, nat_tests) in
    ◌∙◌ {b = record { epoch = b.epoch; counter = a.counter }} (ap (λ (e : ℕ). record { epoch = e; counter = a.counter }) epoch) (ap (λ (c : ℕ). record { epoch = b.epoch; counter = c }) counter)

-- the version that was asked is the best one
pub best_asked : (b : Bool) (k poll : ℕ) (version : Version) (r : RecoveryRecord) → b ≡ (k == host_of r && poll == r.poll && version_eq version (best_of r)) → b ≡ true → version ≡ best_of r
best_asked b k poll version r is asked =
    same_version version (best_of r) (and_parts (k == host_of r && poll == r.poll) _ (sym is ∙ asked)).1
