-- What is spelled at a reader's place is what stands there.
use Rattle.std.proofs.Common.{◌≡◌, ℕ, ◌+◌, ◌*◌, ◌/◌, ◌%◌, ◌^◌, ◌<◌, ◌≤◌, Bool, true, false, List, ◌∷◌, ◌++◌, length, Result, Ok, refl, ◌∙◌, append_assoc, arith, nat_lt}
use Rattle.std.proofs.lemmas.Bool.{le-ltb}
use Rattle.ubik_types.specs.declared.phases.Phase.{Phase}
use Rattle.ubik_types.specs.declared.phases.Phase.TheVariants as phase
use Rattle.ubik_types.specs.declared.hosts.Host.{Host}
use Rattle.ubik_types.specs.declared.versions.Version.{Version}
use Rattle.ubik_types.specs.Version.{IsVersion}
use Rattle.xdr_base.specs.Spelling.{word, opaque_len}
use Rattle.xdr_base.specs.Reading.{Reading, past}
use Rattle.xdr_base.proofs.ReadBack.{word_again, word_left, truth_again, opaque_again, opaque_left}
use Rattle.ubik_calls.specs.declared.frames.FrameFault.{FrameFault}
use Rattle.ubik_calls.specs.declared.packets.TheConstants.{MAX_PIECE}
use Rattle.ubik_calls.specs.Fields.{Field, Number, Long, Truth, VersionOf, PhaseOf, Piece, spelled, field_spelling, phase_number}
use Rattle.ubik_calls.specs.Reading.{number_at, long_at, flag_at, piece_at, version_word_at, version_at, phase_at, host_at}

-- a value, and the reader before the other fields
pub record Reads {A : Type 0} (there : Result (A × Reading) FrameFault) (x : A) (fields : List Field) : Type 0 where
  pub behind : Reading
  pub is : there ≡ Ok (x, behind)
  pub rest : behind.rest ≡ spelled fields

pub word_reads : (n : ℕ) (after : List ℕ) (from : Reading) → n < 2 ^ 32 → from.rest ≡ word n ++ after → number_at from ≡ Ok (n, past 4 from)
unfolding number_at
word_reads n after from lt e = rw (word_again from n after lt e) refl

pub number_reads : (n : ℕ) (fields : List Field) (from : Reading) → n < 2 ^ 32 → from.rest ≡ spelled (Number n ∷ fields) → Reads (number_at from) n fields
unfolding spelled field_spelling
number_reads n fields from lt e = record { behind = past 4 from; is = word_reads n (spelled fields) from lt e; rest = word_left from n (spelled fields) e }

pub host_reads : (host : Host) (fields : List Field) (from : Reading) → host.0 < 2 ^ 32 → from.rest ≡ spelled (Number host.0 ∷ fields) → Reads (host_at from) host fields
unfolding host_at
host_reads host fields from lt e =
    let n = number_reads host.0 fields from lt e in
    record { behind = n.behind; is = rw n.is refl; rest = n.rest }

pub flag_reads : (b : Bool) (fields : List Field) (from : Reading) → from.rest ≡ spelled (Truth b ∷ fields) → Reads (flag_at from) b fields
unfolding spelled field_spelling flag_at
flag_reads true fields from e = record { behind = past 4 from; is = rw (truth_again from true (spelled fields) e) refl; rest = word_left from 1 (spelled fields) e }
flag_reads false fields from e = record { behind = past 4 from; is = rw (truth_again from false (spelled fields) e) refl; rest = word_left from 0 (spelled fields) e }

pub piece_reads : (bytes : List ℕ) (fields : List Field) (from : Reading) → length bytes ≤ MAX_PIECE → from.rest ≡ spelled (Piece bytes ∷ fields) → Reads (piece_at from) bytes fields
unfolding spelled field_spelling piece_at
piece_reads bytes fields from le e =
    record { behind = past (opaque_len (length bytes)) from; is = rw (opaque_again MAX_PIECE from bytes (spelled fields) (omega arith) le e) refl; rest = opaque_left from bytes (spelled fields) e }

version_word_reads : (n : ℕ) (after : List ℕ) (from : Reading) → n < 2 ^ 31 → from.rest ≡ word n ++ after → version_word_at from ≡ Ok (n, past 4 from)
unfolding version_word_at
version_word_reads n after from lt e =
    let fits : nat_lt 2147483647 n ≡ false = le-ltb _ _ (omega arith) in
    rw (word_reads n after from (omega arith) e, fits) refl

pub version_reads : (v : Version) (fields : List Field) (from : Reading) → IsVersion v → from.rest ≡ spelled (VersionOf v ∷ fields) → Reads (version_at from) v fields
unfolding spelled field_spelling version_at
version_reads v fields from fits e =
    let grouped : from.rest ≡ word v.epoch ++ (word v.counter ++ spelled fields) = e ∙ append_assoc (word v.epoch) (word v.counter) (spelled fields) in
    let left = word_left from v.epoch (word v.counter ++ spelled fields) grouped in
    record {
      behind = past 4 (past 4 from);
      is = rw (version_word_reads v.epoch (word v.counter ++ spelled fields) from fits.epoch grouped, version_word_reads v.counter (spelled fields) (past 4 from) fits.counter left) refl;
      rest = word_left (past 4 from) v.counter (spelled fields) left;
    }

pub long_reads : (n : ℕ) (fields : List Field) (from : Reading) → n < 2 ^ 64 → from.rest ≡ spelled (Long n ∷ fields) → Reads (long_at from) n fields
unfolding spelled field_spelling long_at
long_reads n fields from fits e =
    let high = n / 2 ^ 32 in
    let low = n % 2 ^ 32 in
    let grouped : from.rest ≡ word high ++ (word low ++ spelled fields) = e ∙ append_assoc (word high) (word low) (spelled fields) in
    let left = word_left from high (word low ++ spelled fields) grouped in
    let whole : high * 2 ^ 32 + low ≡ n = omega arith in
    record {
      behind = past 4 (past 4 from);
      is = rw (word_reads high (word low ++ spelled fields) from (omega arith) grouped, word_reads low (spelled fields) (past 4 from) (omega arith) left, whole) refl;
      rest = word_left (past 4 from) low (spelled fields) left;
    }

small : (p : Phase) → phase_number p < 2 ^ 32
small phase.None = omega arith
small phase.Poll = omega arith
small phase.Fetch = omega arith
small phase.Relabel = omega arith
small phase.Send = omega arith
small phase.Ready = omega arith

known : (p : Phase) (from : Reading) → number_at from ≡ Ok (phase_number p, past 4 from) → phase_at from ≡ Ok (p, past 4 from)
unfolding phase_at
known phase.None from e = rw e refl
known phase.Poll from e = rw e refl
known phase.Fetch from e = rw e refl
known phase.Relabel from e = rw e refl
known phase.Send from e = rw e refl
known phase.Ready from e = rw e refl

pub phase_reads : (p : Phase) (fields : List Field) (from : Reading) → from.rest ≡ spelled (PhaseOf p ∷ fields) → Reads (phase_at from) p fields
unfolding spelled field_spelling phase_at
phase_reads p fields from e =
    record { behind = past 4 from; is = known p from (word_reads (phase_number p) (spelled fields) from (small p) e); rest = word_left from (phase_number p) (spelled fields) e }
