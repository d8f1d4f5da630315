-- Laws of the log grammar.
use Rattle.std.specs.Prelude.{◌≡◌, ◌≢◌, ◌⊎◌, ℕ, ◌<◌, List, [], ◌++◌, length}
use Rattle.ubik_types.specs.declared.images.Change.{Change}
use Rattle.ubik_types.specs.declared.versions.Version.{Version}
use Rattle.ubik_log.specs.Gate.{IsOpen, IsClosed, BeginsWithZero, closed, with_gate}
use Rattle.ubik_log.specs.LogGrammar.{IsCommitted, IsDiscarded}

-- A committed log has one reading.
abbrev pub HasOneReading : Type 0
HasOneReading = (log : List ℕ) (a b : List Change) (v w : Version) → IsCommitted log a v → IsCommitted log b w → (a ≡ b) × (v ≡ w)

-- No committed log begins another.
abbrev pub NoneBeginsAnother : Type 0
NoneBeginsAnother = (log more : List ℕ) (a b : List Change) (v w : Version) → IsCommitted log a v → IsCommitted (log ++ more) b w → more ≡ []

-- Bytes behind a closed gate say nothing, whatever they are.
abbrev pub ClosedGateIsDiscarded : Type 0
ClosedGateIsDiscarded = (log : List ℕ) → IsClosed log → IsDiscarded log

-- A log whose first word is zero is discarded.
abbrev pub ZeroWordIsDiscarded : Type 0
ZeroWordIsDiscarded = (log : List ℕ) → BeginsWithZero log → IsDiscarded log

-- Bytes that are too few for LOGNEW and LOGEND are discarded.
abbrev pub ShortLogIsDiscarded : Type 0
ShortLogIsDiscarded = (log : List ℕ) → length log < 16 → IsDiscarded log

-- With another byte at its gate than the last of LOGNEW a log is discarded.
abbrev pub OtherGateIsDiscarded : Type 0
OtherGateIsDiscarded = (log : List ℕ) (byte : ℕ) → byte ≢ 100 → IsDiscarded (with_gate byte log)

-- A byte at an open gate leaves it open, and the log as it was, or leaves a discarded log.
abbrev pub OpenGateDecides : Type 0
OpenGateDecides = (log : List ℕ) (byte : ℕ) → IsOpen log → (with_gate byte log ≡ log) ⊎ IsDiscarded (with_gate byte log)

-- A byte at the gate of a committed log that was kept closed leaves that committed log, or a discarded one.
abbrev pub ClosedLogDecides : Type 0
ClosedLogDecides = (log : List ℕ) (changes : List Change) (version : Version) (byte : ℕ) → IsCommitted log changes version
    → (with_gate byte (closed log) ≡ log) ⊎ IsDiscarded (with_gate byte (closed log))

-- A committed log that was kept closed is that log again once its gate is open.
abbrev pub OpenedLogIsCommitted : Type 0
OpenedLogIsCommitted = (log : List ℕ) (changes : List Change) (version : Version) → IsCommitted log changes version → with_gate 100 (closed log) ≡ log
