-- Which logs a closed gate, a torn gate and an opened one leave.
use Rattle.std.proofs.Common.{◌≡◌, ◌≢◌, ◌⊎◌, inl, inr, ℕ, List, [], ◌∷◌, ◌++◌, length, slice_index, drop, sym, ap, ◌∙◌, arith, length-append}
use Rattle.std.proofs.lemmas.Bool.{cases_eq}
use Rattle.std.proofs.lemmas.List.{get_or-take}
use Rattle.std.specs.List.{flat_map}
use Rattle.ubik_log.specs.LogGrammar.{new_record, IsDiscarded}
use Rattle.ubik_log.specs.Records.{change_record, end_record}
use Rattle.ubik_log.specs.Gate.{IsOpen, IsClosed, closed, with_gate}
use Rattle.ubik_log.specs.Laws.{ZeroWordIsDiscarded, ShortLogIsDiscarded, OtherGateIsDiscarded, OpenGateDecides, ClosedLogDecides, OpenedLogIsCommitted}
use Rattle.ubik_log.proofs.OneReading.{closed_gate_is_discarded}
use Rattle.ubik_log.proofs.Spelled.{records_of, text_is}

pub zero_word_is_discarded : ZeroWordIsDiscarded
zero_word_is_discarded log zero =
    closed_gate_is_discarded log (λ is_open. let none : slice_index log 3 ≡ 0 = sym (get_or-take 4 log 3 0 (omega arith)) ∙ ap (λ (x : List ℕ). slice_index x 3) zero in omega arith)

pub short_log_is_discarded : ShortLogIsDiscarded
short_log_is_discarded log short changes version committed =
    omega (arith, ap length (text_is committed), length-append new_record (records_of changes version), length-append (flat_map change_record changes) (end_record version))

other_gate_is_closed : (log : List ℕ) (byte : ℕ) → byte ≢ 100 → IsClosed (with_gate byte log)
other_gate_is_closed [] byte other is_open = omega arith
other_gate_is_closed (a ∷ []) byte other is_open = omega arith
other_gate_is_closed (a ∷ b ∷ []) byte other is_open = omega arith
other_gate_is_closed (a ∷ b ∷ c ∷ rest) byte other is_open = other is_open

pub other_gate_is_discarded : OtherGateIsDiscarded
other_gate_is_discarded log byte other = closed_gate_is_discarded (with_gate byte log) (other_gate_is_closed log byte other)

-- an open gate is left as it is by its own byte
same_gate : (log : List ℕ) → IsOpen log → with_gate 100 log ≡ log
same_gate [] is_open = absurd (omega arith)
same_gate (a ∷ []) is_open = absurd (omega arith)
same_gate (a ∷ b ∷ []) is_open = absurd (omega arith)
same_gate (a ∷ b ∷ c ∷ []) is_open = absurd (omega arith)
same_gate (a ∷ b ∷ c ∷ d ∷ rest) is_open = ap (λ n. a ∷ b ∷ c ∷ n ∷ rest) (sym is_open)

-- a byte at a gate either leaves what 100 does, or a discarded log
decides : (log opened : List ℕ) (byte : ℕ) → with_gate 100 log ≡ opened → (with_gate byte log ≡ opened) ⊎ IsDiscarded (with_gate byte log)
decides log opened byte is = elim (cases_eq byte 100) [
  | inl same ↦ inl (ap (λ n. with_gate n log) same ∙ is)
  | inr other ↦ inr (other_gate_is_discarded log byte other)
]

pub open_gate_decides : OpenGateDecides
open_gate_decides log byte is_open = decides log log byte (same_gate log is_open)

pub opened_log_is_committed : OpenedLogIsCommitted
opened_log_is_committed log changes version committed =
    ap (λ (x : List ℕ). new_record ++ drop 4 x) committed.begins ∙ sym committed.begins

pub closed_log_decides : ClosedLogDecides
closed_log_decides log changes version byte committed = decides (closed log) log byte (opened_log_is_committed log changes version committed)
