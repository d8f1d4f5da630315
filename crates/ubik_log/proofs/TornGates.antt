-- What a crash in the write of one byte at the gate leaves.
use Rattle.std.proofs.Common.{◌≡◌, ◌⊎◌, inl, inr, ℕ, List, [], ◌∷◌, ◌++◌, length, get_or, take, drop, refl, sym, ap, ◌∙◌, subst, arith, take-append-drop}
use Rattle.std.proofs.lemmas.Bool.{cases_lt}
use Rattle.std.proofs.lemmas.List.{take_all, take_at, drop_more, append_assoc}
use Rattle.disk_base.specs.declared.disks.FileNo.TheVariants.{Log}
use Rattle.disk_base.specs.Files.{Files}
use Rattle.disk_base.specs.Crash.{Torn, InFile, OnlyIn, After}
use Rattle.ubik_types.specs.declared.images.Change.{Change}
use Rattle.ubik_types.specs.declared.versions.Version.{Version}
use Rattle.ubik_log.specs.LogGrammar.{field, IsCommitted, IsDiscarded}
use Rattle.ubik_log.specs.Gate.{IsOpen, closed, with_gate}
use Rattle.ubik_log.specs.LogFile.{with_log, HasAnyGate, HasLogOrNone}
use Rattle.ubik_log.proofs.Gates.{zero_word_is_discarded, open_gate_decides, closed_log_decides}

torn_gate : (old new : List ℕ) → Torn 3 1 old new → (new ≡ old) ⊎ ((byte : ℕ) × (new ≡ with_gate byte old))
torn_gate old new torn = elim (cases_lt (length new) 4) [
  | inl short ↦ inl (sym (take_all 3 new (omega arith)) ∙ torn.before ∙ take_all 3 old (omega (arith, torn.no_shorter)))
  | inr long ↦
      let byte = get_or new 3 0 in
      let behind : drop 3 new ≡ byte ∷ drop 4 old = drop_more new 3 0 (omega arith) ∙ ap (λ (x : List ℕ). byte ∷ x) torn.after in
      inr (byte, sym (take-append-drop 3 new) ∙ ap (λ (x : List ℕ). x ++ drop 3 new) torn.before ∙ ap (λ (x : List ℕ). take 3 old ++ x) behind ∙ sym (append_assoc (take 3 old) (byte ∷ []) (drop 4 old)))
]

any_gate : (d c : Files) → InFile Log (Torn 3 1) d c → HasAnyGate d c
any_gate d c step = elim (torn_gate d.log c.log step.1) [
  | inl same ↦ inl (step.0 ∙ ap (λ (x : List ℕ). with_log x d) same)
  | inr other ↦ inr (other.0, step.0 ∙ ap (λ (x : List ℕ). with_log x d) other.1)
]

-- the gate of files that a crash might have left before
pub left_gate : (before : Files → Type 0) (c : Files) → After (InFile Log (Torn 3 1)) before c → After HasAnyGate before c
left_gate before c from = (from.0, from.1, any_gate from.0 c from.2)

-- over a log that any byte at the gate leaves as a given one or discards, beside the other files
gate_over : (kept log : List ℕ) → ((kept ≡ log) ⊎ IsDiscarded kept) → ((byte : ℕ) → (with_gate byte kept ≡ log) ⊎ IsDiscarded (with_gate byte kept))
    → (before : Files → Type 0) → OnlyIn Log kept before → (c : Files) → After HasAnyGate before c → After (HasLogOrNone log) before c
gate_over kept log as_it_was decides before only c from =
    let is : from.0.log ≡ kept = only from.0 from.1 in
    let IsEither : List ℕ → Type 0 = λ x. (x ≡ log) ⊎ IsDiscarded x in
    elim from.2 [
      | inl same ↦
          let log_is : c.log ≡ from.0.log = ap (λ (f : Files). f.log) same in
          (from.0, from.1, (subst IsEither (sym (log_is ∙ is)) as_it_was, same ∙ ap (λ (x : List ℕ). with_log x from.0) (sym log_is)))
      | inr other ↦
          let log_is : c.log ≡ with_gate other.0 from.0.log = ap (λ (f : Files). f.log) other.1 in
          (from.0, from.1, (subst IsEither (sym (log_is ∙ ap (with_gate other.0) is)) (decides other.0), other.1 ∙ ap (λ (x : List ℕ). with_log x from.0) (sym log_is)))
    ]

-- a committed log that was kept closed
pub either_kept : (log : List ℕ) (changes : List Change) (version : Version) → IsCommitted log changes version
    → (before : Files → Type 0) → OnlyIn Log (closed log) before → (c : Files) → After HasAnyGate before c → After (HasLogOrNone log) before c
either_kept log changes version committed =
    gate_over (closed log) log (inr (zero_word_is_discarded (closed log) (take_at (field 0) (drop 4 log) 4 refl))) (λ byte. closed_log_decides log changes version byte committed)

-- a log whose gate is open
pub either_open : (log : List ℕ) → IsOpen log → (before : Files → Type 0) → OnlyIn Log log before → (c : Files) → After HasAnyGate before c → After (HasLogOrNone log) before c
either_open log is_open = gate_over log log (inl refl) (λ byte. open_gate_decides log byte is_open)
