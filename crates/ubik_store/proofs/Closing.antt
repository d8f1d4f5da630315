-- A log whose gate was closed says nothing, wherever it is cut off.
use Rattle.std.proofs.Common.{◌≡◌, inl, inr, ℕ, List, [], ◌∷◌, length, take, get_or, refl, ap, subst, ◌∙◌, arith, get_or-take}
use Rattle.std.proofs.lemmas.Bool.{cases_lt}
use Rattle.std.proofs.lemmas.Grind.{common_steps}
use Rattle.disk_base.specs.declared.disks.Disk.{Ghosts}
use Rattle.disk_base.specs.declared.disks.FileNo.TheVariants.{Log}
use Rattle.disk_base.specs.Files.{Files}
use Rattle.disk_base.specs.Crash.{CutShort, InFile, Follows, OnlyIn, LeavesOnly, After}
use Rattle.ubik_log.specs.Gate.{IsOpen, IsClosed, with_gate}
use Rattle.ubik_log.specs.LogFile.{with_log, gate_set, HasLogOrNone}
use Rattle.ubik_log.proofs.OneReading.{closed_gate_is_discarded}

-- a run leaves the log with the open gate, or a discarded one
abbrev pub LeavesLog : {D : Type 0} (g : Ghosts D) (old new : D) → Files → Type 0
LeavesLog g old new fs =
    IsOpen fs.log → OnlyIn Log fs.log (g.may_leave old)
    → LeavesOnly g.steps g.left_since old new (After (HasLogOrNone fs.log) (g.may_leave old))

gate_is_zero : (log : List ℕ) → get_or (with_gate 0 log) 3 0 ≡ 0
gate_is_zero [] = refl
gate_is_zero (a ∷ []) = refl
gate_is_zero (a ∷ b ∷ []) = refl
gate_is_zero (a ∷ b ∷ c ∷ rest) = refl

-- the byte at the gate of a log that was cut off is none, or what it was
front_gate : (log : List ℕ) (n : ℕ) → get_or log 3 0 ≡ 0 → get_or (take n log) 3 0 ≡ 0
front_gate log n zero = elim (cases_lt 3 n) [
  | inl there ↦ get_or-take n log 3 0 there ∙ zero
  | inr gone ↦ grind (arith, common_steps)
]

short_is_closed : (log new : List ℕ) → CutShort 0 (with_gate 0 log) new → get_or new 3 0 ≡ 0
short_is_closed log new (inl same) = ap (λ (xs : List ℕ). get_or xs 3 0) same ∙ gate_is_zero log
short_is_closed log new (inr short) =
    ap (λ (xs : List ℕ). get_or xs 3 0) short.1 ∙ front_gate (with_gate 0 log) (length new) (gate_is_zero log)

-- after the gate was closed
pub cut_off : (log : List ℕ) (before mid : Files → Type 0) → Follows (λ d c. c ≡ gate_set 0 d) before mid
    → (c : Files) → After (InFile Log (CutShort 0)) mid c → After (HasLogOrNone log) before c
cut_off log before mid closed c from =
    let shut = closed from.0 from.1 in
    let cut : CutShort 0 (with_gate 0 shut.0.log) c.log = subst (λ (fs : Files). CutShort 0 fs.log c.log) shut.2 from.2.1 in
    let zero = short_is_closed shut.0.log c.log cut in
    let is_closed : IsClosed c.log = λ is_open. omega (arith, zero, is_open) in
    (shut.0, shut.1, (inr (closed_gate_is_discarded c.log is_closed), from.2.0 ∙ ap (λ (fs : Files). with_log c.log fs) shut.2))
