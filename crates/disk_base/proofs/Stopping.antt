-- Changing calls one after the other, by the stop.
use Rattle.std.proofs.Common.{◌≡◌, ◌<◌, ◌≤◌, ◌∙◌, inl, inr, ℕ, zero, suc, ◌+◌, ◌-◌, Bool, false, cond, eqb, refl, ap, arith}
use Rattle.std.proofs.lemmas.Bool.{cases_lt}
use Rattle.std.proofs.lemmas.Bool.Decides.{nat_tests}
use Rattle.disk_base.specs.declared.disks.Fill.{Fill}
use Rattle.disk_base.specs.Stops.{DiskStop, IsStopped}
use Rattle.disk_base.specs.Stops.DiskStop.{Unarmed, Armed, Stopped}
use Rattle.disk_base.specs.Stops.{after_change, after_changes, Advances}

pub after_changes-add : (m n : ℕ) (stop : DiskStop) → after_changes m (after_changes n stop) ≡ after_changes (n + m) stop
after_changes-add zero n stop = let none : n ≡ n + zero = omega arith in ap (λ (k : ℕ). after_changes k stop) none
after_changes-add (suc m) n stop =
    let more : suc (n + m) ≡ n + suc m = omega arith in
    ap after_change (after_changes-add m n stop) ∙ ap (λ (k : ℕ). after_changes k stop) more

-- a disk that has stopped stays so
pub stays_stopped : (n : ℕ) (stop : DiskStop) → IsStopped stop → after_changes n stop ≡ stop
stays_stopped zero stop is = refl
stays_stopped (suc n) (Stopped fill) is = ap after_change (stays_stopped n (Stopped fill) is)
stays_stopped (suc n) Unarmed is = absurd is
stays_stopped (suc n) (Armed calls fill) is = absurd is

-- an armed disk lets so many calls pass
pub armed_passes : (n calls : ℕ) (fill : Fill) → n ≤ calls → after_changes n (Armed calls fill) ≡ Armed (calls - n) fill
armed_passes zero calls fill within = let all : calls ≡ calls - 0 = omega arith in ap (λ (k : ℕ). Armed k fill) all
armed_passes (suc n) calls fill within =
    let first : after_changes (suc n) (Armed calls fill) ≡ after_change (Armed (calls - n) fill) = ap after_change (armed_passes n calls fill (omega arith)) in
    let more : eqb (calls - n) 0 ≡ false = grind (arith, nat_tests) in
    let less : calls - n - 1 ≡ calls - suc n = omega arith in
    first
    ∙ ap (λ (b : Bool). cond b (Stopped fill) (Armed (calls - n - 1) fill)) more
    ∙ ap (λ (k : ℕ). Armed k fill) less

-- and stops in the next one
pub armed_stops : (n calls : ℕ) (fill : Fill) → calls < n → after_changes n (Armed calls fill) ≡ Stopped fill
armed_stops zero calls fill past = absurd (omega arith)
armed_stops (suc n) calls fill past = elim (cases_lt calls n) [
  | inl earlier ↦ ap after_change (armed_stops n calls fill earlier)
  | inr here ↦
      let passed : after_changes n (Armed calls fill) ≡ Armed 0 fill =
      let none : calls - n ≡ 0 = omega arith in armed_passes n calls fill (omega arith) ∙ ap (λ (k : ℕ). Armed k fill) none in
      ap after_change passed
]

module _ {steps steps' : ℕ} {stop stop' : DiskStop} where
  -- calls that change nothing
  pub advances_none : steps' ≡ steps → stop' ≡ stop → Advances steps steps' stop stop'
  advances_none same same_stop = record { calls = 0; steps = omega (arith, same); stop = same_stop }

  -- one changing call
  pub advances_one : steps' ≡ steps + 1 → stop' ≡ after_change stop → Advances steps steps' stop stop'
  advances_one more change = record { calls = 1; steps = more; stop = change }

  -- one run after another
  pub advances_joined : {steps'' : ℕ} {stop'' : DiskStop} → Advances steps steps' stop stop' → Advances steps' steps'' stop' stop'' → Advances steps steps'' stop stop''
  advances_joined {stop'' = stop''} first second = record {
    calls = first.calls + second.calls;
    steps = omega (arith, first.steps, second.steps);
    stop = second.stop ∙ ap (after_changes second.calls) first.stop ∙ after_changes-add second.calls first.calls stop;
  }
