use Rattle.std.proofs.Common.{◌≡◌, ◌<◌, ◌≤◌, ◌∙◌, ap, subst, sym, arith, ℕ, Some, List, Bool, true, false, length, get_or}
use Rattle.cell_runs.specs.Script.{first_waiting}
use Rattle.cell_sites.specs.Swept.{NoneWaits}
use Rattle.cell_sites.specs.Traffic.{Traffic}
use Rattle.cell_sites.proofs.Waiting.{waits_at, none_waits, none_upto}
use Rattle.cell_sites.proofs.packets.Packets.first_waiting.Goals as goal
use Rattle.cell_sites.proofs.packets.Packets.first_waiting.Goals.{then-place-len, else-place-len}

pub returns-clause-first : goal.returns-clause-first
returns-clause-first c =
    let handed = c.self.inside.handed.items in
    let place = c.next_waiting-place.result in
    let seen : c.deref.result.now ≡ handed = c.deref.ensures.value in
    let next : (k : ℕ) → c.self.inside.low ≤ k → k < place → get_or handed k false ≡ true =
    subst (λ (h : List Bool). (k : ℕ) → c.self.inside.low ≤ k → k < place
    → get_or h k false ≡ true) seen c.next_waiting-place.ensures.none in
    let none : NoneWaits handed place = none_upto handed c.self.inside.low place c.self.invariant.none next in
    let len : c.len.result ≡ length handed = omega (arith, c.len.ensures, c.self.inside.handed.ok.0) in
    let is : first_waiting 1 handed ≡ first_waiting 1 c.args.self.now.handed = ap
    (λ (t : Traffic). first_waiting 1 t.handed) c.self.view_is in
    let end : place ≤ length handed = subst (λ (h : List Bool). place ≤ length h) seen c.next_waiting-place.ensures.end in
    let waits : place < length handed → get_or handed place true ≡ false =
    subst (λ (h : List Bool). place < length h → get_or h place true ≡ false) seen c.next_waiting-place.ensures.waits in
    elim c.if-place-len.branch [
      | then-place-len w ↦
          let lt : place < length handed = omega (arith, w.if-place-len.true, len) in
          w.result-is ∙ ap Some (omega arith) ∙ sym (waits_at 1 handed place none lt (waits lt)) ∙ is
      | else-place-len w ↦
          let all : place ≡ length handed = omega (arith, w.if-place-len.false, len, end) in
          w.result-is ∙ sym (none_waits 1 handed (subst (λ (n : ℕ). NoneWaits handed n) all none)) ∙ is
    ]

pub returns-clause-each : goal.returns-clause-each
returns-clause-each c =
    sym (ap (λ (t : Traffic). length t.handed) c.self.view_is) ∙ c.self.invariant.each ∙ ap (λ (t : Traffic). length t.sent) c.self.view_is
