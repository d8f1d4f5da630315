use Rattle.std.proofs.Common.{◌∙◌, ◌≤◌, [], ◌≡◌, List, Bool, sym, subst, arith, ap, length}
use Rattle.std.proofs.lemmas.List.Elements.{All-push, All-same}
use Rattle.ubik_calls.specs.declared.packets.Packet.{Packet}
use Rattle.cell_sites.specs.declared.packets.Swept.{Swept}
use Rattle.cell_runs.specs.Script.{bytes_of}
use Rattle.cell_sites.specs.Swept.{HasSwept}
use Rattle.cell_sites.specs.SweptTo.{AreSwept, AreWithin}
use Rattle.cell_sites.proofs.packets.Packets.new.Goals as goal

pub loop-host-preserved : goal.loop-host-preserved
loop-host-preserved c =
    let P : Swept → Type 0 = λ s. s.below ≤ 0 in
    let Q : Swept → Type 0 = λ s. HasSwept [] [] s.host s.below in (
      All-same P _ _ c.in_ok-push.ensures.items (All-push P c.loop-host.swept.items _ c.loop-host.invariant.0 (omega arith)),
      All-same Q _ _ c.in_ok-push.ensures.items
          (All-push Q c.loop-host.swept.items _ c.loop-host.invariant.1 (λ k p lt there is. absurd (omega arith))),
    )

pub invariant_of-result : goal.invariant_of-result
invariant_of-result c =
    let sent : c.new.result.items ≡ [] = c.new.ensures.items in
    let handed : c.new-2.result.items ≡ [] = c.new-2.ensures.items in
    let A : List Packet → List Bool → Type 0 = λ s h. AreSwept s h c.loop-host.swept.items in
    record {
      each = ap length handed ∙ sym (ap length sent);
      few = omega (arith, ap length sent);
      bytes = sym (ap bytes_of sent);
      light = omega arith;
      low = omega arith;
      none = λ k lt. absurd (omega arith);
      within = subst (λ (s : List Packet). AreWithin (length s) c.loop-host.swept.items) (sym sent) c.loop-host.invariant.0;
      swept =
          subst (λ (s : List Packet). A s c.new-2.result.items) (sym sent)
          (subst (λ (h : List Bool). A [] h) (sym handed) c.loop-host.invariant.1);
    }
