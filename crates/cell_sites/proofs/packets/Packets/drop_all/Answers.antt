use Rattle.std.proofs.Common.{◌≡◌, Bool, List, length, sym, subst, arith, ap, ◌∙◌, map}
use Rattle.std.proofs.lemmas.List.{length-map}
use Rattle.std.specs.Vec.{with_items}
use Rattle.ubik_calls.specs.declared.packets.Packet.{Packet}
use Rattle.cell_runs.specs.Script.{dropped_of}
use Rattle.cell_sites.specs.declared.packets.Swept.{Swept}
use Rattle.cell_sites.specs.Swept.{NoneWaits}
use Rattle.cell_sites.specs.SweptTo.{AreSwept, AreWithin, swept_to}
use Rattle.cell_sites.proofs.Waiting.{covers_none, dropped_covers, length-dropped, items_with}
use Rattle.cell_sites.proofs.Sweeping.{swept_within, dropped_are_swept}
use Rattle.cell_sites.proofs.packets.Packets.drop_all.Goals as goal

pub invariant_of-self : goal.invariant_of-self
invariant_of-self c =
    let a = c.self.inside in
    let kept = c.self.invariant in
    let end = c.len.result in
    let len : end ≡ length a.sent.items = omega (arith, c.len.ensures, a.sent.ok.0) in
    let after = dropped_of c.args.host a.sent.items a.handed.items in
    let dropped : c.drop_from.new.handed ≡ after =
    c.drop_from.ensures ∙ ap (λ (s : List Packet). dropped_of c.args.host s c.deref_mut.result.now) c.deref-2.ensures.value
    ∙ ap (dropped_of c.args.host a.sent.items) c.deref_mut.ensures.value in
    let swept : c.sweep.new.swept ≡ map (swept_to c.args.host end) a.swept.items =
    c.sweep.ensures ∙ ap (map (swept_to c.args.host end)) c.deref_mut-2.ensures.value in
    let as_many : length after ≡ length a.sent.items = length-dropped c.args.host a.sent.items a.handed.items kept.each in
    let handed = items_with a.handed c.drop_from.new.handed (ap length dropped ∙ as_many ∙ sym kept.each) ∙ dropped in
    let places = items_with a.swept c.sweep.new.swept (ap length swept ∙ length-map a.swept.items (swept_to c.args.host end)) ∙ swept in
    record {
      each = ap length handed ∙ as_many;
      few = kept.few;
      bytes = kept.bytes;
      light = kept.light;
      low = kept.low;
      none = subst (λ (h : List Bool). NoneWaits h a.low) (sym handed)
          (covers_none a.handed.items after a.low (dropped_covers c.args.host a.sent.items a.handed.items kept.each) kept.none);
      within = subst (λ (s : List Swept). AreWithin (length a.sent.items) s) (sym places)
          (swept_within c.args.host end (length a.sent.items) a.swept.items (omega (arith, len)) kept.within);
      swept = subst (λ (s : List Swept). AreSwept a.sent.items (with_items a.handed c.drop_from.new.handed).items s) (sym places)
          (subst (λ (h : List Bool). AreSwept a.sent.items h (map (swept_to c.args.host end) a.swept.items)) (sym handed)
          (dropped_are_swept c.args.host end a.sent.items a.handed.items a.swept.items kept.each kept.swept));
    }
