use Rattle.std.proofs.Common.{◌≡◌, ◌+◌, ◌++◌, ◌∷◌, [], false, Bool, List, length, sym, subst, arith, ap, ◌∙◌, if◌then◌else◌}
use Rattle.std.proofs.lemmas.List.{length_push}
use Rattle.ubik_calls.specs.declared.packets.Packet.{Packet}
use Rattle.ubik_calls.specs.Length.{packet_length}
use Rattle.cell_runs.specs.Script.{bytes_of}
use Rattle.cell_sites.specs.Traffic.{Traffic}
use Rattle.cell_sites.specs.Swept.{NoneWaits}
use Rattle.cell_sites.specs.SweptTo.{AreSwept}
use Rattle.cell_sites.proofs.Waiting.{bytes_of-push, covers_none, push_covers, passed_none}
use Rattle.cell_sites.proofs.Sweeping.{push_are_swept}
use Rattle.cell_sites.proofs.packets.Packets.push.Goals as goal

pub invariant_of-self-2 : goal.invariant_of-self-2
invariant_of-self-2 c =
    let a = c.self.inside in
    let p = c.args.packet in
    let handed : c.push.new.self.items ≡ a.handed.items ++ false ∷ [] = c.in_ok-push.ensures.items in
    let sent : c.push-2.new.self.items ≡ a.sent.items ++ p ∷ [] =
    c.push-2.ensures.items ∙ ap (λ (b : Bool). if b then a.sent.items ++ c.new.result ∷ [] else a.sent.items) c.if-is_err.ensures.negation
    ∙ ap (λ (q : Packet). a.sent.items ++ q ∷ []) c.new.ensures in
    let within = passed_none (length c.args.self.now.sent + 1) (bytes_of c.args.self.now.sent + packet_length p) c.requires.room in
    let same : c.args.self.now.sent ≡ a.sent.items = sym (ap (λ (t : Traffic). t.sent) c.self.view_is) in
    let count : length c.push-2.new.self.items ≡ length a.sent.items + 1 = ap length sent ∙ length_push a.sent.items p in
    let bytes : a.bytes + c.packet_len.result ≡ bytes_of c.push-2.new.self.items =
    let more = ap bytes_of sent ∙ bytes_of-push a.sent.items p in omega (arith, more, c.self.invariant.bytes, c.packet_len.ensures) in
    record {
      each = let h = ap length handed ∙ length_push a.handed.items false in omega (arith, h, count, c.self.invariant.each);
      few = let n = ap length same in omega (arith, within.0, n, count);
      bytes = bytes;
      light = let n = ap bytes_of same in omega (arith, within.1, n, c.self.invariant.bytes, c.packet_len.ensures);
      low = omega (arith, count, c.self.invariant.low);
      none = subst (λ (h : List Bool). NoneWaits h a.low) (sym handed)
          (covers_none a.handed.items (a.handed.items ++ false ∷ []) a.low (push_covers a.handed.items) c.self.invariant.none);
      within = λ k d lt. let w = c.self.invariant.within k d lt in omega (arith, w, count);
      swept = subst (λ (s : List Packet). AreSwept s c.push.new.self.items a.swept.items) (sym sent)
          (subst (λ (h : List Bool). AreSwept (a.sent.items ++ p ∷ []) h a.swept.items) (sym handed)
          (push_are_swept a.sent.items a.handed.items p a.swept.items c.self.invariant.within c.self.invariant.swept));
    }
