use Rattle.std.proofs.Common.{◌≡◌, ◌∙◌, sym, ap, length, slice_get, Some, arith, refl}
use Rattle.std.proofs.lemmas.Option.{slice_get_read}
use Rattle.cell_sites.proofs.Waiting.{walk_begins, walk_drops_at, walk_passes_at, walk_ends_at, is_of, is_to, is_no}
use Rattle.cell_sites.proofs.packets.drop_from.Goals as goal
use Rattle.cell_sites.proofs.packets.drop_from.Goals.{then-packet-host, then-packet-host-via-then-packet-host}
use Rattle.cell_sites.proofs.packets.drop_from.Goals.{then-packet-host-via-else-packet-host+then-packet-host-2, else-packet-host+else-packet-host-2}

pub loop-k-init : goal.loop-k-init
loop-k-init c = walk_begins c.args.host c.args.sent.now c.args.handed.now c.args.from c.requires.each c.requires.before c.requires.within

pub loop-k-preserved : goal.loop-k-preserved
loop-k-preserved c =
    let packet = c.packet-packet.result.now in
    let there : slice_get c.args.sent.now c.loop-k.k ≡ Some packet = slice_get_read c.args.sent.now (length c.args.sent.now) c.loop-k.k
    c.index-sent-k.result refl c.loop-k-test.true c.index-sent-k.is ∙ ap Some (sym c.packet-packet.ensures) in
    let same : length c.loop-k.handed ≡ length c.args.sent.now = c.loop-k.auto.handed ∙ c.requires.each in
    elim c.if-packet-host.branch [
      | then-packet-host w ↦
          c.loop-k.invariant ∙ walk_drops_at c.args.host c.args.sent.now c.loop-k.handed c.if-packet-host.handed c.loop-k.k packet same
          there
          (elim w.then-packet-host.branch [
            | then-packet-host-via-then-packet-host w' ↦ is_of c.args.host packet w'.if-packet-host.true
            | then-packet-host-via-else-packet-host+then-packet-host-2 w' ↦ is_to c.args.host packet w'.if-packet-host-2.true
          ]) w.handed-is
      | else-packet-host+else-packet-host-2 w ↦
          c.loop-k.invariant ∙ walk_passes_at c.args.host c.args.sent.now c.loop-k.handed c.if-packet-host.handed c.loop-k.k packet same
          there
          (is_no c.args.host packet w.if-packet-host.false w.if-packet-host-2.false) w.handed-is
    ]

pub returns : goal.returns
returns c =
    let end : c.loop-k.k ≡ length c.args.sent.now = let within = c.loop-k.auto.k-end c.requires.within in omega (arith, within) in
    sym (c.loop-k.invariant ∙ walk_ends_at c.args.host c.args.sent.now c.loop-k.handed c.loop-k.k end)
