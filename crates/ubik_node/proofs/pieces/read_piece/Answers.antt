use Rattle.std.proofs.Common.{◌≡◌, take, drop, List, ℕ, IfSome, rules, sym, subst}
use Rattle.ubik_store.specs.Store.{image_in}
use Rattle.ubik_node.proofs.HeldImages.{piece_is}
use Rattle.ubik_node.proofs.pieces.read_piece.Goals as goal

pub returns-clause-piece : goal.returns-clause-piece
returns-clause-piece g c =
    let s = c.args.store.now in
    let ready = c.requires.sound.ready c.requires.fresh in
    piece_is (g.D.Disk.files s.disk) s.pages s.len c.args.at c.min-len.result c.new.result ready.agrees ready.len (search rules)
    (subst (λ (bytes : List ℕ). IfSome (image_in (g.D.Disk.files s.disk)) (λ image. bytes ≡ take c.min-len.result (drop c.args.at image))) (sym c.new.ensures) c.in_ok-bytes.ensures.bytes)
