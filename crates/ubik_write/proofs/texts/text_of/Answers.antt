use Rattle.std.proofs.Common.{◌<◌, ◌^◌, List, length, sym, subst, arith}
use Rattle.ubik_types.specs.declared.images.Change.{Change}
use Rattle.xdr_base.specs.ChangeText.{text_of}
use Rattle.ubik_write.proofs.ChangeTexts.{change-fits}
use Rattle.ubik_write.proofs.texts.text_of.Goals as goal

pub write_change-requires : goal.write_change-requires
write_change-requires c =
    let whole = subst (λ (changes : List Change). length (text_of changes) < 2 ^ 32) (sym c.as_slice-change-items.ensures) c.requires in
    rw c.change-item.is (change-fits c.as_slice-change-items.result.now c.loop-change.change-index c.change-item.result (omega arith) whole)
