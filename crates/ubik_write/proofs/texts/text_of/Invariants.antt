use Rattle.std.proofs.Common.{◌≡◌, take}
use Rattle.xdr_base.specs.ChangeText.{text_of}
use Rattle.ubik_write.proofs.texts.text_of.Given as goal

abbrev pub invariant-loop-change : goal.invariant-loop-change
invariant-loop-change l = l.writer ≡ text_of (take l.change-index l.change-items)
