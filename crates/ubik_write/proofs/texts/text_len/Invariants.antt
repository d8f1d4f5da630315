use Rattle.std.proofs.Common.{◌≡◌, ◌-◌, ◌^◌, min, length, take}
use Rattle.xdr_base.specs.ChangeText.{text_of}
use Rattle.ubik_write.proofs.texts.text_len.Given as goal

abbrev pub invariant-loop-change : goal.invariant-loop-change
invariant-loop-change l = l.len ≡ min (length (text_of (take l.change-index l.change-items))) (2 ^ 64 - 1)
