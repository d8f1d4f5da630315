use Rattle.std.proofs.Common.{◌≡◌, ◌-◌, ◌<◌, take, get_or}
use Rattle.std.specs.List.Sorted.{IsNonDecreasingBy}
use Rattle.ubik_write.specs.declared.undo.Patch.{Patch}
use Rattle.ubik_write.specs.Undo.{patch_end}
use Rattle.ubik_write.proofs.searches.are_ascending.Given as goal

-- the patches so far ascend, and the numbers are those of the last of them
abbrev pub invariant-loop-patch : goal.invariant-loop-patch
invariant-loop-patch l = record {
  at_order : IsNonDecreasingBy (λ (patch : Patch). patch.at) (take l.patch-index l.undo);
  end_order : IsNonDecreasingBy patch_end (take l.patch-index l.undo);
  at_first : l.patch-index ≡ 0 → l.at ≡ 0;
  end_first : l.patch-index ≡ 0 → l.end ≡ 0;
  at_last : (d : Patch) → 0 < l.patch-index → l.at ≡ (get_or l.undo (l.patch-index - 1) d).at;
  end_last : (d : Patch) → 0 < l.patch-index → l.end ≡ patch_end (get_or l.undo (l.patch-index - 1) d);
}
