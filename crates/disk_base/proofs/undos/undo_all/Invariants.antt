use Rattle.std.proofs.Common.{◌≡◌, ◌≤◌, take, vec_capacity}
use Rattle.disk_base.specs.Undos.{all_undone}
use Rattle.disk_base.proofs.undos.undo_all.Given as goal

-- the calls from this one on are undone
abbrev pub invariant-loop-at : goal.invariant-loop-at
invariant-loop-at l = record {
  bytes : all_undone (take l.at l.undos) l.file.items ≡ all_undone l.undos l.initial.file.items;
  capacity : vec_capacity l.initial.file ≤ vec_capacity l.file;
}
