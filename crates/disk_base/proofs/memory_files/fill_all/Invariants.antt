use Rattle.std.proofs.Common.{take}
use Rattle.disk_base.specs.Touches.{IsFilled}
use Rattle.disk_base.specs.Undos.{touches_in}
use Rattle.disk_base.proofs.memory_files.fill_all.Given as goal

-- the changing calls before this one are filled
abbrev pub invariant-loop-undo : goal.invariant-loop-undo
invariant-loop-undo l = IsFilled l.byte (touches_in (take l.undo-index l.undos)) l.initial.file l.file
