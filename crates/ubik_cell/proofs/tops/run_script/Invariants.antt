use Rattle.std.proofs.Common.{◌≡◌, ◌≤◌, ◌-◌, [], IfSome, drop}
use Rattle.std.specs.Prelude.{vec_capacity}
use Rattle.ubik_types.specs.declared.limits.TheConstants.{MAXSERVERS}
use Rattle.cell_runs.specs.declared.limits.TheConstants.{MAX_LINES}
use Rattle.cell_sites.specs.Opened.{counts_of}
use Rattle.ubik_cell.specs.ScriptRuns.{IsSoundScript, script_lines, script_sites, script_spare}
use Rattle.ubik_cell.specs.Turns.{SoFar}
use Rattle.ubik_cell.proofs.tops.run_script.Given as goal

abbrev pub invariant-loop-kind : goal.invariant-loop-kind
invariant-loop-kind g l = record {
  so_far : IfSome (g.S.Source.left l.fn.input) (λ script. IfSome (g.K.Sink.written l.fn.out) (λ before.
      SoFar g.D.Disk (counts_of g.D.Disk l.fn.disks.items) script l.reader.ended
      (g.S.Source.left l.input) before (g.K.Sink.written l.out) l.run));
  sound : IsSoundScript g.D.Disk l.run;
  few : script_lines l.run ≤ MAX_LINES;
  spare : script_spare l.run ≡ drop (script_sites l.run) l.fn.disks.items;
  empty : l.disks.items ≡ [];
  room : MAXSERVERS ≤ vec_capacity l.disks;
  read : g.S.Source.faults l.fn.input ≤ g.S.Source.faults l.input;
  wrote : g.K.Sink.faults l.fn.out ≤ g.K.Sink.faults l.out;
}

abbrev pub decreases-loop-kind : goal.decreases-loop-kind
decreases-loop-kind g l = MAX_LINES - script_lines l.run
