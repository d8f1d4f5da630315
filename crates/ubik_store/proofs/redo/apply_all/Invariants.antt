use Rattle.std.proofs.Common.{◌≡◌, ◌+◌, ◌≤◌, List, length, drop, IfSome}
use Rattle.std.specs.List.{All}
use Rattle.std.specs.Option.{option_map}
use Rattle.ubik_types.specs.declared.images.Change.{Change}
use Rattle.disk_base.specs.declared.disks.FileNo.TheVariants.{Database}
use Rattle.disk_base.specs.Files.{Files}
use Rattle.disk_base.specs.Crash.{Narrows, LeavesOnly}
use Rattle.disk_base.specs.Runs.{ChangesAtMost}
use Rattle.page_file.specs.Pages.{AgreesIn, image_of}
use Rattle.ubik_store.specs.Moments.{MayRedo, with_database, applied}
use Rattle.ubik_store.specs.Redo.{len_after, IsSeamless, IsCovered}
use Rattle.ubik_store.proofs.redo.apply_all.Given as goal

abbrev pub invariant-loop-change : goal.invariant-loop-change
invariant-loop-change g l =
    let rest = drop l.change-index l.changes in
    record {
      agrees : AgreesIn l.pages (g.D.Disk.files l.disk);
      headed : IfSome (g.D.Disk.files l.disk) (λ fs. 64 ≤ length fs.database);
      seamless : IsSeamless l.pages.len rest;
      files : option_map (with_database (applied rest)) (g.D.Disk.files l.disk) ≡ option_map (with_database (applied l.changes))
          (g.D.Disk.files l.initial.disk);
      len : len_after l.pages.len rest ≡ len_after l.initial.pages.len l.changes;
      version : l.pages.version ≡ l.initial.pages.version;
      steps : g.D.Disk.steps l.disk ≡ g.D.Disk.steps l.initial.disk + l.change-index;
      redo : (kept : Files) (told : List Change) → All (IsCovered told (image_of kept.database)) l.changes
          → Narrows (MayRedo kept told) (g.D.Disk.may_leave l.initial.disk)
          → LeavesOnly g.D.Disk.steps g.D.Disk.left_since l.initial.disk l.disk (MayRedo kept told);
      changes : ChangesAtMost g.D.Disk Database l.change-index l.initial.disk l.disk ⊥;
    }
