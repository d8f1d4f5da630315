use Rattle.std.proofs.Common.{◌≡◌, ◌+◌, ◌*◌, ◌-◌, ◌/◌, ◌≤◌, ◌<◌, ℕ, min, max, length, take, drop, IfSome}
use Rattle.disk_base.specs.Stops.{IsStopped}
use Rattle.disk_base.specs.Runs.{OnlyReads}
use Rattle.page_file.specs.Kept.{IsKept, AreKept, BringsPages}
use Rattle.page_file.specs.Pages.{AgreesIn, SameButCache, image_of}
use Rattle.page_file.proofs.pages.Pages.read_range.Given as goal

abbrev pub invariant-loop-page : goal.invariant-loop-page
invariant-loop-page g l =
    record {
      bytes : IfSome (g.D.Disk.files l.disk)
          (λ fs. take (min (max l.begin (l.page * 1024)) l.to - l.begin) l.buf ≡ take (min (max l.begin (l.page * 1024)) l.to - l.begin)
          (drop l.begin (image_of fs.database)));
      reads : OnlyReads g.D.Disk l.initial.disk l.disk ⊥;
      same : SameButCache l.initial.self l.self;
      agrees : AgreesIn l.self (g.D.Disk.files l.disk);
      brought : (n : ℕ) × (l.page ≡ l.begin / 1024 + n) × BringsPages (l.begin / 1024) n l.initial.self.cache l.self.cache;
      kept : AreKept l.initial.self.cache l.begin (length l.initial.buf)
          → (l.disk ≡ l.initial.disk) × ((page : ℕ) → IsKept l.initial.self.cache page → IsKept l.self.cache page);
      stopped : IsStopped (g.D.Disk.stop l.initial.disk) → (page : ℕ) → l.begin / 1024 ≤ page → page < l.page
          → IsKept l.initial.self.cache page;
      coming : (page : ℕ) → l.page ≤ page → IsKept l.self.cache page → IsKept l.initial.self.cache page;
    }
