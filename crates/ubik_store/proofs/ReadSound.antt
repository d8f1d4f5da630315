-- A store after a read of its disk.
use Rattle.std.proofs.Common.{◌≡◌, false, ◌∙◌, sym, subst}
use Rattle.disk_base.specs.declared.disks.Disk.{Ghosts}
use Rattle.disk_base.specs.Runs.{OnlyReads}
use Rattle.disk_base.specs.Stops.{IsStopped}
use Rattle.page_file.specs.Pages.{Known, AgreesIn, SameButCache}
use Rattle.ubik_store.specs.declared.stores.Store.{Store}
use Rattle.ubik_store.specs.Store.{IsSound}
use Rattle.ubik_store.proofs.Committing.{settled_narrow}
use Rattle.ubik_store.proofs.Rests.{AllAtRest}

-- it keeps other pages, and all else stays
pub sound_read : {D : Type 0} (g : Ghosts D) (s : Store D) (disk : D) (pages : Known) → IsSound g s → s.failed ≡ false
    → SameButCache s.pages pages → AgreesIn pages (g.files disk) → OnlyReads g s.disk disk ⊥
    → IsSound g (record s { disk = disk; pages = pages })
sound_read g s disk pages sound went same agrees read =
    let ready = sound.ready went in
    let files : g.files disk ≡ g.files s.disk = read.files (λ none. none) in
    record {
      version = sound.version;
      len = sound.len;
      ready = λ _. record {
        agrees = agrees;
        label = same.version ∙ ready.label;
        len = same.len ∙ ready.len;
        rests = subst (AllAtRest s.version) (sym files) ready.rests;
        settled = settled_narrow (g.files s.disk) (g.files disk) (g.may_leave s.disk)
            (g.may_leave disk) files read.crash.no_more ready.settled;
        runs = λ stopped. ready.runs (subst IsStopped read.stop stopped);
      };
      begun = sound.begun;
    }
