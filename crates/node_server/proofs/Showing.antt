-- What a server shows of the files that it ends for.
use Rattle.std.specs.Prelude.{Option, Some, None, IfSome}
use Rattle.disk_base.specs.Files.{Files}
use Rattle.server_crew.specs.declared.running.CrewEnd.{CrewEnd}
use Rattle.server_crew.specs.declared.running.CrewEnd.TheVariants as crew
use Rattle.ubik_store.specs.declared.faults.StoreFault.{StoreFault}
use Rattle.ubik_store.specs.declared.faults.StoreFault.TheVariants as fault
use Rattle.ubik_store.specs.Opening.{RefusesFiles}
use Rattle.node_server.specs.Ends.{ShowsFiles, kind_of_end, kind_of_fault}

shows : (fs : Files) (why : StoreFault) → RefusesFiles fs why → ShowsFiles fs (kind_of_fault why)
shows fs fault.DiskFault refused = tt
shows fs (fault.BadLabel len head) refused = refused
shows fs (fault.TooLarge bytes) refused = tt
shows fs (fault.NotNewer own given) refused = tt
shows fs fault.NoMemory refused = tt

pub shows_refused : (files : Option Files) (why : StoreFault) → IfSome files (λ fs. RefusesFiles fs why)
    → IfSome files (λ fs. ShowsFiles fs (kind_of_fault why))
shows_refused None why refused = tt
shows_refused (Some fs) why refused = shows fs why refused

-- a kind of which nothing is to be shown
pub shows_unit : (files : Option Files) → IfSome files (λ fs. Unit {0})
shows_unit None = tt
shows_unit (Some fs) = tt

shows_none : (fs : Files) (end : CrewEnd) → ShowsFiles fs (kind_of_end end)
shows_none fs crew.Closed = tt
shows_none fs crew.NoThread = tt
shows_none fs (crew.JournalFull entries bytes) = tt
shows_none fs crew.Halted = tt
shows_none fs crew.NoMemory = tt

pub shows_nothing : (files : Option Files) (end : CrewEnd) → IfSome files (λ fs. ShowsFiles fs (kind_of_end end))
shows_nothing None end = tt
shows_nothing (Some fs) end = shows_none fs end
