-- The faults of a store that the faults of its pages, its log and its incoming file are.
use Rattle.page_file.specs.declared.faults.PageFault.{PageFault}
use Rattle.page_file.specs.declared.faults.PageFault.TheVariants as pages
use Rattle.ubik_log.specs.declared.disk_logs.LogFault.{LogFault}
use Rattle.ubik_log.specs.declared.disk_logs.LogFault.TheVariants as logs
use Rattle.incoming_file.specs.declared.reads.IncomingFault.{IncomingFault}
use Rattle.incoming_file.specs.declared.reads.IncomingFault.TheVariants as incoming
use Rattle.ubik_store.specs.declared.faults.StoreFault.{StoreFault}
use Rattle.ubik_store.specs.declared.faults.StoreFault.TheVariants.{DiskFault, BadLabel, NoMemory}

abbrev pub of_page : PageFault → StoreFault
of_page pages.DiskFault = DiskFault
of_page (pages.BadLabel len head) = BadLabel len head
of_page pages.NoMemory = NoMemory

abbrev pub of_log : LogFault → StoreFault
of_log logs.DiskFault = DiskFault
of_log logs.NoMemory = NoMemory

abbrev pub of_incoming : IncomingFault → StoreFault
of_incoming incoming.DiskFault = DiskFault
of_incoming incoming.NoMemory = NoMemory
