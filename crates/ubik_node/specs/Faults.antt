-- What a fault of an image is to the caller.
use Rattle.ubik_store.specs.declared.faults.StoreFault.{StoreFault}
use Rattle.ubik_store.specs.declared.faults.StoreFault.TheVariants as store
use Rattle.ubik_write.specs.declared.flights.FlightFault.{FlightFault}
use Rattle.ubik_write.specs.declared.flights.FlightFault.TheVariants as flight
use Rattle.ubik_node.specs.declared.faults.ImageFault.{ImageFault}
use Rattle.ubik_node.specs.declared.faults.ImageFault.TheVariants as image

abbrev pub of_flight : FlightFault → ImageFault
of_flight flight.DiskFault = image.DiskFault
of_flight flight.NoMemory = image.NoMemory

abbrev pub of_image : ImageFault → StoreFault
of_image image.DiskFault = store.DiskFault
of_image image.NoMemory = store.NoMemory
