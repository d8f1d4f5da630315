-- How what the code keeps stands for a write in flight, and for a begun write of another server.
use Rattle.std.specs.Prelude.{◌≡◌, ◌<◌, ◌^◌, ◌↔◌, IsTrue, length}
use Rattle.ubik_types.specs.declared.limits.TheConstants.{MAXSERVERS}
use Rattle.ubik_write.specs.declared.flights.Flight.TheInside as flight
use Rattle.ubik_write.specs.Flight.{FlightRecord}
use Rattle.ubik_write.specs.Undo.{AreAscending}

abbrev pub flight_of : flight.Inside → FlightRecord
flight_of f = record {
  id = f.id;
  began = f.began;
  old_version = f.old_version;
  new_version = f.new_version;
  holders = f.holders;
  old_len = f.old_len;
  undo = f.undo.items;
  text = f.text;
}

-- there is a mark for each server, the text is as long as a number can tell, and patches are searched exactly where they ascend
pub record IsInOrder (f : flight.Inside) : Type 0 where
  pub holders : length f.holders ≡ MAXSERVERS
  pub text : length f.text < 2 ^ 32
  pub ascending : IsTrue f.ascending ↔ AreAscending f.undo.items
