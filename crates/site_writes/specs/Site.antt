-- What contracts see of the writes of a sync site: one that is in flight, and the calls that wait.
use Rattle.std.specs.Prelude.{◌≡◌, ℕ, Option, Some, None, List, [], ◌∷◌, ◌++◌, IfSome, drop}
use Rattle.std.specs.Option.{option_map}
use Rattle.cell_model.specs.Node.{Flight, Waiting}
use Rattle.site_writes.specs.OwnWrite.{OwnRecord}
use Rattle.site_writes.specs.declared.sites.WaitFault.{WaitFault}
use Rattle.site_writes.specs.declared.sites.WaitFault.TheVariants as fault

pub record SiteRecord : Type 0 where
  -- the id of the call that has the place of the write in flight, where that write is not yet in flight
  pub held : Option ℕ
  pub own : Option OwnRecord
  -- the calls that wait, in their order
  pub waiting : List Waiting

-- the write in flight, as the rules have it
abbrev pub flight_in : SiteRecord → Option Flight
flight_in site = option_map (λ (write : OwnRecord). write.flight) site.own

abbrev pub no_writes : SiteRecord
no_writes = record { held = None; own = None; waiting = [] }

abbrev pub with_place : SiteRecord → ℕ → SiteRecord
with_place site id = record site { held = Some id }

abbrev pub without_place : SiteRecord → SiteRecord
without_place site = record site { held = None }

-- the write that had the place is in flight
abbrev pub with_flight : SiteRecord → OwnRecord → SiteRecord
with_flight site write = record site { held = None; own = Some write }

abbrev pub without_flight : SiteRecord → SiteRecord
without_flight site = record site { own = None }

-- a call waits behind the others
abbrev pub with_waiting : SiteRecord → ℕ → List ℕ → SiteRecord
with_waiting site id call = record site { waiting = site.waiting ++ record { id = id; call = call } ∷ [] }

-- the first call has got its turn
abbrev pub without_first : SiteRecord → SiteRecord
without_first site = record site { waiting = drop 1 site.waiting }

-- the fault names the write in flight
abbrev pub LineIsFull : SiteRecord → WaitFault → Type 0
LineIsFull site why = IfSome site.own (λ write. why ≡ fault.LineFull write.flight.id)
