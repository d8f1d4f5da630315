-- A call, asked of one host after the other.
use Rattle.std.specs.Prelude.{ℕ, Bool, List, [], ◌∷◌, Option, Some, None, Ok, Err}
use Rattle.ubik_types.specs.declared.hosts.Host.{Host}
use Rattle.ubik_calls.specs.declared.frames.Frame.TheVariants as frame
use Rattle.ubik_calls.specs.WireGrammar.{spelling}
use Rattle.tool_base.specs.Course.{◌>>=◌, Course, counted, gives, still, stops}
use Rattle.tool_base.specs.Hearing.{heard_in, verdict}
use Rattle.tool_base.specs.declared.hearing.Heard.{Heard}
use Rattle.tool_base.specs.declared.stops.Stop.TheVariants as stop

-- the frame of a call of this number
abbrev pub ask_frame : ℕ → List ℕ → List ℕ
ask_frame number call = spelling (frame.Ask number call)

-- what a host gives to the frame of the call that was counted last
unfoldable pub hears : Host → List ℕ → Course Heard
hears host bytes asker [] = still (Err stop.NoMemory) asker []
hears host bytes asker (e ∷ es) = record {
  asks = record { host = host; port = asker.port; frame = bytes } ∷ [];
  text = [];
  result = Ok (heard_in asker.number e);
  asker = asker;
  rest = es;
}

abbrev pub or_next : {A : Type 0} → Option A → Course A → Course A
or_next (Some x) next = gives x
or_next None next = next

-- the frame is sent to one host after the other, until one settles the call
abbrev pub asks_hosts : {A : Type 0} → Bool → (List ℕ → Option A) → List ℕ → List Host → Course A
asks_hosts writes read bytes [] = stops stop.NoServer
asks_hosts writes read bytes (host ∷ hosts) =
    hears host bytes >>= λ heard. still (verdict writes read heard) >>= λ found. or_next found (asks_hosts writes read bytes hosts)

-- a call is counted, and asked of the hosts
unfoldable pub asks_call : {A : Type 0} → Bool → (List ℕ → Option A) → List ℕ → Course A
asks_call writes read call asker =
    asks_hosts writes read (ask_frame (counted asker).number call) asker.hosts (counted asker)
