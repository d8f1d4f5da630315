-- What `udebug` does: each host is asked of itself, in their order, and what it says is printed (own).
use Rattle.std.specs.Prelude.{◌||◌, Bool, is_some, if◌then◌else◌, List, [], ◌∷◌, Option, Ok, Err}
use Rattle.ubik_types.specs.declared.hosts.Host.{Host}
use Rattle.io_base.specs.declared.links.Exchange.{Exchange}
use Rattle.ubik_calls.specs.declared.frames.Frame.TheVariants as frame
use Rattle.ubik_calls.specs.declared.replies.DebugIs.{DebugIs}
use Rattle.ubik_calls.specs.WireGrammar.{spelling}
use Rattle.tool_base.specs.Course.{◌>>=◌, Asker, Course, counted, gives, says, still, stops}
use Rattle.tool_base.specs.declared.stops.Stop.TheVariants as stop
use Rattle.udebug_tool.specs.Seen.{seen_answer}
use Rattle.udebug_tool.specs.Texts.{seen_text}

-- a host is asked once, under a number of its own
unfoldable pub looks_at : Host → Course (Option DebugIs)
looks_at host asker [] = still (Err stop.NoMemory) (counted asker) []
looks_at host asker (e ∷ es) = record {
  asks = record { host = host; port = asker.port; frame = spelling (frame.Debug (counted asker).number) } ∷ [];
  text = [];
  result = Ok (seen_answer (counted asker).number e.answer e.reply);
  asker = counted asker;
  rest = es;
}

-- one host after the other; it ends well where one has answered, of these or before
abbrev pub looks : Bool → List Host → Course (Unit {0})
looks any [] = if any then gives tt else stops stop.NoServer
looks any (host ∷ hosts) =
    looks_at host >>= λ seen. says (seen_text host seen) >>= λ said. looks (any || is_some seen) hosts
