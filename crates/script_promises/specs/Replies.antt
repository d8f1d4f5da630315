-- The replies in a cell of one server are those of a single copy, and nothing is seen that such a cell cannot show (own).
use Rattle.std.specs.Prelude.{◌≡◌, ℕ, Option, List, ◌∷◌, ◌++◌, All}
use Rattle.db_image.specs.Meaning.{reply_of}
use Rattle.db_image.specs.Standing.{Standing}
use Rattle.db_image.specs.declared.services.CallReply.{CallReply}
use Rattle.ubik_calls.specs.declared.replies.Reply.{Reply}
use Rattle.ubik_calls.specs.declared.replies.Reply.TheVariants as reply
use Rattle.cell_model.specs.Book.{Run}
use Rattle.cell_model.specs.Durable.{Transaction}
use Rattle.cell_model.specs.KeptLaws.{Answered, IsAnsweredBy, answered_by}
use Rattle.cell_model.specs.World.{Event, Happening, Announced, Replied, Stops, Halts, Restarts, Stays_down, happens}
use Rattle.cell_runs.specs.Script.{Cell}
use Rattle.script_promises.specs.Order.{run_at, order_in}

-- what the single copy replies to a call after these transactions
abbrev pub meant_reply : Standing → List Transaction → (now : ℕ) → List ℕ → CallReply
meant_reply d order = reply_of d.meaning order

-- No reply is that the bytes asked are no call, that the database is bad, that memory ran out, that another server is the sync
-- site, or that a line is full.
abbrev pub IsProperReply : Reply → Type 0
IsProperReply (reply.Ok fields) = Unit {0}
IsProperReply (reply.Rule number) = Unit {0}
IsProperReply (reply.NoQuorum now until phase applied) = Unit {0}
IsProperReply (reply.TooLarge bytes) = Unit {0}
IsProperReply reply.DiskFault = Unit {0}
IsProperReply _ = ⊥

-- no packet is seen, sent or lost, and no other reply
abbrev pub IsProper : Happening → Type 0
IsProper (Announced server version) = Unit {0}
IsProper (Replied server id r evaluation) = IsProperReply r
IsProper (Stops server) = Unit {0}
IsProper (Halts server) = Unit {0}
IsProper (Restarts server version) = Unit {0}
IsProper (Stays_down server) = Unit {0}
IsProper _ = ⊥

-- a reply Ok or Rule that is seen is this answer
abbrev pub IsSeenOf : Option Answered → Happening → Type 0
IsSeenOf single (Replied server id r evaluation) = IsAnsweredBy single server id r
IsSeenOf single _ = Unit {0}

-- what the single copy answers after a run, in an event
abbrev pub single_in : Standing → Run → Event → Option Answered
single_in d r e = answered_by (meant_reply d (order_in r)) r.world e

-- Each reply Ok or Rule of an event is what its call means for the state of the order before the event, at the clock of
-- the server; and nothing is seen but announcements, proper replies, and that the server stops, halts, is opened or stays down.
abbrev pub HasSingleReplies : Standing → Cell → Type 0
HasSingleReplies d c =
    (front back : List Event) (e : Event) → c.events ≡ front ++ e ∷ back →
    let r = run_at d c front in All (λ seen. IsSeenOf (single_in d r e) seen × IsProper seen) (happens d.database r.world e).seen
