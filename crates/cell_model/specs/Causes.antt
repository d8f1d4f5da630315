-- The causes of the replies Malformed and NoMemory, in the event that they are seen in (own).
use Rattle.std.specs.Prelude.{◌≡◌, ◌⊎◌, ℕ, Bool, true, None, List, [], ◌∷◌, drop, Contains, IsSomeAnd}
use Rattle.db_image.specs.declared.services.CallReply.TheVariants as call_reply
use Rattle.db_image.specs.Database.{Database}
use Rattle.ubik_calls.specs.declared.replies.Reply.{Reply}
use Rattle.ubik_calls.specs.declared.replies.Reply.TheVariants as reply
use Rattle.cell_model.specs.Book.{clock_at}
use Rattle.cell_model.specs.Node.{Node, Up}
use Rattle.cell_model.specs.Step.{is_short}
use Rattle.cell_model.specs.World.{World, Trigger, Asking, Event, Step, Happening, Replied, site_of, happens}

-- these bytes are no call, or the database replies so to them at a moment
abbrev pub MayBeMalformed : Database → ℕ → List ℕ → Type 0
MayBeMalformed db now call =
    (db.writes call ≡ None) ⊎ ((image : List ℕ) × ((db.call image now call).reply ≡ call_reply.Malformed))

-- a reply at a moment to a call that stands under its id; `short`: which replies, from this one on, are for want of memory
abbrev pub IsCaused : Database → ℕ → (ℕ → List ℕ → Type 0) → List Bool → ℕ → Reply → Type 0
IsCaused db now Stands short id reply.Malformed = (call : List ℕ) × (Stands id call × MayBeMalformed db now call)
IsCaused db now Stands short id reply.NoMemory = is_short short ≡ true
IsCaused db now Stands short id _ = Unit {0}

-- the trigger asks this call, under this id, at server k
abbrev pub Asks : Trigger → ℕ → ℕ → List ℕ → Type 0
Asks (Asking server id call) k other bytes = (server ≡ k) × (id ≡ other) × (call ≡ bytes)
Asks _ k other bytes = ⊥

-- the call waits at a server under this id
abbrev pub Waits : Node → ℕ → List ℕ → Type 0
Waits (Up s) id call = Contains s.waiting (record { id = id; call = call })
Waits _ id call = ⊥

-- In an event, the call stands under this id at server k: it is asked there in this step, or waits there before it. Where
-- there is no step, none does.
abbrev pub StandsAt : World → Event → ℕ → ℕ → List ℕ → Type 0
StandsAt w (Step trigger short) k id call =
    Asks trigger k id call ⊎ IsSomeAnd (site_of w k) (λ site. Waits site.node id call)
StandsAt w _ k id call = ⊥

-- which replies of an event, in their order, are for want of memory
abbrev pub choices_of : Event → List Bool
choices_of (Step trigger short) = short
choices_of _ = []

-- each reply that is seen of an event has its cause
abbrev pub AllCaused : Database → World → Event → List Bool → List Happening → Type 0
AllCaused db w e short [] = Unit {0}
AllCaused db w e short (Replied k id r evaluation ∷ seen) =
    IsCaused db (clock_at w k) (StandsAt w e k) short id r × AllCaused db w e (drop 1 short) seen
AllCaused db w e short (_ ∷ seen) = AllCaused db w e short seen

-- In each world of each cell a reply Malformed comes only to a call that is asked in that step or waited before it, and that is
-- no call or one to which the database replies so; and a reply NoMemory only where the event says so of it.
abbrev pub RepliesHaveCauses : Type 0
RepliesHaveCauses = (db : Database) (w : World) (e : Event) → AllCaused db w e (choices_of e) (happens db w e).seen
