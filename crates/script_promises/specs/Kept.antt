-- What is kept in the run of a cell: what was acknowledged stays in the order, each database stands for the state of the order,
-- and each Ok to a call that writes is acknowledged, or leaves that state (own).
use Rattle.std.specs.Prelude.{◌≡◌, ◌⊎◌, ℕ, Bool, true, Option, Some, IfSome, List, [], ◌∷◌, ◌++◌, All, Contains}
use Rattle.db_image.specs.Meaning.{state_of}
use Rattle.db_image.specs.Standing.{Standing}
use Rattle.ubik_calls.specs.declared.replies.Reply.TheVariants as reply
use Rattle.cell_model.specs.Book.{Run, run_after, is_ready_site, site_database}
use Rattle.cell_model.specs.Durable.{Transaction}
use Rattle.cell_model.specs.KeptLaws.{IsAcknowledged, IsPlaced, IsSingle}
use Rattle.cell_model.specs.Node.{Node, Down, Halted, Up}
use Rattle.cell_model.specs.Step.{Member, Evaluation}
use Rattle.cell_model.specs.World.{Site, Event, Asking, Step, Replied, member, site_of, happens}
use Rattle.cell_runs.specs.Script.{Cell}
use Rattle.script_promises.specs.Order.{run_at, order_in}

-- the state of the single copy after these transactions
abbrev pub state_after : (d : Standing) → List Transaction → d.State
state_after d order = state_of d.meaning order

-- the database of a server that is a ready sync site stands for the state after these transactions
abbrev pub HasState : Standing → List Transaction → Member → ℕ → Node → Type 0
HasState d order m clock Down = Unit {0}
HasState d order m clock (Halted h) = Unit {0}
HasState d order m clock (Up s) = is_ready_site m clock (Up s) ≡ true → d.StandsFor (site_database s) (state_after d order)

-- the database of a ready sync site is the single copy's image after these transactions, and stands for their state
abbrev pub IsSiteOf : Standing → List Transaction → Member → Site → Type 0
IsSiteOf d order m site = IsSingle d.database order m site.clock site.node × HasState d order m site.clock site.node

-- between two runs the transaction is the one that is acknowledged, and the order goes on with it; or it leaves the state of the
-- order as it is
abbrev pub IsCounted : Standing → (r later : Run) → Transaction → Type 0
IsCounted d r later t = IsAcknowledged r later t ⊎ (state_after d (order_in r ++ t ∷ []) ≡ state_after d (order_in r))

-- the call that a server evaluates at its clock
abbrev pub transaction_at : List ℕ → Site → Transaction
transaction_at call site = record { moment = site.clock; call = call }

pub record IsKept (d : Standing) (c : Cell) : Type 0 where
  -- what was acknowledged at any place of the run is in the order at each later one, at its place
  pub stays : (front middle back : List Event) → c.events ≡ (front ++ middle) ++ back →
      All (IsPlaced (order_in (run_at d c (front ++ middle)))) (run_at d c front).acknowledged
  -- each server at any place of the run
  pub sites : (front back : List Event) → c.events ≡ front ++ back → (k : ℕ) →
      let r = run_at d c front in
      IfSome (site_of r.world k) (IsSiteOf d (order_in r) (member r.world k))
  -- each Ok to a call that writes
  pub recorded : (front back : List Event) (server id : ℕ) (call fields : List ℕ) (evaluation : Option Evaluation) (short : List Bool) →
      let e = Step (Asking server id call) short in
      c.events ≡ front ++ e ∷ back → d.database.writes call ≡ Some true →
      let r = run_at d c front in
      Contains (happens d.database r.world e).seen (Replied server id (reply.Ok fields) evaluation) →
      IfSome (site_of r.world server) (λ site. IsCounted d r (run_after d.database r e) (transaction_at call site))
