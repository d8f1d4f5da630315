-- Calls that were asked: of each that waits, is in flight or is replied to it is known where it was asked, and under which id (own).
use Rattle.std.specs.Prelude.{◌≡◌, ◌⊎◌, ℕ, Option, Some, List, [], ◌∷◌}
use Rattle.cell_model.specs.declared.events.Output.{Output}
use Rattle.cell_model.specs.declared.events.Output.TheVariants as output
use Rattle.cell_model.specs.Book.{Given}
use Rattle.cell_model.specs.Causes.{Asks}
use Rattle.cell_model.specs.Node.{Flight, Waiting}
use Rattle.cell_model.specs.Step.{Evaluation, Shown}
use Rattle.cell_model.specs.World.{Event, Step, Stop, Fault}

-- the event asks this call, under this id, at server k
abbrev pub AsksIn : Event → ℕ → ℕ → List ℕ → Type 0
AsksIn (Step trigger short) k id call = Asks trigger k id call
AsksIn (Stop trigger short made) k id call = Asks trigger k id call
AsksIn (Fault trigger short made) k id call = Asks trigger k id call
AsksIn _ k id call = ⊥

-- one of these events does
abbrev pub WasAsked : List Event → ℕ → ℕ → List ℕ → Type 0
WasAsked [] k id call = ⊥
WasAsked (e ∷ events) k id call = AsksIn e k id call ⊎ WasAsked events k id call

-- a reply that a database gave is to a call that was asked there, under its id
abbrev pub AnswersAsk : List Event → Given → Type 0
AnswersAsk events g = WasAsked events g.server g.id g.evaluation.call

-- ---- of a server: `Called` says which calls were asked there, under which ids

abbrev pub AllWait : (ℕ → List ℕ → Type 0) → List Waiting → Type 0
AllWait Called [] = Unit {0}
AllWait Called (w ∷ waiting) = Called w.id w.call × AllWait Called waiting

abbrev pub CallsKnown : (ℕ → List ℕ → Type 0) → Option Flight → List Waiting → Type 0
CallsKnown Called flight waiting = ((f : Flight) → flight ≡ Some f → Called f.id f.call) × AllWait Called waiting

abbrev pub IsCalled : (ℕ → List ℕ → Type 0) → Output → Option Evaluation → Type 0
IsCalled Called (output.Reply id r) (Some e) = Called id e.call
IsCalled Called _ e = Unit {0}

abbrev pub AllCalled : (ℕ → List ℕ → Type 0) → List Shown → Type 0
AllCalled Called [] = Unit {0}
AllCalled Called (one ∷ shown) = IsCalled Called one.output one.evaluation × AllCalled Called shown
