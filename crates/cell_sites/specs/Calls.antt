-- The calls that were asked in a cell, and which of them an output answers.
use Rattle.std.specs.Prelude.{◌≡◌, ◌<◌, ◌≤◌, ◌+◌, ◌-◌, ℕ, List, [], Some, length, slice_get, slice_index_or}
use Rattle.std.specs.List.{AllByRecursion}
use Rattle.cell_model.specs.declared.events.NodeEvent.{NodeEvent}
use Rattle.cell_model.specs.declared.events.NodeEvent.TheVariants as event
use Rattle.cell_model.specs.declared.events.Output.{Output}
use Rattle.cell_model.specs.declared.events.Output.TheVariants as output
use Rattle.cell_model.specs.Node.{Waiting}
use Rattle.cell_model.specs.Step.{Shown}
use Rattle.cell_model.specs.Voters.{IsOkOf}

-- the call under an id, which counts from 1; no bytes where there is none
abbrev pub call_under : List (List ℕ) → ℕ → List ℕ
call_under calls id = slice_index_or calls (id - 1) []

-- the call that an output answers
abbrev pub call_for : List (List ℕ) → Output → List ℕ
call_for calls (output.Reply id r) = call_under calls id
call_for calls _ = []

-- an Ok tells of the evaluation of the call that it answers
abbrev pub AnswersOf : List (List ℕ) → Shown → Type 0
AnswersOf calls one = IsOkOf (call_for calls one.output) one.output one.evaluation

-- a call stands there under its id
pub record StandsUnder (calls : List (List ℕ)) (id : ℕ) (call : List ℕ) : Type 0 where
  pub some : 0 < id
  pub within : id ≤ length calls
  pub is : call_under calls id ≡ call

-- so each of these calls
abbrev pub AllStandUnder : List (List ℕ) → List Waiting → Type 0
AllStandUnder calls waiting = AllByRecursion (λ (w : Waiting). StandsUnder calls w.id w.call) waiting

-- so what an event asks
abbrev pub AsksOf : List (List ℕ) → NodeEvent → Type 0
AsksOf calls (event.Ask id call) = StandsUnder calls id call
AsksOf calls _ = Unit {0}

-- the call that comes in an event
abbrev pub call_in : NodeEvent → List ℕ
call_in (event.Ask id call) = call
call_in _ = []

-- each of these events asks a call, the first under id 1
abbrev pub AreAsked : List NodeEvent → Type 0
AreAsked events = (k : ℕ) (e : NodeEvent) → slice_get events k ≡ Some e → e ≡ event.Ask (k + 1) (call_in e)
