-- Calls that wait, are in flight and are replied to: each was asked.
use Rattle.std.proofs.Common.{◌≡◌, ℕ, List, [], ◌∷◌, ◌++◌}
use Rattle.std.specs.Prelude.{Option, Some, None}
use Rattle.cell_model.specs.declared.events.Output.{Output}
use Rattle.cell_model.specs.declared.events.Output.TheVariants as output
use Rattle.cell_model.specs.Node.{Flight, Waiting}
use Rattle.cell_model.specs.Step.{Member, Evaluation, Shown}
use Rattle.cell_orders.specs.Asked.{AllWait, IsCalled, AllCalled}
use Rattle.cell_orders.specs.Histories.{Stand, OutputFits, AllFit}

pub called_append : (Called : ℕ → List ℕ → Type 0) (shown more : List Shown) → AllCalled Called shown → AllCalled Called more →
    AllCalled Called (shown ++ more)
called_append Called [] more all rest = rest
called_append Called (one ∷ shown) more all rest = (all.0, called_append Called shown more all.1 rest)

-- what fits is no reply of a database
pub fits_called : (m : Member) (Asked : ℕ → ℕ → Type 0) (Called : ℕ → List ℕ → Type 0) (c : Stand) (shown : List Shown) →
    AllFit m Asked c shown → AllCalled Called shown
fits_called m Asked Called c [] all = tt
fits_called m Asked Called c (one ∷ shown) all = (by one.output one.evaluation all.0, fits_called m Asked Called c shown all.1)
  where
    by : (o : Output) (e : Option Evaluation) → OutputFits m Asked c o e → IsCalled Called o e
    by (output.Send packet) e fits = tt
    by (output.Reply id r) None fits = tt
    by (output.Reply id r) (Some e) fits = let none : Some e ≡ None = fits.0 in absurd (cc)
    by (output.Announce version) e fits = tt

pub none_called : (Called : ℕ → List ℕ → Type 0) (o : Option Flight) → o ≡ None → (f : Flight) → o ≡ Some f → Called f.id f.call
none_called Called o none f is = absurd (cc)

pub wait_more : (Called : ℕ → List ℕ → Type 0) (waiting : List Waiting) (id : ℕ) (call : List ℕ) → AllWait Called waiting → Called id call →
    AllWait Called (waiting ++ record { id = id; call = call } ∷ [])
wait_more Called [] id call all asked = (asked, tt)
wait_more Called (w ∷ waiting) id call all asked = (all.0, wait_more Called waiting id call all.1 asked)
