use Rattle.std.proofs.Common.{◌≡◌, ◌<◌, ℕ, zero, suc, Bool, false, List, [], ◌∷◌, take, slice_index_or, refl, arith}
use Rattle.cell_model.specs.Polls.{is_marked}
use Rattle.server_state.proofs.polling.is_in.Goals as goal

marked_here : (set : List Bool) (k n : ℕ) → k < n → slice_index_or set k false ≡ is_marked (take n set) k
marked_here set k zero less = absurd (omega (arith, less))
marked_here [] zero (suc n) less = refl
marked_here [] (suc k) (suc n) less = refl
marked_here (x ∷ set) zero (suc n) less = refl
marked_here (x ∷ set) (suc k) (suc n) less = marked_here set k n (omega (arith, less))

pub returns : goal.returns
returns c = λ n less. marked_here c.args.set.now.set c.args.k n less
