-- The first word of a chain that is what is looked for.
use Rattle.std.proofs.Common.{◌≡◌, ℕ, ◌+◌, ◌-◌, ◌/◌, ◌<◌, Bool, true, List, ◌∷◌, ◌++◌, ◌∙◌, zero, suc, ⊎_elim, false, [], length, get_or, refl, ap, arith}
use Rattle.std.proofs.lemmas.Bool.{cases_Bool}
use Rattle.db_chains.specs.declared.links.Links.{Links}
use Rattle.db_chains.specs.Walks.{meets}
use Rattle.db_chains.proofs.Paths.{Misses}

pub record IsSplit (l : Links) (test : ℕ → List ℕ → Bool) (image ws : List ℕ) : Type 0 where
  pub front : List ℕ
  pub word : ℕ
  pub back : List ℕ
  pub all : front ++ word ∷ back ≡ ws
  pub misses : Misses l test image front
  pub met : meets l test image word ≡ true

pub split_first : (l : Links) (test : ℕ → List ℕ → Bool) (image ws : List ℕ) (w i : ℕ) → i < length ws → get_or ws i w ≡ w
    → meets l test image w ≡ true → IsSplit l test image ws
split_first l test image [] w i below at met = absurd (omega arith)
split_first l test image (v ∷ ws) w zero below at met = record {
  front = [];
  word = v;
  back = ws;
  all = refl;
  misses = tt;
  met = ap (meets l test image) at ∙ met;
}
split_first l test image (v ∷ ws) w (suc i) below at met =
    ⊎_elim
    (λ (is : meets l test image v ≡ true).
    let r : IsSplit l test image (v ∷ ws) = record { front = []; word = v; back = ws; all = refl; misses = tt; met = is } in r)
    (λ (other : meets l test image v ≡ false).
    let rest = split_first l test image ws w i (omega arith) at met in
    let r : IsSplit l test image (v ∷ ws) = record {
      front = v ∷ rest.front;
      word = rest.word;
      back = rest.back;
      all = ap (λ (t : List ℕ). v ∷ t) rest.all;
      misses = (other, rest.misses);
      met = rest.met;
    } in r)
    (cases_Bool (meets l test image v))
