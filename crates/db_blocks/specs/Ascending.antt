-- The blocks that meet a test, ascending by a key (own).
use Rattle.std.specs.Prelude.{ℕ, zero, suc, ◌≡◌, ◌<◌, Bool, true, List, [], ◌∷◌, nat_lt, map, take, if◌then◌else◌}
use Rattle.db_blocks.specs.Blocks.{IsWhole, block_count, block_in}

-- one more, behind those whose keys are not above its own
abbrev pub put_by : {X : Type 0} → (key : X → ℕ) → X → List X → List X
put_by key new [] = new ∷ []
put_by key new (x ∷ xs) = if nat_lt (key new) (key x) then new ∷ x ∷ xs else x ∷ put_by key new xs

-- those of the first so many numbers at which a test holds, ascending by their keys; of two with one key the lower number is first
abbrev pub ascending : (test : ℕ → Bool) → (key : ℕ → ℕ) → (count : ℕ) → List ℕ
ascending test key zero = []
ascending test key (suc n) = if test n then put_by key n (ascending test key n) else ascending test key n

-- the numbers of the blocks that meet a test, ascending by a key
abbrev pub numbers_met : (head : ℕ) → (test : List ℕ → Bool) → (key : List ℕ → ℕ) → List ℕ → List ℕ
numbers_met head test key image = ascending (λ k. test (block_in head image k)) (λ k. key (block_in head image k)) (block_count head image)

-- the first so many of these blocks
abbrev pub first_blocks : (head : ℕ) → (test : List ℕ → Bool) → (key : List ℕ → ℕ) → (most : ℕ) → List ℕ → List (List ℕ)
first_blocks head test key most image = map (block_in head image) (take most (numbers_met head test key image))

-- a head, and whole blocks behind it that may stand there
pub record AreGood (head : ℕ) (fits : List ℕ → Bool) (image : List ℕ) : Type 0 where
  pub whole : IsWhole head image
  pub each : (k : ℕ) → k < block_count head image → fits (block_in head image k) ≡ true
