-- What a read of a source does.
use Rattle.std.specs.Prelude.{◌≡◌, ◌<◌, ◌≤◌, ℕ, List, [], length, take, drop, Option, Some, IfSome}
use Rattle.disk_base.specs.declared.sources.Got.{Got}
use Rattle.disk_base.specs.declared.sources.Got.TheVariants.{Bytes, End, Failed}

-- the front of the buffer is what was moved from what is left
pub record Moves (n : ℕ) (before after : Option (List ℕ)) (buf : List ℕ) : Type 0 where
  pub some : 0 < n
  pub within : n ≤ length buf
  pub told : IfSome before (λ left. (n ≤ length left) × (take n buf ≡ take n left) × (after ≡ Some (drop n left)))

-- what was told stays
abbrev pub Stays : Option (List ℕ) → Option (List ℕ) → Type 0
Stays before after = IfSome before (λ told. after ≡ Some told)

-- what is left before and after a read that ended so, with this buffer after it
abbrev pub Reads : Got → Option (List ℕ) → Option (List ℕ) → List ℕ → Type 0
Reads (Bytes n) before after buf = Moves n before after buf
Reads End before after buf = IfSome before (λ left. (left ≡ []) × (after ≡ Some []))
Reads Failed before after buf = Stays before after
