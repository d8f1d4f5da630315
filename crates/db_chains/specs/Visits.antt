-- Which words a chain has, in any order (own).
use Rattle.std.specs.Prelude.{ℕ, List}
use Rattle.std.specs.List.{Contains}
use Rattle.db_chains.specs.declared.links.Links.{Links}
use Rattle.db_chains.specs.Chains.{HasChain}

-- The chain from a place on has just the words of which this holds, each once, since no chain has a word twice, and in any order.
pub record Visits (l : Links) (image : List ℕ) (at : ℕ) (belongs : ℕ → Type 0) : Type 0 where
  pub words : List ℕ
  pub chain : HasChain l image at words
  pub only : (w : ℕ) → Contains words w → belongs w
  pub each : (w : ℕ) → belongs w → Contains words w
