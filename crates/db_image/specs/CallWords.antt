-- The calls and the answers of a database in words, as scripts have them (own).
use Rattle.std.specs.Prelude.{ℕ, List, Option}

pub record CallWords : Type 0 where
  -- the bytes of the call that words name, if they name one
  pub call_of : List (List ℕ) → Option (List ℕ)
  -- the fields of the answer to a call, each as a word
  pub answer_of : (call answer : List ℕ) → List (List ℕ)
