-- What a database means apart from its images: the states that calls lead through, and what is replied in each (own).
use Rattle.std.specs.Prelude.{ℕ, List, [], ◌∷◌}
use Rattle.db_image.specs.declared.services.CallReply.{CallReply}

-- a call of a client, and the moment at which it was evaluated
pub record Transaction : Type 0 where
  pub moment : ℕ
  pub call : List ℕ

-- what is replied to a call, and the state after it
pub record Meant (State : Type 0) : Type 0 where
  pub reply : CallReply
  pub state : State

pub record Meaning (State : Type 0) : Type 0 where
  pub first : State
  -- what the bytes of a call mean in a state at a moment
  pub call : State → (now : ℕ) → List ℕ → Meant State

-- the state after these transactions, one after the other, from this one on
abbrev pub state_from : {State : Type 0} → Meaning State → State → List Transaction → State
state_from m s [] = s
state_from m s (t ∷ transactions) = state_from m (m.call s t.moment t.call).state transactions

-- the same from the first state on
abbrev pub state_of : {State : Type 0} → Meaning State → List Transaction → State
state_of m transactions = state_from m m.first transactions

-- what is replied to a call after these transactions
abbrev pub reply_of : {State : Type 0} → Meaning State → List Transaction → (now : ℕ) → List ℕ → CallReply
reply_of m transactions now call = (m.call (state_of m transactions) now call).reply
