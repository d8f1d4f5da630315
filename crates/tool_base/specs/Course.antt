-- What a command does, as a function of what its exchanges bring: a course.
use Rattle.std.specs.Prelude.{ℕ, ◌+◌, ◌%◌, ◌^◌, List, [], ◌++◌, map, Result, Ok, Err}
use Rattle.ubik_types.specs.declared.hosts.Host.{Host}
use Rattle.io_base.specs.declared.links.Exchange.{Exchange}
use Rattle.tool_base.specs.declared.stops.Stop.{Stop}

-- a frame that is handed to a link for the port of a host
pub record Asked : Type 0 where
  pub host : Host
  pub port : ℕ
  pub frame : List ℕ

abbrev pub ask_in : Exchange → Asked
ask_in e = record { host = e.host; port = e.port; frame = e.frame }

-- what these exchanges asked
abbrev pub asks_in : List Exchange → List Asked
asks_in exchanges = map ask_in exchanges

-- who asks: the hosts in the order in which they are tried, their port, and the number of the last call
pub record Asker : Type 0 where
  pub hosts : List Host
  pub port : ℕ
  pub number : ℕ

-- calls are counted; the count of 32 bits begins anew
abbrev pub counted : Asker → Asker
counted asker = record { hosts = asker.hosts; port = asker.port; number = (asker.number + 1) % 2 ^ 32 }

-- What came of a course: what it asked, what it wrote, how it ended, and what it left behind.
pub record Walk (A : Type 0) : Type 0 where
  pub asks : List Asked
  pub text : List ℕ
  pub result : Result A Stop
  pub asker : Asker
  pub rest : List Exchange

-- a course takes the exchanges that are to come, one for each ask; want of memory is where they end
abbrev pub Course : Type 0 → Type 0
Course A = Asker → List Exchange → Walk A

-- what went before a walk
abbrev pub behind : {A : Type 0} → List Asked → List ℕ → Walk A → Walk A
behind asks text walk =
    record { asks = asks ++ walk.asks; text = text ++ walk.text; result = walk.result; asker = walk.asker; rest = walk.rest }

abbrev pub still : {A : Type 0} → Result A Stop → Course A
still result asker rest = record { asks = []; text = []; result = result; asker = asker; rest = rest }

-- nothing is asked: a value, or an end before the last call
abbrev pub gives : {A : Type 0} → A → Course A
gives x = still (Ok x)

abbrev pub stops : {A : Type 0} → Stop → Course A
stops why = still (Err why)

-- a text is written
abbrev pub says : List ℕ → Course (Unit {0})
says words asker rest = record { asks = []; text = words; result = Ok tt; asker = asker; rest = rest }

abbrev pub after_result : {A B : Type 0} → Walk A → (A → Course B) → Result A Stop → Walk B
after_result walk next (Ok x) = behind walk.asks walk.text (next x walk.asker walk.rest)
after_result walk next (Err why) =
    record { asks = walk.asks; text = walk.text; result = Err why; asker = walk.asker; rest = walk.rest }

-- one course after another, which may take the value of the first
infixl 10 ◌>>=◌
unfoldable pub ◌>>=◌ : {A B : Type 0} → Course A → (A → Course B) → Course B
first >>= next = λ asker exchanges. after_result (first asker exchanges) next (first asker exchanges).result
