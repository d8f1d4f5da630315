-- What a whole command has left of its exchanges and in its sinks.
use Rattle.std.specs.Prelude.{◌≡◌, ℕ, List, ◌++◌, Option, Some, IfSome, Result, Err}
use Rattle.io_base.specs.declared.links.Exchange.{Exchange}
use Rattle.tool_base.specs.Course.{Asked, Asker, Course, Walk, asks_in}
use Rattle.tool_base.specs.Stops.{end_line, status_of}
use Rattle.tool_base.specs.declared.stops.Stop.{Stop}
use Rattle.tool_base.specs.declared.stops.Stop.TheVariants.{WriteFault, NoMemory}

-- the text was appended, where the sink tells what it holds
abbrev pub Appended : Option (List ℕ) → Option (List ℕ) → List ℕ → Type 0
Appended before after text = IfSome before (λ old. after ≡ Some (old ++ text))

-- a front of the text was appended
pub record FrontOf (before after : Option (List ℕ)) (text : List ℕ) : Type 0 where
  pub said : List ℕ
  pub unsaid : List ℕ
  pub text_is : text ≡ said ++ unsaid
  pub appended : Appended before after said

-- The command came to its end: its exchanges carried exactly its calls, and its texts were written.
pub record CameToItsEnd (tool : List ℕ) (walk : Walk (Unit {0})) (made : List Exchange) (end : Result (Unit {0}) Stop)
    (out out_after err err_after : Option (List ℕ)) : Type 0 where
  pub asks_are : walk.asks ≡ asks_in made
  pub ends_so : walk.result ≡ end
  pub out_is : Appended out out_after walk.text
  pub err_is : Appended err err_after (end_line tool end)

-- A sink or memory failed before: its exchanges carried its first calls, and each sink has a front of its text.
pub record BrokeOff (tool : List ℕ) (walk : Walk (Unit {0})) (made : List Exchange)
    (out out_after err err_after : Option (List ℕ)) : Type 0 where
  pub more_asks : List Asked
  pub asks_are : walk.asks ≡ asks_in made ++ more_asks
  pub out_is : FrontOf out out_after walk.text
  pub err_is : FrontOf err err_after (end_line tool walk.result)

abbrev pub CameOrBroke : Result (Unit {0}) Stop → List ℕ → Walk (Unit {0}) → List Exchange
    → Option (List ℕ) → Option (List ℕ) → Option (List ℕ) → Option (List ℕ) → Type 0
CameOrBroke (Err WriteFault) tool walk made out out_after err err_after = BrokeOff tool walk made out out_after err err_after
CameOrBroke (Err NoMemory) tool walk made out out_after err err_after = BrokeOff tool walk made out out_after err err_after
CameOrBroke end tool walk made out out_after err err_after = CameToItsEnd tool walk made end out out_after err err_after

-- The command, over the exchanges that were made, is this course, and ended with this status.
pub record Commanded (tool : List ℕ) (course : Course (Unit {0})) (asker : Asker) (before after : List Exchange) (status : ℕ)
    (out out_after err err_after : Option (List ℕ)) : Type 0 where
  pub made : List Exchange
  pub grown : after ≡ before ++ made
  pub end : Result (Unit {0}) Stop
  pub status_is : status ≡ status_of end
  pub came : CameOrBroke end tool (course asker made) made out out_after err err_after
