-- A course under way over a link.
use Rattle.std.specs.Prelude.{◌≡◌, ℕ, List, [], ◌++◌, Option, Some, IfSome, Result, Ok, Err}
use Rattle.io_base.specs.declared.links.Exchange.{Exchange}
use Rattle.tool_base.specs.Course.{Asked, Asker, Course, Walk, asks_in, behind, gives, stops}
use Rattle.tool_base.specs.declared.stops.Stop.{Stop}
use Rattle.tool_base.specs.declared.stops.Stop.TheVariants.{Refused, NoServer, OutcomeUnknown, WriteFault, NoMemory}

-- Exchanges were made and a text was written, and what is left of the course is this one, whatever exchanges are to come.
pub record Led {A : Type 0} (first : Course A) (old : Asker) (before : List Exchange) (said : List ℕ) (next : Course A)
    (now : Asker) (after : List Exchange) : Type 0 where
  pub made : List Exchange
  pub grown : after ≡ before ++ made
  pub leads : (rest : List Exchange) → first old (made ++ rest) ≡ behind (asks_in made) said (next now rest)

-- The exchanges that were made, and the text, are a front of what the walk asks and writes.
pub record Fronts {A : Type 0} (asks : List Asked) (said : List ℕ) (walk : Walk A) : Type 0 where
  pub more_asks : List Asked
  pub more_text : List ℕ
  pub asks_are : walk.asks ≡ asks ++ more_asks
  pub text_is : walk.text ≡ said ++ more_text

-- The course was left on its way: what was asked and written is a front of what it asks and writes, whatever exchanges were to come.
pub record Broke {A : Type 0} (first : Course A) (old : Asker) (before : List Exchange) (said : List ℕ)
    (after : List Exchange) : Type 0 where
  pub made : List Exchange
  pub grown : after ≡ before ++ made
  pub fronts : (rest : List Exchange) → Fronts (asks_in made) said (first old (made ++ rest))

-- How the course went that ended so: at its own end, or left on its way, where memory or a sink failed.
abbrev pub EndsSo : {A : Type 0} → Stop → Course A → Asker → List Exchange → List ℕ → Asker → List Exchange → Type 0
EndsSo (Refused refusal) first old before said now after = Led first old before said (stops (Refused refusal)) now after
EndsSo NoServer first old before said now after = Led first old before said (stops NoServer) now after
EndsSo OutcomeUnknown first old before said now after = Led first old before said (stops OutcomeUnknown) now after
EndsSo WriteFault first old before said now after = Broke first old before said after
EndsSo NoMemory first old before said now after = Broke first old before said after

abbrev pub Went : {A : Type 0} → Result A Stop → Course A → Asker → List Exchange → List ℕ → Asker → List Exchange → Type 0
Went (Ok x) first old before said now after = Led first old before said (gives x) now after
Went (Err why) first old before said now after = EndsSo why first old before said now after

-- no sink had failed
abbrev pub IsNoFault : Stop → Type 0
IsNoFault (Refused refusal) = Unit {0}
IsNoFault NoServer = Unit {0}
IsNoFault OutcomeUnknown = Unit {0}
IsNoFault WriteFault = ⊥
IsNoFault NoMemory = Unit {0}

abbrev pub IsQuiet : {A : Type 0} → Result A Stop → Type 0
IsQuiet (Ok x) = Unit {0}
IsQuiet (Err why) = IsNoFault why

-- The course was run, and nothing was written in it, so that no sink had failed.
pub record Ran {A : Type 0} (first : Course A) (old now : Asker) (before after : List Exchange) (result : Result A Stop) : Type 0 where
  pub went : Went result first old before [] now after
  pub quiet : IsQuiet result

-- The course was run, and its text was written to a sink that tells what it holds.
pub record Told {A : Type 0} (first : Course A) (old now : Asker) (before after : List Exchange) (written told : Option (List ℕ))
    (result : Result A Stop) : Type 0 where
  pub said : List ℕ
  pub went : Went result first old before said now after
  pub written_is : IfSome written (λ text. told ≡ Some (text ++ said))

-- The same, whoever asked last.
pub record ToldSome {A : Type 0} (first : Course A) (old : Asker) (before after : List Exchange) (written told : Option (List ℕ))
    (result : Result A Stop) : Type 0 where
  pub now : Asker
  pub ran : Told first old now before after written told result

-- A course under way, whose text so far was written to a sink that tells what it holds.
pub record Under {A : Type 0} (first : Course A) (old : Asker) (next : Course A) (now : Asker) (before after : List Exchange)
    (written told : Option (List ℕ)) : Type 0 where
  pub said : List ℕ
  pub led : Led first old before said next now after
  pub written_is : IfSome written (λ text. told ≡ Some (text ++ said))
