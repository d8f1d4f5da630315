-- Memory that is not found in a step is told by the replies of that step, and by nothing else (own).
use Rattle.std.specs.Prelude.{ℕ, ◌≡◌, ◌⊎◌, Bool, true, false, Contains, List, [], map}
use Rattle.std.specs.List.{AllByRecursion}
use Rattle.ubik_calls.specs.declared.replies.Reply.{Reply}
use Rattle.ubik_calls.specs.declared.replies.Reply.TheVariants as reply
use Rattle.db_image.specs.Database.{Database}
use Rattle.cell_model.specs.declared.events.NodeEvent.{NodeEvent}
use Rattle.cell_model.specs.declared.events.Output.TheVariants as output
use Rattle.cell_model.specs.Node.{Server}
use Rattle.cell_model.specs.NodeRule.{step_of}
use Rattle.cell_model.specs.Step.{Member, Shown, outputs_of}
use Rattle.write_laws.specs.Lines.{Answer, answers_of}

abbrev pub is_no_memory : Reply → Bool
is_no_memory reply.NoMemory = true
is_no_memory _ = false

-- of each reply that is shown, in their order, whether it tells that memory was not found
abbrev pub told_short : List Shown → List Bool
told_short shown = map (λ (a : Answer). is_no_memory a.reply) (answers_of shown)

-- no reply tells so
abbrev pub AllFound : List Shown → Type 0
AllFound shown = AllByRecursion (λ (a : Answer). is_no_memory a.reply ≡ false) (answers_of shown)

-- some reply tells so
abbrev pub TellsShort : List Shown → Type 0
TellsShort shown = (id : ℕ) × Contains (outputs_of shown) (output.Reply id reply.NoMemory)

-- At each server, whatever the event and however many calls have their turns in it: a step is the one in which just those calls found no
-- memory whose replies tell it. So where no reply tells it, it is the one for which all memory was found; each step is that one, or tells
-- that memory was not found.
pub record RepliesTellMemory : Type 0 where
  pub told : (db : Database) (m : Member) (s : Server) (now : ℕ) (e : NodeEvent) (short : List Bool) →
      step_of db m s now e short ≡ step_of db m s now e (told_short (step_of db m s now e short).shown)
  pub found : (db : Database) (m : Member) (s : Server) (now : ℕ) (e : NodeEvent) (short : List Bool) →
      AllFound (step_of db m s now e short).shown → step_of db m s now e short ≡ step_of db m s now e []
  pub either : (db : Database) (m : Member) (s : Server) (now : ℕ) (e : NodeEvent) (short : List Bool) →
      (step_of db m s now e short ≡ step_of db m s now e []) ⊎ TellsShort (step_of db m s now e short).shown
