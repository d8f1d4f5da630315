-- Whether a step answered its call.
use Rattle.std.specs.Prelude.{Bool, true, false, Option, Some, None, List, [], ◌∷◌}
use Rattle.ubik_calls.specs.declared.replies.Reply.TheVariants as reply
use Rattle.cell_model.specs.declared.events.Output.{Output}
use Rattle.cell_model.specs.declared.events.Output.TheVariants as output

abbrev pub is_answer : Option Output → Bool
is_answer (Some (output.Reply id (reply.Ok answer))) = true
is_answer other = false

-- the first that is left
abbrev pub first_of : List Output → Option Output
first_of [] = None
first_of (o ∷ rest) = Some o

-- a commit is announced before the answer
abbrev pub answers : List Output → Bool
answers (output.Announce version ∷ rest) = is_answer (first_of rest)
answers other = is_answer (first_of other)
