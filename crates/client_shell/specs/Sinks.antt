-- What is known of a sink of one of two kinds.
use Rattle.client_shell.specs.declared.sinks.Either.{Either}
use Rattle.client_shell.specs.declared.sinks.Either.TheVariants.{First, Second}

abbrev pub by_kind : {A B X : Type 0} → (A → X) → (B → X) → Either A B → X
by_kind of_first of_second (First sink) = of_first sink
by_kind of_first of_second (Second sink) = of_second sink
