-- Polls: who answered which version (Kazar, "Ubik"; that a poll has a number is own).
use Rattle.std.specs.Prelude.{ℕ, zero, suc, ◌+◌, Bool, true, false, if◌then◌else◌, Option, Some, None, List, [], ◌∷◌, replicate, set}
use Rattle.ubik_types.specs.declared.versions.Version.{Version}
use Rattle.ubik_types.specs.Version.{zero_version, version_lt, version_eq}
use Rattle.ubik_types.specs.Phase.{Polled, Spread, Poll}
use Rattle.cell_model.specs.Node.{Server}
use Rattle.cell_model.specs.Step.{Member, cell_size, with_phase}

-- a list of n places with a value at one of them and another at all others
abbrev pub only_at : {A : Type 0} → A → A → ℕ → ℕ → List A
only_at one others zero me = []
only_at one others (suc n) zero = one ∷ replicate n others
only_at one others (suc n) (suc me) = others ∷ only_at one others n me

-- what stands at a place of a list of what perhaps is there
abbrev pub entry_at : {A : Type 0} → List (Option A) → ℕ → Option A
entry_at [] k = None
entry_at (entry ∷ entries) zero = entry
entry_at (entry ∷ entries) (suc k) = entry_at entries k

abbrev pub is_marked : List Bool → ℕ → Bool
is_marked [] k = false
is_marked (mark ∷ marks) zero = mark
is_marked (mark ∷ marks) (suc k) = is_marked marks k

-- a poll begins: only this server has answered, with its own version
abbrev pub new_poll : Member → Server → ℕ → Polled
new_poll m s now = record { number = now; answers = only_at (Some s.version) None (cell_size m) m.me }

abbrev pub polling : Member → Server → ℕ → Server
polling m s now = with_phase s (Poll (new_poll m s now))

-- a server answers the poll; a later answer takes the place of an earlier one
abbrev pub with_answer : Polled → ℕ → Version → Polled
with_answer poll k version = record poll { answers = set poll.answers k (Some version) }

-- the greatest of a version and the answered ones
abbrev pub best_version : Version → List (Option Version) → Version
best_version best [] = best
best_version best (None ∷ answers) = best_version best answers
best_version best (Some v ∷ answers) = best_version (if version_lt best v then v else best) answers

-- the greatest answered version
abbrev pub best_answer : Polled → Version
best_answer poll = best_version zero_version poll.answers

abbrev pub is_answer : Version → Option Version → Bool
is_answer v None = false
is_answer v (Some w) = version_eq v w

-- the lowest server that answered a version
abbrev pub first_with : Version → List (Option Version) → ℕ
first_with v [] = 0
first_with v (answer ∷ answers) = if is_answer v answer then 0 else first_with v answers + 1

-- only this server has the version
abbrev pub only_holder : Member → List Bool
only_holder m = only_at true false (cell_size m) m.me

abbrev pub with_holder : Spread → ℕ → Spread
with_holder spread k = record spread { holders = set spread.holders k true }
