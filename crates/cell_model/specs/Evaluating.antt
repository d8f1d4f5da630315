-- By which databases the calls of a step are evaluated (own). In the world it is always the one that the cell serves. At a
-- server whose image holds no state of its database each evaluation is free, within what `MayCome` says.
use Rattle.std.specs.Prelude.{◌≡◌, ◌≢◌, ◌≤◌, ℕ, zero, suc, true, ◌==◌, ◌&&◌, if◌then◌else◌, List, [], ◌∷◌, length, Option, Some, None, IfSome}
use Rattle.std.specs.Str.{bytes_eq}
use Rattle.db_image.specs.Database.{Database, Outcome}
use Rattle.db_image.specs.Ends.{IsShort, KeepsGrammar, end_of}
use Rattle.db_image.specs.Standing.{Standing}

-- which database evaluates each call of a step, counted in their order
abbrev pub Databases : Type 0
Databases = ℕ → Database

-- always the same one
abbrev pub always : Database → Databases
always db k = db

-- those of the calls behind the first
abbrev pub behind_first : Databases → Databases
behind_first dbs k = dbs (suc k)

-- a call that was evaluated over an image, at a moment, and what came of it
pub record Evaluated : Type 0 where
  pub image : List ℕ
  pub moment : ℕ
  pub call : List ℕ
  pub outcome : Outcome

-- what comes of a call, where an outcome is told of this very evaluation
abbrev pub outcome_told : Option Evaluated → Database → List ℕ → ℕ → List ℕ → Outcome
outcome_told None db image now call = db.call image now call
outcome_told (Some e) db image now call =
    if bytes_eq image e.image && now == e.moment && bytes_eq call e.call then e.outcome else db.call image now call

-- what is told of the evaluations of a step, in their order; None, and behind the list: as the database has it
abbrev pub Told : Type 0
Told = List (Option Evaluated)

abbrev pub told_at : Told → ℕ → Option Evaluated
told_at [] k = None
told_at (one ∷ told) zero = one
told_at (one ∷ told) (suc k) = told_at told k

-- a database, but for what is told of each evaluation
abbrev pub told_by : Database → Told → Databases
told_by db told k = record db { call = outcome_told (told_at told k) db }

-- What may come of a call: over an image that stands for a state what the database has; over another one anything within the sizes
-- that keeps the grammar. Only a writing call changes the image, and none makes it shorter.
pub record MayCome (d : Standing) (e : Evaluated) : Type 0 where
  pub meant : (s : d.State) → d.StandsFor e.image s → e.outcome ≡ d.database.call e.image e.moment e.call
  pub grammar : KeepsGrammar (d.database.writes e.call) (end_of e.outcome.reply)
  pub rests : d.database.writes e.call ≢ Some true → e.outcome.image ≡ e.image
  pub short : IsShort (end_of e.outcome.reply)
  pub longer : length e.image ≤ length e.outcome.image

-- each outcome that is told may come
abbrev pub MayAllCome : Standing → Told → Type 0
MayAllCome d [] = Unit {0}
MayAllCome d (one ∷ told) = IfSome one (MayCome d) × MayAllCome d told

-- Over an image that stands for a state the database does what a call means in it, so the image after it stands for one too.
abbrev pub KeepsStates : Standing → Type 0
KeepsStates d =
    (image : List ℕ) (s : d.State) (now : ℕ) (call : List ℕ) → d.StandsFor image s → (after : d.State)
    × d.StandsFor (d.database.call image now call).image after
