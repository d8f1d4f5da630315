-- A database with what it means: which images stand for its states, and what it makes of images.
use Rattle.std.specs.Prelude.{ℕ, ◌≡◌, ◌≢◌, List}
use Rattle.db_image.specs.declared.services.CallReply.TheVariants.{BadRecord}
use Rattle.db_image.specs.Database.{Database, Outcome}
use Rattle.db_image.specs.Meaning.{Meaning, Meant}

pub record Standing : Type 1 where
  pub State : Type 0
  pub meaning : Meaning State
  -- which images stand for a state
  pub StandsFor : List ℕ → State → Type 0
  -- what the single copy makes of an image
  pub database : Database

-- The outcome over an image that stands for a state is what the call means in it: the reply, which is never a bad record, and an
-- image that stands for the state after; it stays where the state does.
pub record IsMeantOver (d : Standing) (image : List ℕ) (old : d.State) (o : Outcome) (new : Meant d.State) : Type 0 where
  pub reply : o.reply ≡ new.reply
  pub good : (at : ℕ) → new.reply ≢ BadRecord at
  pub stands : d.StandsFor o.image new.state
  pub stays : new.state ≡ old → o.image ≡ image
