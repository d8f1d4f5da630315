-- What the promises rest on in a database: that its calls make of images what they mean in states (own).
use Rattle.std.specs.Prelude.{◌≡◌, ◌≢◌, ℕ, ◌<◌, ◌≤◌, List, [], length, IsSome}
use Rattle.db_image.specs.Standing.{Standing, IsMeantOver}
use Rattle.db_image.specs.declared.services.CallReply.TheVariants.{Malformed}

pub record IsLawful (d : Standing) : Type 0 where
  -- the empty image stands for the first state
  pub first : d.StandsFor [] d.meaning.first
  -- over an image that stands for a state the database does what the call means in it
  pub means : (image : List ℕ) (s : d.State) (now : ℕ) (call : List ℕ) → d.StandsFor image s
      → IsMeantOver d image s (d.database.call image now call) (d.meaning.call s now call)
  -- a call that leaves the image leaves the state
  pub leaves : (image : List ℕ) (s : d.State) (now : ℕ) (call : List ℕ) → d.StandsFor image s → (d.database.call image now call).image ≡ image
      → (d.meaning.call s now call).state ≡ s
  -- bytes that are a call are answered as a call, over every image
  pub answers : (image : List ℕ) (now : ℕ) (call : List ℕ) → IsSome (d.database.writes call) → (d.database.call image now call).reply ≢ Malformed
  -- no call leaves a shorter image, and blocks have a length: so changes lead from the image before a call to the one after it
  pub never_shrinks : (image : List ℕ) (now : ℕ) (call : List ℕ) → length image ≤ length (d.database.call image now call).image
  pub block : 0 < d.database.block
