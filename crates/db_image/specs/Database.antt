-- A database as the rules of a server see it: which calls write, and what a call answers and leaves, given
-- the image before it and the moment. Another database needs no other rule.
use Rattle.std.specs.Prelude.{ℕ, Bool, List, Option}
use Rattle.ubik_types.specs.declared.images.Change.{Change}
use Rattle.db_image.specs.Blocks.{changes_between}
use Rattle.db_image.specs.declared.services.CallReply.{CallReply}

-- the answer to a call, and the image after it
pub record Outcome : Type 0 where
  pub reply : CallReply
  pub image : List ℕ

pub record Database : Type 0 where
  -- whether a call's bytes are a call that writes; None: they are no call
  pub writes : List ℕ → Option Bool
  -- what becomes of an image, a moment and a call
  pub call : List ℕ → ℕ → List ℕ → Outcome
  -- how many bytes the head of an image has, and each block behind it
  pub head : ℕ
  pub block : ℕ

-- the changes that a database makes from one image to another
abbrev pub changes_of : Database → (old new : List ℕ) → List Change
changes_of db old new = changes_between db.head db.block old new
