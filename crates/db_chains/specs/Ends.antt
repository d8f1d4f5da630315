-- What a call on chains leaves, what it costs, and when it answers a bad record.
use Rattle.std.specs.Prelude.{ℕ, ◌≡◌, ◌≢◌, ◌+◌, ◌*◌, ◌⊎◌, ◌∷◌, ◌++◌, false, List, Option, IfSome, length, ◌-◌, ◌&&◌, ◌==◌, if◌then◌else◌}
use Rattle.db_image.specs.Asked.{AsksAtMost}
use Rattle.db_image.specs.Draft.{Drafted, put_cost}
use Rattle.db_image.specs.declared.faults.RecordFault.{RecordFault}
use Rattle.db_image.specs.declared.faults.RecordFault.TheVariants.{DiskFault, BadRecord, NoMemory}
use Rattle.db_image.specs.declared.images.ImageRead.{Ghosts}
use Rattle.db_image.specs.declared.services.Layout.{Layout}
use Rattle.db_blocks.specs.Blocks.{IsWhole, word_at}
use Rattle.db_blocks.specs.Ends.{OnlyDrafts, OnlyLooks}
use Rattle.db_chains.specs.declared.links.Links.{Links}
use Rattle.db_chains.specs.declared.changes.Until.TheVariants.{Word}
use Rattle.db_chains.specs.Chains.{HasChain}
use Rattle.db_chains.specs.Changes.{is_until, place_of}
use Rattle.db_chains.specs.Links.{is_right}
use Rattle.db_chains.specs.Walks.{IsBad}

-- so many bytes at most were asked of the image beneath a draft
abbrev pub CostsAtMost : {I : Type 0} → Ghosts I → ℕ → (old new : Drafted I) → Type 0
CostsAtMost g most old new = AsksAtMost most (g.asked old.image) (g.asked new.image)

-- the call only looked at a draft, and asked for so many bytes at most
pub record LooksAtMost {I : Type 0} (g : Ghosts I) (most : ℕ) (old new : Drafted I) (failed : Type 0) : Type 0 where
  pub looks : OnlyLooks g old new failed
  pub cost : CostsAtMost g most old new

-- the call changed nothing beneath a draft, and asked for so many bytes at most
pub record DraftsAtMost {I : Type 0} (g : Ghosts I) (most : ℕ) (old new : Drafted I) (failed : Type 0) : Type 0 where
  pub drafts : OnlyDrafts g old new failed
  pub cost : CostsAtMost g most old new

-- A bad record is answered where this holds of the image and the place. The cause of a failing disk is in the count of its faults, and
-- that of want of memory is free.
abbrev pub IsBadWhere : Option (List ℕ) → (List ℕ → ℕ → Type 0) → RecordFault → Type 0
IsBadWhere held bad DiskFault = Unit {0}
IsBadWhere held bad (BadRecord at) = IfSome held (λ image. bad image at)
IsBadWhere held bad NoMemory = Unit {0}

-- an image of a head and whole blocks has a chain from a place on
abbrev pub HasSome : Links → (at : ℕ) → List ℕ → Type 0
HasSome l at image = IsWhole l.head image × ((ws : List ℕ) × HasChain l image at ws)

-- how many bytes a walk asks for at most, in an image of this length: the first word, and each block once for each kind
abbrev pub walk_cost : Links → (len : ℕ) → ℕ
walk_cost l len = 4 + l.kinds * len

-- a bad record where a word is taken out: of the walk, or where the chain ends without the word
abbrev pub IsBadOrLacks : Links → (at w : ℕ) → List ℕ → (bad : ℕ) → Type 0
IsBadOrLacks l at w image bad = IsBad l (is_until (Word w)) at image bad ⊎ ((bad ≡ place_of l at w image) × (word_at image bad ≡ 0))

-- a bad record where the first word is taken out: the image is no head and whole blocks, or the word may stand in no chain
abbrev pub IsBadFirst : Links → (at : ℕ) → List ℕ → (bad : ℕ) → Type 0
IsBadFirst l at image bad =
    ((bad ≡ length image) × ¬ IsWhole l.head image)
    ⊎ ((bad ≡ at) × (word_at image at ≢ 0) × (is_right l image (word_at image at) ≡ false))

-- an image of a head and whole blocks has a chain with a word
abbrev pub HasWord : Links → (at w : ℕ) → List ℕ → Type 0
HasWord l at w image = IsWhole l.head image × ((front back : List ℕ) × HasChain l image at (front ++ w ∷ back))

-- how many bytes are read at most where a word comes in front of a chain
abbrev pub first_cost : Layout → ℕ
first_cost layout = 4 + 2 * put_cost layout 4

-- and where a word goes out of a chain, in an image of this length
abbrev pub out_cost : Links → Layout → (len : ℕ) → ℕ
out_cost l layout len = walk_cost l len + 4 + 2 * put_cost layout 4
