-- A walk along a chain, word by word, to the first that is what is looked for (own).
use Rattle.std.specs.Prelude.{ℕ, zero, suc, ◌≡◌, ◌≢◌, ◌*◌, ◌&&◌, ◌⊎◌, Bool, true, false, not, List, [], ◌∷◌, Option, Some, None, length, if◌then◌else◌}
use Rattle.db_blocks.specs.Blocks.{IsWhole, block_count, block_in, word_at}
use Rattle.db_chains.specs.declared.links.Links.{Links}
use Rattle.db_chains.specs.declared.walks.Link.{Link}
use Rattle.db_chains.specs.declared.walks.Stop.{Stop}
use Rattle.db_chains.specs.Links.{block_of, is_right, names_block, next_place}

-- a word is what is looked for, by itself and its block
abbrev pub meets : Links → (test : ℕ → List ℕ → Bool) → List ℕ → ℕ → Bool
meets l test image w = test w (block_in l.head image (block_of l w))

-- The words that a walk passes from a place on, so many at most: each may stand in a chain, and is not what is looked for.
unfoldable pub passed : Links → (test : ℕ → List ℕ → Bool) → List ℕ → (most at : ℕ) → List ℕ
passed l test image zero at = []
passed l test image (suc most) at =
    let w = word_at image at in
    if is_right l image w && not (meets l test image w) then w ∷ passed l test image most (next_place l w) else []

-- the place behind these words
abbrev pub place_behind : Links → (at : ℕ) → List ℕ → ℕ
place_behind l at [] = at
place_behind l at (w ∷ ws) = place_behind l (next_place l w) ws

-- how many words a chain can have: each kind of each block once
abbrev pub most_words : Links → List ℕ → ℕ
most_words l image = block_count l.head image * l.kinds

-- where a walk stops
unfoldable pub stop_place : Links → (test : ℕ → List ℕ → Bool) → List ℕ → (at : ℕ) → ℕ
stop_place l test image at = place_behind l at (passed l test image (most_words l image) at)

-- the word at a place, with its block
pub record IsLink (l : Links) (image : List ℕ) (at : ℕ) (f : Link) : Type 0 where
  pub word : f.word ≡ word_at image at
  pub right : is_right l image f.word ≡ true
  pub block : f.block ≡ block_in l.head image (block_of l f.word)

-- a link names one of so many blocks, by this word
pub record IsNamed (l : Links) (count : ℕ) (f : Link) (w : ℕ) : Type 0 where
  pub word : f.word ≡ w
  pub names : names_block l count w ≡ true

-- a walk stopped at a word that is what is looked for, or at the 0 behind the last one
abbrev pub IsFound : Links → (test : ℕ → List ℕ → Bool) → List ℕ → (at : ℕ) → Option Link → Type 0
IsFound l test image at None = word_at image at ≡ 0
IsFound l test image at (Some f) = IsLink l image at f × (test f.word f.block ≡ true)

-- what a walk gives
pub record IsStop (l : Links) (test : ℕ → List ℕ → Bool) (image : List ℕ) (at : ℕ) (stop : Stop) : Type 0 where
  pub place : stop.place ≡ stop_place l test image at
  pub found : IsFound l test image stop.place stop.link

-- the first of these words that is what is looked for
abbrev pub first_met : (ℕ → Bool) → List ℕ → Option ℕ
first_met test [] = None
first_met test (w ∷ ws) = if test w then Some w else first_met test ws

-- A walk ended in a place where it can go no further: the word there is not 0, and may stand in no chain, or as many words as a chain can
-- have were passed.
pub record IsBroken (l : Links) (test : ℕ → List ℕ → Bool) (image : List ℕ) (at broken : ℕ) : Type 0 where
  pub place : broken ≡ stop_place l test image at
  pub some : word_at image broken ≢ 0
  pub cause : (is_right l image (word_at image broken) ≡ false)
      ⊎ (length (passed l test image (most_words l image) at) ≡ most_words l image)

-- a bad record of a walk: at the image's end where it is no head and whole blocks, else where the walk ended
abbrev pub IsBad : Links → (test : ℕ → List ℕ → Bool) → (at : ℕ) → List ℕ → (bad : ℕ) → Type 0
IsBad l test at image bad = ((bad ≡ length image) × ¬ IsWhole l.head image) ⊎ IsBroken l test image at bad
