-- What a change of a chain makes of an image (own).
use Rattle.std.specs.Prelude.{ℕ, ◌≡◌, ◌≢◌, ◌+◌, ◌*◌, ◌/◌, ◌<◌, ◌≤◌, ◌⊎◌, ◌==◌, true, false, Bool, List, Option, Some, None, nat_lt, if◌then◌else◌}
use Rattle.std.specs.List.{AllByRecursion}
use Rattle.ubik_types.specs.Image.{changed}
use Rattle.ubik_types.specs.declared.images.Change.TheVariants.{Put}
use Rattle.db_blocks.specs.Blocks.{block_place, word_at}
use Rattle.db_blocks.specs.Bytes.{number_word}
use Rattle.db_blocks.specs.declared.blocks.TheConstants.{BLOCK_LEN}
use Rattle.db_chains.specs.declared.links.Links.{Links}
use Rattle.db_chains.specs.declared.changes.Until.{Until}
use Rattle.db_chains.specs.declared.changes.Until.TheVariants.{End, Word, Above}
use Rattle.db_chains.specs.Links.{is_right, kind_of, next_place}
use Rattle.db_chains.specs.Walks.{stop_place}

-- how far a change walks: to the end, to a word, or to the first above a number
abbrev pub is_until : Until → ℕ → List ℕ → Bool
is_until End w block = false
is_until (Word v) w block = w == v
is_until (Above v) w block = nat_lt v w

-- where a chain ends, where a word stands in it, and where the first stands that is above a number
abbrev pub end_of : Links → (at : ℕ) → List ℕ → ℕ
end_of l at image = stop_place l (is_until End) image at

abbrev pub place_of : Links → (at w : ℕ) → List ℕ → ℕ
place_of l at w image = stop_place l (is_until (Word w)) image at

abbrev pub place_above : Links → (at w : ℕ) → List ℕ → ℕ
place_above l at w image = stop_place l (is_until (Above w)) image at

-- a number in a word of an image
unfoldable pub put_word : (at n : ℕ) → List ℕ → List ℕ
put_word at n image = changed image (Put at (number_word n))

-- a word comes in at a place: what stood there stands behind it
unfoldable pub put_in : Links → (at w : ℕ) → List ℕ → List ℕ
put_in l at w image = put_word at w (put_word (next_place l w) (word_at image at) image)

-- the word at a place goes out: what stood behind it stands there, and nothing behind it
unfoldable pub taken_out : Links → (at : ℕ) → List ℕ → List ℕ
taken_out l at image =
    put_word (next_place l (word_at image at)) 0 (put_word at (word_at image (next_place l (word_at image at))) image)

-- in front of a chain, behind it, and before the first word above
abbrev pub put_last : Links → (at w : ℕ) → List ℕ → List ℕ
put_last l at w image = put_in l (end_of l at image) w image

abbrev pub put_between : Links → (at w : ℕ) → List ℕ → List ℕ
put_between l at w image = put_in l (place_above l at w image) w image

-- a word out of its chain
abbrev pub without : Links → (at w : ℕ) → List ℕ → List ℕ
without l at w image = taken_out l (place_of l at w image) image

-- the first word of a chain, if there is one, and the chain without it
abbrev pub first_at : List ℕ → (at : ℕ) → Option ℕ
first_at image at = if word_at image at == 0 then None else Some (word_at image at)

unfoldable pub without_first : Links → (at : ℕ) → List ℕ → List ℕ
without_first l at image = if word_at image at == 0 then image else taken_out l at image

-- a word's next one stands within so many bytes
pub record IsPlaced (l : Links) (len w : ℕ) : Type 0 where
  pub some : 0 < w / l.step
  pub kind : kind_of l w < l.kinds
  pub within : next_place l w + 4 ≤ len

-- Where the first word of a chain may stand: in the image's head, or in a block, behind its mark and apart from the next words of its
-- chains.
abbrev pub IsHeadPlace : Links → ℕ → Type 0
IsHeadPlace l at =
    (at + 4 ≤ l.head)
    ⊎ ((k offset : ℕ) × (at ≡ block_place l.head k + offset) × (4 ≤ offset) × (offset + 4 ≤ BLOCK_LEN)
    × ((offset + 4 ≤ l.next) ⊎ (l.next + 4 * l.kinds ≤ offset)))

-- a word may come into a chain of these words
pub record MayEnter (l : Links) (image : List ℕ) (w : ℕ) (ws : List ℕ) : Type 0 where
  pub right : is_right l image w ≡ true
  pub new : AllByRecursion (λ v. v ≢ w) ws
