-- Pieces of at most 8,192 bytes, in which images and the texts of writes are sent (own).
use Rattle.std.specs.Prelude.{ℕ, zero, suc, ◌+◌, ◌-◌, ◌*◌, ◌/◌, ◌==◌, if◌then◌else◌, Option, Some, None, option_map, option_and_then, List, [], ◌∷◌, ◌++◌, length, take, drop}
use Rattle.std.specs.Result.{result_ok}
use Rattle.ubik_types.specs.declared.images.Change.{Change}
use Rattle.ubik_types.specs.declared.images.Change.TheVariants.{Put, Cut}
use Rattle.xdr_base.specs.Reading.{Reading, at_start, word_at, opaque_at}
use Rattle.ubik_calls.specs.declared.packets.TheConstants.{MAX_PIECE}

-- the piece that begins at a place
abbrev pub piece_from : List ℕ → ℕ → List ℕ
piece_from bytes at = take MAX_PIECE (drop at bytes)

-- how many pieces a text has: all but the last are whole
abbrev pub piece_count : List ℕ → ℕ
piece_count text = (length text + (MAX_PIECE - 1)) / MAX_PIECE

-- a piece of a text by its number
abbrev pub numbered_piece : List ℕ → ℕ → List ℕ
numbered_piece text number = piece_from text (number * MAX_PIECE)

-- the pieces one behind the other, where all of them have come
abbrev pub joined : List (Option (List ℕ)) → Option (List ℕ)
joined [] = Some []
joined (None ∷ pieces) = None
joined (Some piece ∷ pieces) = option_map (λ rest. piece ++ rest) (joined pieces)

-- the number that stands at a place, of 32 bits
abbrev pub number_at : Reading → Option (ℕ × Reading)
number_at from = result_ok (word_at from)

-- a put: its position, and its bytes as an opaque
abbrev pub put_at : Reading → Option (Change × Reading)
put_at from =
    option_and_then (λ at. option_map (λ bytes. (Put at.0 bytes.0, bytes.1)) (result_ok (opaque_at 4294967295 at.1))) (number_at from)

abbrev pub cut_at : Reading → Option (Change × Reading)
cut_at from = option_map (λ len. (Cut len.0, len.1)) (number_at from)

-- a change: 1 and a put, or 2 and the length of a cut
abbrev pub change_of : ℕ → Reading → Option (Change × Reading)
change_of tag from = if tag == 1 then put_at from else (if tag == 2 then cut_at from else None)

abbrev pub change_at : Reading → Option (Change × Reading)
change_at from = option_and_then (λ tag. change_of tag.0 tag.1) (number_at from)

-- the changes that stand from a place to the end, no more than `most` of them
abbrev pub changes_at : (most : ℕ) → Reading → Option (List Change)
changes_at zero from = if length from.rest == 0 then Some [] else None
changes_at (suc most) from =
    if length from.rest == 0 then Some []
    else option_and_then (λ first. option_map (λ changes. first.0 ∷ changes) (changes_at most first.1)) (change_at from)

-- the changes that a text spells, if it is a text of changes: each of them has a byte at least
abbrev pub changes_in : List ℕ → Option (List Change)
changes_in text = changes_at (length text) (at_start text)
