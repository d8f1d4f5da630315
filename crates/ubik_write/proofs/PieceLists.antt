-- Pieces of a text, one behind the other.
use Rattle.std.proofs.Common.{◌≡◌, ℕ, ◌+◌, ◌-◌, ◌<◌, ◌≤◌, min, Option, option_map, List, ◌++◌, length, take, drop, ⊎_elim, ap, sym, ◌∙◌, arith}
use Rattle.std.proofs.lemmas.Bool.{cases_lt}
use Rattle.std.proofs.lemmas.List.{take_all, length-drop}
use Rattle.ubik_calls.specs.declared.packets.TheConstants.{MAX_PIECE}
use Rattle.cell_model.specs.Pieces.{piece_from}

-- the text before, and the pieces that are left
abbrev pub with_rest : List ℕ → Option (List ℕ) → Option (List ℕ)
with_rest before rest = option_map (λ (text : List ℕ). before ++ text) rest

-- a part of a text that ends with a piece, or with the text
pub part-is_piece : (text : List ℕ) (at len : ℕ) → length text ≡ len → take (min len (at + MAX_PIECE) - at) (drop at text) ≡ piece_from text at
part-is_piece text at len is =
    ⊎_elim
    (λ (below : at + MAX_PIECE < len). (let whole : min len (at + MAX_PIECE) - at ≡ MAX_PIECE = omega arith in ap (λ (n : ℕ). take n (drop at text)) whole))
    (λ (past : len ≤ at + MAX_PIECE).
    (let rest : length (drop at text) ≡ len - at = length-drop at text ∙ ap (λ (n : ℕ). n - at) is in
    take_all (min len (at + MAX_PIECE) - at) (drop at text) (omega (arith, rest)) ∙ sym (take_all MAX_PIECE (drop at text) (omega (arith, rest)))))
    (cases_lt (at + MAX_PIECE) len)
