-- Names that are translated, one after the other.
use Rattle.std.proofs.Common.{◌≡◌, ℤ, ◌+◌, ◌*◌, List, [], ◌∷◌, length, refl, arith}
use Rattle.std.specs.List.{flat_map}
use Rattle.xdr_base.specs.Spelling.{word, signed}
use Rattle.std.proofs.lemmas.List.{length-append}
use Rattle.call_grammar.specs.Items.{xdr_text}
use Rattle.call_grammar.specs.Lists.{listed}

-- a list of ids has four bytes for each, and four for their number
ids_len_from : (ids : List ℤ) → length (flat_map signed ids) ≡ 4 * length ids
ids_len_from [] = refl
ids_len_from (z ∷ ids) = omega (arith, length-append (signed z) (flat_map signed ids), ids_len_from ids)

pub ids_len : (ids : List ℤ) → length (listed xdr_text signed ids) ≡ 4 + 4 * length ids
ids_len ids = omega (arith, length-append (word (length ids)) (flat_map signed ids), ids_len_from ids)
