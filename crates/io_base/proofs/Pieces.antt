-- A frame that is read piece by piece.
use Rattle.std.proofs.Common.{◌≡◌, ℕ, ◌≤◌, List, length, take, drop, Option, sym, ap, ◌∙◌, subst}
use Rattle.std.proofs.lemmas.List.{take-append-le}
use Rattle.std.proofs.KnownBytes.{Consumes-trans, starts_with_rest}
use Rattle.std.specs.Io.{StartsWith, appended_bytes}
use Rattle.std.specs.Io.KnownBytes.{Consumes}

-- what was read before a piece, and then the piece, is what was read
pub next_piece : (a b c : Option (List ℕ)) (old new : List ℕ) → Consumes a b old → StartsWith new old
    → Consumes b c (appended_bytes old new) → Consumes a c new
next_piece a b c old new first begins piece =
    subst (Consumes a c) (sym (starts_with_rest new old begins)) (Consumes-trans a b c old (drop (length old) new) first piece)

-- a piece leaves the front as it was
pub front_stays : (n : ℕ) (old new : List ℕ) → n ≤ length old → StartsWith new old → take n new ≡ take n old
front_stays n old new short begins =
    ap (take n) (starts_with_rest new old begins) ∙ take-append-le n old (drop (length old) new) short
