-- The changes that are written and read back.
use Rattle.std.specs.Prelude.{ℕ, zero, suc, List, [], ◌∷◌, ◌++◌}
use Rattle.ubik_types.specs.declared.images.Change.{Change}
use Rattle.ubik_types.specs.declared.images.Change.TheVariants.{Put}
use Rattle.base_bench.specs.declared.log_text.TheConstants.{LAID}

-- the put at a position
abbrev pub put_at : ℕ → Change
put_at at = Put at LAID

-- so many puts, the first at position 0 and each behind the position of the one before
unfoldable pub puts : ℕ → List Change
puts zero = []
puts (suc count) = puts count ++ put_at count ∷ []
