-- Lists of moments.
use Rattle.std.specs.Prelude.{ℕ, ◌≤◌, ◌+◌, ◌<◌, List, length, slice_index}

-- none is less than the one before
abbrev pub NeverFalls : List ℕ → Type 0
NeverFalls moments = (k : ℕ) → k + 1 < length moments → slice_index moments k ≤ slice_index moments (k + 1)
