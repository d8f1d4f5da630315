-- The words of access.
use Rattle.std.specs.Prelude.{ℕ, ◌==◌, ◌&&◌, Bool, if◌then◌else◌, List, [], ◌∷◌, codes, Option, Some, None}
use Rattle.std.specs.List.{list_any}
use Rattle.afs_commands.specs.declared.accesses.Access.{Access}

abbrev pub is_among : List ℕ → ℕ → Bool
is_among letters byte = list_any (λ letter. letter == byte) letters

-- the letters that say who sees an entry, what it owns, and its members; and who adds members and who removes them
abbrev pub are_sights : ℕ → ℕ → ℕ → Bool
are_sights status owned membership =
    is_among (codes "sS") status && (is_among (codes "-O") owned && is_among (codes "-mM") membership)

abbrev pub are_changes : ℕ → ℕ → Bool
are_changes add remove = is_among (codes "-aA") add && is_among (codes "-r") remove

-- the word of access: status, owned, membership, add, remove
abbrev pub access_word : Access → List ℕ
access_word a = a.status ∷ a.owned ∷ a.membership ∷ a.add ∷ a.remove ∷ []

-- the access that a word writes
abbrev pub access_of : List ℕ → Option Access
access_of (status ∷ owned ∷ membership ∷ add ∷ remove ∷ []) =
    if are_sights status owned membership && are_changes add remove
    then Some (record { status = status; owned = owned; membership = membership; add = add; remove = remove })
    else None
access_of _ = None
