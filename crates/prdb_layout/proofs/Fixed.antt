-- Blocks that are written one after the other.
use Rattle.std.proofs.Common.{◌≡◌, ℕ, negsuc, List, [], ◌∷◌, ◌++◌, append_assoc}
use Rattle.std.specs.Prelude.{codes}
use Rattle.std.specs.List.{flat_map}
use Rattle.std.proofs.lemmas.List.{append-nil}
use Rattle.prdb_layout.specs.State.{PrEntry, fixed, fixed_entries, user_flags, group_flags, administrators, anonymous}

six_pushed : (f : PrEntry → List ℕ) (out : List ℕ) (a b c d e g : PrEntry)
    → (((((out ++ f a) ++ f b) ++ f c) ++ f d) ++ f e) ++ f g ≡ out ++ flat_map f (a ∷ b ∷ c ∷ d ∷ e ∷ g ∷ [])
six_pushed f out a b c d e g = simp (append_assoc, append-nil)

pub fixed_pushed : (f : PrEntry → List ℕ) (out : List ℕ)
    → (((((out ++ f (fixed (codes "system:anyuser") group_flags (negsuc 100)))
    ++ f (fixed (codes "system:authuser") group_flags (negsuc 101)))
    ++ f (fixed (codes "system:ptsviewers") group_flags (negsuc 202)))
    ++ f (fixed (codes "system:administrators") group_flags administrators))
    ++ f (fixed (codes "system:backup") group_flags (negsuc 204))) ++ f (fixed (codes "anonymous") user_flags anonymous)
    ≡ out ++ flat_map f fixed_entries
unfolding fixed_entries
fixed_pushed f out =
    six_pushed f out (fixed (codes "system:anyuser") group_flags (negsuc 100)) (fixed (codes "system:authuser") group_flags (negsuc 101))
    (fixed (codes "system:ptsviewers") group_flags (negsuc 202)) (fixed (codes "system:administrators") group_flags administrators)
    (fixed (codes "system:backup") group_flags (negsuc 204)) (fixed (codes "anonymous") user_flags anonymous)
