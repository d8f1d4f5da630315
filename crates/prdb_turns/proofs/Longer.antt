-- No image is shorter after entries got other fields, one after the other, or one got another id.
use Rattle.std.proofs.Common.{ℕ, ℤ, pos, ◌≤◌, List, [], ◌∷◌, length, Option, Some, None, arith}
use Rattle.prdb_layout.specs.Registry.{Registry}
use Rattle.prdb_layout.specs.State.{PrEntry}
use Rattle.prdb_lists.specs.Moves.{moved_registry}
use Rattle.prdb_finds.specs.Records.{whole}
use Rattle.prdb_entries.proofs.Longer.{longer_replace}
use Rattle.prdb_members.specs.Moves.{after_move}
use Rattle.prdb_members.proofs.Grown.{grows_move}
use Rattle.prdb_turns.specs.Owners.{after_gives, with_owner, with_owners}
use Rattle.prdb_turns.specs.Refits.{after_refit, after_refits, with_refit}
use Rattle.prdb_turns.specs.Renumbering.{after_renumber, moved_back}

longer_refit : (made : PrEntry → PrEntry) (o : Option PrEntry) (image : List ℕ) → length image ≤ length (after_refit made o image)
longer_refit made None image = omega arith
longer_refit made (Some e) image = longer_replace e.id (made e) image

pub longer_refits : (made : PrEntry → PrEntry) (ids : List ℤ) (r : Registry) (image : List ℕ)
    → length image ≤ length (after_refits made ids r image)
longer_refits made [] r image = omega arith
longer_refits made (id ∷ those) r image =
    let first = longer_refit made (r.entry id) image in
    let rest = longer_refits made those (with_refit made (r.entry id) r) (after_refit made (r.entry id) image) in
    omega (arith, first, rest)

longer_whole : (image : List ℕ) → length image ≤ length (whole image)
unfolding whole
longer_whole [] = omega arith
longer_whole (b ∷ bytes) = omega arith

pub longer_renumber : (old new : ℤ) (its others : List ℤ) (r : Registry) (image : List ℕ)
    → length image ≤ length (after_renumber old new its others r image)
unfolding after_renumber
longer_renumber old new its others r image =
    let given = after_gives (pos 0) its r (whole image) in
    let here = after_move old new others given in
    let one = longer_whole image in
    let two = longer_refits (with_owner (pos 0)) its r (whole image) in
    let three = grows_move old new others given in
    let four = longer_refits (with_owner new) (moved_back old new its) (moved_registry old new (with_owners (pos 0) its r)) here in
    omega (arith, one, two, three, four)
