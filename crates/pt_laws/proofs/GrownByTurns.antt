-- No entry that leaves or turns leaves a shorter image, and so no verdict does.
use Rattle.std.proofs.Common.{ℕ, ℤ, pos, ◌≤◌, List, [], ◌∷◌, length, Option, Some, None}
use Rattle.std.specs.Ordering.{int_eq}
use Rattle.prdb_layout.specs.Registry.{Registry}
use Rattle.prdb_layout.specs.State.{PrEntry, front_of}
use Rattle.prdb_finds.specs.Changes.{after_set_maxima}
use Rattle.prdb_finds.specs.Records.{whole}
use Rattle.prdb_entries.specs.Changes.{after_insert, after_remove}
use Rattle.prdb_entries.proofs.Longer.{longer_insert, longer_remove, longer_replace}
use Rattle.prdb_members.specs.Changes.{after_parts}
use Rattle.prdb_members.proofs.Grown.{grows_join, grows_part, grows_parts}
use Rattle.pt_service.specs.Meaning.{Answers, Change, Enter, Join, Leave, Makes, Maxima, NoCall, Part, Refit, Refuses, Turn, Verdict}
use Rattle.pt_service.specs.State.{State, elements}
use Rattle.pt_service.specs.Turning.{moved}
use Rattle.prdb_turns.specs.Fronts.{after_fronts, fronted, ids_by_block}
use Rattle.prdb_turns.specs.Owners.{after_gives, with_owner}
use Rattle.prdb_turns.specs.Refits.{after_refit}
use Rattle.prdb_turns.specs.Renumbering.{after_renumber}
use Rattle.prdb_turns.specs.Turning.{after_id, after_turn as after_steps, first, is_under, named, second, third}
use Rattle.prdb_turns.proofs.Longer.{longer_refits, longer_renumber}
use Rattle.pt_changes.specs.Leaving.{after_leave}
use Rattle.pt_changes.specs.Turning.{after_turn, its_in}
use Rattle.pt_changes.specs.Standing.{image_after, image_by}
use Rattle.pt_laws.proofs.Grown.{either_longer, grows_maxima, grows_same, on_longer}

-- ---- an entry that leaves

grows_leave : (id : ℤ) (s : State) (image : List ℕ) → length image ≤ length (after_leave id s image)
unfolding after_leave
grows_leave id s image =
    let parted = after_parts id (elements s id) image in
    let its = its_in parted s.registry id in
    let given = after_gives (pos 0) its s.registry parted in
    on_longer (length image) (length given) (length (after_remove id given))
    (on_longer (length image) (length parted) (length given) (grows_parts id (elements s id) image)
    (longer_refits (with_owner (pos 0)) its s.registry parted))
    (longer_remove id given)

-- ---- an entry that turns

grows_named : (name : List ℕ) (o : Option PrEntry) (image : List ℕ) → length image ≤ length (after_refit (named name) o image)
grows_named name None image = grows_same image
grows_named name (Some e) image = longer_replace e.id (named name e) image

grows_steps : (e : PrEntry) (name : List ℕ) (owner id : ℤ) (its others : List ℤ) (r : Registry) (image : List ℕ)
    → length image ≤ length (after_steps e name owner id its others r image)
unfolding after_steps
grows_steps e name owner id its others r image =
    let first_of = first e name r in
    let one = after_refit (named name) (r.entry e.id) image in
    let two = after_id e.id id its others first_of one in
    let three = after_gives (moved e.id id owner) (id ∷ []) (second e name id r) two in
    let groups = ids_by_block (is_under e.name) image in
    let four = after_fronts (front_of name) groups (third e name owner id r) three in
    on_longer (length image) (length three) (length four)
    (on_longer (length image) (length two) (length three)
    (on_longer (length image) (length one) (length two) (grows_named name (r.entry e.id) image)
    (either_longer (length one) (int_eq id e.id) one (after_renumber e.id id its others first_of one) (grows_same one)
    (longer_renumber e.id id its others first_of one)))
    (longer_refits (with_owner (moved e.id id owner)) (id ∷ []) (second e name id r) two))
    (longer_refits (fronted (front_of name)) groups (third e name owner id r) three)

grows_turn : (e : PrEntry) (name : List ℕ) (owner id : ℤ) (s : State) (image : List ℕ)
    → length image ≤ length (after_turn e name owner id s image)
unfolding after_turn
grows_turn e name owner id s image =
    grows_steps e name owner id (its_in (whole (after_refit (named name) (s.registry.entry e.id) image)) (first e name s.registry) e.id)
    (elements s e.id) s.registry image

-- ---- any change

grows_after : (change : Change) (s : State) (image : List ℕ) → length image ≤ length (image_after change s image)
grows_after (Maxima user group) s image = grows_maxima user group image
grows_after (Enter e user group) s image =
    let mid = after_insert e image in
    on_longer (length image) (length mid) (length (after_set_maxima user group mid)) (longer_insert e image) (grows_maxima user group mid)
grows_after (Refit e) s image = longer_replace e.id e image
grows_after (Leave id) s image = grows_leave id s image
grows_after (Turn e name owner id user group) s image =
    let mid = after_turn e name owner id s image in
    on_longer (length image) (length mid) (length (after_set_maxima user group mid)) (grows_turn e name owner id s image)
    (grows_maxima user group mid)
grows_after (Join user group) s image = grows_join user group image
grows_after (Part user group) s image = grows_part user group image

pub grows_by : (v : Verdict) (s : State) (image : List ℕ) → length image ≤ length (image_by v s image)
grows_by NoCall s image = grows_same image
grows_by (Refuses rule) s image = grows_same image
grows_by (Answers a) s image = grows_same image
grows_by (Makes a change) s image = grows_after change s image
