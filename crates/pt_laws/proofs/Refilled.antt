-- What is there already is written as it is: an entry with its own fields, and the maxima.
use Rattle.std.proofs.Common.{◌≡◌, ℕ, ℤ, Bool, true, cond, ◌&&◌, List, ◌++◌, Some, sym, ap, ◌∙◌}
use Rattle.std.specs.Ordering.{int_eq}
use Rattle.std.proofs.lemmas.Bool.{and_from}
use Rattle.std.proofs.lemmas.Bool.Decides.{Decides-int_eq}
use Rattle.ubik_types.specs.Image.{changed}
use Rattle.ubik_types.specs.declared.images.Change.TheVariants.{Put}
use Rattle.db_blocks.specs.Bytes.{word}
use Rattle.prdb_layout.specs.Bytes.{bits}
use Rattle.prdb_layout.specs.Records.{maxima_in}
use Rattle.prdb_layout.specs.State.{PrEntry}
use Rattle.prdb_finds.specs.Changes.{after_set_maxima}
use Rattle.prdb_finds.specs.Records.{whole}
use Rattle.prdb_finds.proofs.HeadTold.{told_maxima}
use Rattle.prdb_entries.specs.Changes.{after_replace}
use Rattle.prdb_entries.proofs.Empty.{unchanged}
use Rattle.pt_service.specs.State.{State}
use Rattle.pt_looks.specs.States.{HoldsRecords, members_of}

pub replace_same : (image : List ℕ) (s : State) (e : PrEntry) → HoldsRecords image s → s.registry.entry e.id ≡ Some e
    → after_replace e.id e image ≡ image
replace_same image s e holds at = unchanged image s.registry (members_of s) e holds at

pub maxima_same : (image : List ℕ) (s : State) (user group : ℤ) → HoldsRecords image s → user ≡ s.registry.max_user
    → group ≡ s.registry.max_group
    → after_set_maxima user group image ≡ image
unfolding after_set_maxima
maxima_same image s user group holds of_user of_group =
    let old = maxima_in (whole image) in
    let told = told_maxima image s.registry (members_of s) holds in
    let both : (int_eq old.0 user && int_eq old.1 group) ≡ true =
    and_from (int_eq old.0 user) (int_eq old.1 group) ((Decides-int_eq old.0 user).1 (ap (λ (m : ℤ × ℤ). m.0) told ∙ sym of_user))
    ((Decides-int_eq old.1 group).1 (ap (λ (m : ℤ × ℤ). m.1) told ∙ sym of_group)) in
    ap (λ (b : Bool). cond b image (changed (whole image) (Put 8 (word (bits user) ++ word (bits group))))) both
