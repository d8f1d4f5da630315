-- What becomes of an image, and of a registry, when entries get other fields, one after the other.
use Rattle.std.specs.Prelude.{ℕ, ℤ, List, [], ◌∷◌, Option, Some, None, IsSomeAnd}
use Rattle.prdb_layout.specs.Registry.{IsRecord, MayReplace, Registry, with_entry}
use Rattle.prdb_layout.specs.State.{PrEntry}
use Rattle.prdb_entries.specs.Changes.{after_replace}

-- an entry that was found gets the fields that are made of its own
abbrev pub after_refit : (PrEntry → PrEntry) → Option PrEntry → List ℕ → List ℕ
after_refit made None image = image
after_refit made (Some e) image = after_replace e.id (made e) image

abbrev pub with_refit : (PrEntry → PrEntry) → Option PrEntry → Registry → Registry
with_refit made None r = r
with_refit made (Some e) r = with_entry (made e) r

-- the entries of these ids do, one after the other
abbrev pub after_refits : (PrEntry → PrEntry) → List ℤ → Registry → List ℕ → List ℕ
after_refits made [] r image = image
after_refits made (id ∷ those) r image = after_refits made those (with_refit made (r.entry id) r) (after_refit made (r.entry id) image)

abbrev pub with_refits : (PrEntry → PrEntry) → List ℤ → Registry → Registry
with_refits made [] r = r
with_refits made (id ∷ those) r = with_refits made those (with_refit made (r.entry id) r)

-- an entry that was found may stand with the fields that are made of its own
abbrev pub MayRefit : (PrEntry → PrEntry) → Registry → PrEntry → Type 0
MayRefit made r e = IsRecord (made e) × MayReplace e.id (made e) r

-- the entries of these ids are there and may, one after the other
abbrev pub MayRefits : (PrEntry → PrEntry) → List ℤ → Registry → Type 0
MayRefits made [] r = Unit {0}
MayRefits made (id ∷ those) r = IsSomeAnd (r.entry id) (MayRefit made r) × MayRefits made those (with_refit made (r.entry id) r)
