-- Where entries and their lists stand, and what a change of a pair makes of a draft.
use Rattle.std.proofs.Common.{◌≡◌, ℕ, ℤ, List, refl, ap, ◌∙◌}
use Rattle.prdb_layout.specs.Registry.{Registry}
use Rattle.prdb_lists.specs.Layout.{PairList}
use Rattle.prdb_lists.specs.Sides.{IsPlace}
use Rattle.prdb_lists.specs.declared.sides.Place.{Place}
use Rattle.prdb_lists.proofs.Relist.{StandsAt}

-- ---- a pair more

pub stands : (image : List ℕ) (r : Registry) (lists : ℤ → PairList) (p : Place) (x : ℤ) → p.entry ≡ x → IsPlace image r lists p
    → StandsAt image x p.found.number
stands image r lists p x same is = record { below = is.below; kind = is.kind; id = is.id ∙ same }

-- the list of a place as it was read
abbrev pub list_at : Place → PairList
list_at p = record { ids = p.listed.ids; more = p.listed.more.items }

pub list_is : (image : List ℕ) (r : Registry) (lists : ℤ → PairList) (p : Place) (x : ℤ) → p.entry ≡ x → IsPlace image r lists p
    → list_at p ≡ lists x
list_is image r lists p x same is =
    let i : p.listed.ids ≡ (lists x).ids = is.ids ∙ ap (λ (z : ℤ). (lists z).ids) same in
    let m : p.listed.more.items ≡ (lists x).more = is.more ∙ ap (λ (z : ℤ). (lists z).more) same in
    rw (i, m) refl
