-- The servers of a world, where one of them is another one or its clock goes on.
use Rattle.std.proofs.Common.{◌≡◌, ◌⊎◌, inl, inr, ℕ, zero, suc, List, [], ◌∷◌, length, map, set, slice_get, refl, sym, ap, ◌∙◌, arith}
use Rattle.std.specs.Prelude.{Option, Some, None, IsSomeAnd}
use Rattle.cell_model.specs.World.{Site, ticked, tick_at}

-- ---- its servers

-- what is so of a server that is there
pub some_site : (P : Site → Type 0) (o : Option Site) → IsSomeAnd o P → (site : Site) × (o ≡ Some site) × P site
some_site P None is = absurd is
some_site P (Some site) is = (site, refl, is)

pub set_same : (sites : List Site) (k : ℕ) (y z : Site) → slice_get sites k ≡ Some y → slice_get (set sites k z) k ≡ Some z
set_same [] k y z is = absurd (cc)
set_same (x ∷ sites) zero y z is = refl
set_same (x ∷ sites) (suc k) y z is = set_same sites k y z is

-- what stands at a place after one server is another one
pub site_either : (sites : List Site) (k j : ℕ) (site z : Site) → slice_get (set sites k site) j ≡ Some z →
    ((j ≡ k) × (z ≡ site)) ⊎ ((j ≡ k → ⊥) × (slice_get sites j ≡ Some z))
site_either [] k j site z is = absurd (cc)
site_either (y ∷ sites) zero zero site z is = inl (refl, cc)
site_either (y ∷ sites) zero (suc j) site z is = inr (λ same. omega arith, is)
site_either (y ∷ sites) (suc k) zero site z is = inr (λ same. omega arith, is)
site_either (y ∷ sites) (suc k) (suc j) site z is = later (site_either sites k j site z is)
  where
    later : ((j ≡ k) × (z ≡ site)) ⊎ ((j ≡ k → ⊥) × (slice_get sites j ≡ Some z)) →
        ((suc j ≡ suc k) × (z ≡ site)) ⊎ ((suc j ≡ suc k → ⊥) × (slice_get sites j ≡ Some z))
    later (inl p) = inl (ap suc p.0, p.1)
    later (inr p) = inr (λ same. p.0 (omega arith), p.1)

-- the servers after a tick are those before it
abbrev pub SameNodes : List Site → List Site → Type 0
SameNodes sites later = (j : ℕ) (z : Site) → slice_get later j ≡ Some z → (y : Site) × (slice_get sites j ≡ Some y) × (z.node ≡ y.node) × (z.asked ≡ y.asked)

later_ticked : (sites : List Site) (j : ℕ) (y z : Site) (seconds : ℕ) → slice_get sites j ≡ Some y → ticked seconds y ≡ z →
    (y : Site) × (slice_get sites j ≡ Some y) × (z.node ≡ y.node) × (z.asked ≡ y.asked)
later_ticked sites j y z seconds get same = (y, get, ap (λ (s : Site). s.node) (sym same), ap (λ (s : Site). s.asked) (sym same))

pub ticked_one : (sites : List Site) (k seconds : ℕ) → SameNodes sites (tick_at sites k seconds)
ticked_one [] k seconds j z is = absurd (cc)
ticked_one (y ∷ sites) zero seconds zero z is = later_ticked (y ∷ sites) 0 y z seconds refl (cc)
ticked_one (y ∷ sites) zero seconds (suc j) z is = (z, is, refl, refl)
ticked_one (y ∷ sites) (suc k) seconds zero z is = (z, is, refl, refl)
ticked_one (y ∷ sites) (suc k) seconds (suc j) z is = ticked_one sites k seconds j z is

pub ticked_each : (sites : List Site) (seconds : ℕ) → SameNodes sites (map (ticked seconds) sites)
ticked_each [] seconds j z is = absurd (cc)
ticked_each (y ∷ sites) seconds zero z is = later_ticked (y ∷ sites) 0 y z seconds refl (cc)
ticked_each (y ∷ sites) seconds (suc j) z is = ticked_each sites seconds j z is
