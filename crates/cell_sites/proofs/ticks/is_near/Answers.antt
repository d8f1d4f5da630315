use Rattle.std.proofs.Common.{◌≡◌, ◌<◌, ◌≤◌, length, inl, inr, ℕ, zero, suc, List, [], ◌∷◌, Some, get_or, refl, ap, subst, ◌∙◌, arith}
use Rattle.std.specs.Prelude.{slice_get}
use Rattle.std.proofs.Math.Nat.{eq-or-lt_of_le}
use Rattle.std.proofs.lemmas.Option.{slice_get-get_or, slice_get_within}
use Rattle.cell_sites.specs.declared.sites.Site.{Site}
use Rattle.cell_sites.proofs.ticks.is_near.Goals as goal
use Rattle.cell_sites.proofs.ticks.is_near.Goals.{else-j-k-via-then-j-k+else-from, else-j-k-via-else-j-k}

-- the site at a place is the one that is read there
read_there : {X : Type 0} (xs : List X) (k : ℕ) (d x : X) → slice_get xs k ≡ Some x → get_or xs k d ≡ x
read_there [] k d x there = cc
read_there (y ∷ xs) zero d x there = cc
read_there (y ∷ xs) (suc k) d x there = read_there xs k d x there

pub loop-j-preserved : goal.loop-j-preserved
loop-j-preserved g c = λ i site below there other.
    let le : i ≤ c.loop-j.j = omega (arith, below) in
    elim (eq-or-lt_of_le le) [
      | inl same ↦ elim c.else-j-k.branch [
        | else-j-k-via-then-j-k+else-from w ↦
            let at = subst (λ (k : ℕ). slice_get c.args.sites.now k ≡ Some site) same there in
            let clock : (get_or c.args.sites.now c.loop-j.j w.index-sites-j.result).clock ≡ site.clock =
            ap (λ (s : Site g.row.D.Denot g.row.V.Denot g.D.Disk). s.clock)
            (read_there c.args.sites.now c.loop-j.j w.index-sites-j.result site at) in
            omega (arith, clock, w.if-from.false, w.from.ensures, w.from-then-j-k.ensures, w.from-then-j-k-2.ensures)
        | else-j-k-via-else-j-k w ↦ absurd (other (same ∙ w.if-j-k.false))
      ]
      | inr lt ↦ c.loop-j.invariant i site lt there other
    ]

-- a clock that is too far away is one
pub returns-then-from : goal.returns-then-from
returns-then-from g c = (
  λ no. absurd (cc),
  λ near.
      let within : c.loop-j.j < length c.args.sites.now = omega (arith, c.loop-j-test.true) in
      let there = slice_get-get_or c.args.sites.now c.loop-j.j c.index-sites-j.result within in
      let low = near c.loop-j.j _ there c.if-j-k.true in
      absurd (omega (arith, low, c.if-from.true, c.from.ensures, c.from-then-j-k.ensures, c.from-then-j-k-2.ensures)),
)

pub returns : goal.returns
returns g c = (
  λ _ j site there other.
      let within = slice_get_within c.args.sites.now j site there in
      c.loop-j.invariant j site (omega (arith, within, c.loop-j-test.false)) there other,
  λ _. refl,
)
