-- The blocks of a range, loaded one after the other.
use Rattle.std.proofs.Common.{◌≡◌, ℕ, ◌+◌, ◌-◌, ◌<◌, ◌≤◌, Option, IsSome, List, sym, ap, subst, ◌∙◌, ⊎_elim, refl, arith}
use Rattle.std.proofs.lemmas.Bool.{cases_lt}
use Rattle.db_image.specs.declared.images.ImageRead.{Ghosts}
use Rattle.db_image.specs.declared.overlays.Overlay.{Overlay}
use Rattle.db_image.specs.declared.services.Layout.{Layout}
use Rattle.db_image.specs.declared.places.Place.{Place}
use Rattle.db_image.specs.Images.{ReadsAtMost}
use Rattle.db_image.specs.Places.{block_number, block_start, block_size, IsPlace}
use Rattle.db_image.specs.Draft.{changed_at, IsLoaded, SameBytes, range_cost}
use Rattle.db_image.proofs.BlockNumbers.{lies_in, next_start, number_same, size_most}
use Rattle.db_image.proofs.ReadSteps.{reads_then}

-- where the block of a position begins
abbrev pub begin_of : Layout → ℕ → ℕ
begin_of l at = block_start l (block_number l at)

-- how far a loop over the blocks of a range has come
pub record Reached (l : Layout) (at end from : ℕ) : Type 0 where
  pub not_before : begin_of l at ≤ begin_of l from
  pub forward : at ≤ from
  pub near : from ≤ at + (end - at) + (l.head + l.block)

pub reached_first : (l : Layout) (at end : ℕ) → Reached l at end at
reached_first l at end = record { not_before = omega arith; forward = omega arith; near = omega arith }

-- the end of the block of a position
pub end_is : (l : Layout) (from : ℕ) (p : Place) → IsPlace l from p
    → from + (p.size - p.offset) ≡ begin_of l from + block_size l (block_number l from)
end_is l from p place =
    let begins : block_start l p.number ≡ begin_of l from = ap (block_start l) place.number in
    let long : p.size ≡ block_size l (block_number l from) = place.size ∙ ap (block_size l) place.number in
    omega (arith, begins, long, place.offset, place.within)

pub reached_more : (l : Layout) (at end from : ℕ) (p : Place) → 0 < l.block → IsPlace l from p → from < end → Reached l at end from
    → Reached l at end (from + (p.size - p.offset))
reached_more l at end from p some place below r =
    let e = end_is l from p place in
    let begins : begin_of l (from + (p.size - p.offset)) ≡ begin_of l from + block_size l (block_number l from) =
    ap (begin_of l) e ∙ next_start l (block_number l from) some in
    record {
      not_before = omega (arith, begins, r.not_before);
      forward = omega (arith, r.forward);
      near = omega (arith, size_most l (block_number l from), place.size, ap (block_size l) place.number, r.forward, below);
    }

-- what was read so far
pub reads_block : {I : Type 0} (g : Ghosts I) (l : Layout) (at end from : ℕ) (p : Place) (a b c : I) (first failed : Type 0)
    → 0 < l.block → IsPlace l from p
    → Reached l at end from → ReadsAtMost g (begin_of l from - begin_of l at) a b first
    → ReadsAtMost g (block_size l (block_number l from)) b c failed
    → ReadsAtMost g (begin_of l (from + (p.size - p.offset)) - begin_of l at) a c failed
reads_block g l at end from p a b c first failed some place r before now =
    let begins : begin_of l (from + (p.size - p.offset)) ≡ begin_of l from + block_size l (block_number l from) =
    ap (begin_of l) (end_is l from p place) ∙ next_start l (block_number l from) some in
    reads_then g (begin_of l from - begin_of l at)
    (block_size l (block_number l from)) _ a b c first failed before now (omega (arith, begins, r.not_before))

-- the whole range costs no more than a put of its length
pub cost_within : (l : Layout) (at end from : ℕ) → 0 < l.block → Reached l at end from
    → begin_of l from - begin_of l at ≤ range_cost l (end - at)
cost_within l at end from some r =
    omega (arith, (lies_in l from some).0, (lies_in l at some).1, size_most l (block_number l at), r.near)

-- also where the next block is the one that fails
pub cost_failed : (l : Layout) (at end from : ℕ) (p : Place) → 0 < l.block → IsPlace l from p → from < end → Reached l at end from
    → begin_of l (from + (p.size - p.offset)) - begin_of l at ≤ range_cost l (end - at)
cost_failed l at end from p some place below r = cost_within l at end (from + (p.size - p.offset))
    some (reached_more l at end from p some place below r)

pub loaded_more : (o n : Overlay) (beneath : Option (List ℕ)) (at from : ℕ) (p : Place) → 0 < o.layout.block → IsPlace o.layout from p
    → IsLoaded o at from → SameBytes beneath o n
    → IsSome (changed_at n (block_number n.layout from)) → IsLoaded n at (from + (p.size - p.offset))
loaded_more o n beneath at from p some place loaded same here q after below =
    subst (λ (l : Layout). IsSome (changed_at n (block_number l q))) (sym same.layout)
    (⊎_elim
    (λ (before : q < from). same.kept _ (loaded q after before))
    (λ (behind : from ≤ q).
    let e = end_is o.layout from p place in
    let one : block_number o.layout q ≡ block_number o.layout from =
    number_same o.layout (block_number o.layout from) q (omega (arith, (lies_in o.layout from some).0)) (omega (arith, e, below)) in
    subst (λ (k : ℕ). IsSome (changed_at n k)) (sym one)
    (subst (λ (l : Layout). IsSome (changed_at n (block_number l from))) same.layout here))
    (cases_lt q from))

pub same_then : (beneath : Option (List ℕ)) (o m n : Overlay) → SameBytes beneath o m → SameBytes beneath m n → SameBytes beneath o n
same_then beneath o m n first then = record {
  bytes = λ bytes is at. then.bytes bytes is at ∙ first.bytes bytes is at;
  len = then.len ∙ first.len;
  layout = then.layout ∙ first.layout;
  kept = λ k is. then.kept k (first.kept k is);
}

pub same_none : (beneath : Option (List ℕ)) (o : Overlay) → SameBytes beneath o o
same_none beneath o = record { bytes = λ bytes is at. refl; len = refl; layout = refl; kept = λ k is. is }
