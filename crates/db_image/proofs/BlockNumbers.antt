-- In which block a position lies.
use Rattle.std.specs.Int.{div_ceil}
use Rattle.std.proofs.Common.{◌≡◌, ℕ, suc, zero, ◌+◌, ◌-◌, ◌*◌, ◌/◌, ◌%◌, ◌<◌, ◌≤◌, sym, ap, ◌∙◌, ⊎_elim, arith}
use Rattle.std.proofs.lemmas.Bool.{cases_lt}
use Rattle.std.proofs.Math.Nat.{mul_comm, mul-suc, suc-mul, mul-le-mul_left, mul-le-mul_right, div-le_self}
use Rattle.std.proofs.lemmas.Nat.{div-mul-add}
use Rattle.std.proofs.lemmas.Grind.{common_steps, div_ceil_times}
use Rattle.db_image.specs.declared.services.Layout.{Layout}
use Rattle.db_image.specs.declared.places.Place.{Place}
use Rattle.db_image.specs.Places.{block_number, block_start, block_size, IsPlace}

pub number_in_head : (l : Layout) (at : ℕ) → at < l.head → block_number l at ≡ 0
unfolding block_number
number_in_head l at h = grind (arith, common_steps)

pub number_behind : (l : Layout) (at : ℕ) → l.head ≤ at → block_number l at ≡ suc ((at - l.head) / l.block)
unfolding block_number
number_behind l at h = grind (arith, common_steps)

-- a position that lies in a block lies in no other
pub number_same : (l : Layout) (k at : ℕ) → block_start l k ≤ at → at < block_start l k + block_size l k → block_number l at ≡ k
number_same l zero at from below = number_in_head l at (omega arith)
number_same l (suc k) at from below =
    let rest : at - l.head ≡ k * l.block + (at - (l.head + l.block * k)) = omega (arith, mul_comm l.block k) in
    number_behind l at (omega arith)
    ∙ ap (λ (n : ℕ). suc (n / l.block)) rest
    ∙ ap suc (div-mul-add k l.block (at - (l.head + l.block * k)) (omega arith))

pub start_behind : (l : Layout) (k n : ℕ) → n ≡ 1 + k → block_start l n ≡ l.head + l.block * k
start_behind l k n e = let suc_k : n ≡ suc k = omega arith in ap (block_start l) suc_k

pub size_behind : (l : Layout) (k n : ℕ) → n ≡ 1 + k → block_size l n ≡ l.block
size_behind l k n e = let suc_k : n ≡ suc k = omega arith in ap (block_size l) suc_k

-- the place of a position behind the head, by its quotient and its rest
pub place_behind : (l : Layout) (at : ℕ) (p : Place) → 0 < l.block → l.head ≤ at
    → p.number ≡ 1 + (at - l.head) / l.block → p.offset ≡ (at - l.head) % l.block → p.size ≡ l.block → IsPlace l at p
place_behind l at p some behind number offset size =
    let k : ℕ = (at - l.head) / l.block in
    let begins : block_start l p.number ≡ l.head + l.block * k = start_behind l k p.number number in
    let parts : l.block * k + (at - l.head) % l.block ≡ at - l.head = omega arith in
    record {
      number = omega (arith, number, number_behind l at behind);
      offset = omega (arith, begins, parts, offset);
      size = size ∙ sym (size_behind l k p.number number);
      within = omega arith;
    }

-- a position lies in its block
pub lies_in : (l : Layout) (at : ℕ) → 0 < l.block
    → (block_start l (block_number l at) ≤ at) × (at < block_start l (block_number l at) + block_size l (block_number l at))
lies_in l at some =
    ⊎_elim
    (λ (head : at < l.head). rw (number_in_head l at head) (omega arith, omega arith))
    (λ (behind : l.head ≤ at).
    let k : ℕ = (at - l.head) / l.block in
    let parts : l.block * k + (at - l.head) % l.block ≡ at - l.head = omega arith in
    rw (number_behind l at behind) (omega (arith, parts), omega (arith, parts)))
    (cases_lt at l.head)

start_next : (l : Layout) (k : ℕ) → block_start l (suc k) ≡ block_start l k + block_size l k
start_next l zero = omega arith
start_next l (suc k) = omega (arith, mul-suc l.block k)

-- where a block ends, the next one begins
pub next_start : (l : Layout) (k : ℕ) → 0 < l.block
    → block_start l (block_number l (block_start l k + block_size l k)) ≡ block_start l k + block_size l k
next_start l k some =
    let e : block_start l (suc k) ≡ block_start l k + block_size l k = start_next l k in
    ap (block_start l) (number_same l (suc k) (block_start l k + block_size l k) (omega (arith, e)) (omega (arith, e, some))) ∙ e

pub size_most : (l : Layout) (k : ℕ) → block_size l k ≤ l.head + l.block
size_most l zero = omega arith
size_most l (suc k) = omega arith

-- where a block behind the head begins
pub start_at : (l : Layout) (n : ℕ) → 0 < n → block_start l n ≡ l.head + l.block * (n - 1)
start_at l n some = start_behind l (n - 1) n (omega arith)

pub ceil_most : (a b : ℕ) → div_ceil a b ≤ a + 1
ceil_most a b = omega (arith, div-le_self a b)

-- the blocks that begin before a position are the first ones, as many as there are lengths of a block behind the head, rounded up
pub before_these : (l : Layout) (at behind block k : ℕ) → 0 < at → behind ≡ at - l.head → 0 < block → l.block ≤ block
    → k < 1 + div_ceil behind block → block_start l k < at
before_these l at behind block zero some rest long most below = some
before_these l at behind block (suc k) some rest long most below =
    let count : ℕ = div_ceil behind block in
    let bound : count * block < behind + block = (div_ceil_times behind block long).1 in
    let far : (k + 1) * block ≤ count * block = mul-le-mul_right block (omega (arith, below)) in
    let sum : (k + 1) * block ≡ k * block + block = ap (λ (n : ℕ). n * block) (omega arith) ∙ suc-mul k block in
    let wide : k * l.block ≤ k * block = mul-le-mul_left k most in
    omega (arith, bound, far, sum, wide, rest, mul_comm l.block k)

pub before_others : (l : Layout) (at behind block k : ℕ) → behind ≡ at - l.head → 0 < block → l.block ≡ block
    → 1 + div_ceil behind block ≤ k → at ≤ block_start l k
before_others l at behind block zero rest long same past = absurd (omega (arith, past))
before_others l at behind block (suc k) rest long same past =
    let count : ℕ = div_ceil behind block in
    let bound : behind ≤ count * block = (div_ceil_times behind block long).0 in
    let far : count * block ≤ k * block = mul-le-mul_right block (omega (arith, past)) in
    let begins : l.block * k ≡ k * block = mul_comm l.block k ∙ ap (λ (n : ℕ). k * n) same in
    omega (arith, bound, far, begins, rest)
