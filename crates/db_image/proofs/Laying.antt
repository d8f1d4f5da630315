-- Bytes that are laid over changed blocks.
use Rattle.std.proofs.Common.{◌≡◌, ◌≢◌, ℕ, ◌+◌, ◌-◌, ◌<◌, ◌≤◌, Option, Some, None, IsSome, IsSomeAnd, IfSome, List, ◌++◌, length, slice_index, take, drop, refl, sym, ap, subst, ◌∙◌, ⊎_elim, arith}
use Rattle.std.proofs.Math.Seq.{take-add}
use Rattle.std.proofs.lemmas.Bool.{cases_lt, cases_eq}
use Rattle.std.proofs.lemmas.List.{places, length-append, length-take-le}
use Rattle.db_image.specs.declared.overlays.Overlay.{Overlay}
use Rattle.db_image.specs.declared.overlays.ChangedBlock.{ChangedBlock}
use Rattle.db_image.specs.declared.services.Layout.{Layout}
use Rattle.db_image.specs.declared.places.Place.{Place}
use Rattle.db_image.specs.Places.{block_number, block_start, block_size, IsPlace}
use Rattle.db_image.specs.Draft.{changed_at, byte_of, byte_over, IsFull, IsLaidOver, Replaces, Lays}
use Rattle.db_image.proofs.BlockNumbers.{lies_in}
use Rattle.db_image.proofs.Bytes.{byte_in}
use Rattle.db_image.proofs.Loading.{byte_stays, is_kept}

-- a byte of a block over which bytes were laid
over_at : (xs bytes : List ℕ) (offset i : ℕ) → offset + length bytes ≤ length xs → i < length bytes
    → slice_index (take offset xs ++ bytes ++ drop (offset + length bytes) xs) (offset + i) ≡ slice_index bytes i
over_at xs bytes offset i fits within = grind (arith, places)

over_before : (xs bytes : List ℕ) (offset i : ℕ) → offset + length bytes ≤ length xs → i < offset
    → slice_index (take offset xs ++ bytes ++ drop (offset + length bytes) xs) i ≡ slice_index xs i
over_before xs bytes offset i fits before = grind (arith, places)

over_behind : (xs bytes : List ℕ) (offset i : ℕ) → offset + length bytes ≤ length xs → offset + length bytes ≤ i
    → slice_index (take offset xs ++ bytes ++ drop (offset + length bytes) xs) i ≡ slice_index xs i
over_behind xs bytes offset i fits behind = grind (arith, places)

over_len : (xs bytes : List ℕ) (offset : ℕ) → offset + length bytes ≤ length xs
    → length (take offset xs ++ bytes ++ drop (offset + length bytes) xs) ≡ length xs
over_len xs bytes offset fits = grind (arith, places)

-- what stood beneath a block, through two steps
abbrev Before : Overlay → ℕ → ChangedBlock → Type 0
Before o k c = (b : ChangedBlock) × (changed_at o k ≡ Some b) × (c.old.items ≡ b.old.items)

each_then : (o m n : Overlay) (k : ℕ) (c : ChangedBlock) → Before m k c → ((d : ChangedBlock) → changed_at m k ≡ Some d → Before o k d)
    → Before o k c
each_then o m n k c then first =
    let before = first then.0 then.1 in
    (before.0, before.1, then.2 ∙ before.2)

each_part : (o n : Overlay) (number : ℕ) (b c : ChangedBlock) (k : ℕ) (d : ChangedBlock) → changed_at o number ≡ Some b
    → Replaces number c o n → c.old.items ≡ b.old.items
    → changed_at n k ≡ Some d → Before o k d
each_part o n number b c k d was replaces old is =
    ⊎_elim
    (λ (same : k ≡ number).
    let this : c ≡ d = cc (replaces.here, is, same) in
    (b, ap (changed_at o) same ∙ was, sym (ap (λ (x : ChangedBlock). x.old.items) this) ∙ old))
    (λ (other : k ≢ number). (d, sym (replaces.others k other) ∙ is, refl))
    (cases_eq k number)

-- one loop step after another
pub lays_none : (o : Overlay) (at : ℕ) (bytes : List ℕ) → Lays at (take 0 bytes) o o
lays_none o at bytes = record {
  inside = λ i beneath below. absurd (omega arith);
  before = λ p beneath h. refl;
  behind = λ p beneath h. refl;
  len = refl;
  layout = refl;
  kept = λ k h. h;
  each = λ k c is. (c, is, refl);
}

pub lays_then : (o m n : Overlay) (at : ℕ) (xs ys : List ℕ) → Lays at xs o m → Lays (at + length xs) ys m n → Lays at (xs ++ ys) o n
lays_then o m n at xs ys first then = record {
  inside = λ i beneath below.
      ⊎_elim
      (λ (front : i < length xs).
      then.before (at + i) beneath (omega arith) ∙ first.inside i beneath front ∙ grind (arith, places))
      (λ (back : length xs ≤ i).
      let e : at + length xs + (i - length xs) ≡ at + i = omega arith in
      let within : i - length xs < length ys = omega (arith, below, length-append xs ys) in
      ap (λ (p : ℕ). byte_over n p beneath) (sym e) ∙ then.inside (i - length xs) beneath within ∙ grind (arith, places))
      (cases_lt i (length xs));
  before = λ p beneath h. then.before p beneath (omega arith) ∙ first.before p beneath h;
  behind = λ p beneath h.
      let far : at + length xs + length ys ≤ p = omega (arith, h, length-append xs ys) in
      then.behind p beneath far ∙ first.behind p beneath (omega arith);
  len = then.len ∙ first.len;
  layout = then.layout ∙ first.layout;
  kept = λ k h. then.kept k (first.kept k h);
  each = λ k c is. each_then o m n k c (then.each k c is) (λ d there. first.each k d there);
}

-- a byte of a block in which it stays
stays_in : (o n : Overlay) (k : ℕ) (b c : ChangedBlock) (q beneath : ℕ) → 0 < o.layout.block → changed_at o k ≡ Some b
    → Replaces k c o n → block_number o.layout q ≡ k
    → slice_index c.new.items (q - block_start o.layout k) ≡ slice_index b.new.items (q - block_start o.layout k)
    → byte_over n q beneath ≡ byte_over o q beneath
stays_in o n k b c q beneath some was replaces here same =
    let lies : (block_start o.layout k ≤ q) × (q < block_start o.layout k + block_size o.layout k) =
    subst (λ (r : ℕ). (block_start o.layout r ≤ q) × (q < block_start o.layout r + block_size o.layout r)) here (lies_in o.layout q some) in
    let i : ℕ = q - block_start o.layout k in
    let e : block_start o.layout k + i ≡ q = omega (arith, lies.0) in
    byte_in n k i q beneath (rw replaces.layout e) (rw replaces.layout (omega (arith, lies.1, lies.0)))
    ∙ ap (λ (d : Option ChangedBlock). byte_of d i beneath) replaces.here
    ∙ same
    ∙ sym (byte_in o k i q beneath e (omega (arith, lies.1, lies.0)) ∙ ap (λ (d : Option ChangedBlock). byte_of d i beneath) was)

-- a position before another one in the same block
before_part : (l : Layout) (q at : ℕ) (p : Place) → 0 < l.block → IsPlace l at p → block_number l q ≡ p.number → q < at
    → q - block_start l p.number < p.offset
before_part l q at p some place here before =
    let lies : block_start l p.number ≤ q = subst (λ (r : ℕ). block_start l r ≤ q) here (lies_in l q some).0 in
    omega (arith, lies, place.offset, before)

-- bytes that are laid over a part of one block
pub lays_part : (o n : Overlay) (at : ℕ) (p : Place) (bytes : List ℕ) (b c : ChangedBlock) → 0 < o.layout.block → IsPlace o.layout at p
    → changed_at o p.number ≡ Some b → Replaces p.number c o n → IsLaidOver p.offset bytes b c
    → p.offset + length bytes ≤ length b.new.items
    → length b.new.items ≡ block_size o.layout p.number → Lays at bytes o n
lays_part o n at p bytes b c some place was replaces laid fits full = record {
  inside = λ i beneath below.
      byte_in n p.number (p.offset + i) (at + i) beneath (rw replaces.layout (omega (arith, place.offset)))
      (rw replaces.layout (omega (arith, below, fits, full)))
      ∙ ap (λ (d : Option ChangedBlock). byte_of d (p.offset + i) beneath) replaces.here
      ∙ ap (λ (xs : List ℕ). slice_index xs (p.offset + i)) laid.new
      ∙ over_at b.new.items bytes p.offset i fits below;
  before = λ q beneath h.
      ⊎_elim
      (λ (here : block_number o.layout q ≡ p.number).
      stays_in o n p.number b c q beneath some was replaces here
      (ap (λ (xs : List ℕ). slice_index xs (q - block_start o.layout p.number)) laid.new
      ∙ over_before b.new.items bytes p.offset (q - block_start o.layout p.number) fits (before_part o.layout q at p some place here h)))
      (λ (other : block_number o.layout q ≢ p.number). byte_stays o n q beneath replaces.layout (replaces.others _ other))
      (cases_eq (block_number o.layout q) p.number);
  behind = λ q beneath h.
      ⊎_elim
      (λ (here : block_number o.layout q ≡ p.number).
      stays_in o n p.number b c q beneath some was replaces here
      (ap (λ (xs : List ℕ). slice_index xs (q - block_start o.layout p.number)) laid.new
      ∙ over_behind b.new.items bytes p.offset (q - block_start o.layout p.number) fits (omega (arith, h, place.offset))))
      (λ (other : block_number o.layout q ≢ p.number). byte_stays o n q beneath replaces.layout (replaces.others _ other))
      (cases_eq (block_number o.layout q) p.number);
  len = replaces.len;
  layout = replaces.layout;
  kept = λ k is. is_kept o n p.number c k replaces is;
  each = λ k d is. each_part o n p.number b c k d was replaces laid.old is;
}

-- the block before a write in it, and the block after it
pair_of : (was now : Option ChangedBlock) (offset : ℕ) (bytes : List ℕ) → IsSome was
    → IfSome was (λ b. IsSomeAnd now (λ c. IsLaidOver offset bytes b c))
    → (b : ChangedBlock) × (c : ChangedBlock) × (was ≡ Some b) × (now ≡ Some c) × IsLaidOver offset bytes b c
pair_of None now offset bytes some here = absurd (cc)
pair_of (Some b) None offset bytes some here = absurd here
pair_of (Some b) (Some c) offset bytes some here = (b, c, refl, refl, here)

-- what a write in one block leaves
pub lays_from : (o n : Overlay) (at : ℕ) (p : Place) (bytes : List ℕ) → IsSome (changed_at o (block_number o.layout at))
    → IfSome (changed_at o p.number) (λ b. IsSomeAnd (changed_at n p.number) (λ c. IsLaidOver p.offset bytes b c)) → ((q : ℕ)
    → q ≢ p.number → changed_at n q ≡ changed_at o q)
    → n.len ≡ o.len → n.layout ≡ o.layout → 0 < o.layout.block → IsPlace o.layout at p → IsFull o → p.offset + length bytes ≤ p.size
    → Lays at bytes o n
lays_from o n at p bytes some here others len layout positive place full fits =
    let two = pair_of (changed_at o p.number) (changed_at n p.number) p.offset bytes (subst (λ (k : ℕ). IsSome (changed_at o k))
    (sym place.number) some) here in
    let whole : length two.0.new.items ≡ block_size o.layout p.number = full p.number two.0 two.2 in
    lays_part o n at p bytes two.0 two.1 positive place two.2
    (record { here = two.3; others = others; len = len; layout = layout }) two.4 (omega (arith, whole, place.size, fits)) whole

-- one part more was laid
pub lays_more : (o m n : Overlay) (at done count : ℕ) (bytes : List ℕ) → done ≤ length bytes → Lays at (take done bytes) o m
    → Lays (at + done) (take count (drop done bytes)) m n
    → Lays at (take (done + count) bytes) o n
lays_more o m n at done count bytes within first then =
    subst (λ (xs : List ℕ). Lays at xs o n) (sym (take-add done count bytes))
    (lays_then o m n at (take done bytes) (take count (drop done bytes)) first
    (subst (λ (d : ℕ). Lays (at + d) (take count (drop done bytes)) m n) (sym (length-take-le done bytes within)) then))
