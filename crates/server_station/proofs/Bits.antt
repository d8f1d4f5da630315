-- Replies that are for want of memory, from the last to the first.
use Rattle.std.proofs.Common.{◌≡◌, ℕ, zero, suc, ◌+◌, ◌*◌, ◌%◌, ◌≤◌, Some, None, List, [], ◌∷◌, length, drop, slice_get, ap, sym, ◌∙◌, arith}
use Rattle.std.specs.Prelude.{◌^◌}
use Rattle.std.proofs.lemmas.List.{at_drop_all}
use Rattle.cell_model.specs.declared.events.Output.{Output}
use Rattle.server_journal.specs.Items.{shorts_of, shorts_with}

drop_next : (outs : List Output) (k : ℕ) (o : Output) → slice_get outs k ≡ Some o → drop k outs ≡ o ∷ drop (suc k) outs
drop_next [] k o at = cc
drop_next (a ∷ outs) zero o at = let same : a ≡ o = cc in ap (λ (x : Output). x ∷ outs) same
drop_next (a ∷ outs) (suc k) o at = drop_next outs k o at

-- one output before the others
pub shorts_next : (outs : List Output) (k n : ℕ) (o : Output) → slice_get outs k ≡ Some o → n ≡ k + 1
    → shorts_of (drop k outs) ≡ shorts_with o (shorts_of (drop n outs))
shorts_next outs k n o at is =
    let next : n ≡ suc k = omega (arith, is) in
    ap shorts_of (drop_next outs k o at) ∙ sym (ap (λ (i : ℕ). shorts_with o (shorts_of (drop i outs))) next)

past_end : (outs : List Output) (k : ℕ) → slice_get outs k ≡ None → length outs ≤ k
past_end [] k none = omega arith
past_end (a ∷ outs) zero none = absurd cc
past_end (a ∷ outs) (suc k) none = omega (arith, past_end outs k none)

-- behind the last output there is none
pub shorts_none : (outs : List Output) (k n : ℕ) → slice_get outs k ≡ None → n ≡ k + 1 → shorts_of (drop k outs) ≡ shorts_of (drop n outs)
shorts_none outs k n none is =
    let past = past_end outs k none in
    at_drop_all shorts_of outs k past ∙ sym (at_drop_all shorts_of outs n (omega (arith, past, is)))

-- one bit before the others, where the highest falls off
pub bit_before : (short later b : ℕ) → short ≡ later % 2 ^ 128 → (short * 2 % 2 ^ 128 + b) % 2 ^ 128 ≡ (b + 2 * later) % 2 ^ 128
bit_before short later b is = omega (arith, is)
