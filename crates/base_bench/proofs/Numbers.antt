-- Numbers in a row, written and read one by one.
use Rattle.std.proofs.Common.{◌≡◌, ℕ, zero, suc, ◌+◌, ◌-◌, ◌<◌, ◌≤◌, List, [], ◌++◌, refl, sym, ap, ◌∙◌, arith, append_assoc}
use Rattle.std.proofs.lemmas.List.{append-nil}
use Rattle.xdr_base.specs.Spelling.{word}
use Rattle.base_bench.specs.Numbers.{numbers}

numbers-push : (first count : ℕ) → numbers first (suc count) ≡ numbers first count ++ word (first + count)
unfolding numbers
numbers-push first zero = append-nil (word first) ∙ ap word (omega arith)
numbers-push first (suc count) =
    ap (λ (l : List ℕ). word first ++ l) (numbers-push (first + 1) count)
    ∙ sym (append_assoc (word first) (numbers (first + 1) count) (word (first + 1 + count)))
    ∙ ap (λ (n : ℕ). (word first ++ numbers (first + 1) count) ++ word n) (omega arith)

numbers-cons : (n count : ℕ) → numbers n (suc count) ≡ word n ++ numbers (n + 1) count
unfolding numbers
numbers-cons n count = refl

numbers-none : (n : ℕ) → numbers n 0 ≡ []
unfolding numbers
numbers-none n = refl

-- nothing was written yet
pub none_written : (writer : List ℕ) → writer ≡ writer ++ numbers 0 0
unfolding numbers
none_written writer = sym (append-nil writer)

-- one number more
pub one_written : (start before after : List ℕ) (n : ℕ) → before ≡ start ++ numbers 0 n → after ≡ before ++ word n → after ≡ start ++ numbers 0 (n + 1)
one_written start before after n so_far is =
    is ∙ ap (λ (l : List ℕ). l ++ word n) so_far ∙ append_assoc start (numbers 0 n) (word n)
    ∙ ap (λ (m : ℕ). start ++ (numbers 0 n ++ word m)) (omega arith)
    ∙ ap (λ (l : List ℕ). start ++ l) (sym (numbers-push 0 n))
    ∙ ap (λ (m : ℕ). start ++ numbers 0 m) (omega arith)

-- the first of some numbers, and those after it
pub numbers-first : (n count : ℕ) → n < count → numbers n (count - n) ≡ word n ++ numbers (n + 1) (count - (n + 1))
numbers-first n count some = by (count - n) (count - (n + 1)) (omega (arith, some))
  where
    by : (a b : ℕ) → a ≡ suc b → numbers n a ≡ word n ++ numbers (n + 1) b
    by a b is = ap (numbers n) is ∙ numbers-cons n b

pub no_numbers : (n count : ℕ) → count ≤ n → numbers n (count - n) ≡ []
no_numbers n count none = ap (numbers n) (omega (arith, none)) ∙ numbers-none n
