-- The ids of users and groups that are made are numbers of 32 bits.
use Rattle.std.proofs.Common.{◌≡◌, ℕ, ℤ, pos, ◌≤◌, Bool, true, false, ◌&&◌, leb, eqb, cond, Option, Some, None, List, [], ◌∷◌, refl, ap, ◌∙◌, subst, arith}
use Rattle.std.specs.Prelude.{neg_ℤ, option_and_then, option_map}
use Rattle.std.specs.Cmp.Derive.{both_true}
use Rattle.std.proofs.lemmas.Bool.{eqb-true, leb-true}
use Rattle.std.proofs.lemmas.Bool.Decides.{nat_tests}
use Rattle.script_words.specs.Numbers.{is_numeral, negated, number_of, number_within, signed_of}
use Rattle.afs_commands.specs.Forms.{group_id_of, user_id_of}
use Rattle.afs_words.proofs.Judging.{both}

is_leb : (a b : ℕ) → a ≤ b → leb a b ≡ true
is_leb a b low = grind (arith, nat_tests)

in_range : (t u : Bool) (n m : ℕ) → (t ≡ true → u ≡ true) → cond t (Some n) None ≡ Some m → cond u (Some n) None ≡ Some m
in_range true u n m step is = rw (step refl) is
in_range false u n m step is = cc

-- a number in a range is one in a wider range
widened : (a b c d : ℕ) (found : Option ℕ) (m : ℕ) → c ≤ a → b ≤ d
    → option_and_then (λ n. cond (leb a n && leb n b) (Some n) None) found ≡ Some m
    → option_and_then (λ n. cond (leb c n && leb n d) (Some n) None) found ≡ Some m
widened a b c d None m low high is = is
widened a b c d (Some n) m low high is =
    in_range (leb a n && leb n b) (leb c n && leb n d) n m
    (λ at. let parts = both (leb a n) (leb n b) at in
    let above = leb-true a n parts.0 in let below = leb-true n b parts.1 in
    both_true (is_leb c n (omega arith)) (is_leb n d (omega arith))) is

no_numeral : (digits : List ℕ) → is_numeral (45 ∷ digits) ≡ false
no_numeral [] = refl
no_numeral (second ∷ digits) = refl

unsigned : (b : Bool) (first : ℕ) (digits : List ℕ) (m : ℕ) → eqb first 45 ≡ b → number_within 1 2147483647 (first ∷ digits) ≡ Some m
    → cond b (negated digits) (option_map pos (number_within 0 2147483647 (first ∷ digits))) ≡ Some (pos m)
unsigned true first digits m sign is =
    let same : first ≡ 45 = eqb-true first 45 sign in
    let none : number_within 1 2147483647 (45 ∷ digits) ≡ Some m = subst (λ (n : ℕ). number_within 1 2147483647 (n ∷ digits) ≡ Some m) same is in
    let never : None ≡ Some m = rw (no_numeral digits) at none in absurd (let h = never in cc)
unsigned false first digits m sign is =
    ap (option_map pos) (widened 1 2147483647 0 2147483647 (number_of (first ∷ digits)) m (omega arith) (omega arith) is)

positive : (word : List ℕ) (m : ℕ) → number_within 1 2147483647 word ≡ Some m → signed_of word ≡ Some (pos m)
positive [] m is = cc
positive (first ∷ digits) m is = unsigned (eqb first 45) first digits m refl is

user_of : (found : Option ℕ) (word : List ℕ) (n : ℤ) → number_within 1 2147483647 word ≡ found → option_map pos found ≡ Some n → signed_of word ≡ Some n
user_of None word n at is = cc
user_of (Some m) word n at is = positive word m at ∙ is

pub user_signed : (word : List ℕ) (n : ℤ) → user_id_of word ≡ Some n → signed_of word ≡ Some n
user_signed word n is = user_of (number_within 1 2147483647 word) word n refl is

negative : (found : Option ℕ) (digits : List ℕ) (n : ℤ) → number_within 1 2147483647 digits ≡ found → option_map (λ m. neg_ℤ (pos m)) found ≡ Some n
    → negated digits ≡ Some n
negative None digits n at is = cc
negative (Some m) digits n at is =
    ap (option_map (λ k. neg_ℤ (pos k))) (widened 1 2147483647 1 2147483648 (number_of digits) m (omega arith) (omega arith) at) ∙ is

signed : (b : Bool) (digits : List ℕ) (other : Option ℤ) (n : ℤ) → cond b (option_map (λ m. neg_ℤ (pos m)) (number_within 1 2147483647 digits)) None ≡ Some n
    → cond b (negated digits) other ≡ Some n
signed true digits other n is = negative (number_within 1 2147483647 digits) digits n refl is
signed false digits other n is = cc

pub group_signed : (word : List ℕ) (n : ℤ) → group_id_of word ≡ Some n → signed_of word ≡ Some n
group_signed [] n is = cc
group_signed (first ∷ digits) n is = signed (eqb first 45) digits _ n is
