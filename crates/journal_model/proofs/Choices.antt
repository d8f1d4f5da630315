-- Choices of calls that found no memory: lists that agree, and those that the bits of a number are.
use Rattle.std.proofs.Common.{Bool, true, false, cond, ◌==◌, ◌≡◌, ℕ, zero, suc, ◌+◌, ◌*◌, ◌/◌, ◌%◌, ◌≤◌, List, [], ◌∷◌, ◌++◌, length, drop, refl, sym, ap, ◌∙◌, arith}
use Rattle.std.proofs.Math.Seq.{drop-append-add}
use Rattle.std.proofs.lemmas.Bool.Decides.{nat_tests}
use Rattle.std.proofs.lemmas.List.{drop-drop}
use Rattle.std.proofs.lemmas.List.Sums.{sum_by-cons}
use Rattle.std.specs.Prelude.{count_by}
use Rattle.cell_model.specs.declared.events.Output.{Output}
use Rattle.cell_model.specs.declared.events.Output.TheVariants as output
use Rattle.cell_model.specs.Node.{Server}
use Rattle.cell_model.specs.Step.{Shown, Stepped, followed, is_reply, is_short, outputs_of, short_after}
use Rattle.journal_model.specs.Items.{bits, bits_in, shorts_of, shorts_with}

-- Two lists make the same choices: behind the end of one nothing is for want of memory.
abbrev pub Agrees : List Bool → List Bool → Type 0
Agrees xs ys = (k : ℕ) → is_short (drop k xs) ≡ is_short (drop k ys)

agrees-cons : (x : Bool) (xs ys : List Bool) → Agrees xs ys → Agrees (x ∷ xs) (x ∷ ys)
agrees-cons x xs ys agree zero = refl
agrees-cons x xs ys agree (suc k) = agree k

-- ---- bits

no_bits : (n k : ℕ) → is_short (drop k (bits_in n 0)) ≡ false
no_bits zero zero = refl
no_bits zero (suc k) = refl
no_bits (suc n) zero = refl
no_bits (suc n) (suc k) = no_bits n k

drop_none : (k : ℕ) → is_short (drop k []) ≡ false
drop_none zero = refl
drop_none (suc k) = refl

first_bit : (b : Bool) (rest : ℕ) → (((cond b 1 0) + 2 * rest) % 2 == 1) ≡ b
first_bit true rest = grind (arith, nat_tests)
first_bit false rest = grind (arith, nat_tests)

later_bits : (b : Bool) (rest : ℕ) → ((cond b 1 0) + 2 * rest) / 2 ≡ rest
later_bits true rest = omega arith
later_bits false rest = omega arith

-- the bits of a number are the choices that it was made of
pub bits_agree : (n : ℕ) (choices : List Bool) → length choices ≤ n → Agrees (bits_in n (bits choices)) choices
bits_agree n [] few k = no_bits n k ∙ sym (drop_none k)
bits_agree zero (b ∷ choices) few k = absurd (omega arith)
bits_agree (suc n) (b ∷ choices) few k =
    let same : bits_in (suc n) (bits (b ∷ choices)) ≡ b ∷ bits_in n (bits choices) =
    ap (λ (bit : Bool). bit ∷ bits_in n (bits (b ∷ choices) / 2)) (first_bit b (bits choices))
    ∙ ap (λ (rest : ℕ). b ∷ bits_in n rest) (later_bits b (bits choices)) in
    ap (λ (xs : List Bool). is_short (drop k xs)) same
    ∙ agrees-cons b (bits_in n (bits choices)) choices (bits_agree n choices (omega (arith, few))) k

-- ---- what is shown

-- which replies of what is shown are for want of memory
abbrev pub shorts : List Shown → List Bool
shorts shown = shorts_of (outputs_of shown)

shorts_with-append : (o : Output) (xs ys : List Bool) → shorts_with o (xs ++ ys) ≡ shorts_with o xs ++ ys
shorts_with-append (output.Send p) xs ys = refl
shorts_with-append (output.Reply id r) xs ys = refl
shorts_with-append (output.Announce version) xs ys = refl

pub shorts-append : (shown later : List Shown) → shorts (shown ++ later) ≡ shorts shown ++ shorts later
shorts-append [] later = refl
shorts-append (one ∷ shown) later =
    ap (shorts_with one.output) (shorts-append shown later) ∙ shorts_with-append one.output (shorts shown) (shorts later)

one_reply : (o : Output) (n : ℕ) (later : List Bool) → n ≡ length later → cond (is_reply o) 1 0 + n ≡ length (shorts_with o later)
one_reply (output.Send p) n later is = omega (arith, is)
one_reply (output.Reply id r) n later is = omega (arith, is)
one_reply (output.Announce version) n later is = omega (arith, is)

replies_are : (shown : List Shown) → count_by (λ (one : Shown). is_reply one.output) shown ≡ length (shorts shown)
replies_are [] = refl
replies_are (one ∷ shown) =
    sum_by-cons (λ (one : Shown). cond (is_reply one.output) 1 0) one shown
    ∙ one_reply one.output (count_by (λ (one : Shown). is_reply one.output) shown) (shorts shown) (replies_are shown)

-- the choices behind what was shown
pub agrees_behind : (ys : List Bool) (shown later : List Shown) → Agrees ys (shorts (shown ++ later)) → Agrees (short_after shown ys) (shorts later)
agrees_behind ys shown later agree k =
    let n = count_by (λ (one : Shown). is_reply one.output) shown in
    ap is_short (drop-drop k n ys)
    ∙ agree (n + k)
    ∙ ap (λ (xs : List Bool). is_short (drop (n + k) xs)) (shorts-append shown later)
    ∙ ap (λ (i : ℕ). is_short (drop (i + k) (shorts shown ++ shorts later))) (replies_are shown)
    ∙ ap is_short (drop-append-add (shorts shown) (shorts later) k)

-- ---- rules that tell their choices

-- Whoever makes the choices that the step shows makes the same step.
abbrev pub Tells : (List Bool → Stepped) → Type 0
Tells f = (short ys : List Bool) → Agrees ys (shorts (f short).shown) → f ys ≡ f short

pub tells_one : (t : Stepped) → Tells (λ short. t)
tells_one t short ys agree = refl

pub tells_either : (b : Bool) (f g : List Bool → Stepped) → Tells f → Tells g → Tells (λ short. cond b (f short) (g short))
tells_either true f g first second = first
tells_either false f g first second = second

pub followed_same : (t : Stepped) (f g : Server → Stepped) → f t.server ≡ g t.server → followed t f ≡ followed t g
followed_same t f g same =
    ap (λ (u : Stepped). record { server = u.server; calls = t.calls ++ u.calls; shown = t.shown ++ u.shown }) same

pub tells_behind : (t : Stepped) (f : Server → List Bool → Stepped) → Tells (f t.server)
    → Tells (λ short. followed t (λ after. f after (short_after t.shown short)))
tells_behind t f tells short ys agree =
    followed_same t (λ after. f after (short_after t.shown ys)) (λ after. f after (short_after t.shown short))
    (tells (short_after t.shown short) (short_after t.shown ys)
    (agrees_behind ys t.shown (f t.server (short_after t.shown short)).shown agree))

-- the same of one call, whose reply is the first
abbrev pub TellsFirst : (Bool → Stepped) → Type 0
TellsFirst f = (b : Bool) → (f (is_short (shorts (f b).shown)) ≡ f b)

pub tells_first : (f : Bool → Stepped) → TellsFirst f → Tells (λ short. f (is_short short))
tells_first f tells short ys agree = ap f (agree 0) ∙ tells (is_short short)

-- where it is for want of memory if and only if that was chosen
pub tells_chosen : (f : Bool → Stepped) → is_short (shorts (f true).shown) ≡ true → is_short (shorts (f false).shown) ≡ false → TellsFirst f
tells_chosen f short meant true = ap f short
tells_chosen f short meant false = ap f meant

pub first_one : (t : Stepped) → TellsFirst (λ short. t)
first_one t b = refl

pub first_either : (b : Bool) (f g : Bool → Stepped) → TellsFirst f → TellsFirst g → TellsFirst (λ short. cond b (f short) (g short))
first_either true f g first second = first
first_either false f g first second = second
