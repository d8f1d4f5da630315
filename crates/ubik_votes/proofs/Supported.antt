-- The greatest start that a vote quorum supports.
use Rattle.std.proofs.Common.{◌≡◌, ℕ, zero, suc, ◌+◌, ◌<◌, ◌≤◌, ◌^◌, max, Bool, true, false, cond, Option, Some, None, List, [], ◌∷◌, length, take, drop, set, get_or, IsTrue, ◌↔◌, map, nat_le, refl, ap, sym, ◌∙◌, subst, inl, inr, ⊎_elim, ◌⊎◌, if◌then◌else◌, arith}
use Rattle.std.proofs.lemmas.Bool.{cases_lt}
use Rattle.std.proofs.lemmas.Bool.Decides.{nat_tests}
use Rattle.std.proofs.lemmas.Grind.{common_steps}
use Rattle.std.proofs.lemmas.List.{take_more, take_more_set, take_all, length-take-le, drop_more, at_drop_all}
use Rattle.std.proofs.lemmas.List.Sums.{sum_by-cons}
use Rattle.ubik_types.specs.Quorum.{size, lowest_bonus, is_vote_quorum, IsVoteQuorum}
use Rattle.ubik_types.specs.Lease.{is_from, supporters, quorum_start}
use Rattle.ubik_votes.specs.Greatest.{IsSupported, RestsOnGreatest, AreMoments, better_start}

-- a step of the search for the greatest
pub quorum_start-step : (n : ℕ) (all : List (Option ℕ)) (best : ℕ) (s : Option ℕ) (among : List (Option ℕ)) → max best (quorum_start n all (s ∷ among)) ≡ max (better_start n all best s) (quorum_start n all among)
quorum_start-step n all best None among = refl
quorum_start-step n all best (Some s) among = grind (arith, nat_tests)

pub quorum_start-moment : (n : ℕ) (all among : List (Option ℕ)) → AreMoments among → quorum_start n all among < 2 ^ 31
quorum_start-moment n all [] are = omega arith
quorum_start-moment n all (None ∷ among) are = quorum_start-moment n all among are.1
quorum_start-moment n all (Some s ∷ among) are = let rest = quorum_start-moment n all among are.1 in let this = are.0 in grind (arith, nat_tests)

-- a test of a quorum and the fact
supported-from_test : (n : ℕ) (set : List Bool) → is_vote_quorum n set ≡ true → IsVoteQuorum n set
supported-from_test n set test = grind (arith, nat_tests)

test-from_supported : (n : ℕ) (set : List Bool) → IsVoteQuorum n set → is_vote_quorum n set ≡ true
test-from_supported n set fact = grind (arith, nat_tests)

-- of a supported start and one that is supported if there is one, the greater is
greater-supported : (n : ℕ) (all : List (Option ℕ)) (s rest : ℕ) → IsSupported n all s → (0 < rest → IsSupported n all rest) → IsSupported n all (max s rest)
greater-supported n all s rest here later =
    ⊎_elim
    (λ (above : s < rest). (let is : rest ≡ max s rest = omega arith in let P : ℕ → Type 0 = λ m. IsSupported n all m in subst P is (later (omega arith))))
    (λ (past : rest ≤ s). (let is : s ≡ max s rest = omega arith in let P : ℕ → Type 0 = λ m. IsSupported n all m in subst P is here))
    (cases_lt s rest)

chosen-supported : (n : ℕ) (all : List (Option ℕ)) (s rest : ℕ) (test : Bool) → is_vote_quorum n (supporters all s) ≡ test → (0 < rest → IsSupported n all rest) → 0 < (if test then max s rest else rest) → IsSupported n all (if test then max s rest else rest)
chosen-supported n all s rest true e later some = greater-supported n all s rest (supported-from_test n (supporters all s) e) later
chosen-supported n all s rest false e later some = later some

-- the greatest is supported
quorum_start-supported : (n : ℕ) (all among : List (Option ℕ)) → 0 < quorum_start n all among → IsSupported n all (quorum_start n all among)
quorum_start-supported n all [] some = absurd (omega arith)
quorum_start-supported n all (None ∷ among) some = quorum_start-supported n all among some
quorum_start-supported n all (Some s ∷ among) some =
    chosen-supported n all s (quorum_start n all among) (is_vote_quorum n (supporters all s)) refl (quorum_start-supported n all among) some

-- the start stands in the list
abbrev Stands : ℕ → List (Option ℕ) → Type 0
Stands s [] = ⊥
Stands s (None ∷ among) = Stands s among
Stands s (Some t ∷ among) = (t ≡ s) ⊎ Stands s among

standing-supported : (n : ℕ) (all among : List (Option ℕ)) (s : ℕ) → Stands s among → IsSupported n all s → s ≤ quorum_start n all among
standing-supported n all [] s here fact = absurd here
standing-supported n all (None ∷ among) s here fact = standing-supported n all among s here fact
standing-supported n all (Some t ∷ among) s here fact =
    ⊎_elim
    (λ (same : t ≡ s). (let test : is_vote_quorum n (supporters all t) ≡ true = rw same (test-from_supported n (supporters all s) fact) in grind (arith, nat_tests)))
    (λ (later : Stands s among). (let rest = standing-supported n all among s later fact in grind (arith, nat_tests)))
    here

-- where no start is s, those from s on are those from s + 1 on
supporters-next : (s : ℕ) (starts : List (Option ℕ)) → (Stands s starts → ⊥) → supporters starts s ≡ supporters starts (suc s)
supporters-next s [] none = refl
supporters-next s (None ∷ starts) none = ap (λ (rest : List Bool). false ∷ rest) (supporters-next s starts none)
supporters-next s (Some t ∷ starts) none =
    let other : t ≡ s → ⊥ = λ e. none (inl e) in
    let head : nat_le s t ≡ nat_le (suc s) t = grind (arith, nat_tests) in
    let rest = supporters-next s starts (λ h. none (inr h)) in
    cc

stands-or_not : (s : ℕ) (starts : List (Option ℕ)) → Stands s starts ⊎ (Stands s starts → ⊥)
stands-or_not s [] = inr (λ h. h)
stands-or_not s (None ∷ starts) = stands-or_not s starts
stands-or_not s (Some t ∷ starts) =
    ⊎_elim
    (λ (before : Stands s starts). inl (inr before))
    (λ (none : Stands s starts → ⊥).
    ⊎_elim
    (λ (below : t < s). inr (λ h. ⊎_elim (λ (same : t ≡ s). omega arith) none h))
    (λ (past : s ≤ t).
    ⊎_elim
    (λ (above : s < t). inr (λ h. ⊎_elim (λ (same : t ≡ s). omega arith) none h))
    (λ (up_to : t ≤ s). inl (inl (omega arith)))
    (cases_lt s t))
    (cases_lt t s))
    (stands-or_not s starts)

-- a bound that no start passes
abbrev latest : List (Option ℕ) → ℕ
latest [] = 0
latest (None ∷ starts) = latest starts
latest (Some t ∷ starts) = max t (latest starts)

size-cons : (a : Bool) (set : List Bool) → size (a ∷ set) ≡ cond a 1 0 + size set
size-cons a set = sum_by-cons (λ (marked : Bool). cond marked 1 0) a set

-- beyond it nobody is from there on
size-past : (s : ℕ) (starts : List (Option ℕ)) → latest starts < s → size (supporters starts s) ≡ 0
size-past s [] past = refl
size-past s (None ∷ starts) past = omega (arith, size-cons false (supporters starts s), size-past s starts past)
size-past s (Some t ∷ starts) past =
    let test : nat_le s t ≡ false = grind (arith, nat_tests) in
    rw test (omega (arith, size-cons false (supporters starts s), size-past s starts (omega arith)))

bonus-within : (set : List Bool) → lowest_bonus set ≤ size set
bonus-within [] = omega arith
bonus-within (true ∷ set) = omega (arith, size-cons true set)
bonus-within (false ∷ set) = omega arith

no_greater-up_to : (more n : ℕ) (starts : List (Option ℕ)) (s : ℕ) → latest starts < s + more → quorum_start n starts starts < s → IsSupported n starts s → ⊥
no_greater-up_to zero n starts s past greater fact = omega (arith, size-past s starts (omega arith), bonus-within (supporters starts s))
no_greater-up_to (suc more) n starts s past greater fact =
    ⊎_elim
    (λ (here : Stands s starts). omega (arith, standing-supported n starts starts s here fact))
    (λ (none : Stands s starts → ⊥).
    (let P : List Bool → Type 0 = λ set. IsVoteQuorum n set in
    no_greater-up_to more n starts (suc s) (omega arith) (omega arith) (subst P (supporters-next s starts none) fact)))
    (stands-or_not s starts)

pub lease-rests : (n : ℕ) (starts : List (Option ℕ)) → RestsOnGreatest n starts
lease-rests n starts = (
  quorum_start n starts starts,
  record {
    supported = quorum_start-supported n starts starts;
    no_greater = λ s greater fact. no_greater-up_to (latest starts + 1) n starts s (omega arith) greater fact;
  },
  refl,
)

-- what a test of the marks answers
pub answer-is_test : (answer : Bool) (n : ℕ) (set : List Bool) → (IsTrue answer ↔ IsVoteQuorum n set) → answer ≡ is_vote_quorum n set
answer-is_test true n set both = grind (arith, nat_tests, both.0)
answer-is_test false n set both = grind (arith, nat_tests, both.1)

-- one more mark
pub marks-step : (least : ℕ) (starts : List (Option ℕ)) (marks : List Bool) (i : ℕ) (mark : Bool) → i < length marks → i < length starts → mark ≡ is_from least (get_or starts i None) → take i marks ≡ map (is_from least) (take i starts) → take (i + 1) (set marks i mark) ≡ map (is_from least) (take (i + 1) starts)
marks-step least starts marks i mark room inside is so_far =
    let one = take_more_set marks i mark room in
    let next = take_more starts i None inside in
    grind (arith, common_steps)

-- one more start is looked at
pub search-step : (n : ℕ) (all : List (Option ℕ)) (best next i : ℕ) → i < length all → next ≡ better_start n all best (get_or all i None) → max best (quorum_start n all (drop i all)) ≡ max next (quorum_start n all (drop (i + 1) all))
search-step n all best next i inside is =
    ap (λ (among : List (Option ℕ)). max best (quorum_start n all among)) (drop_more all i None inside)
    ∙ quorum_start-step n all best (get_or all i None) (drop (i + 1) all)
    ∙ ap (λ (m : ℕ). max m (quorum_start n all (drop (i + 1) all))) (sym is)

pub search-end : (n : ℕ) (all : List (Option ℕ)) (best i : ℕ) → length all ≤ i → quorum_start n all all ≡ max best (quorum_start n all (drop i all)) → best ≡ quorum_start n all all
search-end n all best i past so_far =
    let none : quorum_start n all (drop i all) ≡ 0 = at_drop_all (λ (among : List (Option ℕ)). quorum_start n all among) all i past in
    omega (arith, none, so_far)

pub marks-end : (answer : Bool) (least : ℕ) (starts : List (Option ℕ)) (marks : List Bool) (i : ℕ) → i ≡ length starts → length starts ≤ length marks → take i marks ≡ map (is_from least) (take i starts) → (IsTrue answer ↔ IsVoteQuorum (length (take (length starts) marks)) (take (length starts) marks)) → answer ≡ is_vote_quorum (length starts) (supporters starts least)
marks-end answer least starts marks i end room so_far both =
    let whole : take (length starts) marks ≡ supporters starts least = rw end at so_far ∙ ap (λ (those : List (Option ℕ)). map (is_from least) those) (take_all (length starts) starts (omega arith)) in
    let size : length (take (length starts) marks) ≡ length starts = length-take-le (length starts) marks room in
    answer-is_test answer (length (take (length starts) marks)) (take (length starts) marks) both
    ∙ ap (λ (n : ℕ). is_vote_quorum n (take (length starts) marks)) size
    ∙ ap (λ (those : List Bool). is_vote_quorum (length starts) those) whole
