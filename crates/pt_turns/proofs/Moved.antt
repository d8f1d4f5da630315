-- Ids where one took the place of another: where each came from, and where it went.
use Rattle.std.proofs.Common.{◌≡◌, ◌≢◌, ℤ, pos, negsuc, Bool, true, false, cond, Some, None, sym, ap, ◌∙◌, arith}
use Rattle.std.specs.Prelude.{◌<ℤ◌, ◌≤ℤ◌, int_lt}
use Rattle.std.specs.Ordering.{int_eq}
use Rattle.std.proofs.lemmas.Bool.{false_from_ne_true}
use Rattle.std.proofs.lemmas.Int.{ints}
use Rattle.prdb_layout.specs.State.{IsId}
use Rattle.prdb_layout.proofs.Changed.{by_id}
use Rattle.prdb_lists.specs.Moves.{before}
use Rattle.pt_service.specs.State.{is_group}
use Rattle.pt_service.specs.Turning.{moved}
use Rattle.pt_turns.proofs.Named.{id_of, to_id}

pub is_other : (a b : ℤ) → a ≢ b → int_eq a b ≡ false
is_other a b other = false_from_ne_true (int_eq a b) (λ same. other (id_of a b same))

pub moved_own : (old new x : ℤ) → x ≡ old → moved old new x ≡ new
moved_own old new x same = ap (λ (b : Bool). cond b new x) (to_id x old same)

pub moved_other : (old new x : ℤ) → x ≢ old → moved old new x ≡ x
moved_other old new x other = ap (λ (b : Bool). cond b new x) (is_other x old other)

pub before_new : (old new z : ℤ) → z ≡ new → before old new z ≡ Some old
before_new old new z same = ap (λ (b : Bool). cond b (Some old) (cond (int_eq z old) None (Some z))) (to_id z new same)

pub before_old : (old new z : ℤ) → z ≢ new → z ≡ old → before old new z ≡ None
before_old old new z other same =
    ap (λ (b : Bool). cond b (Some old) (cond (int_eq z old) None (Some z))) (is_other z new other)
    ∙ ap (λ (b : Bool). cond b None (Some z)) (to_id z old same)

pub before_other : (old new z : ℤ) → z ≢ new → z ≢ old → before old new z ≡ Some z
before_other old new z one two =
    ap (λ (b : Bool). cond b (Some old) (cond (int_eq z old) None (Some z))) (is_other z new one)
    ∙ ap (λ (b : Bool). cond b None (Some z)) (is_other z old two)

-- an id that stays
pub moved_same : (a x : ℤ) → moved a a x ≡ x
moved_same a x = by_id x a (λ same. moved_own a a x same ∙ sym same) (λ other. moved_other a a x other)

pub before_same : (a z : ℤ) → before a a z ≡ Some z
before_same a z = by_id z a (λ same. before_new a a z same ∙ ap Some (sym same)) (λ other. before_other a a z other other)

-- ---- which ids there are

pub not_zero : (id : ℤ) → IsId id → id ≢ pos 0
not_zero (pos n) is same = absurd (omega (arith, ints, is.0, same))
not_zero (negsuc n) is same = absurd cc

less_not : (a b : ℤ) → b ≤ℤ a → int_lt a b ≡ false
less_not a b most = grind (arith, ints)

less_to : (a b : ℤ) → a <ℤ b → int_lt a b ≡ true
less_to a b less = grind (arith, ints)

pub below_is : (id : ℤ) → int_lt id (pos 0) ≡ is_group id
below_is (pos n) = less_not (pos n) (pos 0) (omega (arith, ints))
below_is (negsuc n) = less_to (negsuc n) (pos 0) (omega (arith, ints))
