-- Changes that are begun, one after the other.
use Rattle.std.proofs.Common.{◌≡◌, ◌≤◌, ℕ, ◌+◌, ◌-◌, max, min, Bool, true, false, cond, ltb, List, [], ◌∷◌, ◌++◌, length, replicate, Option, Some, None, IfSome, refl, sym, ap, subst, ◌∙◌, arith}
use Rattle.std.proofs.lemmas.Bool.{ltb-true, ltb-false}
use Rattle.std.proofs.lemmas.List.{length-replicate}
use Rattle.std.specs.List.{All}
use Rattle.std.proofs.lemmas.List.Elements.{All-append, All-cons, All-nil}
use Rattle.ubik_types.specs.declared.images.Change.{Change}
use Rattle.ubik_types.specs.declared.images.Change.TheVariants.{Put, Cut}
use Rattle.ubik_types.specs.declared.limits.TheConstants.{MAX_CHANGES, MAX_IMAGE}
use Rattle.ubik_types.specs.Logged.{logged, passed_limit}
use Rattle.ubik_log.specs.LogGrammar.{IsWithinImage}
use Rattle.ubik_store.specs.declared.transactions.Transaction.{Transaction}
use Rattle.ubik_store.specs.Redo.{changed_len, len_after, IsSeamless}
use Rattle.ubik_store.specs.Store.{IsBegunOver, changes_begun, put_bytes}

pub len_after-append : (len : ℕ) (xs ys : List Change) → len_after len (xs ++ ys) ≡ len_after (len_after len xs) ys
len_after-append len [] ys = refl
len_after-append len (x ∷ xs) ys = len_after-append (changed_len len x) xs ys

pub seamless-append : (len : ℕ) (xs ys : List Change) → IsSeamless len xs → IsSeamless (len_after len xs) ys → IsSeamless len (xs ++ ys)
seamless-append len [] ys first second = second
seamless-append len (x ∷ xs) ys first second = (first.0, seamless-append (changed_len len x) xs ys first.1 second)

pub put_bytes-append : (xs ys : List Change) → put_bytes (xs ++ ys) ≡ put_bytes xs + put_bytes ys
put_bytes-append [] ys = omega arith
put_bytes-append (Put at bytes ∷ xs) ys = omega (arith, put_bytes-append xs ys)
put_bytes-append (Cut to ∷ xs) ys = put_bytes-append xs ys

-- changes that may be added to those that were begun
pub record MayBeAdded (t : Transaction) (added : List Change) : Type 0 where
  pub seamless : IsSeamless t.len added
  pub within : All IsWithinImage added
  pub few : t.sum + put_bytes added ≤ MAX_CHANGES
  pub not_long : len_after t.len added ≤ MAX_IMAGE

-- and once they are
pub record IsAdded (t : Transaction) (added : List Change) (after : Transaction) : Type 0 where
  pub start : after.start ≡ t.start
  pub changes : after.changes ≡ t.changes ++ added
  pub len : after.len ≡ len_after t.len added
  pub sum : after.sum ≡ t.sum + put_bytes added

pub begun_more : (before : ℕ) (t after : Transaction) (added : List Change)
    → IsBegunOver before t → MayBeAdded t added → IsAdded t added after → IsBegunOver before after
begun_more before t after added begun may is = record {
  start = is.start ∙ begun.start;
  seamless = subst (λ (cs : List Change). IsSeamless before cs) (sym is.changes)
      (seamless-append before t.changes added begun.seamless (subst (λ (n : ℕ). IsSeamless n added) begun.len may.seamless));
  within =
      subst (λ (cs : List Change). All IsWithinImage cs) (sym is.changes)
      (All-append IsWithinImage t.changes added begun.within may.within);
  len =
      is.len ∙ ap (λ (n : ℕ). len_after n added) begun.len ∙ sym (len_after-append before t.changes added)
      ∙ ap (len_after before) (sym is.changes);
  sum = is.sum ∙ ap (λ (n : ℕ). n + put_bytes added) begun.sum ∙ sym (put_bytes-append t.changes added) ∙ ap put_bytes (sym is.changes);
  few = subst (λ (n : ℕ). n ≤ MAX_CHANGES) (sym is.sum) may.few;
  not_long = subst (λ (n : ℕ). n ≤ MAX_IMAGE) (sym is.len) may.not_long;
}

within_test : (b : Bool) (x : ℕ) (o : Option ℕ) → cond b (Some x) o ≡ None → (b ≡ false) × (o ≡ None)
within_test true x o is = absurd cc
within_test false x o is = (refl, is)

pub within_limits : (sum end : ℕ) → passed_limit sum end ≡ None → (sum ≤ MAX_CHANGES) × (end ≤ MAX_IMAGE)
within_limits sum end is =
    let first = within_test (ltb MAX_CHANGES sum) sum (cond (ltb MAX_IMAGE end) (Some end) None) is in
    let second = within_test (ltb MAX_IMAGE end) end None first.1 in
    (ltb-false MAX_CHANGES sum first.0, ltb-false MAX_IMAGE end second.0)

-- a put, and one of zero bytes before it where there is a gap
pub record IsKeptPut (len at : ℕ) (bytes : List ℕ) (changes : List Change) : Type 0 where
  pub seamless : IsSeamless len changes
  pub within : All IsWithinImage changes
  pub len_after : len_after len changes ≡ max len (at + length bytes)
  pub sum : put_bytes changes ≡ (at - len) + length bytes

kept_by_case : (b : Bool) (len at : ℕ) (bytes : List ℕ) → ltb len at ≡ b → max len at ≤ MAX_IMAGE → max len (at + length bytes) ≤ MAX_IMAGE
    → IsKeptPut len at bytes (cond b (Put len (replicate (at - len) 0) ∷ []) [] ++ Put at bytes ∷ [])
kept_by_case true len at bytes is gap whole =
    let below = ltb-true len at is in
    let zeros = length-replicate {A = ℕ} (at - len) 0 in
    record {
      seamless = (omega arith, (omega (arith, below, zeros), tt));
      within = All-cons IsWithinImage (Put len (replicate (at - len) 0)) (Put at bytes ∷ []) (omega (arith, below, zeros, gap))
          (All-cons IsWithinImage (Put at bytes) [] (omega (arith, whole)) (All-nil IsWithinImage));
      len_after = omega (arith, below, zeros);
      sum = omega (arith, zeros);
    }
kept_by_case false len at bytes is gap whole =
    let below = ltb-false len at is in
    record {
      seamless = (below, tt);
      within = All-cons IsWithinImage (Put at bytes) [] (omega (arith, whole)) (All-nil IsWithinImage);
      len_after = refl;
      sum = omega (arith, below);
    }

pub kept_put_is : (len at : ℕ) (bytes : List ℕ) → max len at ≤ MAX_IMAGE → max len (at + length bytes) ≤ MAX_IMAGE
    → IsKeptPut len at bytes (logged len (Put at bytes ∷ []))
kept_put_is len at bytes gap whole = kept_by_case (ltb len at) len at bytes refl gap whole

pub put_may_be_added : (t : Transaction) (at : ℕ) (bytes : List ℕ) → max t.len at ≤ MAX_IMAGE → max t.len (at + length bytes) ≤ MAX_IMAGE
    → t.sum + (at - t.len) + length bytes ≤ MAX_CHANGES → MayBeAdded t (logged t.len (Put at bytes ∷ []))
put_may_be_added t at bytes gap whole few =
    let kept = kept_put_is t.len at bytes gap whole in
    record {
      seamless = kept.seamless;
      within = kept.within;
      few = omega (arith, kept.sum, few);
      not_long = subst (λ (n : ℕ). n ≤ MAX_IMAGE) (sym kept.len_after) whole;
    }

pub cut_may_be_added : (t : Transaction) (to : ℕ) → t.sum ≤ MAX_CHANGES → t.len ≤ MAX_IMAGE → MayBeAdded t (logged t.len (Cut to ∷ []))
cut_may_be_added t to few not_long = record {
  seamless = (omega arith, tt);
  within = All-cons IsWithinImage (Cut (min to t.len)) [] (omega (arith, not_long)) (All-nil IsWithinImage);
  few = omega (arith, few);
  not_long = omega (arith, not_long);
}

-- they leave an image that is not too long
pub begun_fits : (begun : Option Transaction) (before : ℕ) (changes : List Change) → IfSome begun (IsBegunOver before)
    → changes_begun begun ≡ Some changes → len_after before changes ≤ MAX_IMAGE
begun_fits None before changes over is = absurd cc
begun_fits (Some t) before changes over is =
    let same : t.changes ≡ changes = cc in
    subst (λ (cs : List Change). len_after before cs ≤ MAX_IMAGE) same (subst (λ (n : ℕ). n ≤ MAX_IMAGE) over.len over.not_long)
