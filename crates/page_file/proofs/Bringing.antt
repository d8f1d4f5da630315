-- Pages that a read brings to the front, one after another.
use Rattle.std.proofs.Common.{◌≡◌, ◌≢◌, ◌<◌, ◌+◌, ◌-◌, ◌/◌, ◌∙◌, ℕ, zero, suc, nat_eq, Bool, true, false, cond, List, [], ◌∷◌, take, Option, Some, None, IsSome, inl, inr, ap, sym, refl, subst, arith}
use Rattle.std.specs.Option.{option_map_or}
use Rattle.std.specs.Map.{lookup, lookup_entry, remove_entry}
use Rattle.std.proofs.lemmas.Bool.{eqb-false, ne_eqb, false≢true}
use Rattle.std.proofs.lemmas.Bool.Decides.{nat_tests}
use Rattle.lru.specs.LruCache.{promoted}
use Rattle.lru.proofs.CallerLemmas.{Contains-lookup_entry}
use Rattle.page_file.specs.Kept.{Cached, IsKept, BringsPage, BringsPages, TakesIn, to_front, with_page, pages_between}
use Rattle.page_file.proofs.Keeping.{in_page}

same_page : (page other : ℕ) → nat_eq page other ≡ true → page ≡ other
same_page page other same = grind (arith, nat_tests)

module _ {V : Type 0} where
  lookup-removed : (page q : ℕ) (es : List (ℕ × V)) → q ≢ page → lookup (nat_eq q) (remove_entry (nat_eq page) es) ≡ lookup (nat_eq q) es
  lookup-removed page q [] differs = refl
  lookup-removed page q (e ∷ es) differs =
      by (nat_eq page e.0) refl (lookup-removed page q es differs)
    where
      by : (b : Bool) → nat_eq page e.0 ≡ b → lookup (nat_eq q) (remove_entry (nat_eq page) es) ≡ lookup (nat_eq q) es
          → lookup (nat_eq q) (cond b es (e ∷ remove_entry (nat_eq page) es)) ≡ lookup (nat_eq q) (e ∷ es)
      by true same rest =
          let other : nat_eq q e.0 ≡ false = ne_eqb q e.0 (λ is. differs (is ∙ sym (same_page page e.0 same))) in
          sym (ap (λ (b : Bool). cond b (Some e.1) (lookup (nat_eq q) es)) other)
      by false apart rest = ap (λ (o : Option V). cond (nat_eq q e.0) (Some e.1) o) rest

  -- a page that goes to the front leaves the others where they are
  lookup-front : (page q : ℕ) (es : List (ℕ × V)) → q ≢ page → lookup (nat_eq q) (promoted (nat_eq page) es) ≡ lookup (nat_eq q) es
  lookup-front page q es differs =
      by (lookup_entry (nat_eq page) es) refl
    where
      by : (o : Option (ℕ × V)) → lookup_entry (nat_eq page) es ≡ o
          → lookup (nat_eq q) (option_map_or (λ e. e ∷ remove_entry (nat_eq page) es) o es) ≡ lookup (nat_eq q) es
      by None none = refl
      by (Some e) found =
          let same = (Contains-lookup_entry (nat_eq page) es e found).1 in
          let other : nat_eq q e.0 ≡ false = ne_eqb q e.0 (λ is. differs (is ∙ sym (same_page page e.0 same))) in
          ap (λ (b : Bool). cond b (Some e.1) (lookup (nat_eq q) (remove_entry (nat_eq page) es))) other ∙ lookup-removed page q es differs

  first_found : (page : ℕ) (es : List (ℕ × V)) → IsSome (lookup (nat_eq page) es)
      → IsSome (lookup (nat_eq page) (promoted (nat_eq page) es))
  first_found page es some =
      by (lookup_entry (nat_eq page) es) refl
    where
      by : (o : Option (ℕ × V)) → lookup_entry (nat_eq page) es ≡ o
          → IsSome (lookup (nat_eq page) (option_map_or (λ e. e ∷ remove_entry (nat_eq page) es) o es))
      by None none = some
      by (Some e) found =
          subst (λ b. IsSome (cond b (Some e.1) (lookup (nat_eq page) (remove_entry (nat_eq page) es))))
          (sym (Contains-lookup_entry (nat_eq page) es e found).1) refl

  found_before : (n q : ℕ) (es : List (ℕ × V)) → IsSome (lookup (nat_eq q) (take n es)) → IsSome (lookup (nat_eq q) es)
  found_before zero q es some = absurd (false≢true some)
  found_before (suc n) q [] some = some
  found_before (suc n) q (e ∷ es) some =
      by (nat_eq q e.0) some (found_before n q es)
    where
      by : (b : Bool) → IsSome (cond b (Some e.1) (lookup (nat_eq q) (take n es)))
          → (IsSome (lookup (nat_eq q) (take n es)) → IsSome (lookup (nat_eq q) es)) → IsSome (cond b (Some e.1) (lookup (nat_eq q) es))
      by true some rest = some
      by false some rest = rest some

-- what is kept beside a page that was brought to the front was kept before
pub was_kept : (page q : ℕ) (old new : Cached) → q ≢ page → BringsPage page old new → IsKept new q → IsKept old q
was_kept page q old new differs brought some =
    by (lookup (nat_eq page) old.pages) refl
  where
    taken : (bytes : List ℕ) → TakesIn page bytes old new → IsKept old q
    taken bytes (inl is) =
        let there : IsKept (with_page page bytes old) q = subst (λ (c : Cached). IsKept c q) is some in
        found_before 63 q old.pages
        (subst (λ b. IsSome (cond b (Some bytes) (lookup (nat_eq q) (take 63 old.pages)))) (ne_eqb q page differs) there)
    taken bytes (inr is) = subst (λ (c : Cached). IsKept c q) is some

    by : (o : Option (List ℕ)) → lookup (nat_eq page) old.pages ≡ o → IsKept old q
    by None none = let there = brought.read none in taken there.0 there.1
    by (Some bytes) found =
        let is : new ≡ to_front page old = brought.kept (subst (λ (o : Option (List ℕ)). IsSome o) (sym found) refl) in
        subst (λ (o : Option (List ℕ)). IsSome o) (lookup-front page q old.pages differs) (subst (λ (c : Cached). IsKept c q) is some)

-- where a page is kept that is brought to the front, all that is kept stays
pub stays_kept : (page q : ℕ) (old new : Cached) → BringsPage page old new → IsKept old page → IsKept old q → IsKept new q
stays_kept page q old new brought there some =
    subst (λ (c : Cached). IsKept c q) (sym (brought.kept there)) (by (nat_eq q page) refl)
  where
    by : (b : Bool) → nat_eq q page ≡ b → IsKept (to_front page old) q
    by true same = subst (λ n. IsKept (to_front page old) n) (sym (same_page q page same)) (first_found page old.pages there)
    by false apart = subst (λ (o : Option (List ℕ)). IsSome o) (sym (lookup-front page q old.pages (eqb-false q page apart))) some

-- so many pages were brought
pub brought_all : (at n first end count : ℕ) (old new : Cached) → 0 < n → end ≡ first + count → first ≡ at / 1024
    → end ≡ (at + n - 1) / 1024 + 1 → BringsPages first count old new → BringsPages (at / 1024) (pages_between at n) old new
brought_all at n first end count old new some here start last brought =
    let is : count ≡ pages_between at n = counted in
    subst (λ k. BringsPages (at / 1024) k old new) is (subst (λ f. BringsPages f count old new) start brought)
  where
    filled : nat_eq n 0 ≡ false
    filled = ne_eqb n 0 (λ none. absurd (omega arith))

    counted : count ≡ pages_between at n
    counted =
        let low = in_page at in
        let high = in_page (at + n - 1) in
        let direct : count ≡ (at + n - 1) / 1024 - at / 1024 + 1 = omega (arith, low.0, low.1, high.0, high.1) in
        direct ∙ sym (ap (λ (b : Bool). cond b 0 ((at + n - 1) / 1024 - at / 1024 + 1)) filled)
