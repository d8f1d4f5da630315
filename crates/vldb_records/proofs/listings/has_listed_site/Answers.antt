use Rattle.std.proofs.Common.{◌≡◌, ℕ, ◌+◌, ◌<◌, Bool, true, false, ◌||◌, [], ◌∷◌, map, refl, sym, ap, ◌∙◌, arith}
use Rattle.std.specs.List.{list_any, range_with_len}
use Rattle.std.proofs.lemmas.List.Folds.{list_any-append, list_any_at}
use Rattle.std.proofs.lemmas.List.FromFn.{get_or-map-range_with_len, length-map-range_with_len, map-range_with_len_more}
use Rattle.vldb_entries.specs.declared.entries.VlSite.{VlSite}
use Rattle.vldb_records.specs.Listing.{is_listed_site}
use Rattle.vldb_entries.specs.Forms.{site_in}
use Rattle.vldb_records.proofs.listings.has_listed_site.Goals as goal

or_false : (b : Bool) → (b || false) ≡ b
or_false true = refl
or_false false = refl

any_more : (p : VlSite → Bool) (f : ℕ → VlSite) (k : ℕ) → list_any p (map f (range_with_len 0 k)) ≡ false → p (f k) ≡ false
    → list_any p (map f (range_with_len 0 (k + 1))) ≡ false
any_more p f k before here =
    ap (list_any p) (map-range_with_len_more f 0 k k (omega arith)) ∙ list_any-append p (map f (range_with_len 0 k)) (f k ∷ [])
    ∙ ap (λ (b : Bool). b || (p (f k) || false)) before ∙ or_false (p (f k)) ∙ here

any_within : (p : VlSite → Bool) (f : ℕ → VlSite) (n k : ℕ) → k < n → p (f k) ≡ true → list_any p (map f (range_with_len 0 n)) ≡ true
any_within p f n k within here =
    list_any_at p (map f (range_with_len 0 n)) k (f 0) (omega (arith, within, length-map-range_with_len f 0 n))
    (ap p (get_or-map-range_with_len f 0 n k k (f 0) within (omega arith)) ∙ here)

pub returns-then-is_listed_site : goal.returns-then-is_listed_site
returns-then-is_listed_site c =
    let p = is_listed_site c.args.listing.now in
    sym (any_within p (site_in c.args.addresses.now c.args.block.now) _ c.loop-k.k (omega arith)
    (ap p (sym c.site_in.ensures) ∙ sym c.is_listed_site.ensures ∙ c.if-is_listed_site.true))

pub loop-k-preserved : goal.loop-k-preserved
loop-k-preserved c =
    let p = is_listed_site c.args.listing.now in
    any_more p (site_in c.args.addresses.now c.args.block.now) c.loop-k.k c.loop-k.invariant
    (ap p (sym c.site_in.ensures) ∙ sym c.is_listed_site.ensures ∙ c.if-is_listed_site.false)
