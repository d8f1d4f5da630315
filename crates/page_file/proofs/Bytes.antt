-- The bytes of pages that are kept, and those of the image.
use Rattle.std.proofs.Common.{◌≡◌, ◌<◌, ◌≤◌, ◌+◌, ◌*◌, ◌∙◌, ◌||◌, ◌⊎◌, ⊎_elim, ℕ, nat_eq, nat_lt, nat_le, Bool, true, false, List, [], length, take, drop, get_or, Contains, Option, Some, None, IfSome, IsSome, inl, inr, ap, sym, refl, subst, arith, length-take, length-drop, ext_get_or}
use Rattle.std.proofs.lemmas.Grind.{common_steps}
use Rattle.std.proofs.lemmas.Bool.{false≢true}
use Rattle.std.proofs.lemmas.Bool.Decides.{nat_tests}
use Rattle.std.proofs.lemmas.List.{get_or-take, get_or-drop}
use Rattle.std.specs.List.{All, filter}
use Rattle.std.specs.Map.{lookup}
use Rattle.std.proofs.lemmas.List.Elements.{All-cons, All-take, All-filter, All-weaker, All-contains, All-contains_itself, filter_passes}
use Rattle.lru.specs.LruCache.{promoted}
use Rattle.lru.proofs.CallerLemmas.{Contains-lookup, Contains-promoted}
use Rattle.disk_base.specs.Files.{laid}
use Rattle.page_file.specs.Kept.{Cached, IsPageOf, IsPageIn, TakesIn, lies_apart, apart_from}
use Rattle.page_file.specs.Pages.{image_of}

-- no page is kept
pub All-none : (P : ℕ × List ℕ → Type 0) → All P []
All-none P k d below = absurd (omega arith)

-- a piece of a page is one of the image
pub piece_of_page : (image bytes : List ℕ) (page from n : ℕ) → IsPageOf image page bytes → from + n ≤ 1024
    → page * 1024 + from + n ≤ length image → take n (drop from bytes) ≡ take n (drop (page * 1024 + from) image)
piece_of_page image bytes page from n is one within =
    let long : length bytes ≡ 1024 = is.len in
    ext_get_or 0 (take n (drop from bytes)) (take n (drop (page * 1024 + from) image))
    (omega (
      arith,
      length-take n (drop from bytes),
      length-drop from bytes,
      length-take n (drop (page * 1024 + from) image),
      length-drop
          (page * 1024 + from) image,
    ))
    (λ k below.
    let in_piece : k < n = omega (arith, length-take n (drop from bytes), below) in
    get_or-take n (drop from bytes) k 0 in_piece
    ∙ get_or-drop from bytes k 0
    ∙ is.same (from + k) (omega arith)
    ∙ ap (λ (i : ℕ). get_or image i 0) (omega arith)
    ∙ sym (get_or-drop (page * 1024 + from) image k 0)
    ∙ sym (get_or-take n (drop (page * 1024 + from) image) k 0 in_piece))

same_page : (page other : ℕ) → nat_eq page other ≡ true → page ≡ other
same_page page other same = grind (arith, nat_tests)

-- a page that is found is one of the image
pub found_page : (image : List ℕ) (page : ℕ) (es : List (ℕ × List ℕ)) (bytes : List ℕ) → All (IsPageIn image) es
    → lookup (nat_eq page) es ≡ Some bytes → IsPageOf image page bytes
found_page image page es bytes all found =
    let there = Contains-lookup (nat_eq page) es bytes found in
    subst (λ n. IsPageOf image n bytes) (sym (same_page page there.0 there.2))
    (All-contains (IsPageIn image) es (there.0, bytes) all there.1)

-- and so is a piece of it
pub found_piece : (image : List ℕ) (page from n : ℕ) (es : List (ℕ × List ℕ)) (out : List ℕ) → All (IsPageIn image) es
    → IsSome (lookup (nat_eq page) es) → IfSome (lookup (nat_eq page) es) (λ bytes. out ≡ take n (drop from bytes)) → from + n ≤ 1024
    → page * 1024 + from + n ≤ length image → out ≡ take n (drop (page * 1024 + from) image)
found_piece image page from n es out all some copied one within =
    by (lookup (nat_eq page) es) refl some copied
  where
    by : (o : Option (List ℕ)) → lookup (nat_eq page) es ≡ o → IsSome o → IfSome o (λ bytes. out ≡ take n (drop from bytes))
        → out ≡ take n (drop (page * 1024 + from) image)
    by None found some copied = absurd (false≢true some)
    by (Some bytes) found some copied = copied ∙ piece_of_page image bytes page from n (found_page image page es bytes all found) one within

-- what goes to the front stays
pub All-front : (P : ℕ × List ℕ → Type 0) (page : ℕ) (es : List (ℕ × List ℕ)) → All P es → All P (promoted (nat_eq page) es)
All-front P page es all =
    All-weaker (Contains (promoted (nat_eq page) es)) P (λ e there. All-contains P es e all (Contains-promoted (nat_eq page) es e there))
    (promoted (nat_eq page) es) (All-contains_itself (promoted (nat_eq page) es))

-- and a page of the image comes before it
pub All-taken : (image : List ℕ) (page : ℕ) (bytes : List ℕ) (old new : Cached) → IsPageOf image page bytes → TakesIn page bytes old new
    → All (IsPageIn image) old.pages → All (IsPageIn image) new.pages
All-taken image page bytes old new is (inl taken) all =
    subst (λ (c : Cached). All (IsPageIn image) c.pages) (sym taken)
    (All-cons (IsPageIn image) (page, bytes) (take 63 old.pages) is (All-take (IsPageIn image) 63 old.pages all))
All-taken image page bytes old new is (inr left_out) all =
    subst (λ (c : Cached). All (IsPageIn image) c.pages) (sym left_out) all

-- bytes of the image that a change does not touch
or_cases : (a b : Bool) → (a || b) ≡ true → (a ≡ true) ⊎ (b ≡ true)
or_cases true b is = inl refl
or_cases false b is = inr is

behind_it : (from to page i : ℕ) → lies_apart from to page ≡ true → page * 1024 ≤ i → i < page * 1024 + 1024 → from ≤ i → to ≤ i
behind_it from to page i apart low high after =
    ⊎_elim (λ rest. ⊎_elim (λ none. grind (arith, nat_tests)) (λ below. grind (arith, nat_tests))
    (or_cases (nat_le to from) (nat_le to (page * 1024)) rest)) (λ above. grind (arith, nat_tests))
    (or_cases (nat_le to from || nat_le to (page * 1024)) (nat_le (page * 1024 + 1024) from) apart)

is_apart : (from to page i : ℕ) → lies_apart from to page ≡ true → page * 1024 ≤ i → i < page * 1024 + 1024 → (i < from) ⊎ (to ≤ i)
is_apart from to page i apart low high =
    by (nat_lt i from) refl
  where
    by : (b : Bool) → nat_lt i from ≡ b → (i < from) ⊎ (to ≤ i)
    by true before = inl (grind (arith, nat_tests))
    by false after = inr (behind_it from to page i apart low high (grind (arith, nat_tests)))

laid_byte : (file bytes : List ℕ) (at i : ℕ) → at ≤ length file → (i < at) ⊎ (at + length bytes ≤ i)
    → get_or (laid file at bytes) i 0 ≡ get_or file i 0
laid_byte file bytes at i within (inl before) = grind (arith, common_steps)
laid_byte file bytes at i within (inr behind) = grind (arith, common_steps)

cut_byte : (file : List ℕ) (len i : ℕ) → (i < len) ⊎ (length file ≤ i) → get_or (take len file) i 0 ≡ get_or file i 0
cut_byte file len i (inl before) = get_or-take len file i 0 before
cut_byte file len i (inr behind) = grind (arith, common_steps)

-- pages that are kept over a change of a file
pages_kept : (file other : List ℕ) (from to : ℕ) (es : List (ℕ × List ℕ))
    → ((i : ℕ) → (i < from) ⊎ (to ≤ i) → get_or (image_of other) i 0 ≡ get_or (image_of file) i 0) → All (IsPageIn (image_of file)) es
    → All (IsPageIn (image_of other)) (filter (λ e. lies_apart from to e.0) es)
pages_kept file other from to es same all k d below =
    let kept = All-filter (λ e. lies_apart from to e.0) (IsPageIn (image_of file)) es all k d below in
    let apart = filter_passes (λ (e : ℕ × List ℕ). lies_apart from to e.0) es k d below in
    record {
      len = kept.len;
      same = λ j fits. kept.same j fits ∙ sym (same _ (is_apart from to _ _ apart (omega arith) (omega arith)));
    }

-- after bytes were laid over the image
pub laid_pages : (file bytes : List ℕ) (at : ℕ) (old new : Cached) → 64 + at ≤ length file → new ≡ apart_from at (at + length bytes) old
    → All (IsPageIn (image_of file)) old.pages → All (IsPageIn (image_of (laid file (64 + at) bytes))) new.pages
laid_pages file bytes at old new within is all =
    let other : List ℕ = laid file (64 + at) bytes in
    subst (λ (c : Cached). All (IsPageIn (image_of other)) c.pages) (sym is)
    (pages_kept file other at (at + length bytes) old.pages
    (λ i apart. get_or-drop 64 other i 0 ∙ laid_byte file bytes (64 + at) (64 + i) within (moved i apart) ∙ sym (get_or-drop 64 file i 0))
    all)
  where
    moved : (i : ℕ) → (i < at) ⊎ (at + length bytes ≤ i) → (64 + i < 64 + at) ⊎ (64 + at + length bytes ≤ 64 + i)
    moved i (inl before) = inl (omega arith)
    moved i (inr behind) = inr (omega arith)

-- after the image was cut
pub cut_pages : (file : List ℕ) (len whole : ℕ) (old new : Cached) → whole ≡ length (image_of file) → new ≡ apart_from len whole old
    → All (IsPageIn (image_of file)) old.pages → All (IsPageIn (image_of (take (64 + len) file))) new.pages
cut_pages file len whole old new long is all =
    let other : List ℕ = take (64 + len) file in
    subst (λ (c : Cached). All (IsPageIn (image_of other)) c.pages) (sym is)
    (pages_kept file other len whole old.pages
    (λ i apart. get_or-drop 64 other i 0 ∙ cut_byte file (64 + len) (64 + i) (moved i apart) ∙ sym (get_or-drop 64 file i 0))
    all)
  where
    moved : (i : ℕ) → (i < len) ⊎ (whole ≤ i) → (64 + i < 64 + len) ⊎ (length file ≤ 64 + i)
    moved i (inl before) = inl (omega arith)
    moved i (inr behind) = inr (omega (arith, length-drop 64 file))

drop-laid_front : (file bytes : List ℕ) (n : ℕ) → length bytes ≡ n → drop n (laid file 0 bytes) ≡ drop n file
drop-laid_front file bytes n same = grind (arith, common_steps)

-- after a label was written
pub labelled_pages : (file bytes : List ℕ) (old new : Cached) → length bytes ≡ 64 → new ≡ old → All (IsPageIn (image_of file)) old.pages
    → All (IsPageIn (image_of (laid file 0 bytes))) new.pages
labelled_pages file bytes old new long is all =
    subst (λ (image : List ℕ). All (IsPageIn image) new.pages) (sym (drop-laid_front file bytes 64 long))
    (subst (λ (c : Cached). All (IsPageIn (image_of file)) c.pages) (sym is) all)
