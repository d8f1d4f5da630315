-- The pages that are kept, and what a read and a change of the image make of them (own).
use Rattle.std.specs.Prelude.{◌≡◌, ◌+◌, ◌*◌, ◌-◌, ◌/◌, ◌^◌, ◌<◌, ◌⊎◌, ◌||◌, ◌==◌, if◌then◌else◌, ℕ, zero, suc, min, nat_eq, nat_le, Bool, List, [], ◌∷◌, length, take, slice_index, None, IsSome}
use Rattle.std.specs.List.{filter}
use Rattle.std.specs.Map.{lookup}
use Rattle.lru.specs.LruCache.{promoted}
use Rattle.page_file.specs.declared.reads.TheConstants.{PAGE_LEN}
use Rattle.page_file.specs.declared.cache.TheConstants.{KEPT_PAGES}

pub record Cached : Type 0 where
  -- number and bytes of each page that is kept, the most recently used first
  pub pages : List (ℕ × List ℕ)
  -- how often a page that was read found no memory to be kept
  pub left_out : ℕ

abbrev pub no_pages : Cached
no_pages = record { pages = []; left_out = 0 }

-- these are the bytes of a page of an image, with zero bytes behind its end
pub record IsPageOf (image : List ℕ) (page : ℕ) (bytes : List ℕ) : Type 0 where
  pub len : length bytes ≡ PAGE_LEN
  pub same : (k : ℕ) → k < PAGE_LEN → slice_index bytes k ≡ slice_index image (page * PAGE_LEN + k)

abbrev pub IsPageIn : List ℕ → ℕ × List ℕ → Type 0
IsPageIn image page = IsPageOf image page.0 page.1

-- a page is kept
abbrev pub IsKept : Cached → ℕ → Type 0
IsKept cached page = IsSome (lookup (nat_eq page) cached.pages)

-- each page that has a byte of so many ones from a position on is kept
abbrev pub AreKept : Cached → (at n : ℕ) → Type 0
AreKept cached at n = (page : ℕ) → 0 < n → page * PAGE_LEN < at + n → at < page * PAGE_LEN + PAGE_LEN → IsKept cached page

-- a page that is kept goes to the front, with its bytes
abbrev pub to_front : ℕ → Cached → Cached
to_front page cached = record cached { pages = promoted (nat_eq page) cached.pages }

-- one that is not goes there with these, and the last one above the limit is dropped
abbrev pub with_page : ℕ → List ℕ → Cached → Cached
with_page page bytes cached = record cached { pages = (page, bytes) ∷ take (KEPT_PAGES - 1) cached.pages }

-- or it is left out, for want of memory
abbrev pub without_memory : Cached → Cached
without_memory cached = record cached { left_out = min (cached.left_out + 1) (2 ^ 64 - 1) }

-- the page was taken in with these bytes, or left out
abbrev pub TakesIn : ℕ → List ℕ → (old new : Cached) → Type 0
TakesIn page bytes old new = (new ≡ with_page page bytes old) ⊎ (new ≡ without_memory old)

-- a read of one page brought it to the front
pub record BringsPage (page : ℕ) (old new : Cached) : Type 0 where
  pub kept : IsKept old page → new ≡ to_front page old
  pub read : lookup (nat_eq page) old.pages ≡ None → (bytes : List ℕ) × TakesIn page bytes old new

-- a read of so many pages from one on brought each of them to the front, in ascending order
abbrev pub BringsPages : (first n : ℕ) → (old new : Cached) → Type 0
BringsPages first zero old new = new ≡ old
BringsPages first (suc n) old new = (mid : Cached) × BringsPages first n old mid × BringsPage (first + n) mid new

-- how many pages have a byte of so many ones from a position on
abbrev pub pages_between : (at n : ℕ) → ℕ
pages_between at n = if n == 0 then 0 else (at + n - 1) / PAGE_LEN - at / PAGE_LEN + 1

-- no page is kept any more
abbrev pub without_pages : Cached → Cached
without_pages cached = record cached { pages = [] }

-- no byte of a page stands from one position on before another
abbrev pub lies_apart : (from to page : ℕ) → Bool
lies_apart from to page = nat_le to from || nat_le to (page * PAGE_LEN) || nat_le (page * PAGE_LEN + PAGE_LEN) from

-- the pages that are kept after a change of the bytes from one position on before another: those that have none of them
abbrev pub apart_from : (from to : ℕ) → Cached → Cached
apart_from from to cached = record cached { pages = filter (λ page. lies_apart from to page.0) cached.pages }
