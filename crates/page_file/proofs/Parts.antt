-- A part of one page, as it is read of what is kept, or of the disk.
use Rattle.std.proofs.Common.{◌≡◌, ◌<◌, ◌≤◌, ◌+◌, ◌*◌, ◌-◌, ◌/◌, ◌∙◌, ◌⊎◌, inl, inr, ℕ, min, max, nat_eq, nat_lt, Bool, true, false, is_some, List, take, drop, Option, Some, None, IfSome, IsSome, ap, sym, refl, subst, arith}
use Rattle.std.proofs.lemmas.Bool.{false≢true}
use Rattle.std.specs.List.{All}
use Rattle.std.specs.Map.{lookup}
use Rattle.ubik_types.specs.declared.versions.Version.{Version}
use Rattle.disk_base.specs.Files.{Files}
use Rattle.page_file.specs.Kept.{Cached, IsKept, IsPageOf, IsPageIn, TakesIn, to_front}
use Rattle.page_file.specs.Pages.{Known, AgreesIn, SameButCache, LabelledAs, image_of}
use Rattle.std.proofs.lemmas.Bool.Decides.{nat_tests}
use Rattle.page_file.proofs.Keeping.{in_page}
use Rattle.page_file.proofs.Bytes.{found_piece, piece_of_page, All-front, All-taken}

pub is_kept : (page : ℕ) (cached : Cached) → is_some (lookup (nat_eq page) cached.pages) ≡ true → IsKept cached page
is_kept page cached =
    by (lookup (nat_eq page) cached.pages)
  where
    by : (o : Option (List ℕ)) → is_some o ≡ true → IsSome o
    by None is = cc
    by (Some bytes) is = refl

pub is_not_kept : (page : ℕ) (cached : Cached) → is_some (lookup (nat_eq page) cached.pages) ≡ false
    → lookup (nat_eq page) cached.pages ≡ None
is_not_kept page cached =
    by (lookup (nat_eq page) cached.pages)
  where
    by : (o : Option (List ℕ)) → is_some o ≡ false → o ≡ None
    by None is = refl
    by (Some bytes) is = cc

pub none_kept : (page : ℕ) (cached : Cached) → lookup (nat_eq page) cached.pages ≡ None → IsKept cached page → ⊥
none_kept page cached none some = false≢true (subst (λ (o : Option (List ℕ)). IsSome o) none some)

-- bytes of a page that is kept
pub kept_part : (files : Option Files) (pages : Known) (page from n : ℕ) (out : List ℕ) → AgreesIn pages files → IsKept pages.cache page
    → IfSome (lookup (nat_eq page) pages.cache.pages) (λ bytes. out ≡ take n (drop from bytes)) → from + n ≤ 1024
    → page * 1024 + from + n ≤ pages.len → IfSome files (λ fs. out ≡ take n (drop (page * 1024 + from) (image_of fs.database)))
kept_part None pages page from n out agrees some copied one within = tt
kept_part (Some fs) pages page from n out agrees some copied one within =
    found_piece (image_of fs.database) page from n pages.cache.pages out agrees.kept some copied one
    (subst (λ l. page * 1024 + from + n ≤ l) agrees.len within)

-- bytes of a page that was read
pub read_part_of : (files : Option Files) (pages : Known) (page from n m : ℕ) (out bytes : List ℕ) → AgreesIn pages files
    → IfSome files (λ fs. IsPageOf (image_of fs.database) page bytes) → out ≡ take m (drop from bytes) → m ≡ n → from + n ≤ 1024
    → page * 1024 + from + n ≤ pages.len → IfSome files (λ fs. out ≡ take n (drop (page * 1024 + from) (image_of fs.database)))
read_part_of None pages page from n m out bytes agrees is copied same one within = tt
read_part_of (Some fs) pages page from n m out bytes agrees is copied same one within =
    copied ∙ ap (λ (i : ℕ). take i (drop from bytes)) same
    ∙ piece_of_page (image_of fs.database) bytes page from n is one (subst (λ l. page * 1024 + from + n ≤ l) agrees.len within)

-- pages agree whichever of them are at the front
pub front_agrees : (files : Option Files) (old new : Known) (page : ℕ) → SameButCache old new → new.cache ≡ to_front page old.cache
    → AgreesIn old files → AgreesIn new files
front_agrees None old new page same is agrees = tt
front_agrees (Some fs) old new page same is agrees =
    record {
      len = same.len ∙ agrees.len;
      version = subst (λ (v : Option Version). IfSome v (LabelledAs fs.database)) (sym same.version) agrees.version;
      kept =
          subst (λ (c : Cached). All (IsPageIn (image_of fs.database)) c.pages) (sym is)
          (All-front (IsPageIn (image_of fs.database)) page old.cache.pages agrees.kept);
    }

-- and with one that was read
pub taken_agrees : (before after : Option Files) (old new : Known) (page : ℕ) (bytes : List ℕ) → after ≡ before → SameButCache old new
    → TakesIn page bytes old.cache new.cache → IfSome before (λ fs. IsPageOf (image_of fs.database) page bytes) → AgreesIn old before
    → AgreesIn new after
taken_agrees before after old new page bytes stays same taken is agrees =
    subst (λ (files : Option Files). AgreesIn new files) (sym stays) (by before is agrees)
  where
    by : (files : Option Files) → IfSome files (λ fs. IsPageOf (image_of fs.database) page bytes) → AgreesIn old files → AgreesIn new files
    by None is agrees = tt
    by (Some fs) is agrees =
        record {
          len = same.len ∙ agrees.len;
          version = subst (λ (v : Option Version). IfSome v (LabelledAs fs.database)) (sym same.version) agrees.version;
          kept = All-taken (image_of fs.database) page bytes old.cache new.cache is taken agrees.kept;
        }

-- where the pages of a range stand
pub page_in : (at len page : ℕ) → 0 < len → at / 1024 ≤ page → page < (at + len - 1) / 1024 + 1 → (page * 1024 < at + len)
    × (at < page * 1024 + 1024)
page_in at len page some low high =
    let first = in_page at in
    let last = in_page (at + len - 1) in
    (omega (arith, last.0), omega (arith, first.1))

-- how many bytes of a range stand before a page
pub part_begins : (at to page from : ℕ) → at < to → page * 1024 < to → from ≡ max at (page * 1024)
    → min (max at (page * 1024)) to - at ≡ from - at
part_begins at to page from some within is = omega arith

-- and before the next
pub part_ends : (at to page from until : ℕ) → at < to → page * 1024 < to → at < page * 1024 + 1024 → from ≡ max at (page * 1024)
    → until ≡ min to (page * 1024 + 1024) → min (max at ((page + 1) * 1024)) to - at ≡ from - at + (until - at - (from - at))
part_ends at to page from until some within behind begins ends = omega arith

pub here_or_before : (page other : ℕ) → other < page + 1 → (other < page) ⊎ (other ≡ page)
here_or_before page other below =
    by (nat_lt other page) refl
  where
    by : (b : Bool) → nat_lt other page ≡ b → (other < page) ⊎ (other ≡ page)
    by true before = inl (grind (arith, nat_tests))
    by false after = inr (grind (arith, nat_tests))
