-- The blocks that one pass gives are those of the first entries.
use Rattle.std.proofs.Common.{◌≡◌, ℕ, negsuc, Bool, List, Option, Some, None, IfSome, Result, Ok, Err, IfOk, map, sym, ap, subst, ◌∙◌, arith}
use Rattle.std.specs.List.{AllByRecursion}
use Rattle.db_image.specs.declared.faults.RecordFault.{RecordFault}
use Rattle.db_blocks.specs.Ascending.{first_blocks}
use Rattle.prdb_layout.specs.Records.{entry_in}
use Rattle.prdb_layout.specs.Registry.{Registry}
use Rattle.prdb_layout.specs.State.{PrEntry}
use Rattle.prdb_layout.proofs.LaidOut.{whole_same as without_same}
use Rattle.prdb_lists.specs.Members.{Members}
use Rattle.entry_scans.specs.Pages.{AreFirst, IsOfEntry, rank_in}
use Rattle.entry_scans.specs.Sought.{is_sought}
use Rattle.entry_scans.proofs.FirstPage.{ok_found as found_without}
use Rattle.prdb_finds.specs.Records.{Holds, whole}
use Rattle.prdb_finds.specs.Unchained.{unchained}
use Rattle.prdb_finds.proofs.Without.{unchained_len}
use Rattle.prdb_scans.proofs.Alike.{all_met, entries_same, of_entries}

abbrev firsts : (PrEntry → Bool) → (most : ℕ) → List ℕ → List (List ℕ)
firsts test most image = first_blocks 2112 (is_sought test) rank_in most image

pub page_found : (image : List ℕ) (r : Registry) (m : Members) (test : PrEntry → Bool) (most : ℕ) (blocks : List (List ℕ)) → Holds image r m
    → blocks ≡ first_blocks 2112 (is_sought test) rank_in most (whole image)
    → AreFirst test r (negsuc 2147483646) most (map entry_in blocks)
page_found image r m test most blocks holds is =
    let old = whole image in
    let un = unchained old in
    let first = found_without {X = List (List ℕ)} (Ok (firsts test most un)) (λ bs. bs) (Some un) test most
    (ap (firsts test most) (sym (without_same un (omega (arith, unchained_len old holds.size))))) r holds.pairs.holds in
    subst (AreFirst test r (negsuc 2147483646) most) (entries_same test old most holds.size ∙ ap (map entry_in) (sym is)) first

pub ok_found : {X : Type 0} (res : Result X RecordFault) (items : X → List (List ℕ)) (bytes : Option (List ℕ)) (test : PrEntry → Bool)
    (most : ℕ)
    → IfOk res (λ x. IfSome bytes (λ image. items x ≡ first_blocks 2112 (is_sought test) rank_in most (whole image)))
    → IfOk res (λ x. IfSome bytes (λ image. (r : Registry) (m : Members) → Holds image r m
    → AreFirst test r (negsuc 2147483646) most (map entry_in (items x))))
ok_found (Err fault) items bytes test most is = tt
ok_found (Ok x) items None test most is = tt
ok_found (Ok x) items (Some image) test most is = λ r m holds. page_found image r m test most (items x) holds is

pub ok_there : {X : Type 0} (res : Result X RecordFault) (items : X → List (List ℕ)) (bytes : Option (List ℕ)) (test : PrEntry → Bool)
    (most : ℕ)
    → IfOk res (λ x. IfSome bytes (λ image. items x ≡ first_blocks 2112 (is_sought test) rank_in most (whole image)))
    → IfOk res (λ x. IfSome bytes (λ image. (r : Registry) (m : Members) → Holds image r m
    → AllByRecursion (IsOfEntry (whole image)) (items x)))
ok_there (Err fault) items bytes test most is = tt
ok_there (Ok x) items None test most is = tt
ok_there (Ok x) items (Some image) test most is = λ r m holds.
    subst (AllByRecursion (IsOfEntry (whole image))) (sym is) (of_entries test (whole image) _ (all_met test (whole image) most))
