-- Entries that get other fields, one after the other: what the image holds after each.
use Rattle.std.proofs.Common.{◌≡◌, ℕ, ℤ, suc, ◌+◌, ◌<◌, ◌≤◌, List, [], ◌∷◌, length, get_or, drop, add-one, Option, Some, None, IfSome, refl, sym, ap, subst, ◌∙◌}
use Rattle.std.specs.Prelude.{IsSomeAnd}
use Rattle.std.proofs.Math.Seq.{drop-cons}
use Rattle.std.proofs.lemmas.List.{drop_all}
use Rattle.db_image.specs.declared.faults.RecordFault.{RecordFault}
use Rattle.db_image.specs.declared.faults.RecordFault.TheVariants.{DiskFault, BadRecord, NoMemory}
use Rattle.prdb_layout.specs.Registry.{Registry}
use Rattle.prdb_layout.specs.State.{PrEntry}
use Rattle.prdb_lists.specs.Members.{Members}
use Rattle.prdb_finds.specs.Ends.{HasCauseWhere}
use Rattle.prdb_finds.specs.Records.{Holds}
use Rattle.prdb_entries.proofs.Empty.{holds_after}
use Rattle.prdb_turns.specs.Ends.{Leaves}
use Rattle.prdb_turns.specs.Refits.{MayRefit, MayRefits, after_refit, after_refits, with_refit, with_refits}

-- ---- one entry

pub some_met : (o : Option PrEntry) (P : PrEntry → Type 0) → IsSomeAnd o P → (e : PrEntry) × (o ≡ Some e) × P e
some_met None P is = absurd is
some_met (Some e) P is = (e, refl, is)

pub refit_holds : (made : PrEntry → PrEntry) (id : ℤ) (image : List ℕ) (r : Registry) (m : Members) → Holds image r m
    → IsSomeAnd (r.entry id) (MayRefit made r) → Holds (after_refit made (r.entry id) image) (with_refit made (r.entry id) r) m
refit_holds made id image r m holds may =
    let e = some_met (r.entry id) (MayRefit made r) may in
    subst (λ (o : Option PrEntry). Holds (after_refit made o image) (with_refit made o r) m) (sym e.1)
    (holds_after image r m e.0.id (made e.0) holds e.2.0 e.2.1)

-- ---- all of them

pub refits_hold : (made : PrEntry → PrEntry) (ids : List ℤ) (image : List ℕ) (r : Registry) (m : Members) → Holds image r m
    → MayRefits made ids r → Holds (after_refits made ids r image) (with_refits made ids r) m
refits_hold made [] image r m holds may = holds
refits_hold made (id ∷ those) image r m holds may =
    refits_hold made those (after_refit made (r.entry id) image) (with_refit made (r.entry id) r) m
    (refit_holds made id image r m holds may.0) may.1

-- ---- so many of them

pub cut : (ids : List ℤ) (done : ℕ) (x : ℤ) → done < length ids → x ≡ get_or ids done x → drop done ids ≡ x ∷ drop (done + 1) ids
cut ids done x below is = rw add-one (drop-cons ids done x below ∙ ap (λ (z : ℤ). z ∷ drop (suc done) ids) (sym is))

pub some_at : (bytes : Option (List ℕ)) (at : List ℕ) (P : List ℕ → Type 0) → bytes ≡ Some at → IfSome bytes P → P at
some_at bytes at P is all = subst (λ (b : Option (List ℕ)). IfSome b P) is all

-- an image and a registry from which the rest of the entries leads to what all of them lead to
pub record IsRefitted (made : PrEntry → PrEntry) (ids : List ℤ) (done : ℕ) (image : List ℕ) (r : Registry) (m : Members)
    (now : Option (List ℕ)) : Type 0 where
  pub at : List ℕ
  pub reg : Registry
  pub bytes : now ≡ Some at
  pub holds : Holds at reg m
  pub may : MayRefits made (drop done ids) reg
  pub rest : after_refits made (drop done ids) reg at ≡ after_refits made ids r image

abbrev pub AreRefitted : (PrEntry → PrEntry) → (bytes now : Option (List ℕ)) → List ℤ → (done : ℕ) → Type 0
AreRefitted made bytes now ids done =
    IfSome bytes
    (λ image. (r : Registry) (m : Members) → Holds image r m → MayRefits made ids r → IsRefitted made ids done image r m now)

pub refitted_none : (made : PrEntry → PrEntry) (bytes : Option (List ℕ)) (ids : List ℤ) → AreRefitted made bytes bytes ids 0
refitted_none made None ids = tt
refitted_none made (Some image) ids = λ r m holds may. record {
  at = image;
  reg = r;
  bytes = refl;
  holds = holds;
  may = may;
  rest = refl;
}

-- what one of them leaves
abbrev pub LeavesOne : (PrEntry → PrEntry) → (id : ℤ) → (bytes behind : Option (List ℕ)) → Type 0
LeavesOne made id bytes behind = Leaves bytes (λ r m. MayRefits made (id ∷ []) r) (λ r. after_refit made (r.entry id)) behind

one_more : (made : PrEntry → PrEntry) (x : ℤ) (ids : List ℤ) (done : ℕ) (image : List ℕ) (r : Registry) (m : Members)
    (now next : Option (List ℕ)) → done < length ids → x ≡ get_or ids done x → LeavesOne made x now next
    → IsRefitted made ids done image r m now → IsRefitted made ids (done + 1) image r m next
one_more made x ids done image r m now next below is leaves p =
    let c = cut ids done x below is in
    let may : MayRefits made (x ∷ drop (done + 1) ids) p.reg = subst (λ (xs : List ℤ). MayRefits made xs p.reg) c p.may in
    let new : next ≡ Some (after_refit made (p.reg.entry x) p.at) =
    some_at now p.at (λ i. (q : Registry) (n : Members) → Holds i q n → MayRefits made (x ∷ []) q
    → next ≡ Some (after_refit made (q.entry x) i)) p.bytes leaves p.reg m p.holds (may.0, tt) in
    record {
      at = after_refit made (p.reg.entry x) p.at;
      reg = with_refit made (p.reg.entry x) p.reg;
      bytes = new;
      holds = refit_holds made x p.at p.reg m p.holds may.0;
      may = may.1;
      rest = ap (λ (xs : List ℤ). after_refits made xs p.reg p.at) (sym c) ∙ p.rest;
    }

pub refitted_more : (made : PrEntry → PrEntry) (bytes now next : Option (List ℕ)) (x : ℤ) (ids : List ℤ) (done : ℕ) → done < length ids
    → x ≡ get_or ids done x → LeavesOne made x now next → AreRefitted made bytes now ids done
    → AreRefitted made bytes next ids (done + 1)
refitted_more made None now next x ids done below is leaves so = tt
refitted_more made (Some image) now next x ids done below is leaves so = λ r m holds may.
    one_more made x ids done image r m now next below is leaves (so r m holds may)

pub refitted_all : (made : PrEntry → PrEntry) (bytes now : Option (List ℕ)) (ids : List ℤ) (done : ℕ) → length ids ≤ done
    → AreRefitted made bytes now ids done → Leaves bytes (λ r m. MayRefits made ids r) (after_refits made ids) now
refitted_all made None now ids done past so = tt
refitted_all made (Some image) now ids done past so = λ r m holds may.
    let p = so r m holds may in
    p.bytes ∙ ap Some (ap (λ (xs : List ℤ). after_refits made xs p.reg p.at) (sym (drop_all done ids past)) ∙ p.rest)

pub refitted_cause : (made : PrEntry → PrEntry) (bytes now : Option (List ℕ)) (x : ℤ) (ids : List ℤ) (done : ℕ) (fault : RecordFault)
    → done < length ids → x ≡ get_or ids done x → AreRefitted made bytes now ids done
    → HasCauseWhere (λ r m. MayRefits made (x ∷ []) r) now fault → HasCauseWhere (λ r m. MayRefits made ids r) bytes fault
refitted_cause made bytes now x ids done DiskFault below is so cause = tt
refitted_cause made bytes now x ids done NoMemory below is so cause = tt
refitted_cause made None now x ids done (BadRecord at) below is so cause = tt
refitted_cause made (Some image) now x ids done (BadRecord at) below is so cause = λ some.
    let p = so some.0 some.1 some.2 some.3 in
    let may : MayRefits made (x ∷ drop (done + 1) ids) p.reg =
    subst (λ (xs : List ℤ). MayRefits made xs p.reg) (cut ids done x below is) p.may in
    some_at now p.at (λ i. ((q : Registry) × (n : Members) × Holds i q n × MayRefits made (x ∷ []) q) → ⊥) p.bytes cause
    (p.reg, some.1, p.holds, (may.0, tt))

-- what is left holds the entries with their other fields
pub leaves_hold : (made : PrEntry → PrEntry) (bytes now : Option (List ℕ)) (ids : List ℤ)
    → Leaves bytes (λ r m. MayRefits made ids r) (after_refits made ids) now
    → IfSome bytes
    (λ image. (r : Registry) (m : Members) → Holds image r m → MayRefits made ids r
    → IsSomeAnd now (λ after. Holds after (with_refits made ids r) m))
leaves_hold made None now ids leaves = tt
leaves_hold made (Some image) now ids leaves = λ r m h may.
    subst (λ (o : Option (List ℕ)). IsSomeAnd o (λ after. Holds after (with_refits made ids r) m)) (sym (leaves r m h may))
    (refits_hold made ids image r m h may)
