-- Names that ids are translated to, one after the other.
use Rattle.std.proofs.Common.{◌≡◌, ℕ, ℤ, zero, suc, ◌+◌, ◌<◌, ◌≤◌, List, [], ◌∷◌, ◌++◌, length, map, take, get_or, refl, sym, subst, ◌∙◌, arith}
use mir.Syntax.{w32}
use mir.Val.{of_z, to_z}
use Rattle.std.specs.Prelude.{FitsSigned}
use Rattle.std.specs.List.{AllByRecursion}
use Rattle.std.proofs.lemmas.Int.{to_z-of_z}
use Rattle.db_image.specs.Draft.{Drafted}
use Rattle.db_image.specs.declared.images.ImageRead.{Ghosts}
use Rattle.db_blocks.specs.Ends.{OnlyLooks}
use Rattle.pt_service.specs.Meaning.{name_of}
use Rattle.pt_service.specs.Told.{Told}
use Rattle.pt_service.proofs.Mapped.{Mapped, mapped_more, mapped_none}

abbrev pub AreShort : List (List ℕ) → Type 0
AreShort names = AllByRecursion (λ name. length name ≤ 63) names

-- the first ids are translated
pub record Named {I : Type 0} (g : Ghosts I) (old now : Drafted I) (ids : List ℤ) (names : List (List ℕ)) (done : ℕ) : Type 0 where
  pub frame : OnlyLooks g old now ⊥
  pub are : Told old.bytes (λ r. names ≡ map (name_of r) (take done ids))
  pub lens : AreShort names
  pub count : length names ≡ done

named_by : {I : Type 0} (g : Ghosts I) (old now : Drafted I) (ids : List ℤ) (names : List (List ℕ)) (done : ℕ)
    → Mapped g name_of old now ids names done → AreShort names → Named g old now ids names done
named_by g old now ids names done m short = record { frame = m.frame; are = m.are; lens = short; count = m.count }

pub mapped_by : {I : Type 0} (g : Ghosts I) (old now : Drafted I) (ids : List ℤ) (names : List (List ℕ)) (done : ℕ)
    → Named g old now ids names done → Mapped g name_of old now ids names done
mapped_by g old now ids names done n = record { frame = n.frame; are = n.are; count = n.count }

pub named_none : {I : Type 0} (g : Ghosts I) (d : Drafted I) (ids : List ℤ) (names : List (List ℕ)) → names ≡ [] → Named g d d ids names 0
named_none g d ids names is =
    named_by g d d ids names 0 (mapped_none g name_of d ids names is) (subst AreShort (sym is) tt)

lens_push : (names : List (List ℕ)) (name : List ℕ) → AreShort names → length name ≤ 63 → AreShort (names ++ name ∷ [])
lens_push [] name all here = (here, tt)
lens_push (n ∷ names) name all here = (all.0, lens_push names name all.1 here)

pub named_more : {I : Type 0} (g : Ghosts I) (old now next : Drafted I) (ids : List ℤ) (names later : List (List ℕ)) (name : List ℕ)
    (done : ℕ) (failed : Type 0)
    → OnlyLooks g now next failed → (id : ℤ) → Told now.bytes (λ r. name ≡ name_of r id) → id ≡ get_or ids done id → done < length ids
    → later ≡ names ++ name ∷ [] → Named g old now ids names done → length name ≤ 63 → Named g old next ids later (done + 1)
named_more g old now next ids names later name done failed looks id found is below pushed so short =
    named_by g old next ids later (done + 1)
    (mapped_more g name_of old now next ids id names later name done failed looks found is below pushed
    (mapped_by g old now ids names done so))
    (subst AreShort (sym pushed) (lens_push names name so.lens short))

same_default : (xs : List ℤ) (n : ℕ) (d e : ℤ) → n < length xs → get_or xs n d ≡ get_or xs n e
same_default [] n d e below = absurd (omega arith)
same_default (x ∷ xs) zero d e below = refl
same_default (x ∷ xs) (suc n) d e below = same_default xs n d e (omega arith)

-- an id of a list, as it is passed on
pub passed_id : (ids : List ℤ) (n : ℕ) (d : ℤ) → n < length ids → FitsSigned w32 (get_or ids n d)
    → to_z w32 (of_z w32 (get_or ids n d)) ≡ get_or ids n (to_z w32 (of_z w32 (get_or ids n d)))
passed_id ids n d below fits = to_z-of_z w32 (get_or ids n d) fits ∙ same_default ids n d (to_z w32 (of_z w32 (get_or ids n d))) below
