-- Elements of a list that are translated by a registry, one after the other.
use Rattle.std.proofs.Common.{◌≡◌, ℕ, ◌+◌, ◌<◌, ◌≤◌, List, [], ◌∷◌, ◌++◌, length, map, take, get_or, add-one, Option, sym, ap, subst, ◌∙◌, arith}
use Rattle.std.proofs.Math.Seq.{take-suc}
use Rattle.std.proofs.lemmas.List.{length-append, map_push, take_all}
use Rattle.db_image.specs.Draft.{Drafted}
use Rattle.db_image.specs.declared.images.ImageRead.{Ghosts}
use Rattle.db_blocks.specs.Ends.{OnlyLooks}
use Rattle.db_blocks.proofs.Scanned.{looks_none, looks_then, looks_so}
use Rattle.prdb_layout.specs.Registry.{Registry}
use Rattle.pt_service.specs.Told.{Told}
use Rattle.pt_service.proofs.Done.{told_all, told_both, told_map}

-- the first elements are translated
pub record Mapped {I X Y : Type 0} (g : Ghosts I) (f : Registry → X → Y) (old now : Drafted I) (xs : List X) (ys : List Y) (done : ℕ)
    : Type 0 where
  pub frame : OnlyLooks g old now ⊥
  pub are : Told old.bytes (λ r. ys ≡ map (f r) (take done xs))
  pub count : length ys ≡ done

pub mapped_none : {I X Y : Type 0} (g : Ghosts I) (f : Registry → X → Y) (d : Drafted I) (xs : List X) (ys : List Y) → ys ≡ []
    → Mapped g f d d xs ys 0
mapped_none g f d xs ys is = record {
  frame = looks_none g d ⊥ (λ h. h);
  are = told_all d.bytes (λ r. ys ≡ map (f r) (take 0 xs)) (λ r. is);
  count = ap length is;
}

one_more : {X Y : Type 0} (f : X → Y) (xs : List X) (x : X) (ys : List Y) (y : Y) (done : ℕ) → done < length xs → x ≡ get_or xs done x
    → y ≡ f x → ys ≡ map f (take done xs) → ys ++ y ∷ [] ≡ map f (take (done + 1) xs)
one_more {X = X} {Y = Y} f xs x ys y done below is found so_far =
    let one : take (done + 1) xs ≡ take done xs
    ++ x ∷ [] = rw add-one (take-suc xs done x below ∙ ap (λ (n : X). take done xs ++ n ∷ []) (sym is)) in
    ap (λ (l : List Y). l ++ y ∷ []) so_far ∙ ap (λ (z : Y). map f (take done xs) ++ z ∷ []) found
    ∙ sym (map_push f (take done xs) x) ∙ ap (map f) (sym one)

pub mapped_more : {I X Y : Type 0} (g : Ghosts I) (f : Registry → X → Y) (old now next : Drafted I) (xs : List X) (x : X) (ys later : List Y)
    (y : Y) (done : ℕ) (failed : Type 0)
    → OnlyLooks g now next failed → Told now.bytes (λ r. y ≡ f r x) → x ≡ get_or xs done x → done < length xs → later ≡ ys ++ y ∷ []
    → Mapped g f old now xs ys done → Mapped g f old next xs later (done + 1)
mapped_more {Y = Y} g f old now next xs x ys later y done failed looks found is below pushed so =
    subst (λ (l : List Y). Mapped g f old next xs l (done + 1)) (sym pushed) (record {
      frame = looks_then g old now next ⊥ ⊥ so.frame (looks_so g now next failed ⊥ looks (λ h. absurd h));
      are = told_both old.bytes (λ r. y ≡ f r x) (λ r. ys ≡ map (f r) (take done xs)) (λ r. ys ++ y ∷ [] ≡ map (f r) (take (done + 1) xs))
          (λ r t s. one_more (f r) xs x ys y done below is t s)
          (subst (λ (b : Option (List ℕ)). Told b (λ r. y ≡ f r x)) so.frame.same.bytes found) so.are;
      count = omega (arith, length-append ys (y ∷ []), so.count);
    })

pub mapped_all : {I X Y : Type 0} (g : Ghosts I) (f : Registry → X → Y) (old now : Drafted I) (xs : List X) (ys result : List Y) (done : ℕ)
    → length xs ≤ done → result ≡ ys → Mapped g f old now xs ys done → Told old.bytes (λ r. result ≡ map (f r) xs)
mapped_all g f old now xs ys result done past is so =
    told_map old.bytes (λ r. ys ≡ map (f r) (take done xs)) (λ r. result ≡ map (f r) xs)
    (λ r s. is ∙ s ∙ ap (map (f r)) (take_all done xs past)) so.are
