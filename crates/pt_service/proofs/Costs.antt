-- What looks cost, one after the other.
use Rattle.std.proofs.Common.{◌≡◌, ℕ, ◌+◌, ◌<◌, add-one, sym, ap, subst, ◌∙◌, arith}
use Rattle.std.proofs.Common.{List, [], ◌∷◌, ◌++◌, length, take, drop, get_or, Option, Some, None, IfSome}
use Rattle.std.proofs.Math.Seq.{take-suc}
use Rattle.std.proofs.lemmas.List.{take-append-drop}
use Rattle.std.proofs.lemmas.List.Sums.{sum_by-append}
use Rattle.std.specs.List.{AllByRecursion, sum_by}
use Rattle.db_image.proofs.ReadSteps.{asks_none, asks_then}
use Rattle.db_image.specs.Draft.{Drafted}
use Rattle.db_image.specs.declared.images.ImageRead.{Ghosts}
use Rattle.db_chains.specs.Chains.{HasChain}
use Rattle.db_chains.specs.Ends.{CostsAtMost}
use Rattle.db_chains.specs.declared.links.Links.{Links}
use Rattle.pt_service.specs.Costs.{CostsOneChain, CostsTheirChains, chain_cost}

-- ---- lists

all_first : {X : Type 0} (P : X → Type 0) (xs ys : List X) → AllByRecursion P (xs ++ ys) → AllByRecursion P xs
all_first P [] ys all = tt
all_first P (x ∷ xs) ys all = (all.0, all_first P xs ys all.1)

all_second : {X : Type 0} (P : X → Type 0) (xs ys : List X) → AllByRecursion P (xs ++ ys) → AllByRecursion P ys
all_second P [] ys all = all
all_second P (x ∷ xs) ys all = all_second P xs ys all.1

-- the first items, and one more
take_one : {X : Type 0} (xs : List X) (x : X) (done : ℕ) → done < length xs → x ≡ get_or xs done x
    → take (done + 1) xs ≡ take done xs ++ x ∷ []
take_one xs x done below is = rw add-one (take-suc xs done x below ∙ ap (λ n. take done xs ++ n ∷ []) (sym is))

-- ---- looks along the chains of a list

-- what `CostsTheirChains` says over these bytes
abbrev CostTheirs : {I X : Type 0} → Ghosts I → Option (List ℕ) → Links → (place_of : X → ℕ) → List X → (a b : Drafted I) → Type 0
CostTheirs {X = X} g bytes links place_of items a b = IfSome bytes (λ image. (chain_of : X → List ℕ)
    → AllByRecursion (λ x. HasChain links image (place_of x) (chain_of x)) items
    → CostsAtMost g (sum_by (λ x. chain_cost (chain_of x)) items) a b)

abbrev CostOne : {I : Type 0} → Ghosts I → Option (List ℕ) → Links → (at : ℕ) → (a b : Drafted I) → Type 0
CostOne g bytes links at a b = IfSome bytes (λ image. (words : List ℕ) → HasChain links image at words
    → CostsAtMost g (chain_cost words) a b)

none_of : {I X : Type 0} (g : Ghosts I) (bytes : Option (List ℕ)) (links : Links) (place_of : X → ℕ) (items : List X) (d : Drafted I)
    → CostTheirs g bytes links place_of items d d
none_of g None links place_of items d = tt
none_of g (Some image) links place_of items d = λ chain_of all.
    asks_none (sum_by (λ x. chain_cost (chain_of x)) items) (g.asked d.image)

-- what asks for nothing
pub theirs_none : {I X : Type 0} (g : Ghosts I) (links : Links) (place_of : X → ℕ) (items : List X) (d : Drafted I)
    → CostsTheirChains g links place_of items d d
theirs_none g links place_of items d = none_of g d.bytes links place_of items d

push_of : {I X : Type 0} (g : Ghosts I) (bytes : Option (List ℕ)) (links : Links) (place_of : X → ℕ) (items : List X) (x : X)
    (a b c : Drafted I) → CostTheirs g bytes links place_of items a b → CostOne g bytes links (place_of x) b c
    → CostTheirs g bytes links place_of (items ++ x ∷ []) a c
push_of g None links place_of items x a b c first second = tt
push_of {X = X} g (Some image) links place_of items x a b c first second = λ chain_of all.
    let cost : X → ℕ = λ y. chain_cost (chain_of y) in
    let has : X → Type 0 = λ y. HasChain links image (place_of y) (chain_of y) in
    asks_then (sum_by cost items) (cost x) (sum_by cost (items ++ x ∷ [])) (g.asked a.image) (g.asked b.image) (g.asked c.image)
    (first chain_of (all_first has items (x ∷ []) all))
    (second (chain_of x) (all_second has items (x ∷ []) all).0)
    (omega (arith, sum_by-append cost items (x ∷ [])))

-- a look more
pub theirs_more : {I X : Type 0} (g : Ghosts I) (links : Links) (place_of : X → ℕ) (items : List X) (x : X) (done : ℕ) (a b c : Drafted I)
    → CostsOneChain g links (place_of x) b c → b.bytes ≡ a.bytes → x ≡ get_or items done x → done < length items
    → CostsTheirChains g links place_of (take done items) a b → CostsTheirChains g links place_of (take (done + 1) items) a c
theirs_more {X = X} g links place_of items x done a b c second same is below first =
    subst (λ (xs : List X). CostsTheirChains g links place_of xs a c) (sym (take_one items x done below is))
    (push_of g a.bytes links place_of (take done items) x a b c first
    (subst (λ (bytes : Option (List ℕ)). CostOne g bytes links (place_of x) b c) same second))

join_of : {I X : Type 0} (g : Ghosts I) (bytes : Option (List ℕ)) (links : Links) (place_of : X → ℕ) (xs ys : List X)
    (a b : Drafted I) → CostTheirs g bytes links place_of xs a b → CostTheirs g bytes links place_of (xs ++ ys) a b
join_of g None links place_of xs ys a b first = tt
join_of {X = X} g (Some image) links place_of xs ys a b first = λ chain_of all.
    let cost : X → ℕ = λ y. chain_cost (chain_of y) in
    asks_then (sum_by cost xs) 0 (sum_by cost (xs ++ ys)) (g.asked a.image) (g.asked b.image) (g.asked b.image)
    (first chain_of (all_first (λ y. HasChain links image (place_of y) (chain_of y)) xs ys all))
    (asks_none 0 (g.asked b.image))
    (omega (arith, sum_by-append cost xs ys))

-- the looks for the first items of a list are some of those for all
pub theirs_all : {I X : Type 0} (g : Ghosts I) (links : Links) (place_of : X → ℕ) (items : List X) (done : ℕ) (a b : Drafted I)
    → CostsTheirChains g links place_of (take done items) a b → CostsTheirChains g links place_of items a b
theirs_all {X = X} g links place_of items done a b first =
    subst (λ (xs : List X). CostsTheirChains g links place_of xs a b) (take-append-drop done items)
    (join_of g a.bytes links place_of (take done items) (drop done items) a b first)

-- a look more, before the others
pub theirs_within : {I X : Type 0} (g : Ghosts I) (links : Links) (place_of : X → ℕ) (items : List X) (x : X) (done : ℕ) (a b c : Drafted I)
    → CostsOneChain g links (place_of x) b c → b.bytes ≡ a.bytes → x ≡ get_or items done x → done < length items
    → CostsTheirChains g links place_of (take done items) a b → CostsTheirChains g links place_of items a c
theirs_within g links place_of items x done a b c second same is below first =
    theirs_all g links place_of items (done + 1) a c (theirs_more g links place_of items x done a b c second same is below first)
