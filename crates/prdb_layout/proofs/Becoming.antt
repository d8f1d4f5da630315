-- The bytes of a draft after one step and another, and what they hold.
use Rattle.std.proofs.Common.{◌≡◌, ℕ, List, Option, Some, None, Result, Ok, Err, OnOk, ap, ◌∙◌}
use Rattle.std.specs.Option.{option_map}

pub becomes_then : (f g : List ℕ → List ℕ) (a b c : Option (List ℕ)) → b ≡ option_map f a → c ≡ option_map g b
    → c ≡ option_map (λ x. g (f x)) a
becomes_then f g None b c first second = second ∙ ap (option_map g) first
becomes_then f g (Some x) b c first second = second ∙ ap (option_map g) first

pub ok_then : {T E : Type 0} (r : Result T E) (f g : List ℕ → List ℕ) (a b c : Option (List ℕ)) → b ≡ option_map f a
    → OnOk r (c ≡ option_map g b)
    → OnOk r (c ≡ option_map (λ x. g (f x)) a)
ok_then (Err e) f g a b c first second = tt
ok_then (Ok x) f g a b c first second = becomes_then f g a b c first second
