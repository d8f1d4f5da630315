-- The least of some ids.
use Rattle.std.proofs.Common.{◌≡◌, ℕ, ◌+◌, ◌<◌, Option, Some, None, List, [], ◌∷◌, ◌++◌, length, map, take, slice_get, refl, sym, ap, ◌∙◌, append_assoc}
use Rattle.std.specs.Option.{option_map}
use Rattle.std.proofs.lemmas.List.{map-append, take_more}
use Rattle.std.proofs.lemmas.Option.{get_or_from_slice_get}
use Rattle.std.specs.Prelude.{option_to_list}
use Rattle.cell_model.specs.Node.{Flight, Waiting}
use Rattle.ubik_node.specs.Unanswered.{ids_of}

-- the ids up to a place, and the one there
pub ids_more : (flight : Option Flight) (waiting : List Waiting) (place id : ℕ) → place < length waiting → option_map (λ (w : Waiting). w.id) (slice_get waiting place) ≡ Some id
    → ids_of flight (take (place + 1) waiting) ≡ ids_of flight (take place waiting) ++ id ∷ []
ids_more flight waiting place id inside at = by (slice_get waiting place) refl at
  where
    first : List ℕ
    first = option_to_list (option_map (λ (f : Flight). f.id) flight)

    of : Waiting → ℕ
    of w = w.id

    by : (there : Option Waiting) → slice_get waiting place ≡ there → option_map of there ≡ Some id → first ++ map of (take (place + 1) waiting) ≡ (first ++ map of (take place waiting)) ++ id ∷ []
    by None none is = absurd cc
    by (Some w) there is =
        let same : w.id ≡ id = cc in
        ap (λ (those : List Waiting). first ++ map of those) (take_more waiting place w inside ∙ ap (λ (x : Waiting). take place waiting ++ x ∷ []) (get_or_from_slice_get waiting place w w there))
        ∙ ap (λ (more : List ℕ). first ++ more) (map-append of (take place waiting) (w ∷ []))
        ∙ ap (λ (i : ℕ). first ++ (map of (take place waiting) ++ i ∷ [])) same
        ∙ sym (append_assoc first (map of (take place waiting)) (id ∷ []))
