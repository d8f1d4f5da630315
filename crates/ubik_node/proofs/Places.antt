-- The place of a host in a cell.
use Rattle.std.proofs.Common.{◌≡◌, ℕ, zero, suc, ◌<◌, ◌==◌, Option, Some, None, IfSome, List, [], ◌∷◌, length, get_or, slice_get, eqb-true, refl, ap, sym, ◌∙◌, arith}
use Rattle.std.specs.List.{position_or_len}
use Rattle.std.proofs.lemmas.Bool.Decides.{nat_tests}
use Rattle.std.proofs.lemmas.List.Quantifiers.{position-Some}
use Rattle.std.proofs.lemmas.Option.{slice_get-get_or}
use Rattle.ubik_types.specs.declared.hosts.Host.{Host}
use Rattle.cell_model.specs.NodeRule.{place_of}

-- a host that is there is found
reached : (hosts : List Host) (i : ℕ) (host : Host) → slice_get hosts i ≡ Some host → position_or_len (λ (other : Host). other.0 == host.0) hosts < length hosts
reached [] i host at = cc
reached (a ∷ hosts) zero host at = let same : a ≡ host = cc in let number = ap (λ (x : Host). x.0) same in grind (arith, nat_tests)
reached (a ∷ hosts) (suc i) host at = let rest = reached hosts i host at in grind (arith, nat_tests)

found : (hosts : List Host) (host : Host) (i : ℕ) → slice_get hosts i ≡ Some host → place_of hosts host ≡ None → ⊥
found hosts host i at none = let inside = reached hosts i host at in grind (arith, nat_tests)

abbrev numbered : ℕ → Host
numbered n = record { 0 = n }

-- what stands at the place that is found
stands : (hosts : List Host) (host : Host) (i : ℕ) → place_of hosts host ≡ Some i → slice_get hosts i ≡ Some host
stands hosts host i is =
    let at = position-Some (λ (other : Host). other.0 == host.0) hosts i host is in
    let same = eqb-true (get_or hosts i host).0 host.0 at.1 in
    slice_get-get_or hosts i host at.0 ∙ ap (λ (n : ℕ). Some (numbered n)) same

placed_by : (hosts : List Host) (host : Host) (q r : Option ℕ) → place_of hosts host ≡ q
    → IfSome r (λ i. slice_get hosts i ≡ Some host) → ((i : ℕ) → slice_get hosts i ≡ Some host → r ≡ Some i) → q ≡ r
placed_by hosts host (Some i) r is there only = sym (only i (stands hosts host i is))
placed_by hosts host None None is there only = refl
placed_by hosts host None (Some i) is there only = absurd (found hosts host i there is)

-- what a cell tells of a host is its place
pub placed : (hosts : List Host) (host : Host) (r : Option ℕ) → IfSome r (λ i. slice_get hosts i ≡ Some host)
    → ((i : ℕ) → slice_get hosts i ≡ Some host → r ≡ Some i) → place_of hosts host ≡ r
placed hosts host r there only = placed_by hosts host (place_of hosts host) r refl there only
