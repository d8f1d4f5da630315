-- The first version comes before each version that comes after another one.
use Rattle.std.proofs.Common.{◌≡◌, ℕ, true, ◌==◌, subst}
use Rattle.std.proofs.lemmas.Bool.{false≢true}
use Rattle.std.proofs.lemmas.Bool.Decides.{nat_tests}
use Rattle.std.proofs.Common.{arith}
use Rattle.std.specs.Prelude.{◌&&◌, ◌||◌, nat_lt}
use Rattle.ubik_types.specs.declared.versions.Version.{Version}
use Rattle.ubik_types.specs.Version.{zero_version, version_lt}

numbers_after : (a b e c : ℕ) → (nat_lt a e || (a == e && nat_lt b c)) ≡ true → (nat_lt 0 e || (0 == e && nat_lt 0 c)) ≡ true
numbers_after a b e c is = grind (arith, nat_tests)

pub after_first : (own v : Version) → version_lt own v ≡ true → version_lt zero_version v ≡ true
after_first own v is = numbers_after own.epoch own.counter v.epoch v.counter is

-- and it is another one
pub not_first : (v : Version) → version_lt zero_version v ≡ true → ¬ (v ≡ zero_version)
not_first v newer is = false≢true (subst (λ (w : Version). version_lt zero_version w ≡ true) is newer)
