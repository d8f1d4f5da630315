-- The list of ids for which an entry counts.
use Rattle.std.proofs.Common.{◌≡◌, ◌≢◌, ℕ, ℤ, pos, true, List, [], Option, Some, None, IfSome}
use Rattle.std.specs.Prelude.{◌<ℤ◌}
use Rattle.prdb_layout.specs.Registry.{Registry}
use Rattle.entry_scans.specs.Lists.{IsAscending, IsListOf}
use Rattle.prdb_lists.specs.Members.{IsInList, Members, any_user, are_paired, not_signed_in, signed_in}
use Rattle.prdb_lists.proofs.InList.{HasMore, InEach as InEachPlain, anonymous_in as plain_anonymous, group_in as plain_group, user_in as plain_user}
use Rattle.prdb_finds.specs.Records.{Holds, whole}
use Rattle.prdb_finds.specs.Unchained.{unchained}

-- in each state that the bytes hold
abbrev pub InEach : Option (List ℕ) → (Members → Type 0) → Type 0
InEach bytes says = IfSome bytes (λ image. (r : Registry) (m : Members) → Holds image r m → says m)

-- without the words of chains the image holds the same states
plain_each : (image : List ℕ) (r : Registry) (m : Members) (says : Members → Type 0) → Holds image r m → InEach (Some image) says
    → InEachPlain (Some (unchained (whole image))) says
plain_each image r m says h each = λ s n pairs. each s n record { size = h.size; pairs = pairs; chains = h.chains }

pub group_in : (bytes : Option (List ℕ)) (id : ℤ) (none after : List ℤ) → id <ℤ pos 0 → none ≡ [] → HasMore none id after
    → IsAscending after → InEach bytes (λ m. IsListOf (IsInList m id) after)
group_in None id none after group is more rises = tt
group_in (Some image) id none after group is more rises = λ r m h.
    plain_group (Some (unchained (whole image))) id none after group is more rises r m h.pairs

pub anonymous_in : (bytes : Option (List ℕ)) (id : ℤ) (groups one two : List ℤ) → (id <ℤ pos 0 → ⊥) → id ≡ not_signed_in
    → InEach bytes (λ m. IsListOf (λ x. are_paired m id x ≡ true) groups) → HasMore groups any_user one → HasMore one id two
    → IsAscending two → InEach bytes (λ m. IsListOf (IsInList m id) two)
anonymous_in None id groups one two user is list first second rises = tt
anonymous_in (Some image) id groups one two user is list first second rises = λ r m h.
    plain_anonymous (Some (unchained (whole image))) id groups one two user is
    (plain_each image r m (λ n. IsListOf (λ x. are_paired n id x ≡ true) groups) h list) first second rises r m h.pairs

pub user_in : (bytes : Option (List ℕ)) (id : ℤ) (groups one two three : List ℤ) → (id <ℤ pos 0 → ⊥) → id ≢ not_signed_in
    → InEach bytes (λ m. IsListOf (λ x. are_paired m id x ≡ true) groups) → HasMore groups any_user one → HasMore one id two
    → HasMore two signed_in three → IsAscending three → InEach bytes (λ m. IsListOf (IsInList m id) three)
user_in None id groups one two three user not list first second third rises = tt
user_in (Some image) id groups one two three user not list first second third rises = λ r m h.
    plain_user (Some (unchained (whole image))) id groups one two three user not
    (plain_each image r m (λ n. IsListOf (λ x. are_paired n id x ≡ true) groups) h list) first second third rises r m h.pairs
