-- The list of ids under which an entry acts.
use Rattle.std.proofs.Common.{◌≡◌, ◌≢◌, ℕ, ℤ, pos, negsuc, true, List, [], Option, Some, None, IfSome, subst, inl, inr, arith}
use Rattle.std.specs.Prelude.{◌<ℤ◌, ◌⊎◌}
use Rattle.std.specs.List.{Contains}
use Rattle.std.proofs.lemmas.Int.{ints}
use Rattle.prdb_layout.specs.Registry.{Registry}
use Rattle.entry_scans.specs.Lists.{IsAscending, IsListOf}
use Rattle.prdb_lists.specs.Layout.{HoldsPairs}
use Rattle.prdb_lists.specs.Members.{Members, IsInList, any_user, are_paired, not_signed_in, signed_in}

-- a list with an id more, which may have been there
abbrev pub HasMore : List ℤ → ℤ → List ℤ → Type 0
HasMore ids id after = (x : ℤ) → (Contains after x → (x ≡ id) ⊎ Contains ids x) × ((x ≡ id) ⊎ Contains ids x → Contains after x)

pub group_list : (m : Members) (id : ℤ) (none after : List ℤ) → id <ℤ pos 0 → none ≡ [] → HasMore none id after → IsAscending after
    → IsListOf (IsInList m id) after
group_list m (pos n) none after group is more rises = absurd (omega (arith, ints, group))
group_list m (negsuc n) none after group is more rises = record {
  ascending = rises;
  each = λ x there. elim ((more x).0 there) [
    | inl same ↦ same
    | inr old ↦ let c : Contains {X = ℤ} [] x = subst (λ (l : List ℤ). Contains l x) is old in absurd (omega (arith, c.1))
  ];
  all = λ x same. (more x).1 (inl same);
}

-- a user's own id, its groups, and the group of all
abbrev InTwo : Members → ℤ → ℤ → Type 0
InTwo m id x = (x ≡ id) ⊎ (are_paired m id x ≡ true) ⊎ (x ≡ any_user)

in_two : (m : Members) (id : ℤ) (groups one two : List ℤ) → IsListOf (λ x. are_paired m id x ≡ true) groups → HasMore groups any_user one
    → HasMore one id two
    → (x : ℤ) → (Contains two x → InTwo m id x) × (InTwo m id x → Contains two x)
in_two m id groups one two list first second x = (
  λ there. elim ((second x).0 there) [
    | inl own ↦ inl own
    | inr rest ↦ elim ((first x).0 rest) [ inl any ↦ inr (inr any) | inr group ↦ inr (inl (list.each x group)) ]
  ],
  λ is. elim is [
    | inl own ↦ (second x).1 (inl own)
    | inr other ↦
        elim other
        [ inl paired ↦ (second x).1 (inr ((first x).1 (inr (list.all x paired)))) | inr any ↦ (second x).1 (inr ((first x).1 (inl any))) ]
  ],
)

anonymous_list : (m : Members) (id : ℤ) (groups one two : List ℤ) → (id <ℤ pos 0 → ⊥) → id ≡ not_signed_in
    → IsListOf (λ x. are_paired m id x ≡ true) groups
    → HasMore groups any_user one → HasMore one id two → IsAscending two → IsListOf (IsInList m id) two
anonymous_list m (negsuc n) groups one two user is list first second rises = absurd (user (omega (arith, ints)))
anonymous_list m (pos n) groups one two user is list first second rises = record {
  ascending = rises;
  each = λ x there. elim ((in_two m (pos n) groups one two list first second x).0 there) [
    | inl own ↦ inl own
    | inr other ↦ elim other [ inl paired ↦ inr (inl paired) | inr any ↦ inr (inr (inl any)) ]
  ];
  all = λ x in_list. (in_two m (pos n) groups one two list first second x).1 (elim in_list [
    | inl own ↦ inl own
    | inr other ↦ elim other [
      | inl paired ↦ inr (inl paired)
      | inr more ↦ elim more [ inl any ↦ inr (inr any) | inr signed ↦ absurd (signed.1 is) ]
    ]
  ]);
}

user_list : (m : Members) (id : ℤ) (groups one two three : List ℤ) → (id <ℤ pos 0 → ⊥) → id ≢ not_signed_in
    → IsListOf (λ x. are_paired m id x ≡ true) groups
    → HasMore groups any_user one → HasMore one id two → HasMore two signed_in three → IsAscending three → IsListOf (IsInList m id) three
user_list m (negsuc n) groups one two three user not list first second third rises = absurd (user (omega (arith, ints)))
user_list m (pos n) groups one two three user not list first second third rises = record {
  ascending = rises;
  each = λ x there. elim ((third x).0 there) [
    | inl signed ↦ inr (inr (inr (signed, not)))
    | inr rest ↦ elim ((in_two m (pos n) groups one two list first second x).0 rest) [
      | inl own ↦ inl own
      | inr other ↦ elim other [ inl paired ↦ inr (inl paired) | inr any ↦ inr (inr (inl any)) ]
    ]
  ];
  all = λ x in_list. elim in_list [
    | inl own ↦ (third x).1 (inr ((in_two m (pos n) groups one two list first second x).1 (inl own)))
    | inr other ↦ elim other [
      | inl paired ↦ (third x).1 (inr ((in_two m (pos n) groups one two list first second x).1 (inr (inl paired))))
      | inr more ↦ elim more [
        | inl any ↦ (third x).1 (inr ((in_two m (pos n) groups one two list first second x).1 (inr (inr any))))
        | inr signed ↦ (third x).1 (inl signed.0)
      ]
    ]
  ];
}

-- ---- over a draft

-- in each state that the bytes hold
abbrev pub InEach : Option (List ℕ) → (Members → Type 0) → Type 0
InEach bytes says = IfSome bytes (λ image. (r : Registry) (m : Members) → HoldsPairs image r m → says m)

pub group_in : (bytes : Option (List ℕ)) (id : ℤ) (none after : List ℤ) → id <ℤ pos 0 → none ≡ [] → HasMore none id after
    → IsAscending after
    → InEach bytes (λ m. IsListOf (IsInList m id) after)
group_in None id none after group is more rises = tt
group_in (Some image) id none after group is more rises = λ r m h. group_list m id none after group is more rises

pub anonymous_in : (bytes : Option (List ℕ)) (id : ℤ) (groups one two : List ℤ) → (id <ℤ pos 0 → ⊥) → id ≡ not_signed_in
    → InEach bytes (λ m. IsListOf (λ x. are_paired m id x ≡ true) groups) → HasMore groups any_user one → HasMore one id two
    → IsAscending two
    → InEach bytes (λ m. IsListOf (IsInList m id) two)
anonymous_in None id groups one two user is list first second rises = tt
anonymous_in (Some image) id groups one two user is list first second rises =
    λ r m h. anonymous_list m id groups one two user is (list r m h) first second rises

pub user_in : (bytes : Option (List ℕ)) (id : ℤ) (groups one two three : List ℤ) → (id <ℤ pos 0 → ⊥) → id ≢ not_signed_in
    → InEach bytes (λ m. IsListOf (λ x. are_paired m id x ≡ true) groups) → HasMore groups any_user one → HasMore one id two
    → HasMore two signed_in three
    → IsAscending three → InEach bytes (λ m. IsListOf (IsInList m id) three)
user_in None id groups one two three user not list first second third rises = tt
user_in (Some image) id groups one two three user not list first second third rises =
    λ r m h. user_list m id groups one two three user not (list r m h) first second third rises
