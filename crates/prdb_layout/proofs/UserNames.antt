-- A user's name has a place in a block.
use Rattle.std.proofs.Common.{◌≡◌, ℕ, ◌<◌, ◌≤◌, true, not, ◌&&◌, eqb, leb, List, [], ◌∷◌, length, arith, inl, inr}
use Rattle.std.specs.Prelude.{codes}
use Rattle.std.specs.Str.{bytes_eq}
use Rattle.std.specs.List.{list_all, All, AllByRecursion}
use Rattle.std.proofs.lemmas.Bool.{and_parts, leb-true, cases_lt}
use Rattle.std.proofs.lemmas.List.{get_or_past}
use Rattle.std.proofs.lemmas.List.Elements.{All-from_recursion}
use Rattle.prdb_layout.specs.Bytes.{IsBytes}
use Rattle.prdb_layout.specs.Names.{is_name_byte, is_user_name}

-- ---- the name

abbrev IsVisible : ℕ → Type 0
IsVisible b = (33 ≤ b) × (b ≤ 126)

visible : (b : ℕ) → is_name_byte b ≡ true → IsVisible b
visible b e =
    let p = and_parts (leb 33 b && leb b 126 && not (eqb b 58)) (not (eqb b 64)) e in
    let q = and_parts (leb 33 b && leb b 126) (not (eqb b 58)) p.0 in
    let r = and_parts (leb 33 b) (leb b 126) q.0 in
    (leb-true 33 b r.0, leb-true b 126 r.1)

all_visible : (name : List ℕ) → list_all is_name_byte name ≡ true → AllByRecursion IsVisible name
all_visible [] e = tt
all_visible (b ∷ name) e =
    let p = and_parts (is_name_byte b) (list_all is_name_byte name) e in
    (visible b p.0, all_visible name p.1)

pub record HasForm (name : List ℕ) : Type 0 where
  pub bytes : IsBytes name
  pub text : All (λ b. 0 < b) name
  pub len : length name ≤ 63

pub form : (name : List ℕ) → is_user_name name ≡ true → HasForm name
unfolding is_user_name
form name e =
    let p = and_parts (leb 1 (length name) && leb (length name) 63 && list_all is_name_byte name)
    (not (bytes_eq name (codes "system"))) e in
    let q = and_parts (leb 1 (length name) && leb (length name) 63) (list_all is_name_byte name) p.0 in
    let r = and_parts (leb 1 (length name)) (leb (length name) 63) q.0 in
    let all = All-from_recursion IsVisible name (all_visible name q.1) in
    record {
      bytes = λ i. elim (cases_lt i (length name)) [
        | inl lt ↦ omega (arith, (all i 0 lt).1)
        | inr le ↦ rw (get_or_past name i 0 le) (omega arith)
      ];
      text = λ k d lt. omega (arith, (all k d lt).0);
      len = leb-true (length name) 63 r.1;
    }
