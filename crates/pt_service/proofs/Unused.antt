-- The first unused id, as a loop comes to it.
use Rattle.std.proofs.Common.{◌≡◌, ℕ, ℤ, suc, ◌+◌, ◌-◌, ◌<◌, ◌≤◌, Bool, true, false, cond, List, map, Option, Some, None, refl, sym, ap, subst, ◌∙◌, arith}
use Rattle.std.specs.Prelude.{is_none}
use Rattle.std.specs.List.{find, range_with_len}
use Rattle.std.proofs.lemmas.Bool.{lt-ltb}
use Rattle.db_image.specs.Draft.{Drafted}
use Rattle.db_image.specs.declared.images.ImageRead.{Ghosts}
use Rattle.db_blocks.specs.Ends.{OnlyLooks}
use Rattle.db_blocks.proofs.Scanned.{looks_none, looks_then, looks_so}
use Rattle.prdb_layout.specs.Registry.{Registry}
use Rattle.pt_service.specs.Meaning.{first_unused, id_behind, ids_behind}
use Rattle.pt_service.specs.State.{is_id}
use Rattle.pt_service.specs.Told.{Told}
use Rattle.pt_service.proofs.Done.{told_all, told_both, told_map}

abbrev pub free_from : Registry → Bool → ℕ → Option ℤ
free_from r group n = find (λ id. is_none (r.entry id)) (map (id_behind group) (range_with_len n (2147483647 - n)))

-- the ids up to this one are used
pub record Passed {I : Type 0} (g : Ghosts I) (old now : Drafted I) (group : Bool) (passed n : ℕ) : Type 0 where
  pub frame : OnlyLooks g old now ⊥
  pub rest : Told old.bytes (λ r. free_from r group n ≡ first_unused r group passed)

begins : (r : Registry) (group : Bool) (passed : ℕ) → free_from r group passed ≡ first_unused r group passed
unfolding first_unused ids_behind
begins r group passed = refl

pub passed_none : {I : Type 0} (g : Ghosts I) (d : Drafted I) (group : Bool) (passed : ℕ) → Passed g d d group passed passed
passed_none g d group passed = record {
  frame = looks_none g d ⊥ (λ h. h);
  rest = told_all d.bytes (λ r. free_from r group passed ≡ first_unused r group passed) (λ r. begins r group passed);
}

split : (r : Registry) (group : Bool) (n : ℕ) → n < 2147483647
    → free_from r group n ≡ cond (is_none (r.entry (id_behind group n))) (Some (id_behind group n)) (free_from r group (n + 1))
split r group n below =
    let left : 2147483647 - n ≡ suc (2147483647 - (n + 1)) = omega arith in
    ap (λ (k : ℕ). find (λ id. is_none (r.entry id)) (map (id_behind group) (range_with_len n k))) left

used_step : (r : Registry) (group : Bool) (n : ℕ) (total : Option ℤ) → n < 2147483647 → false ≡ is_none (r.entry (id_behind group n))
    → free_from r group n ≡ total → free_from r group (n + 1) ≡ total
used_step r group n total below used so_far =
    sym (split r group n below ∙ ap (λ (b : Bool). cond b (Some (id_behind group n)) (free_from r group (n + 1))) (sym used)) ∙ so_far

free_step : (r : Registry) (group : Bool) (n : ℕ) (total : Option ℤ) → n < 2147483647 → true ≡ is_none (r.entry (id_behind group n))
    → free_from r group n ≡ total → Some (id_behind group n) ≡ total
free_step r group n total below unused so_far =
    sym (split r group n below ∙ ap (λ (b : Bool). cond b (Some (id_behind group n)) (free_from r group (n + 1))) (sym unused)) ∙ so_far

pub passed_more : {I : Type 0} (g : Ghosts I) (old now next : Drafted I) (group : Bool) (passed n : ℕ) (id : ℤ) (failed : Type 0)
    → n < 2147483647
    → Passed g old now group passed n → OnlyLooks g now next failed → id ≡ id_behind group n
    → Told now.bytes (λ r. false ≡ is_none (r.entry id))
    → Passed g old next group passed (n + 1)
passed_more g old now next group passed n id failed below p looks is used = record {
  frame = looks_then g old now next ⊥ ⊥ p.frame (looks_so g now next failed ⊥ looks (λ h. absurd h));
  rest = told_both old.bytes (λ r. false ≡ is_none (r.entry id)) (λ r. free_from r group n ≡ first_unused r group passed)
      (λ r. free_from r group (n + 1) ≡ first_unused r group passed)
      (λ r u s. used_step r group n (first_unused r group passed) below (u ∙ ap (λ (z : ℤ). is_none (r.entry z)) is) s)
      (subst (λ (b : Option (List ℕ)). Told b (λ r. false ≡ is_none (r.entry id))) p.frame.same.bytes used) p.rest;
}

pub passed_free : {I : Type 0} (g : Ghosts I) (old now : Drafted I) (group : Bool) (passed n : ℕ) (id : ℤ) → n < 2147483647
    → Passed g old now group passed n
    → id ≡ id_behind group n → Told now.bytes (λ r. true ≡ is_none (r.entry id))
    → Told old.bytes (λ r. Some id ≡ first_unused r group passed)
passed_free g old now group passed n id below p is unused =
    told_both old.bytes (λ r. true ≡ is_none (r.entry id)) (λ r. free_from r group n ≡ first_unused r group passed)
    (λ r. Some id ≡ first_unused r group passed)
    (λ r u s. ap (λ (z : ℤ). Some z) is
    ∙ free_step r group n (first_unused r group passed) below (u ∙ ap (λ (z : ℤ). is_none (r.entry z)) is) s)
    (subst (λ (b : Option (List ℕ)). Told b (λ r. true ≡ is_none (r.entry id))) p.frame.same.bytes unused) p.rest

pub passed_end : {I : Type 0} (g : Ghosts I) (old now : Drafted I) (group : Bool) (passed n : ℕ) → 2147483647 ≤ n
    → Passed g old now group passed n
    → Told old.bytes (λ r. None ≡ first_unused r group passed)
passed_end g old now group passed n past p =
    told_map old.bytes (λ r. free_from r group n ≡ first_unused r group passed) (λ r. None ≡ first_unused r group passed)
    (λ r s. let none : 2147483647 - n ≡ 0 = omega arith in
    sym (ap (λ (k : ℕ). find (λ id. is_none (r.entry id)) (map (id_behind group) (range_with_len n k))) none) ∙ s) p.rest

-- it is an id
pub behind_is : (group : Bool) (n : ℕ) → n < 2147483647 → is_id group (id_behind group n) ≡ true
behind_is true n below = lt-ltb n 2147483647 below
behind_is false n below = lt-ltb 0 (n + 1) (omega arith)
