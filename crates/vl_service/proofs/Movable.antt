-- An address that a call moves may be moved, and its sites go with it.
use Rattle.std.proofs.Common.{◌≡◌, ◌≢◌, ℕ, ◌<◌, ◌^◌, Bool, true, false, not, ◌&&◌, cond, eqb, List, [], ◌∷◌, length, get_or, map, Option, Some, None, refl, sym, ap, ◌∙◌, ⊎_elim}
use Rattle.std.specs.Prelude.{slice_set}
use Rattle.std.specs.List.{AllByRecursion, Contains, list_any}
use Rattle.std.specs.Option.{option_map}
use mathlib.Core.Path.{fun_ext}
use Rattle.std.proofs.lemmas.Bool.{and_parts, cases_eq, eq-eqb}
use Rattle.std.proofs.lemmas.List.{get_or-set_other, get_or-set_same, length-set}
use Rattle.std.proofs.lemmas.List.Elements.{recursion_from_All}
use Rattle.std.proofs.lemmas.List.Folds.{list_any_at}
use Rattle.db_blocks.proofs.Maps.{test_other}
use Rattle.vldb_entries.specs.declared.entries.VlEntry.{VlEntry}
use Rattle.vldb_entries.specs.declared.entries.VlSite.{VlSite}
use Rattle.vldb_entries.specs.Location.{Location, IsLocation, relocated, relocated_site}
use Rattle.vldb_entries.proofs.Relocated.{is_at, place}
use Rattle.vl_service.specs.Meaning.{entries, has_address, has_site_at, moved, with_moved}
use Rattle.vl_service.proofs.Entered.{none_of}
use Rattle.vl_service.proofs.Made.{CanMove}
use Rattle.vl_service.proofs.Moved.{used_parts}
use Rattle.vl_service.proofs.Placements.{among_any, elsewhere, not_none, word_set}

-- the two addresses of a move, over the addresses of the places
record IsMove (a : List ℕ) (old new : ℕ) : Type 0 where
  size : length a ≡ 255
  old_low : 0 < old
  among : Contains a old
  free : (j : ℕ) → j < 255 → new ≢ 0 → get_or a j 0 ≡ new → ⊥

abbrev made : List ℕ → (old new : ℕ) → List ℕ
made a old new = slice_set a (place a old) new

second_false : (a b : Bool) → (a && b) ≡ false → a ≡ true → b ≡ false
second_false true b is met = is
second_false false b is met = absurd cc

not_zero_met : (n : ℕ) → n ≢ 0 → not (eqb n 0) ≡ true
not_zero_met n some = ap not (test_other n 0 some)

is_move : (s : Location) (old new : ℕ) → IsLocation s → has_address s old ≡ true → has_address s new ≡ false → IsMove s.addresses old new
is_move s old new valid has_old has_new = record {
  size = valid.places;
  old_low = used_parts old s.addresses has_old;
  among = among_any s.addresses old (and_parts (not (eqb old 0)) (list_any (λ x. eqb x old) s.addresses) has_old).1;
  free = λ j below some same.
      elsewhere s.addresses new j valid.places
      (second_false (not (eqb new 0)) (list_any (λ x. eqb x new) s.addresses) has_new (not_zero_met new some)) below same;
}

at_old : (a : List ℕ) (old new : ℕ) → IsMove a old new → get_or (made a old new) (place a old) 0 ≡ new
at_old a old new m = get_or-set_same a (place a old) new 0 (is_at a old m.among).below

at_other : (a : List ℕ) (old new j : ℕ) → j ≢ place a old → get_or (made a old new) j 0 ≡ get_or a j 0
at_other a old new j other = get_or-set_other a (place a old) j new 0 other

once_moved : (a : List ℕ) (old new i j : ℕ) → IsMove a old new
    → ((i j : ℕ) → i < 255 → j < 255 → get_or a i 0 ≢ 0 → get_or a i 0 ≡ get_or a j 0 → i ≡ j) → i < 255 → j < 255
    → get_or (made a old new) i 0 ≢ 0 → get_or (made a old new) i 0 ≡ get_or (made a old new) j 0 → i ≡ j
once_moved a old new i j m once in_i in_j used same =
    let k = place a old in
    let b = made a old new in
    ⊎_elim
    (λ (i_is : i ≡ k).
    let new_i : get_or b i 0 ≡ new = ap (λ (n : ℕ). get_or b n 0) i_is ∙ at_old a old new m in
    ⊎_elim
    (λ (j_is : j ≡ k). i_is ∙ sym j_is)
    (λ (j_off : j ≢ k). absurd (m.free j in_j (λ none. used (new_i ∙ none)) (sym (at_other a old new j j_off) ∙ sym same ∙ new_i)))
    (cases_eq j k))
    (λ (i_off : i ≢ k).
    ⊎_elim
    (λ (j_is : j ≡ k).
    let new_j : get_or b j 0 ≡ new = ap (λ (n : ℕ). get_or b n 0) j_is ∙ at_old a old new m in
    absurd (m.free i in_i (λ none. used (same ∙ new_j ∙ none)) (sym (at_other a old new i i_off) ∙ same ∙ new_j)))
    (λ (j_off : j ≢ k).
    once i j in_i in_j (λ none. used (at_other a old new i i_off ∙ none))
    (sym (at_other a old new i i_off) ∙ same ∙ at_other a old new j j_off))
    (cases_eq j k))
    (cases_eq i k)

-- a site's server, by its place
at_site : (a : List ℕ) (old host : ℕ) → Contains a old → Contains a host → place a host ≡ place a old → host ≡ old
at_site a old host among_old among same =
    sym (is_at a host among).here ∙ ap (λ (n : ℕ). get_or a n 0) same ∙ (is_at a old among_old).here

-- ---- sites

site_moved : (a : List ℕ) (old new : ℕ) (site : VlSite) → IsMove a old new → Contains a site.host
    → relocated_site a (made a old new) site ≡ moved old new site
site_moved a old new site m among =
    let b = made a old new in
    ap (λ (h : ℕ). record site { host = h })
    (⊎_elim
    (λ (same : site.host ≡ old).
    ap (λ (h : ℕ). get_or b (place a h) 0) same ∙ at_old a old new m
    ∙ sym (ap (λ (t : Bool). cond t new site.host) (eq-eqb site.host old same)))
    (λ (other : site.host ≢ old).
    at_other a old new (place a site.host) (λ same. other (at_site a old site.host m.among among same)) ∙ (is_at a site.host among).here
    ∙ sym (ap (λ (t : Bool). cond t new site.host) (test_other site.host old other)))
    (cases_eq site.host old))

sites_moved : (a : List ℕ) (old new : ℕ) (sites : List VlSite) → IsMove a old new → AllByRecursion (λ site. Contains a site.host) sites
    → map (relocated_site a (made a old new)) sites ≡ map (moved old new) sites
sites_moved a old new [] m among = refl
sites_moved a old new (site ∷ sites) m among =
    ap (λ (x : VlSite). x ∷ map (relocated_site a (made a old new)) sites) (site_moved a old new site m among.0)
    ∙ ap (λ (xs : List VlSite). moved old new site ∷ xs) (sites_moved a old new sites m among.1)

entry_moved : (s : Location) (old new rw_id : ℕ) (o : Option VlEntry) → IsLocation s → IsMove s.addresses old new → s.entry rw_id ≡ o
    → option_map (relocated s.addresses (made s.addresses old new)) o ≡ option_map (with_moved old new) o
entry_moved s old new rw_id None valid m at = refl
entry_moved s old new rw_id (Some e) valid m at =
    ap (λ (sites : List VlSite). Some (record e { sites = sites }))
    (sites_moved s.addresses old new e.sites m
    (recursion_from_All (λ site. Contains s.addresses site.host) e.sites (valid.hosts rw_id e at)))

-- no entry has a site at an address that goes
stays_used : (s : Location) (old new rw_id : ℕ) (e : VlEntry) (k : ℕ) (d : VlSite) → IsLocation s → IsMove s.addresses old new
    → (eqb new 0 && list_any (has_site_at old) (entries s)) ≡ false → s.entry rw_id ≡ Some e → k < length e.sites
    → get_or (made s.addresses old new) (place s.addresses (get_or e.sites k d).host) 0 ≡ 0 → ⊥
stays_used s old new rw_id e k d valid m kept at within none =
    let a = s.addresses in
    let site = get_or e.sites k d in
    let among = valid.hosts rw_id e at k d within in
    let low = ((valid.records rw_id e at).sites k d within).low in
    ⊎_elim
    (λ (same : place a site.host ≡ place a old).
    let gone : new ≡ 0 = sym (at_old a old new m) ∙ ap (λ (n : ℕ). get_or (made a old new) n 0) (sym same) ∙ none in
    let fails = none_of s (has_site_at old) rw_id e valid
    (second_false (eqb new 0) (list_any (has_site_at old) (entries s)) kept (eq-eqb new 0 gone)) at in
    let met = list_any_at (λ x. eqb x.host old) e.sites k d within (eq-eqb site.host old (at_site a old site.host m.among among same)) in
    absurd cc)
    (λ (other : place a site.host ≢ place a old).
    not_none site.host low (sym (is_at a site.host among).here ∙ sym (at_other a old new (place a site.host) other) ∙ none))
    (cases_eq (place a site.host) (place a old))

pub can_move : (s : Location) (old new : ℕ) → IsLocation s → has_address s old ≡ true → has_address s new ≡ false
    → (eqb new 0 && list_any (has_site_at old) (entries s)) ≡ false → new < 2 ^ 32 → CanMove s old new
can_move s old new valid has_old has_new kept low =
    let a = s.addresses in
    let m = is_move s old new valid has_old has_new in
    let b = made a old new in
    record {
      places = record {
        places = length-set a (place a old) new ∙ valid.places;
        words = word_set a (place a old) new valid.words low;
        once = λ i j in_i in_j used same. once_moved a old new i j m valid.once in_i in_j used same;
        used = λ rw_id e at k d within none. stays_used s old new rw_id e k d valid m kept at within none;
      };
      same = ap (λ (f : ℕ → Option VlEntry). record s { entry = f; addresses = b })
          (fun_ext (λ rw_id. entry_moved s old new rw_id (s.entry rw_id) valid m refl));
      differs = λ same.
          let is : new ≡ old = sym (at_old a old new m) ∙ ap (λ (xs : List ℕ). get_or xs (place a old) 0) same
          ∙ (is_at a old m.among).here in
          let met : has_address s new ≡ true = ap (has_address s) is ∙ has_old in
          absurd cc;
    }
