-- Places that are given to the addresses of servers: the others keep theirs.
use Rattle.std.proofs.Common.{◌≡◌, ◌≢◌, ℕ, zero, suc, ◌<◌, ◌^◌, Bool, true, false, cond, eqb, List, [], ◌∷◌, length, get_or, map, Option, Some, None, refl, sym, ap, subst, ◌∙◌, ⊎_elim, arith}
use Rattle.std.specs.Prelude.{option_and_then, slice_set}
use Rattle.std.specs.List.{AllByRecursion, Contains, list_any, position}
use Rattle.std.specs.Option.{option_map}
use mathlib.Core.Path.{fun_ext}
use Rattle.std.proofs.lemmas.Bool.{cases_eq, eqb-true, eq-eqb}
use Rattle.std.proofs.lemmas.List.{get_or-set_other, get_or-set_same, length-set}
use Rattle.std.proofs.lemmas.List.Elements.{Contains-get_or, at_from_Contains, recursion_from_All}
use Rattle.std.proofs.lemmas.List.Folds.{Any-from_list_any, list_any_at}
use Rattle.std.proofs.lemmas.List.Quantifiers.{position-Some}
use Rattle.db_blocks.proofs.Maps.{some_same}
use Rattle.vldb_entries.specs.declared.entries.VlEntry.{VlEntry}
use Rattle.vldb_entries.specs.declared.entries.VlSite.{VlSite}
use Rattle.vldb_entries.specs.Location.{Location, IsLocation, MayBePlaces, place_host, placed, relocated, relocated_site, with_addresses, with_places}
use Rattle.vldb_entries.proofs.Relocated.{is_at, place}

-- the addresses of the places of a valid database
pub record ArePlaces (addresses : List ℕ) : Type 0 where
  pub size : length addresses ≡ 255
  pub words : AllByRecursion (λ host. host < 2 ^ 32) addresses
  pub once : (i j : ℕ) → i < 255 → j < 255 → get_or addresses i 0 ≢ 0 → get_or addresses i 0 ≡ get_or addresses j 0 → i ≡ j

-- each used place keeps its address
pub record Keeps (old new : List ℕ) : Type 0 where
  pub kept : (k : ℕ) → get_or old k 0 ≢ 0 → get_or new k 0 ≡ get_or old k 0

pub record IsServer (host : ℕ) : Type 0 where
  pub low : 0 < host
  pub word : host < 2 ^ 32

keeps_both : (a b c : List ℕ) → Keeps a b → Keeps b c → Keeps a c
keeps_both a b c first second = record {
  kept = λ k used. let e = first.kept k used in second.kept k (λ none. used (sym e ∙ none)) ∙ e;
}

pub not_none : (n : ℕ) → 0 < n → n ≡ 0 → ⊥
not_none n low none = omega (arith, low, none)

-- an address that is among them stays so
still_among : (old new : List ℕ) (host : ℕ) → length old ≡ 255 → length new ≡ 255 → Keeps old new → IsServer host → Contains old host
    → Contains new host
still_among old new host old_size new_size keeps is among =
    let at = at_from_Contains old host among in
    let here : get_or old at.0 0 ≡ host = at.2 0 in
    subst (Contains new) (keeps.kept at.0 (λ none. not_none host is.low (sym here ∙ none)) ∙ here)
    (Contains-get_or new at.0 0 (omega (arith, at.1, old_size, new_size)))

-- ---- one server

pub record IsPlaced (old new : List ℕ) (host : ℕ) : Type 0 where
  pub places : ArePlaces new
  pub keeps : Keeps old new
  pub among : Contains new host

pub among_any : (addresses : List ℕ) (host : ℕ) → list_any (λ a. eqb a host) addresses ≡ true → Contains addresses host
among_any addresses host is =
    let any = Any-from_list_any (λ a. eqb a host) addresses is in
    subst (Contains addresses) (any.3 ∙ eqb-true any.1 host any.4) (Contains-get_or addresses any.0 any.1 any.2)

same_is_placed : (old : List ℕ) (host : ℕ) → ArePlaces old → list_any (λ a. eqb a host) old ≡ true → IsPlaced old old host
same_is_placed old host are is = record { places = are; keeps = record { kept = λ j used. refl }; among = among_any old host is }

pub word_set : (xs : List ℕ) (k v : ℕ) → AllByRecursion (λ n. n < 2 ^ 32) xs → v < 2 ^ 32
    → AllByRecursion (λ n. n < 2 ^ 32) (slice_set xs k v)
word_set [] k v low is = tt
word_set (x ∷ xs) zero v low is = (is, low.1)
word_set (x ∷ xs) (suc k) v low is = (low.0, word_set xs k v low.1 is)

-- no place has an address that is not among them
pub elsewhere : (old : List ℕ) (host j : ℕ) → length old ≡ 255 → list_any (λ a. eqb a host) old ≡ false → j < 255 → get_or old j 0 ≡ host
    → ⊥
elsewhere old host j size none below same =
    let found : list_any (λ a. eqb a host) old ≡ true = list_any_at (λ a. eqb a host) old j 0 (omega (arith, size, below))
    (eq-eqb (get_or old j 0) host same) in
    absurd cc

once_set : (old : List ℕ) (k host i j : ℕ) → ArePlaces old → k < 255 → list_any (λ a. eqb a host) old ≡ false → i < 255 → j < 255
    → get_or (slice_set old k host) i 0 ≢ 0 → get_or (slice_set old k host) i 0 ≡ get_or (slice_set old k host) j 0 → i ≡ j
once_set old k host i j are within none in_i in_j used same =
    let here : get_or (slice_set old k host) k 0 ≡ host = get_or-set_same old k host 0 (omega (arith, are.size, within)) in
    ⊎_elim
    (λ (at_i : i ≡ k). ⊎_elim
    (λ (at_j : j ≡ k). at_i ∙ sym at_j)
    (λ (off_j : j ≢ k). absurd (elsewhere old host j are.size none in_j
    (sym (get_or-set_other old k j host 0 off_j) ∙ sym same ∙ ap (λ (n : ℕ). get_or (slice_set old k host) n 0) at_i ∙ here)))
    (cases_eq j k))
    (λ (off_i : i ≢ k). ⊎_elim
    (λ (at_j : j ≡ k). absurd (elsewhere old host i are.size none in_i
    (sym (get_or-set_other old k i host 0 off_i) ∙ same ∙ ap (λ (n : ℕ). get_or (slice_set old k host) n 0) at_j ∙ here)))
    (λ (off_j : j ≢ k).
    are.once i j in_i in_j (λ free. used (get_or-set_other old k i host 0 off_i ∙ free))
    (sym (get_or-set_other old k i host 0 off_i) ∙ same ∙ get_or-set_other old k j host 0 off_j))
    (cases_eq j k))
    (cases_eq i k)

new_is_placed : (old : List ℕ) (host k : ℕ) → ArePlaces old → IsServer host → list_any (λ a. eqb a host) old ≡ false → k < length old
    → get_or old k 0 ≡ 0
    → IsPlaced old (slice_set old k host) host
new_is_placed old host k are is none within free =
    let here : get_or (slice_set old k host) k 0 ≡ host = get_or-set_same old k host 0 within in
    record {
      places = record {
        size = length-set old k host ∙ are.size;
        words = word_set old k host are.words is.word;
        once = λ i j in_i in_j used same. once_set old k host i j are (omega (arith, within, are.size)) none in_i in_j used same;
      };
      keeps = record {
        kept = λ j used. get_or-set_other old k j host 0 (λ same. used (ap (λ (n : ℕ). get_or old n 0) same ∙ free));
      };
      among =
          subst (Contains (slice_set old k host)) here
          (Contains-get_or (slice_set old k host) k 0 (omega (arith, within, length-set old k host)));
    }

by_free : (old new : List ℕ) (host : ℕ) (o : Option ℕ) → ArePlaces old → IsServer host → list_any (λ a. eqb a host) old ≡ false
    → position (λ a. eqb a 0) old ≡ o
    → option_and_then (λ free. Some (slice_set old free host)) o ≡ Some new → IsPlaced old new host
by_free old new host None are is none at e = absurd cc
by_free old new host (Some k) are is none at e =
    let p = position-Some (λ a. eqb a 0) old k 0 at in
    subst (λ (x : List ℕ). IsPlaced old x host) (some_same e) (new_is_placed old host k are is none p.0 (eqb-true (get_or old k 0) 0 p.1))

by_among : (old new : List ℕ) (host : ℕ) (b : Bool) → ArePlaces old → IsServer host → list_any (λ a. eqb a host) old ≡ b
    → cond b (Some old) (option_and_then (λ free. Some (slice_set old free host)) (position (λ a. eqb a 0) old)) ≡ Some new
    → IsPlaced old new host
by_among old new host true are is among e = subst (λ (x : List ℕ). IsPlaced old x host) (some_same e) (same_is_placed old host are among)
by_among old new host false are is among e = by_free old new host (position (λ a. eqb a 0) old) are is among refl e

host_is_placed : (old new : List ℕ) (host : ℕ) → ArePlaces old → IsServer host → place_host host old ≡ Some new → IsPlaced old new host
host_is_placed old new host are is e = by_among old new host (list_any (λ a. eqb a host) old) are is refl e

-- ---- the servers of sites

pub record ArePlaced (old new : List ℕ) (sites : List VlSite) : Type 0 where
  pub places : ArePlaces new
  pub keeps : Keeps old new
  pub among : AllByRecursion (λ site. Contains new site.host) sites

through : {X Y : Type 0} (f : X → Option Y) (o : Option X) (y : Y) → option_and_then f o ≡ Some y → (x : X) × (o ≡ Some x) × (f x ≡ Some y)
through f None y is = absurd cc
through f (Some x) y is = (x, refl, is)

pub sites_are_placed : (sites : List VlSite) (old new : List ℕ) → ArePlaces old → AllByRecursion (λ site. IsServer site.host) sites
    → placed sites old ≡ Some new
    → ArePlaced old new sites
unfolding placed
sites_are_placed [] old new are servers e =
    subst (λ (x : List ℕ). ArePlaced old x []) (some_same e) (record { places = are; keeps = record { kept = λ k used. refl }; among = tt })
sites_are_placed (site ∷ sites) old new are servers e =
    let step = through (placed sites) (place_host site.host old) new e in
    let first = host_is_placed old step.0 site.host are servers.0 step.1 in
    let rest = sites_are_placed sites step.0 new first.places servers.1 step.2 in
    record {
      places = rest.places;
      keeps = keeps_both old step.0 new first.keeps rest.keeps;
      among = (still_among step.0 new site.host first.places.size rest.places.size rest.keeps servers.0 first.among, rest.among);
    }

-- ---- the database

pub are_places : (s : Location) → IsLocation s → ArePlaces s.addresses
are_places s valid = record { size = valid.places; words = valid.words; once = valid.once }

pub may_be_places : (s : Location) (new : List ℕ) → IsLocation s → ArePlaces new → Keeps s.addresses new → MayBePlaces new s
may_be_places s new valid are keeps = record {
  places = are.size;
  words = are.words;
  once = are.once;
  used = λ rw_id e at k d within none.
      let site = get_or e.sites k d in
      let low = ((valid.records rw_id e at).sites k d within).low in
      let here = (is_at s.addresses site.host (valid.hosts rw_id e at k d within)).here in
      not_none site.host low
      (sym here ∙ sym (keeps.kept (place s.addresses site.host) (λ free. not_none site.host low (sym here ∙ free))) ∙ none);
}

-- a site whose server keeps its place
site_same : (old new : List ℕ) (site : VlSite) → Keeps old new → Contains old site.host → 0 < site.host → relocated_site old new site ≡ site
site_same old new site keeps among low =
    let here = (is_at old site.host among).here in
    ap (λ (h : ℕ). record site { host = h }) (keeps.kept (place old site.host) (λ free. not_none site.host low (sym here ∙ free)) ∙ here)

sites_same : (old new : List ℕ) (sites : List VlSite) → Keeps old new → AllByRecursion (λ site. Contains old site.host) sites
    → AllByRecursion (λ site. 0 < site.host) sites
    → map (relocated_site old new) sites ≡ sites
sites_same old new [] keeps among low = refl
sites_same old new (site ∷ sites) keeps among low =
    ap (λ (x : VlSite). x ∷ map (relocated_site old new) sites) (site_same old new site keeps among.0 low.0)
    ∙ ap (λ (xs : List VlSite). site ∷ xs) (sites_same old new sites keeps among.1 low.1)

entry_same : (s : Location) (new : List ℕ) (rw_id : ℕ) (o : Option VlEntry) → IsLocation s → Keeps s.addresses new → s.entry rw_id ≡ o
    → option_map (relocated s.addresses new) o ≡ o
entry_same s new rw_id None valid keeps at = refl
entry_same s new rw_id (Some e) valid keeps at =
    let is = valid.records rw_id e at in
    ap (λ (sites : List VlSite). Some (record e { sites = sites }))
    (sites_same s.addresses new e.sites keeps (recursion_from_All (λ site. Contains s.addresses site.host) e.sites (valid.hosts rw_id e at))
    (recursion_from_All (λ site. 0 < site.host) e.sites (λ k d within. (is.sites k d within).low)))

-- more addresses leave the entries
pub places_same : (s : Location) (new : List ℕ) → IsLocation s → Keeps s.addresses new → with_places new s ≡ with_addresses new s
places_same s new valid keeps =
    ap (λ (f : ℕ → Option VlEntry). record s { entry = f; addresses = new })
    (fun_ext (λ rw_id. entry_same s new rw_id (s.entry rw_id) valid keeps refl))
