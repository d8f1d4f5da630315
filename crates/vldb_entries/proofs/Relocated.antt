-- A database whose places have other addresses, over the same blocks.
use Rattle.std.proofs.Common.{◌≡◌, ◌≢◌, ℕ, zero, suc, ◌^◌, ◌<◌, Bool, true, false, eqb, List, [], ◌∷◌, length, get_or, map, Option, Some, None, refl, sym, ap, subst, ◌∙◌, ⊎_elim, inl, inr, arith}
use Rattle.std.specs.List.{All, AllByRecursion, Contains, list_any, position_or_len}
use Rattle.std.specs.Option.{option_map}
use Rattle.std.proofs.lemmas.Bool.{cases_eq, cases_lt, eqb-true, eq-eqb}
use Rattle.std.proofs.lemmas.List.{length-map}
use Rattle.std.proofs.lemmas.List.Elements.{All-from_recursion, Contains-get_or, at_from_Contains, recursion_from_All}
use Rattle.std.proofs.lemmas.List.Sums.{fails_before_first, passes_at_first, position_or_len_is}
use Rattle.db_blocks.proofs.Maps.{some_same, test_other}
use Rattle.vldb_entries.specs.declared.entries.VlEntry.{VlEntry}
use Rattle.vldb_entries.specs.declared.entries.VlSite.{VlSite}
use Rattle.vldb_entries.specs.Location.{Location, IsLocation, IsRecord, IsSite, MayBePlaces, has_id, has_repeat, relocated, relocated_site, repeats, with_places}
use Rattle.vldb_entries.specs.Forms.{block_of, place_of}

abbrev pub place : List ℕ → ℕ → ℕ
place addresses host = position_or_len (λ a. eqb a host) addresses

-- where an address stands that is among them
pub record IsAt (addresses : List ℕ) (host : ℕ) : Type 0 where
  pub below : place addresses host < length addresses
  pub here : get_or addresses (place addresses host) 0 ≡ host

pub is_at : (addresses : List ℕ) (host : ℕ) → Contains addresses host → IsAt addresses host
is_at addresses host among =
    let at = at_from_Contains addresses host among in
    let test : ℕ → Bool = λ a. eqb a host in
    let passes : eqb (get_or addresses at.0 0) host ≡ true = eq-eqb (get_or addresses at.0 0) host (at.2 0) in
    elim (cases_lt (place addresses host) (length addresses)) [
      | inl lt ↦ record {
        below = lt;
        here = eqb-true (get_or addresses (place addresses host) 0) host
            (passes_at_first test addresses 0 lt);
      }
      | inr le ↦ let fails : eqb (get_or addresses at.0 0) host ≡ false = fails_before_first test addresses at.0 0
          (omega (arith, at.1)) in absurd cc
    ]

-- an address of a place that no other place has
place_once : (addresses : List ℕ) (k : ℕ) → length addresses ≡ 255 → k < 255 → get_or addresses k 0 ≢ 0
    → ((i j : ℕ) → i < 255 → j < 255 → get_or addresses i 0 ≢ 0 → get_or addresses i 0 ≡ get_or addresses j 0 → i ≡ j)
    → place addresses (get_or addresses k 0) ≡ k
place_once addresses k size below used once =
    position_or_len_is (λ a. eqb a (get_or addresses k 0)) addresses k 0 (omega arith)
    (λ i lt. test_other (get_or addresses i 0) (get_or addresses k 0)
    (λ same. let is : k ≡ i = once k i below (omega arith) used (sym same) in absurd (omega arith)))
    (λ lt. eq-eqb (get_or addresses k 0) (get_or addresses k 0) refl)

-- ---- a site whose server has a place, before and after

record IsMovable (old new : List ℕ) (site : VlSite) : Type 0 where
  among : Contains old site.host
  used : get_or new (place old site.host) 0 ≢ 0

record ArePlaces (old new : List ℕ) : Type 0 where
  old_size : length old ≡ 255
  new_size : length new ≡ 255
  once : (i j : ℕ) → i < 255 → j < 255 → get_or new i 0 ≢ 0 → get_or new i 0 ≡ get_or new j 0 → i ≡ j

same_place : (old new : List ℕ) (site : VlSite) → ArePlaces old new → IsMovable old new site
    → place new (relocated_site old new site).host ≡ place old site.host
same_place old new site are is =
    let at = is_at old site.host is.among in
    place_once new (place old site.host) are.new_size (omega (arith, at.below, are.old_size)) is.used are.once

same_form : (old new : List ℕ) (site : VlSite) → ArePlaces old new → IsMovable old new site
    → place_of new (relocated_site old new site).host ≡ place_of old site.host
unfolding place_of
same_form old new site are is = rw (same_place old new site are is, are.new_size, are.old_size) refl

-- two such sites are of one server where they were
same_server : (old new : List ℕ) (a b : VlSite) → ArePlaces old new → IsMovable old new a → IsMovable old new b
    → eqb (relocated_site old new a).host (relocated_site old new b).host ≡ eqb a.host b.host
same_server old new a b are is_a is_b =
    ⊎_elim
    (λ (same : a.host ≡ b.host).
    eq-eqb (relocated_site old new a).host (relocated_site old new b).host (ap (λ (h : ℕ). get_or new (place old h) 0) same)
    ∙ sym (eq-eqb a.host b.host same))
    (λ (other : a.host ≢ b.host).
    test_other (relocated_site old new a).host (relocated_site old new b).host
    (λ same.
    let at_a = is_at old a.host is_a.among in
    let at_b = is_at old b.host is_b.among in
    let places : place old a.host ≡ place old b.host = are.once (place old a.host) (place old b.host)
    (omega (arith, at_a.below, are.old_size)) (omega (arith, at_b.below, are.old_size)) is_a.used same in
    other (sym at_a.here ∙ ap (λ (k : ℕ). get_or old k 0) places ∙ at_b.here))
    ∙ sym (test_other a.host b.host other))
    (cases_eq a.host b.host)

same_repeats : (old new : List ℕ) (a b : VlSite) → ArePlaces old new → IsMovable old new a → IsMovable old new b
    → repeats (relocated_site old new a) (relocated_site old new b) ≡ repeats a b
same_repeats old new a b are is_a is_b = rw (same_server old new a b are is_a is_b) refl

any_same : (old new : List ℕ) (a : VlSite) (sites : List VlSite) → ArePlaces old new → IsMovable old new a
    → AllByRecursion (IsMovable old new) sites
    → list_any (repeats (relocated_site old new a)) (map (relocated_site old new) sites) ≡ list_any (repeats a) sites
any_same old new a [] are is each = refl
any_same old new a (b ∷ sites) are is each =
    rw (same_repeats old new a b are is each.0, any_same old new a sites are is each.1) refl

repeat_same : (old new : List ℕ) (sites : List VlSite) → ArePlaces old new → AllByRecursion (IsMovable old new) sites
    → has_repeat (map (relocated_site old new) sites) ≡ has_repeat sites
repeat_same old new [] are each = refl
repeat_same old new (a ∷ sites) are each =
    rw (any_same old new a sites are each.0 each.1, repeat_same old new sites are each.1) refl

-- ---- lists of sites

map_same : (old new : List ℕ) (f g : VlSite → ℕ) (sites : List VlSite)
    → ((site : VlSite) → IsMovable old new site → f (relocated_site old new site) ≡ g site)
    → AllByRecursion (IsMovable old new) sites → map f (map (relocated_site old new) sites) ≡ map g sites
map_same old new f g [] same each = refl
map_same old new f g (a ∷ sites) same each =
    ap (λ (n : ℕ). n ∷ map f (map (relocated_site old new) sites)) (same a each.0)
    ∙ ap (λ (xs : List ℕ). g a ∷ xs) (map_same old new f g sites same each.1)

all_moved : (old new : List ℕ) (P Q : VlSite → Type 0) (sites : List VlSite)
    → ((site : VlSite) → IsMovable old new site → P site → Q (relocated_site old new site))
    → AllByRecursion (IsMovable old new) sites → AllByRecursion P sites → AllByRecursion Q (map (relocated_site old new) sites)
all_moved old new P Q [] so each are = tt
all_moved old new P Q (a ∷ sites) so each are = (so a each.0 are.0, all_moved old new P Q sites so each.1 are.1)

both : (P Q R : VlSite → Type 0) (sites : List VlSite) → ((site : VlSite) → P site → Q site → R site) → AllByRecursion P sites
    → AllByRecursion Q sites → AllByRecursion R sites
both P Q R [] so p q = tt
both P Q R (a ∷ sites) so p q = (so a p.0 q.0, both P Q R sites so p.1 q.1)

-- ---- an entry

movable : (s : Location) (new : List ℕ) (rw_id : ℕ) (e : VlEntry) → IsLocation s → MayBePlaces new s → s.entry rw_id ≡ Some e
    → AllByRecursion (IsMovable s.addresses new) e.sites
movable s new rw_id e valid may at =
    both (λ site. Contains s.addresses site.host) (λ site. get_or new (place s.addresses site.host) 0 ≢ 0)
    (IsMovable s.addresses new) e.sites
    (λ site among used. record { among = among; used = used })
    (recursion_from_All (λ site. Contains s.addresses site.host) e.sites (valid.hosts rw_id e at))
    (recursion_from_All (λ site. get_or new (place s.addresses site.host) 0 ≢ 0) e.sites (may.used rw_id e at))

are_places : (s : Location) (new : List ℕ) → IsLocation s → MayBePlaces new s → ArePlaces s.addresses new
are_places s new valid may = record { old_size = valid.places; new_size = may.places; once = may.once }

pub same_block : (s : Location) (new : List ℕ) (rw_id : ℕ) (e : VlEntry) → IsLocation s → MayBePlaces new s → s.entry rw_id ≡ Some e
    → block_of new (relocated s.addresses new e) ≡ block_of s.addresses e
unfolding block_of
same_block s new rw_id e valid may at =
    let old = s.addresses in
    let are = are_places s new valid may in
    let each = movable s new rw_id e valid may at in
    let count = length-map e.sites (relocated_site old new) in
    let p = map_same old new (λ site. place_of new site.host) (λ site. place_of old site.host) e.sites
    (λ site is. same_form old new site are is) each in
    let q = map_same old new (λ site. site.partition) (λ site. site.partition) e.sites (λ site is. refl) each in
    let f = map_same old new (λ site. site.flags) (λ site. site.flags) e.sites (λ site is. refl) each in
    rw (count, p, q, f) refl

low_of : (xs : List ℕ) (k : ℕ) → AllByRecursion (λ n. n < 2 ^ 32) xs → get_or xs k 0 < 2 ^ 32
low_of [] k low = omega arith
low_of (x ∷ xs) zero low = low.0
low_of (x ∷ xs) (suc k) low = low_of xs k low.1

more_than : (n : ℕ) → n ≢ 0 → 0 < n
more_than zero other = absurd (other refl)
more_than (suc n) other = omega arith

record_moved : (s : Location) (new : List ℕ) (rw_id : ℕ) (e : VlEntry) → IsLocation s → MayBePlaces new s → s.entry rw_id ≡ Some e
    → IsRecord (relocated s.addresses new e)
record_moved s new rw_id e valid may at =
    let old = s.addresses in
    let is = valid.records rw_id e at in
    let each = movable s new rw_id e valid may at in
    record {
      name = is.name;
      flags = is.flags;
      rw_low = is.rw_low;
      rw = is.rw;
      ro = is.ro;
      backup = is.backup;
      clone = is.clone;
      ids = is.ids;
      count = omega (arith, is.count, length-map e.sites (relocated_site old new));
      sites = All-from_recursion IsSite (map (relocated_site old new) e.sites)
          (all_moved old new IsSite IsSite e.sites
          (λ site can site_is. record {
            low = more_than (get_or new (place old site.host) 0) can.used;
            host = low_of new (place old site.host) may.words;
            partition = site_is.partition;
            flags = site_is.flags;
          })
          each (recursion_from_All IsSite e.sites is.sites));
      repeats = repeat_same old new e.sites (are_places s new valid may) each ∙ is.repeats;
      lock_op = is.lock_op;
      lock_moment = is.lock_moment;
    }

hosts_moved : (s : Location) (new : List ℕ) (rw_id : ℕ) (e : VlEntry) → IsLocation s → MayBePlaces new s → s.entry rw_id ≡ Some e
    → All (λ site. Contains new site.host) (relocated s.addresses new e).sites
hosts_moved s new rw_id e valid may at =
    let old = s.addresses in
    let each = movable s new rw_id e valid may at in
    All-from_recursion (λ site. Contains new site.host) (map (relocated_site old new) e.sites)
    (all_moved old new (λ site. Contains old site.host) (λ site. Contains new site.host) e.sites
    (λ site can among. let at_old = is_at old site.host among in Contains-get_or new (place old site.host) 0
    (omega (arith, at_old.below, valid.places, may.places)))
    each (recursion_from_All (λ site. Contains old site.host) e.sites (valid.hosts rw_id e at)))

-- ---- the database

mapped : (f : VlEntry → VlEntry) (o : Option VlEntry) (y : VlEntry) → option_map f o ≡ Some y → (x : VlEntry) × (o ≡ Some x) × (f x ≡ y)
mapped f None y is = absurd cc
mapped f (Some x) y is = (x, refl, some_same is)

each_moved : (s : Location) (new : List ℕ) (P : ℕ → VlEntry → Type 0)
    → ((rw_id : ℕ) (e : VlEntry) → s.entry rw_id ≡ Some e → P rw_id (relocated s.addresses new e))
    → (rw_id : ℕ) (e : VlEntry) → (with_places new s).entry rw_id ≡ Some e → P rw_id e
each_moved s new P so rw_id e at =
    let m = mapped (relocated s.addresses new) (s.entry rw_id) e at in
    subst (P rw_id) m.2 (so rw_id m.0 m.1)

pub location_places : (s : Location) (new : List ℕ) → IsLocation s → MayBePlaces new s → IsLocation (with_places new s)
location_places s new valid may = record {
  ids = each_moved s new (λ a f. f.rw ≡ a) (λ a f at. valid.ids a f at);
  records = each_moved s new (λ a f. IsRecord f) (λ a f at. record_moved s new a f valid may at);
  names =
      λ a b f g at_a at_b same. each_moved s new
      (λ z h. (c : ℕ) (k : VlEntry) → (with_places new s).entry c ≡ Some k → h.name ≡ k.name → z ≡ c)
      (λ z h at. each_moved s new (λ c k. h.name ≡ k.name → z ≡ c) (λ c k other eq. valid.names z c h k at other eq))
      a f at_a b g at_b same;
  apart =
      λ a b id f g at_a at_b has_f has_g. each_moved s new
      (λ z h. (c : ℕ) (k : VlEntry) → (with_places new s).entry c ≡ Some k → has_id id h ≡ true → has_id id k ≡ true → z ≡ c)
      (λ z h at. each_moved s new (λ c k. has_id id h ≡ true → has_id id k ≡ true → z ≡ c)
      (λ c k other x y. valid.apart z c id h k at other x y))
      a f at_a b g at_b has_f has_g;
  hosts = each_moved s new (λ a f. All (λ site. Contains new site.host) f.sites) (λ a f at. hosts_moved s new a f valid may at);
  places = may.places;
  words = may.words;
  once = may.once;
  next = valid.next;
}
