-- What passes the tests of an entry is one that the database may hold, and nothing else is.
use Rattle.std.proofs.Common.{◌≡◌, ℕ, zero, suc, ◌<◌, ◌≤◌, ◌^◌, Bool, true, not, ◌&&◌, eqb, leb, List, length, get_or, arith}
use Rattle.std.specs.List.{All, list_all}
use Rattle.std.proofs.lemmas.Bool.{and_from, and_parts, le-leb, leb-true, not-true, not_from_false}
use Rattle.std.proofs.lemmas.List.Sums.{AllPass-from_list_all, list_all-from_AllPass}
use Rattle.vldb_entries.specs.declared.entries.VlEntry.{VlEntry}
use Rattle.vldb_entries.specs.declared.entries.VlSite.{VlSite}
use Rattle.vldb_entries.specs.Location.{IsRecord, IsSite, has_equal_ids, has_repeat, is_name}
use Rattle.vldb_entries.proofs.EntryAgain.{not_zero}
use Rattle.vl_service.specs.Fitting.{entry_fits, ids_fit, site_fits, sites_fit}

above_zero : (n : ℕ) → not (eqb n 0) ≡ true → 0 < n
above_zero zero some = absurd cc
above_zero (suc n) some = omega arith

-- ---- a site

four : (a b c d : Bool) → (a && b && c && d) ≡ true → (a ≡ true) × (b ≡ true) × (c ≡ true) × (d ≡ true)
four a b c d all =
    let p = and_parts (a && b && c) d all in
    let q = and_parts (a && b) c p.0 in
    let r = and_parts a b q.0 in
    (r.0, r.1, q.1, p.1)

four_from : (a b c d : Bool) → a ≡ true → b ≡ true → c ≡ true → d ≡ true → (a && b && c && d) ≡ true
four_from a b c d is_a is_b is_c is_d = and_from (a && b && c) d (and_from (a && b) c (and_from a b is_a is_b) is_c) is_d

site_is : (site : VlSite) → site_fits site ≡ true → IsSite site
site_is site fits =
    let p = four (not (eqb site.host 0)) (leb site.host 4294967295) (leb site.partition 255) (leb site.flags 255) fits in
    let host : site.host ≤ 4294967295 = leb-true site.host 4294967295 p.1 in
    record {
      low = above_zero site.host p.0;
      host = omega (arith, host);
      partition = leb-true site.partition 255 p.2;
      flags = leb-true site.flags 255 p.3;
    }

site_fitting : (site : VlSite) → IsSite site → site_fits site ≡ true
site_fitting site is =
    four_from (not (eqb site.host 0)) (leb site.host 4294967295) (leb site.partition 255) (leb site.flags 255)
    (not_from_false (eqb site.host 0) (not_zero site.host is.low)) (le-leb site.host 4294967295 (omega (arith, is.host)))
    (le-leb site.partition 255 is.partition) (le-leb site.flags 255 is.flags)

-- ---- sites

sites_are : (sites : List VlSite) → list_all site_fits sites ≡ true → All IsSite sites
sites_are sites fit = λ k d within. site_is (get_or sites k d) (AllPass-from_list_all site_fits sites fit k d within)

sites_fitting : (sites : List VlSite) → All IsSite sites → list_all site_fits sites ≡ true
sites_fitting sites all = list_all-from_AllPass site_fits sites (λ k d within. site_fitting (get_or sites k d) (all k d within))

-- ---- an entry

pub record_is : (e : VlEntry) → e.flags < 2 ^ 32 → e.lock_op < 2 ^ 32 → e.lock_moment < 2 ^ 32 → entry_fits e ≡ true → IsRecord e
record_is e flags operation moment fits =
    let p = four (is_name e.name) (ids_fit e.rw e.ro e.backup e.clone_id) (not (has_equal_ids e.rw e.ro e.backup))
    (sites_fit e.sites) fits in
    let last = and_parts (not (eqb e.rw 0) && leb e.rw 2147483647 && leb e.ro 2147483647 && leb e.backup 2147483647)
    (leb e.clone_id 2147483647) p.1 in
    let ids = four (not (eqb e.rw 0)) (leb e.rw 2147483647) (leb e.ro 2147483647) (leb e.backup 2147483647) last.0 in
    let sites = and_parts (leb (length e.sites) 13 && list_all site_fits e.sites) (not (has_repeat e.sites)) p.3 in
    let counted = and_parts (leb (length e.sites) 13) (list_all site_fits e.sites) sites.0 in
    record {
      name = p.0;
      flags = flags;
      rw_low = above_zero e.rw ids.0;
      rw = leb-true e.rw 2147483647 ids.1;
      ro = leb-true e.ro 2147483647 ids.2;
      backup = leb-true e.backup 2147483647 ids.3;
      clone = leb-true e.clone_id 2147483647 last.1;
      ids = not-true (has_equal_ids e.rw e.ro e.backup) p.2;
      count = leb-true (length e.sites) 13 counted.0;
      sites = sites_are e.sites counted.1;
      repeats = not-true (has_repeat e.sites) sites.1;
      lock_op = operation;
      lock_moment = moment;
    }

pub record_fits : (e : VlEntry) → IsRecord e → entry_fits e ≡ true
record_fits e is =
    four_from (is_name e.name) (ids_fit e.rw e.ro e.backup e.clone_id) (not (has_equal_ids e.rw e.ro e.backup)) (sites_fit e.sites)
    is.name
    (and_from (not (eqb e.rw 0) && leb e.rw 2147483647 && leb e.ro 2147483647 && leb e.backup 2147483647) (leb e.clone_id 2147483647)
    (four_from (not (eqb e.rw 0)) (leb e.rw 2147483647) (leb e.ro 2147483647) (leb e.backup 2147483647)
    (not_from_false (eqb e.rw 0) (not_zero e.rw is.rw_low)) (le-leb e.rw 2147483647 is.rw) (le-leb e.ro 2147483647 is.ro)
    (le-leb e.backup 2147483647 is.backup))
    (le-leb e.clone_id 2147483647 is.clone))
    (not_from_false (has_equal_ids e.rw e.ro e.backup) is.ids)
    (and_from (leb (length e.sites) 13 && list_all site_fits e.sites) (not (has_repeat e.sites))
    (and_from (leb (length e.sites) 13) (list_all site_fits e.sites) (le-leb (length e.sites) 13 is.count) (sites_fitting e.sites is.sites))
    (not_from_false (has_repeat e.sites) is.repeats))
