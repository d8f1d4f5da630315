-- An entry that passed the tests of what a call gives can be stored.
use Rattle.std.proofs.Common.{◌≡◌, ℕ, zero, suc, ◌<◌, ◌≤◌, Bool, true, false, not, ◌||◌, eqb, ltb, List, length, get_or, refl, arith}
use Rattle.std.specs.List.{All, list_any}
use Rattle.std.specs.Prelude.{bit_and}
use Rattle.std.proofs.lemmas.Bool.{eqb-true, false_from_ne_true, ltb-false, or_parts}
use Rattle.std.proofs.lemmas.Nat.{and_le_r}
use Rattle.std.proofs.lemmas.List.Folds.{list_any_at}
use Rattle.vl_calls.specs.declared.calls.GivenEntry.{GivenEntry}
use Rattle.vldb_entries.specs.declared.entries.VlSite.{VlSite}
use Rattle.vldb_entries.specs.Location.{IsSite, has_equal_ids, has_repeat, is_name}
use Rattle.vl_service.specs.Entering.{CanBeStored}
use Rattle.vl_service.specs.Meaning.{is_bad_entry}

is_not : (b : Bool) → not b ≡ false → b ≡ true
is_not true none = refl
is_not false none = absurd cc

-- what no site meets, none of them does
pub no_site : (test : VlSite → Bool) (sites : List VlSite) (k : ℕ) (d : VlSite) → list_any test sites ≡ false → k < length sites
    → test (get_or sites k d) ≡ false
no_site test sites k d none within =
    false_from_ne_true (test (get_or sites k d)) (λ met. let some = list_any_at test sites k d within met in absurd cc)

not_below : (n : ℕ) → eqb n 0 ≡ false → 0 < n
not_below zero some = absurd cc
not_below (suc n) some = omega arith

abbrev pub lacks_word : VlSite → Bool
lacks_word site = eqb site.host 0 || ltb 4294967295 site.host

abbrev pub is_off : VlSite → Bool
is_off site = ltb 255 site.partition

abbrev pub is_flagged : VlSite → Bool
is_flagged site = ltb 15 site.flags

site_is : (site : VlSite) → lacks_word site ≡ false → is_off site ≡ false → is_flagged site ≡ false → IsSite site
site_is site word off flagged =
    let p = or_parts (eqb site.host 0) (ltb 4294967295 site.host) word in
    let host : site.host ≤ 4294967295 = ltb-false 4294967295 site.host p.1 in
    let flags : site.flags ≤ 15 = ltb-false 15 site.flags flagged in
    record {
      low = not_below site.host p.0;
      host = omega (arith, host);
      partition = ltb-false 255 site.partition off;
      flags = omega (arith, flags);
    }

pub sites_are : (sites : List VlSite) → list_any lacks_word sites ≡ false → list_any is_off sites ≡ false
    → list_any is_flagged sites ≡ false → All IsSite sites
sites_are sites word off flagged = λ k d within.
    site_is (get_or sites k d) (no_site lacks_word sites k d word within) (no_site is_off sites k d off within)
    (no_site is_flagged sites k d flagged within)

pub can_be_stored : (e : GivenEntry) → is_name e.name ≡ true → length e.sites ≤ 13 → list_any lacks_word e.sites ≡ false
    → list_any is_off e.sites ≡ false → has_repeat e.sites ≡ false → is_bad_entry e ≡ false → CanBeStored e
can_be_stored e name count word off repeats bad operation moment op_low moment_low =
    let low = eqb e.rw 0 in
    let rw = ltb 2147483647 e.rw in
    let ro = ltb 2147483647 e.ro in
    let backup = ltb 2147483647 e.backup in
    let clone = ltb 2147483647 e.clone_id in
    let equal = has_equal_ids e.rw e.ro e.backup in
    let first = or_parts _ _ bad in
    let second = or_parts _ _ first.0 in
    let third = or_parts _ _ second.0 in
    let p = or_parts _ _ third.0 in
    let q = or_parts _ _ p.0 in
    let r = or_parts _ _ q.0 in
    let t = or_parts low rw r.0 in
    let kept : bit_and e.flags 28672 ≡ e.flags = eqb-true (bit_and e.flags 28672) e.flags
    (is_not (eqb (bit_and e.flags 28672) e.flags) second.1) in
    record {
      name = name;
      flags = omega (arith, kept, and_le_r e.flags 28672);
      rw_low = not_below e.rw t.0;
      rw = ltb-false 2147483647 e.rw t.1;
      ro = ltb-false 2147483647 e.ro r.1;
      backup = ltb-false 2147483647 e.backup q.1;
      clone = ltb-false 2147483647 e.clone_id p.1;
      ids = third.1;
      count = count;
      sites = sites_are e.sites word off first.1;
      repeats = repeats;
      lock_op = op_low;
      lock_moment = moment_low;
    }
