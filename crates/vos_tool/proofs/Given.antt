-- Entries that a call may give.
use Rattle.std.proofs.Common.{◌≡◌, ℕ, ◌+◌, ◌≤◌, Bool, true, false, ◌&&◌, leb, List, ◌∷◌, length, refl, arith}
use Rattle.std.specs.List.{list_all}
use Rattle.std.proofs.lemmas.Bool.Decides.{nat_tests}
use Rattle.vl_calls.specs.Entries.{IsGiven}
use Rattle.vl_calls.specs.declared.calls.GivenEntry.{GivenEntry}
use Rattle.vldb_entries.specs.declared.entries.VlEntry.{VlEntry}
use Rattle.vldb_entries.specs.declared.entries.VlSite.{VlSite}
use Rattle.vos_tool.specs.Adding.{new_entry}
use Rattle.vos_tool.specs.Answers.{IsEntry, is_site}
use Rattle.vos_tool.specs.Changing.{entry_with}
use Rattle.afs_commands.specs.declared.places.Place.{Place}

both : (a b : Bool) → (a && b) ≡ true → (a ≡ true) × (b ≡ true)
both true b is = (refl, is)
both false b is = cc

at_most : (a b : ℕ) → leb a b ≡ true → a ≤ b
at_most a b is = grind (arith, nat_tests)

is_given : (e : GivenEntry) → length e.name ≤ 255 → length e.sites ≤ 255 → IsGiven e
unfolding IsGiven
is_given e name sites = (name, (tt, (tt, (tt, (tt, (tt, (sites, tt)))))))

pub given_fits : (e : VlEntry) (sites : List VlSite) → IsEntry e → length sites ≤ length e.sites + 1 → IsGiven (entry_with e sites)
given_fits e sites is few =
    let parts = both (leb (length e.name) 64) (leb (length e.sites) 13 && list_all is_site e.sites) is in
    let name = at_most (length e.name) 64 parts.0 in
    let most = at_most (length e.sites) 13 (both (leb (length e.sites) 13) (list_all is_site e.sites) parts.1).0 in
    is_given (entry_with e sites) (omega arith) (omega arith)

pub new_fits : (name : List ℕ) (place : Place) (id : ℕ) → length name ≤ 255 → IsGiven (new_entry name place id)
new_fits name place id low = is_given (new_entry name place id) low (omega arith)
