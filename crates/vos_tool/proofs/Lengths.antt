-- How long a call is.
use Rattle.std.proofs.Common.{◌≡◌, ℕ, ◌+◌, ◌*◌, ◌≤◌, List, [], ◌∷◌, ◌++◌, length, arith}
use Rattle.std.specs.List.{flat_map}
use Rattle.std.proofs.lemmas.List.{length-append}
use Rattle.xdr_base.specs.Spelling.{opaque, signed, word}
use Rattle.call_grammar.specs.Items.{xdr_text}
use Rattle.call_grammar.specs.Lists.{listed}
use Rattle.call_grammar.proofs.Lengths.{opaque_len}
use Rattle.vl_calls.specs.Calls.{HasSpelling, spelling}
use Rattle.vl_calls.specs.Entries.{IsGiven, given_text, site_text}
use Rattle.vl_calls.specs.declared.calls.GivenEntry.{GivenEntry}
use Rattle.vl_calls.specs.declared.calls.VlCall.{VlCall}
use Rattle.vl_calls.specs.declared.calls.VlCall.TheVariants as call
use Rattle.vldb_entries.specs.declared.entries.VlSite.{VlSite}

site_len : (site : VlSite) → length (site_text xdr_text site) ≤ 12
unfolding site_text
site_len site =
    omega (
      arith,
      length-append (word site.host ++ word site.partition) (word site.flags),
      length-append (word site.host)
          (word site.partition),
    )

sites_len : (sites : List VlSite) → length (flat_map (site_text xdr_text) sites) ≤ 12 * length sites
sites_len [] = omega arith
sites_len (site ∷ sites) =
    let first = site_len site in
    let rest = sites_len sites in
    grind (arith, length-append (site_text xdr_text site) (flat_map (site_text xdr_text) sites), first, rest)

given_len : (e : GivenEntry) → IsGiven e → length (given_text xdr_text e) ≤ 3346
unfolding given_text IsGiven
given_len e is =
    let sites = listed xdr_text (site_text xdr_text) e.sites in
    let c : List ℕ = sites ++ [] in
    let name_low = is.0 in
    let count_low = is.1.1.1.1.1.1.0 in
    let sites_low = sites_len e.sites in
    omega (
      arith,
      length-append (opaque e.name) (word e.flags ++ (word e.rw ++ (word e.ro ++ (word e.backup ++ (word e.clone_id ++ c))))),
      length-append (word e.flags) (word e.rw ++ (word e.ro ++ (word e.backup ++ (word e.clone_id ++ c)))),
      length-append (word e.rw) (word e.ro ++ (word e.backup ++ (word e.clone_id ++ c))),
      length-append (word e.ro) (word e.backup ++ (word e.clone_id ++ c)),
      length-append (word e.backup) (word e.clone_id ++ c),
      length-append (word e.clone_id) c,
      length-append sites [],
      length-append (word (length e.sites)) (flat_map (site_text xdr_text) e.sites),
      opaque_len e.name,
      name_low,
      count_low,
      sites_low,
    )

pub spelling_len : (c : VlCall) → HasSpelling c → length (spelling c) ≤ 2097140
spelling_len (call.GetNewVolumeId bump) is = omega arith
spelling_len (call.CreateEntry e) is =
    omega (arith, length-append (word 2) (given_text xdr_text e ++ []), length-append (given_text xdr_text e) [], given_len e is.0)
spelling_len (call.DeleteEntry id volume_type) is = omega arith
spelling_len (call.GetEntryById id volume_type) is = omega arith
spelling_len (call.GetEntryByName name) is =
    let low = is.0 in omega (arith, length-append (word 5) (opaque name ++ []), length-append (opaque name) [], opaque_len name, low)
spelling_len (call.ReplaceEntry id volume_type e mask) is =
    let last : List ℕ = word mask ++ [] in
    let behind : List ℕ = given_text xdr_text e ++ last in
    omega (
      arith,
      length-append (word 6) (word id ++ (signed volume_type ++ behind)),
      length-append (word id) (signed volume_type ++ behind),
      length-append (signed volume_type) behind,
      length-append (given_text xdr_text e) last,
      given_len e is.1.1.0,
    )
spelling_len (call.SetLock id volume_type operation) is = omega arith
spelling_len (call.ReleaseLock id volume_type mask) is = omega arith
spelling_len (call.ListAttributes after host partition locked) is = omega arith
spelling_len call.GetAddrs is = omega arith
spelling_len (call.ChangeAddr from to) is = omega arith
spelling_len call.Probe is = omega arith

pub spelled_len : (c : VlCall) (bytes : List ℕ) → HasSpelling c → bytes ≡ spelling c → length bytes ≤ 2097140
spelled_len c bytes has is = rw is (spelling_len c has)
