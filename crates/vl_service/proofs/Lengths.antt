-- How long an answer is.
use Rattle.std.proofs.Common.{ℕ, ◌+◌, ◌≤◌, List, [], ◌∷◌, ◌++◌, length, arith}
use Rattle.std.specs.List.{AllByRecursion}
use Rattle.std.proofs.lemmas.List.{length-append}
use Rattle.xdr_base.specs.Spelling.{opaque, word}
use Rattle.call_grammar.specs.Items.{xdr_text}
use Rattle.call_grammar.specs.Lists.{listed}
use Rattle.call_grammar.proofs.Lengths.{listed_len, opaque_len}
use Rattle.vl_calls.specs.Answers.{AnswerHasSpelling, answer_spelling}
use Rattle.vl_calls.specs.Entries.{IsEntryText, entry_text, site_text}
use Rattle.vl_calls.specs.declared.answers.VlAnswer.{VlAnswer}
use Rattle.vl_calls.specs.declared.answers.VlAnswer.TheVariants as answer
use Rattle.vldb_entries.specs.declared.entries.VlEntry.{VlEntry}
use Rattle.vldb_entries.specs.declared.entries.VlSite.{VlSite}

site_len : (site : VlSite) → length (site_text xdr_text site) ≤ 12
unfolding site_text
site_len site =
    omega (
      arith,
      length-append (word site.host ++ word site.partition) (word site.flags),
      length-append (word site.host)
          (word site.partition),
    )

sites_len : (sites : List VlSite) → AllByRecursion (λ site. length (site_text xdr_text site) ≤ 12) sites
sites_len [] = tt
sites_len (site ∷ sites) = (site_len site, sites_len sites)

entry_len : (e : VlEntry) → IsEntryText e → length (entry_text xdr_text e) ≤ 3354
unfolding entry_text IsEntryText
entry_len e is =
    let sites = listed xdr_text (site_text xdr_text) e.sites in
    let last : List ℕ = word e.lock_moment ++ [] in
    let c : List ℕ = sites ++ (word e.lock_op ++ last) in
    let name_low = is.0 in
    let count_low = is.1.1.1.1.1.1.0 in
    let sites_low = listed_len (site_text xdr_text) 12 e.sites (sites_len e.sites) in
    omega (
      arith,
      length-append (opaque e.name) (word e.flags ++ (word e.rw ++ (word e.ro ++ (word e.backup ++ (word e.clone_id ++ c))))),
      length-append (word e.flags) (word e.rw ++ (word e.ro ++ (word e.backup ++ (word e.clone_id ++ c)))),
      length-append (word e.rw) (word e.ro ++ (word e.backup ++ (word e.clone_id ++ c))),
      length-append (word e.ro) (word e.backup ++ (word e.clone_id ++ c)),
      length-append (word e.backup) (word e.clone_id ++ c),
      length-append (word e.clone_id) c,
      length-append sites (word e.lock_op ++ last),
      length-append (word e.lock_op) last,
      length-append (word e.lock_moment) [],
      opaque_len e.name,
      name_low,
      count_low,
      sites_low,
    )

entries_len : (es : List VlEntry) → AllByRecursion IsEntryText es → AllByRecursion (λ e. length (entry_text xdr_text e) ≤ 3354) es
entries_len [] all = tt
entries_len (e ∷ es) all = (entry_len e all.0, entries_len es all.1)

hosts_len : (hosts : List ℕ) → AllByRecursion (λ host. length (word host) ≤ 4) hosts
hosts_len [] = tt
hosts_len (host ∷ hosts) = (omega arith, hosts_len hosts)

pub answer_len : (a : VlAnswer) → AnswerHasSpelling a → length (answer_spelling a) ≤ 1048576
answer_len answer.Done is = omega arith
answer_len (answer.Id id) is = omega arith
answer_len (answer.Entry e) is = omega (arith, entry_len e is)
answer_len (answer.Entries es) is =
    let count = is.0 in
    omega (arith, count, listed_len (entry_text xdr_text) 3354 es (entries_len es is.1))
answer_len (answer.Hosts hosts) is =
    let count : length hosts ≤ 255 = is in
    omega (arith, count, listed_len word 4 hosts (hosts_len hosts))
