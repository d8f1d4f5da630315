-- Entries that are spelled at a reader's place stand there.
use Rattle.std.proofs.Common.{◌≡◌, ℕ, List, ◌++◌, refl, append_assoc, ◌∙◌, arith}
use Rattle.xdr_base.specs.Reading.{Reading}
use Rattle.xdr_base.specs.Spelling.{word}
use Rattle.call_grammar.specs.Items.{xdr_text}
use Rattle.call_grammar.specs.Reading.{xdr_item}
use Rattle.call_grammar.proofs.Again.{Again, number_again, text_again, list_again, values_again}
use Rattle.vl_calls.specs.declared.calls.GivenEntry.{GivenEntry}
use Rattle.vldb_entries.specs.declared.entries.VlEntry.{VlEntry}
use Rattle.vldb_entries.specs.declared.entries.VlSite.{VlSite}
use Rattle.vl_calls.specs.Entries.{site_at, site_text, SiteHasItsBits, Part, Name, Number, Sites, part_value, part_at, part_text, IsPart, PartHasItsBits, given_parts, given_values, given_at, given_text, IsGiven, GivenHasItsBits, entry_parts, entry_values, entry_at, entry_text, IsEntryText, EntryHasItsBits}

site_again : (s : VlSite) (from : Reading) (after : List ℕ) → SiteHasItsBits s → from.rest ≡ site_text xdr_text s ++ after
    → Again (site_at xdr_item from) s after
unfolding site_at site_text
site_again s from after bits e =
    let host = number_again s.host from (word s.partition ++ (word s.flags ++ after)) bits.0
    (e ∙ append_assoc (word s.host ++ word s.partition) (word s.flags) after
    ∙ append_assoc (word s.host) (word s.partition) (word s.flags ++ after)) in
    let partition = number_again s.partition host.behind (word s.flags ++ after) bits.1 host.rest in
    let flags = number_again s.flags partition.behind after bits.2 partition.rest in
    record { behind = flags.behind; is = rw (host.is, partition.is, flags.is) refl; rest = flags.rest }

part_again : (part : Part) (v : part_value part) (from : Reading) (after : List ℕ) → IsPart part v → PartHasItsBits part v
    → from.rest ≡ part_text xdr_text part v ++ after → Again (part_at xdr_item part from) v after
part_again Name name from after bounded bits e = text_again name from after bounded e
part_again Number n from after bounded bits e = number_again n from after bits e
part_again Sites sites from after bounded bits e =
    list_again 255 (omega arith) (site_at xdr_item) (site_text xdr_text) SiteHasItsBits site_again sites from after bounded bits e

pub given_again : (e : GivenEntry) (from : Reading) (after : List ℕ) → IsGiven e → GivenHasItsBits e → from.rest ≡ given_text xdr_text e
    ++ after → Again (given_at xdr_item from) e after
unfolding given_at given_text IsGiven GivenHasItsBits
given_again e from after bounded bits spelt =
    let v = values_again part_value (part_at xdr_item) (part_text xdr_text) IsPart PartHasItsBits part_again given_parts
    (given_values e) from after bounded bits spelt in
    record { behind = v.behind; is = rw v.is refl; rest = v.rest }

pub entry_again : (e : VlEntry) (from : Reading) (after : List ℕ) → IsEntryText e × EntryHasItsBits e → from.rest ≡ entry_text xdr_text e
    ++ after → Again (entry_at xdr_item from) e after
unfolding entry_at entry_text IsEntryText EntryHasItsBits
entry_again e from after fits spelt =
    let v = values_again part_value (part_at xdr_item) (part_text xdr_text) IsPart PartHasItsBits part_again entry_parts
    (entry_values e) from after fits.0 fits.1 spelt in
    record { behind = v.behind; is = rw v.is refl; rest = v.rest }
