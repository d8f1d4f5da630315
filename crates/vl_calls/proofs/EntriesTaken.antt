-- Entries that stand at a reader's place are spelled there.
use Rattle.std.proofs.Common.{◌≡◌, ℕ, ◌++◌, Some, subst}
use Rattle.xdr_base.specs.Reading.{Reading}
use Rattle.xdr_base.specs.Spelling.{word}
use Rattle.call_grammar.specs.Items as item
use Rattle.call_grammar.specs.Items.{xdr_text}
use Rattle.call_grammar.specs.Laws.{IsBytes}
use Rattle.call_grammar.specs.Reading.{◌>>=◌, values_at, xdr_item}
use Rattle.call_grammar.proofs.ItemsTaken.{Takes, then_takes, number_takes, text_takes}
use Rattle.call_grammar.proofs.Taken.{bind_some, given_is, list_takes, values_take}
use Rattle.vl_calls.specs.declared.calls.GivenEntry.{GivenEntry}
use Rattle.vldb_entries.specs.declared.entries.VlEntry.{VlEntry}
use Rattle.vldb_entries.specs.declared.entries.VlSite.{VlSite}
use Rattle.vl_calls.specs.Entries.{site_at, site_text, SiteHasItsBits, Part, Name, Number, Sites, part_value, part_at, part_text, IsPart, PartHasItsBits, given_parts, given_from, given_at, given_text, IsGiven, GivenHasItsBits, entry_parts, entry_from, entry_at, entry_text, IsEntryText, EntryHasItsBits}

abbrev site_of : ℕ → ℕ → ℕ → VlSite
site_of host partition flags = record { host = host; partition = partition; flags = flags }

site_takes : (from : Reading) (x : VlSite × Reading) → IsBytes from.rest → site_at xdr_item from ≡ Some x
    → Takes from (site_text xdr_text x.0) x.1 × SiteHasItsBits x.0
unfolding site_at site_text
site_takes from x fits e =
    let a = bind_some (xdr_item item.Number from)
    (λ h. xdr_item item.Number h.1 >>= λ p. xdr_item item.Number p.1 >>= λ f. Some (site_of h.0 p.0 f.0, f.1)) x e in
    let b = bind_some (xdr_item item.Number a.0.1) (λ p. xdr_item item.Number p.1 >>= λ f. Some (site_of a.0.0 p.0 f.0, f.1)) x a.2 in
    let c = bind_some (xdr_item item.Number b.0.1) (λ f. Some (site_of a.0.0 b.0.0 f.0, f.1)) x b.2 in
    let host = number_takes from a.0 fits a.1 in
    let partition = number_takes a.0.1 b.0 host.0.left b.1 in
    let flags = number_takes b.0.1 c.0 partition.0.left c.1 in
    let two = then_takes from a.0.1 b.0.1 (word a.0.0) (word b.0.0) host.0 partition.0 in
    let all = then_takes from b.0.1 c.0.1 (word a.0.0 ++ word b.0.0) (word c.0.0) two flags.0 in
    subst (λ (y : VlSite × Reading). Takes from (word y.0.host ++ word y.0.partition ++ word y.0.flags) y.1 × SiteHasItsBits y.0)
    (given_is (site_of a.0.0 b.0.0 c.0.0, c.0.1) x c.2)
    (all, (host.1, partition.1, flags.1))

part_takes : (part : Part) (from : Reading) (x : part_value part × Reading) → IsBytes from.rest → part_at xdr_item part from ≡ Some x
    → Takes from (part_text xdr_text part x.0) x.1 × IsPart part x.0 × PartHasItsBits part x.0
part_takes Name from x fits e = let t = text_takes from x fits e in (t.0, t.1, tt)
part_takes Number from x fits e = let t = number_takes from x fits e in (t.0, tt, t.1)
part_takes Sites from x fits e = list_takes 255 (site_at xdr_item) (site_text xdr_text) SiteHasItsBits site_takes from x fits e

pub given_takes : (from : Reading) (x : GivenEntry × Reading) → IsBytes from.rest → given_at xdr_item from ≡ Some x
    → Takes from (given_text xdr_text x.0) x.1 × IsGiven x.0 × GivenHasItsBits x.0
unfolding given_at given_text IsGiven GivenHasItsBits
given_takes from x fits e =
    let v = bind_some (values_at part_value (part_at xdr_item) given_parts from) (λ v. Some (given_from v.0, v.1)) x e in
    let all = values_take part_value (part_at xdr_item)
    (part_text xdr_text) IsPart PartHasItsBits part_takes given_parts from v.0 fits v.1 in
    let is = given_is (given_from v.0.0, v.0.1) x v.2 in (
      subst (λ (y : GivenEntry × Reading). Takes from (given_text xdr_text y.0) y.1) is all.takes,
      subst
          (λ (y : GivenEntry × Reading). IsGiven y.0) is all.bounded,
      subst (λ (y : GivenEntry × Reading). GivenHasItsBits y.0) is all.bits,
    )

pub entry_takes : (from : Reading) (x : VlEntry × Reading) → IsBytes from.rest → entry_at xdr_item from ≡ Some x
    → Takes from (entry_text xdr_text x.0) x.1 × (IsEntryText x.0 × EntryHasItsBits x.0)
unfolding entry_at entry_text IsEntryText EntryHasItsBits
entry_takes from x fits e =
    let v = bind_some (values_at part_value (part_at xdr_item) entry_parts from) (λ v. Some (entry_from v.0, v.1)) x e in
    let all = values_take part_value (part_at xdr_item)
    (part_text xdr_text) IsPart PartHasItsBits part_takes entry_parts from v.0 fits v.1 in
    let is = given_is (entry_from v.0.0, v.0.1) x v.2 in (
      subst (λ (y : VlEntry × Reading). Takes from (entry_text xdr_text y.0) y.1) is
          all.takes,
      (
        subst (λ (y : VlEntry × Reading). IsEntryText y.0) is all.bounded,
        subst
            (λ (y : VlEntry × Reading). EntryHasItsBits y.0) is all.bits,
      ),
    )
