use Rattle.std.proofs.Common.{List, Ok, refl, ap}
use Rattle.tool_base.specs.Course.{◌>>=◌, gives}
use Rattle.tool_base.proofs.Walking.{ran_broken, ran_is, ran_lacks, ran_then}
use Rattle.vldb_entries.specs.declared.entries.VlEntry.{VlEntry}
use Rattle.vos_tool.specs.Listing.{entries_text, listing_text}
use Rattle.vos_tool.proofs.listing.list_all.Goals as goal

pub returns-in_err-entries : goal.returns-in_err-entries
unfolding listing_text
returns-in_err-entries g c =
    ran_broken (λ (entries : List VlEntry). gives (entries_text c.args.style entries)) c.in_err-entries.field-0.0 c.from_residual.result
    c.from_residual.ensures.1 refl c.in_err-entries.ensures

pub returns-in_err-text : goal.returns-in_err-text
unfolding listing_text
returns-in_err-text g c =
    ran_lacks (λ (entries : List VlEntry). gives (entries_text c.args.style entries)) c.in_ok-entries.entries
    c.from_residual-in_err-text.result c.from_residual-in_err-text.ensures.1 refl c.in_ok-entries.ensures

pub returns : goal.returns
unfolding listing_text
returns g c =
    ran_then (λ (entries : List VlEntry). gives (entries_text c.args.style entries)) c.in_ok-entries.entries refl c.in_ok-entries.ensures
    (ran_is _ _ (Ok (entries_text c.args.style c.in_ok-entries.entries)) _ tt (ap Ok c.in_ok-text.ensures))
