use Rattle.std.proofs.Common.{Ok, refl, ap}
use Rattle.tool_base.specs.Course.{◌>>=◌, gives}
use Rattle.tool_base.proofs.Walking.{ran_broken, ran_is, ran_lacks, ran_then}
use Rattle.vldb_entries.specs.declared.entries.VlEntry.{VlEntry}
use Rattle.vos_tool.specs.Listing.{one_text}
use Rattle.vos_tool.specs.Texts.{entry_text}
use Rattle.vos_tool.proofs.listing.list_one.Goals as goal

pub returns-in_err-entry : goal.returns-in_err-entry
unfolding one_text
returns-in_err-entry g c =
    ran_broken (λ (entry : VlEntry). gives (entry_text entry)) c.in_err-entry.field-0.0 c.from_residual.result c.from_residual.ensures.1
    refl c.in_err-entry.ensures

pub returns-in_err-text : goal.returns-in_err-text
unfolding one_text
returns-in_err-text g c =
    ran_lacks (λ (entry : VlEntry). gives (entry_text entry)) c.in_ok-entry.entry c.from_residual-in_err-text.result
    c.from_residual-in_err-text.ensures.1 refl c.in_ok-entry.ensures

pub returns : goal.returns
unfolding one_text
returns g c =
    ran_then (λ (entry : VlEntry). gives (entry_text entry)) c.in_ok-entry.entry refl c.in_ok-entry.ensures
    (ran_is _ _ (Ok (entry_text c.in_ok-entry.entry)) _ tt (ap Ok c.in_ok-text.ensures))
