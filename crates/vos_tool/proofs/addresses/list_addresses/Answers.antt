use Rattle.std.proofs.Common.{ℕ, List, Ok, refl, ap, ◌∙◌}
use Rattle.std.specs.List.{flat_map}
use Rattle.tool_base.specs.Course.{◌>>=◌, gives}
use Rattle.tool_base.proofs.Walking.{ran_broken, ran_is, ran_lacks, ran_then}
use Rattle.vos_tool.specs.Addresses.{address_line, listaddrs_text}
use Rattle.vos_tool.proofs.addresses.list_addresses.Goals as goal

pub returns-in_err-hosts : goal.returns-in_err-hosts
unfolding listaddrs_text
returns-in_err-hosts g c =
    ran_broken (λ (hosts : List ℕ). gives (flat_map address_line hosts)) c.in_err-hosts.field-0.0 c.from_residual.result
    c.from_residual.ensures.1 refl c.in_err-hosts.ensures.ran

pub returns-in_err-text : goal.returns-in_err-text
unfolding listaddrs_text
returns-in_err-text g c =
    ran_lacks (λ (hosts : List ℕ). gives (flat_map address_line hosts)) c.in_ok-hosts.hosts c.from_residual-in_err-text.result
    c.from_residual-in_err-text.ensures.1 refl c.in_ok-hosts.ensures.ran

pub returns : goal.returns
unfolding listaddrs_text
returns g c =
    ran_then (λ (hosts : List ℕ). gives (flat_map address_line hosts)) c.in_ok-hosts.hosts refl c.in_ok-hosts.ensures.ran
    (ran_is _ _ (Ok (flat_map address_line c.in_ok-hosts.hosts)) _ tt
    (ap Ok (c.in_ok-text.ensures ∙ ap (λ (hosts : List ℕ). flat_map address_line hosts) c.as_slice-found.ensures)))
