use Rattle.std.proofs.Common.{ap, sym, ◌∙◌}
use Rattle.std.specs.Option.{is_some}
use Rattle.server_texts.proofs.Cells.{all_addresses, no_addresses}
use Rattle.server_texts.proofs.words.read_cell.Goals as goal

pub returns-in-Some : goal.returns-in-Some
returns-in-Some c =
    all_addresses c.args.text.now c.in-Some.hosts.items c.as_slice.result.now c.cell_of.result
    (sym c.in_ok-hosts.ensures.addresses ∙ ap is_some c.in-Some.is) (rw c.in-Some.is at c.in_ok-hosts.ensures.hosts)
    c.as_slice.ensures.value c.cell_of.ensures

pub returns-in-None : goal.returns-in-None
returns-in-None c = no_addresses c.args.text.now (sym c.in_ok-hosts.ensures.addresses ∙ ap is_some c.in-None.is)
