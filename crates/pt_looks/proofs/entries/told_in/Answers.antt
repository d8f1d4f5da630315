use Rattle.std.proofs.Common.{length, ap, sym, ◌∙◌, arith}
use Rattle.entry_scans.specs.Views.{viewed}
use Rattle.pt_service.proofs.Entries.{name_len}
use Rattle.pt_looks.proofs.entries.told_in.Goals as goal

pub returns-clause-short : goal.returns-clause-short
returns-clause-short c =
    let len = name_len (viewed c.entry_in-e.result) (sym c.entry_fits.ensures ∙ c.if-not-entry_fits.false) in
    omega (arith, len, ap length c.in_ok-bytes_of.ensures)
