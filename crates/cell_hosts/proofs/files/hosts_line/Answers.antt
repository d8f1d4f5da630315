use Rattle.std.proofs.Common.{rules, ◌==◌}
use Rattle.std.proofs.lemmas.Iterator.Search.{find_from_yields_List}
use Rattle.std.proofs.lemmas.Iterator.Splits.{YieldsList-from_slice_split}
use borrow.Author.Tests.{tests}
use Rattle.cell_hosts.specs.Files.{is_hosts_line}
use Rattle.cell_hosts.proofs.files.hosts_line.Goals as goal

pub returns : goal.returns
returns c = find_from_yields_List {s = c.split.result} is_hosts_line _ _ c.find.result c.find.ensures.ran
    (YieldsList-from_slice_split _ (λ byte. byte == 10) c.args.text.now (cc) (cc) (cc) (λ x b q k. search (rules, tests)))
    (λ x b q k. search (rules, tests))
