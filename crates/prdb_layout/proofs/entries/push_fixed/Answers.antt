use Rattle.prdb_layout.specs.Layout.{block_of}
use Rattle.prdb_layout.proofs.Fixed.{fixed_pushed}
use Rattle.prdb_layout.proofs.entries.push_fixed.Goals as goal

pub returns : goal.returns
returns c =
    let six = fixed_pushed block_of c.args.out.now.items in
    let a = c.in_ok-push_fixed_entry.ensures in
    let b = c.in_ok-push_fixed_entry-2.ensures in
    let d = c.in_ok-push_fixed_entry-3.ensures in
    let e = c.in_ok-push_fixed_entry-4.ensures in
    let f = c.in_ok-push_fixed_entry-5.ensures in
    let g = c.in_ok-push_fixed_entry-6.ensures in
    cc
