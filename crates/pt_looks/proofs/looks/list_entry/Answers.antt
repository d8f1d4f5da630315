use Rattle.std.proofs.Common.{refl, arith}
use Rattle.std.proofs.lemmas.Int.{to_z-of_z}
use Rattle.pt_looks.proofs.Ended.{entry_ends, entry_refused}
use Rattle.pt_looks.proofs.Spelled.{entry_len, is_entry_text}
use Rattle.pt_looks.proofs.looks.list_entry.Goals as goal

pub returns-in_default-clause-meant : goal.returns-in_default-clause-meant
returns-in_default-clause-meant g c =
    let fits = c.ranges.id in
    let found = c.in_ok-entry.ensures.found in
    let none = rw c.in_default.is at found in
    entry_refused c.args.d.now.bytes c.args.id _ (simp to_z-of_z at none) refl

pub tell-requires : goal.tell-requires
tell-requires g c =
    let found = c.in_ok-entry.ensures.short in
    let short = rw c.in-Some.is at found in
    record { spelled = is_entry_text c.in-Some.entry short; short = omega (arith, entry_len c.in-Some.entry short) }

pub returns-clause-meant : goal.returns-clause-meant
returns-clause-meant g c =
    let fits = c.ranges.id in
    let found = c.in_ok-entry.ensures.found in
    let some = rw c.in-Some.is at found in
    entry_ends c.args.d.now.bytes c.args.id c.in-Some.entry c.in_ok-end.end (simp to_z-of_z at some) c.in_ok-end.ensures.told
