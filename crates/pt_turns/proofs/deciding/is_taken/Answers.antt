use Rattle.std.proofs.Common.{◌≡◌, false, arith}
use Rattle.std.specs.Ordering.{int_eq}
use Rattle.std.specs.Option.{option_map}
use Rattle.std.proofs.lemmas.Bool.{false_from_ne_true}
use Rattle.std.proofs.lemmas.Bool.Decides.{Decides-int_eq}
use Rattle.std.proofs.lemmas.Int.{ints, to_z-of_z}
use Rattle.prdb_layout.specs.RecordEnds.{seen}
use Rattle.pt_turns.proofs.Shared.{same_free, some_seen, taken_told}
use Rattle.pt_turns.proofs.deciding.is_taken.Goals as goal

pub returns-then-id-old-clause-found : goal.returns-then-id-old-clause-found
returns-then-id-old-clause-found g c =
    let one = c.ranges.id in
    let two = c.ranges.old in
    same_free c.args.d.now.bytes c.args.old c.args.id ((Decides-int_eq c.args.id c.args.old).1 (omega (arith, ints)))

pub returns-clause-found : goal.returns-clause-found
returns-clause-found g c =
    let one = c.ranges.id in
    let two = c.ranges.old in
    let other : int_eq c.args.id c.args.old ≡ false =
    false_from_ne_true (int_eq c.args.id c.args.old)
    (λ is. let same : c.args.id ≡ c.args.old = (Decides-int_eq c.args.id c.args.old).0 is in omega (arith, ints)) in
    let found = c.in_ok-entry_of.ensures.found in
    taken_told c.args.d.now.bytes c.args.old c.args.id (option_map seen c.in_ok-entry_of.field-0) c.is_some.result other
    (simp to_z-of_z at found)
    (some_seen c.in_ok-entry_of.field-0 c.is_some.result c.is_some.ensures)
