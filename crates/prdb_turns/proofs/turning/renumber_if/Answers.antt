use Rattle.std.proofs.Common.{◌≡◌, false, refl, arith}
use Rattle.std.specs.Ordering.{int_eq}
use Rattle.std.proofs.lemmas.Bool.{false_from_ne_true}
use Rattle.std.proofs.lemmas.Bool.Decides.{Decides-int_eq}
use Rattle.std.proofs.lemmas.Int.{ints, to_z-of_z}
use Rattle.prdb_turns.proofs.Turned.{id_err, id_other, id_other_held, id_same, id_same_held}
use Rattle.prdb_turns.proofs.turning.renumber_if.Goals as goal

pub returns-then-new_id-old_id-clause-holds : goal.returns-then-new_id-old_id-clause-holds
returns-then-new_id-old_id-clause-holds g c =
    let old = c.ranges.old_id in
    let new = c.ranges.new_id in
    id_same_held c.args.d.now.bytes c.args.d.now.bytes c.args.old_id c.args.new_id (omega (arith, ints)) refl

pub returns-then-new_id-old_id-clause-bytes : goal.returns-then-new_id-old_id-clause-bytes
returns-then-new_id-old_id-clause-bytes g c =
    let old = c.ranges.old_id in
    let new = c.ranges.new_id in
    id_same c.args.d.now.bytes c.args.d.now.bytes c.args.old_id c.args.new_id (omega (arith, ints)) refl

pub returns-clause-holds : goal.returns-clause-holds
returns-clause-holds g c =
    let old = c.ranges.old_id in
    let new = c.ranges.new_id in
    let other : int_eq c.args.new_id c.args.old_id ≡ false =
    false_from_ne_true (int_eq c.args.new_id c.args.old_id)
    (λ is. let same : c.args.new_id ≡ c.args.old_id = (Decides-int_eq c.args.new_id c.args.old_id).0 is in omega (arith, ints)) in
    let held = c.renumber.ensures.holds in
    id_other_held c.renumber.result c.args.d.now.bytes c.renumber.new.d.bytes c.args.old_id c.args.new_id other (simp to_z-of_z at held)

pub returns-clause-bytes : goal.returns-clause-bytes
returns-clause-bytes g c =
    let old = c.ranges.old_id in
    let new = c.ranges.new_id in
    let other : int_eq c.args.new_id c.args.old_id ≡ false =
    false_from_ne_true (int_eq c.args.new_id c.args.old_id)
    (λ is. let same : c.args.new_id ≡ c.args.old_id = (Decides-int_eq c.args.new_id c.args.old_id).0 is in omega (arith, ints)) in
    let made = c.renumber.ensures.bytes in
    id_other c.renumber.result c.args.d.now.bytes c.renumber.new.d.bytes c.args.old_id c.args.new_id other (simp to_z-of_z at made)

pub returns-clause-fault : goal.returns-clause-fault
returns-clause-fault g c =
    let old = c.ranges.old_id in
    let new = c.ranges.new_id in
    let other : int_eq c.args.new_id c.args.old_id ≡ false =
    false_from_ne_true (int_eq c.args.new_id c.args.old_id)
    (λ is. let same : c.args.new_id ≡ c.args.old_id = (Decides-int_eq c.args.new_id c.args.old_id).0 is in omega (arith, ints)) in
    let cause = c.renumber.ensures.fault in
    id_err c.renumber.result c.args.d.now.bytes c.args.old_id c.args.new_id other (simp to_z-of_z at cause)
