use Rattle.std.proofs.Common.{sym, ◌∙◌, rules}
use Rattle.std.specs.Prelude.{FitsSigned}
use Rattle.std.specs.Int.{w32}
use Rattle.std.proofs.lemmas.Int.{to_z-of_z}
use Rattle.pt_service.proofs.Ownership.{for_bad_name, for_barred, for_owned, for_taken}
use Rattle.pt_service.proofs.owners.owner_for.Goals as goal

pub returns-then-not-is_name_of-clause-found : goal.returns-then-not-is_name_of-clause-found
returns-then-not-is_name_of-clause-found g c =
    for_bad_name c.args.d.now.bytes c.args.group c.args.name.now c.args.given (sym c.is_name_of.ensures ∙ c.if-not-is_name_of.true)

pub returns-in-Err-clause-found : goal.returns-in-Err-clause-found
returns-in-Err-clause-found g c =
    let fits = c.ranges.given in
    let found = c.in_ok-owner.ensures.found in
    let barred = rw c.in-Err.is at found in
    for_barred c.args.d.now.bytes c.args.group c.args.name.now c.args.given c.in-Err.rule
    (sym c.is_name_of.ensures ∙ c.if-not-is_name_of.false) (simp to_z-of_z at barred)

pub returns-then-branch-clause-found : goal.returns-then-branch-clause-found
returns-then-branch-clause-found g c =
    let fits = c.ranges.given in
    let found = c.in_ok-owner.ensures.found in
    let good = rw c.in-Ok.is at found in
    let taken = c.in_ok-is_taken.ensures.found in
    for_taken c.args.d.now.bytes c.owner_of.new.d.bytes c.args.group c.args.name.now c.args.given c.in-Ok.owner
    (sym c.is_name_of.ensures ∙ c.if-not-is_name_of.false)
    c.owner_of.ensures.frame.same.bytes (simp to_z-of_z at good) (rw c.if-branch.true at taken)

pub returns-clause-found : goal.returns-clause-found
returns-clause-found g c =
    let fits = c.ranges.given in
    let own : FitsSigned w32 c.in-Ok.owner = search rules in
    let found = c.in_ok-owner.ensures.found in
    let good = rw c.in-Ok.is at found in
    let taken = c.in_ok-is_taken.ensures.found in
    simp to_z-of_z (for_owned c.args.d.now.bytes c.owner_of.new.d.bytes c.args.group c.args.name.now c.args.given c.in-Ok.owner
    (sym c.is_name_of.ensures ∙ c.if-not-is_name_of.false) c.owner_of.ensures.frame.same.bytes (simp to_z-of_z at good)
    (rw c.if-branch.false at taken))
