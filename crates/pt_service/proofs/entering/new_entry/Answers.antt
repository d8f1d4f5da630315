use Rattle.std.proofs.Common.{◌≡◌, ℤ, Bool, true, sym, ap, subst, ◌∙◌, refl, rules}
use Rattle.std.specs.Prelude.{FitsSigned, unsigned_abs}
use Rattle.std.specs.Int.{w32}
use Rattle.std.proofs.lemmas.Int.{to_z-of_z}
use Rattle.std.proofs.lemmas.Result.{err_from_is_err_and}
use Rattle.prdb_layout.specs.Names.{lowered}
use Rattle.prdb_layout.specs.RecordEnds.{seen}
use Rattle.prdb_layout.specs.Registry.{AreMaxima}
use Rattle.pt_service.specs.State.{is_id}
use Rattle.pt_service.proofs.Comes.{new_barred, new_cause, new_made, new_no_id}
use Rattle.pt_service.proofs.Entered.{group_of, made_record, raised_are}
use Rattle.pt_service.proofs.Frames.{drafted_thrice, looked_thrice, no_disk}
use Rattle.pt_service.proofs.entering.new_entry.Goals as goal

pub returns-in_default-2-clause-meant : goal.returns-in_default-2-clause-meant
returns-in_default-2-clause-meant g c =
    let given = c.ranges.owner in
    let own : FitsSigned w32 c.in-Ok.owner = search rules in
    let user : FitsSigned w32 c.in_ok-max_user.max_user = search rules in
    let least : FitsSigned w32 c.in_ok-max_user.max_group = search rules in
    let found = c.in_ok-owner.ensures.found in
    let good = rw c.in-Ok.is at found in
    let first = c.in_ok-id.ensures.found in
    let none = rw c.in_default-2.is at first in
    let most : FitsSigned w32 c.maximum_of-maximum.result = search rules in
    let is = c.maximum_of-maximum.ensures in
    let so_many = simp to_z-of_z at is in
    let number = c.unsigned_abs.ensures.value ∙ ap unsigned_abs (to_z-of_z w32 c.maximum_of-maximum.result most)
    ∙ ap unsigned_abs so_many in
    new_no_id c.args.d.now.bytes c.owner_for.new.d.bytes c.maxima.new.d.bytes c.first_unused.new.d.bytes c.as_slice.result.now
    (lowered c.args.name.now) c.args.kind
    c.unsigned_abs.result c.args.owner c.in-Ok.owner c.in_ok-max_user.max_user c.in_ok-max_user.max_group c.in-Some.group _
    (sym c.kind_of.ensures ∙ c.in-Some.is) (search rules)
    (simp to_z-of_z at good) c.owner_for.ensures.frame.same.bytes c.in_ok-max_user.ensures.found
    (c.maxima.ensures.frame.looks.same.bytes ∙ c.owner_for.ensures.frame.same.bytes)
    number none refl
    (c.first_unused.ensures.frame.same.bytes ∙ c.maxima.ensures.frame.looks.same.bytes ∙ c.owner_for.ensures.frame.same.bytes)

pub returns-in_default-2-clause-frame : goal.returns-in_default-2-clause-frame
returns-in_default-2-clause-frame g c =
    looked_thrice g.I.ImageRead c.args.d.now c.owner_for.new.d c.maxima.new.d c.first_unused.new.d _ _ _ _ c.in_ok-owner.ensures.frame
    c.in_ok-max_user.ensures.frame.looks c.in_ok-id.ensures.frame (λ h. absurd cc)

pub returns-in_err-id-clause-frame : goal.returns-in_err-id-clause-frame
returns-in_err-id-clause-frame g c =
    let p = err_from_is_err_and c.from_residual-in_err-id.result c.from_residual-in_err-id.ensures.1 in
    rw (p.1, p.2) (looked_thrice g.I.ImageRead c.args.d.now c.owner_for.new.d c.maxima.new.d c.first_unused.new.d _ _ _ _
    c.in_ok-owner.ensures.frame
    c.in_ok-max_user.ensures.frame.looks c.in_err-id.ensures.frame (λ h. cc))

pub returns-in_err-end-clause-frame : goal.returns-in_err-end-clause-frame
returns-in_err-end-clause-frame g c =
    let p = err_from_is_err_and c.from_residual-in_err-end.result c.from_residual-in_err-end.ensures.1 in
    looked_thrice g.I.ImageRead c.args.d.now c.owner_for.new.d c.maxima.new.d c.first_unused.new.d _ _ _ _ c.in_ok-owner.ensures.frame
    c.in_ok-max_user.ensures.frame.looks c.in_ok-id.ensures.frame (λ h. absurd (no_disk c.from_residual-in_err-end.result p.0 p.1 p.2 h))

pub enter-requires-clause-entry : goal.enter-requires-clause-entry
enter-requires-clause-entry g c =
    let id : FitsSigned w32 c.in-Some-2.id = search rules in
    let own : FitsSigned w32 c.in-Ok.owner = search rules in
    let so = c.made-e.ensures in
    let formed = c.in_ok-owner.ensures.form in
    let form = rw c.in-Ok.is at formed in
    let is = c.in_ok-id.ensures.id in
    let name : c.as_slice.result.now ≡ c.new-name.result = search rules in
    made_record (seen c.made-e.result) c.in-Some.group c.new-name.result c.in-Some-2.id c.in-Ok.owner (simp to_z-of_z at so) id own
    (rw c.in-Some-2.is at is)
    (rw name at form)

pub enter-requires-clause-maxima : goal.enter-requires-clause-maxima
enter-requires-clause-maxima g c =
    let id : FitsSigned w32 c.in-Some-2.id = search rules in
    let user : FitsSigned w32 c.in_ok-max_user.max_user = search rules in
    let least : FitsSigned w32 c.in_ok-max_user.max_group = search rules in
    let first : FitsSigned w32 c.raised.result.0 = search rules in
    let second : FitsSigned w32 c.raised.result.1 = search rules in
    let is = c.in_ok-id.ensures.id in
    let test = rw c.in-Some-2.is at is in
    let raises = c.raised.ensures in
    let same = simp to_z-of_z at raises in
    subst (λ (p : ℤ × ℤ). AreMaxima p.0 p.1) (sym same)
    (raised_are c.in_ok-max_user.max_user c.in_ok-max_user.max_group c.in-Some-2.id c.in_ok-max_user.ensures.range id
    (subst (λ (b : Bool). is_id b c.in-Some-2.id ≡ true) (sym (group_of c.in-Some.group c.in-Some-2.id test)) test))

pub returns-in_err-enter-clause-fault : goal.returns-in_err-enter-clause-fault
returns-in_err-enter-clause-fault g c =
    let given = c.ranges.owner in
    let p = err_from_is_err_and c.from_residual-in_err-enter.result c.from_residual-in_err-enter.ensures.1 in
    let id : FitsSigned w32 c.in-Some-2.id = search rules in
    let own : FitsSigned w32 c.in-Ok.owner = search rules in
    let found = c.in_ok-owner.ensures.found in
    let good = rw c.in-Ok.is at found in
    let first = c.in_ok-id.ensures.found in
    let some = rw c.in-Some-2.is at first in
    let so = c.made-e.ensures in
    let name : c.new-name.result ≡ lowered c.args.name.now = search rules in
    let named = rw name at so in
    rw (p.1, p.2) (new_cause c.args.d.now.bytes c.maxima.new.d.bytes c.first_unused.new.d.bytes c.as_slice.result.now
    (lowered c.args.name.now) c.unsigned_abs.result
    c.args.owner c.in-Ok.owner c.in-Some-2.id c.in-Some.group (seen c.made-e.result) _ (search rules) (simp to_z-of_z at good)
    (c.maxima.ensures.frame.looks.same.bytes ∙ c.owner_for.ensures.frame.same.bytes) some (simp to_z-of_z at named)
    (c.first_unused.ensures.frame.same.bytes ∙ c.maxima.ensures.frame.looks.same.bytes
    ∙ c.owner_for.ensures.frame.same.bytes) c.in_err-enter.ensures.fault)

pub returns-in_err-enter-clause-frame : goal.returns-in_err-enter-clause-frame
returns-in_err-enter-clause-frame g c =
    let p = err_from_is_err_and c.from_residual-in_err-enter.result c.from_residual-in_err-enter.ensures.1 in
    rw (p.1, p.2) (drafted_thrice g.I.ImageRead c.args.d.now c.owner_for.new.d c.maxima.new.d c.first_unused.new.d c.enter.new.d _ _ _ _
    _ c.in_ok-owner.ensures.frame
    c.in_ok-max_user.ensures.frame.looks c.in_ok-id.ensures.frame c.in_err-enter.ensures.frame (λ h. cc))

pub returns-clause-meant : goal.returns-clause-meant
returns-clause-meant g c =
    let given = c.ranges.owner in
    let id : FitsSigned w32 c.in-Some-2.id = search rules in
    let own : FitsSigned w32 c.in-Ok.owner = search rules in
    let user : FitsSigned w32 c.in_ok-max_user.max_user = search rules in
    let least : FitsSigned w32 c.in_ok-max_user.max_group = search rules in
    let high : FitsSigned w32 c.raised.result.0 = search rules in
    let low : FitsSigned w32 c.raised.result.1 = search rules in
    let found = c.in_ok-owner.ensures.found in
    let good = rw c.in-Ok.is at found in
    let first = c.in_ok-id.ensures.found in
    let some = rw c.in-Some-2.is at first in
    let most : FitsSigned w32 c.maximum_of-maximum.result = search rules in
    let is = c.maximum_of-maximum.ensures in
    let so_many = simp to_z-of_z at is in
    let number = c.unsigned_abs.ensures.value ∙ ap unsigned_abs (to_z-of_z w32 c.maximum_of-maximum.result most)
    ∙ ap unsigned_abs so_many in
    let so = c.made-e.ensures in
    let name : c.new-name.result ≡ lowered c.args.name.now = search rules in
    let named = rw name at so in
    let raises = c.raised.ensures in
    let told = c.in_ok-end.ensures.told in
    new_made c.args.d.now.bytes c.owner_for.new.d.bytes c.maxima.new.d.bytes c.first_unused.new.d.bytes c.enter.new.d.bytes
    c.as_slice.result.now
    (lowered c.args.name.now) c.args.kind c.unsigned_abs.result c.args.owner c.in-Ok.owner c.in_ok-max_user.max_user
    c.in_ok-max_user.max_group c.in-Some-2.id
    c.in-Some.group (seen c.made-e.result) c.raised.result c.in_ok-end.end (sym c.kind_of.ensures ∙ c.in-Some.is) (search rules)
    (simp to_z-of_z at good)
    c.owner_for.ensures.frame.same.bytes c.in_ok-max_user.ensures.found
    (c.maxima.ensures.frame.looks.same.bytes ∙ c.owner_for.ensures.frame.same.bytes)
    number some (simp to_z-of_z at named) (simp to_z-of_z at raises) (simp to_z-of_z at told)
    (c.first_unused.ensures.frame.same.bytes ∙ c.maxima.ensures.frame.looks.same.bytes
    ∙ c.owner_for.ensures.frame.same.bytes) c.in_ok-enter.ensures.bytes

pub returns-clause-frame : goal.returns-clause-frame
returns-clause-frame g c =
    drafted_thrice g.I.ImageRead c.args.d.now c.owner_for.new.d c.maxima.new.d c.first_unused.new.d c.enter.new.d _ _ _ _ _
    c.in_ok-owner.ensures.frame
    c.in_ok-max_user.ensures.frame.looks c.in_ok-id.ensures.frame c.in_ok-enter.ensures.frame (λ h. absurd cc)

pub returns-in-Err-clause-meant : goal.returns-in-Err-clause-meant
returns-in-Err-clause-meant g c =
    let given = c.ranges.owner in
    let found = c.in_ok-owner.ensures.found in
    let barred = rw c.in-Err.is at found in
    new_barred c.args.d.now.bytes c.owner_for.new.d.bytes c.as_slice.result.now (lowered c.args.name.now) c.args.kind c.args.owner
    c.in-Some.group c.in-Err.rule _ (sym c.kind_of.ensures ∙ c.in-Some.is) (search rules)
    (simp to_z-of_z at barred) refl c.owner_for.ensures.frame.same.bytes
