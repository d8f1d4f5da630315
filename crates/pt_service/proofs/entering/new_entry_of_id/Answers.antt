use Rattle.std.proofs.Common.{◌≡◌, Bool, ℤ, true, sym, subst, ◌∙◌, refl, rules}
use Rattle.std.specs.Prelude.{FitsSigned}
use Rattle.std.specs.Int.{w32}
use Rattle.std.proofs.lemmas.Int.{to_z-of_z}
use Rattle.std.proofs.lemmas.Result.{err_from_is_err_and}
use Rattle.prdb_layout.specs.Names.{lowered}
use Rattle.prdb_layout.specs.RecordEnds.{seen}
use Rattle.prdb_layout.specs.Registry.{AreMaxima}
use Rattle.pt_service.specs.State.{is_id}
use Rattle.pt_service.proofs.Comes.{given_barred, given_cause, given_comes, given_there}
use Rattle.pt_service.proofs.Entered.{made_record, raised_are}
use Rattle.pt_service.proofs.Frames.{drafted_thrice, looked_thrice, looked_twice, no_disk}
use Rattle.pt_service.proofs.entering.new_entry_of_id.Goals as goal

pub returns-then-not-branch-clause-meant : goal.returns-then-not-branch-clause-meant
returns-then-not-branch-clause-meant g c =
    let id = c.ranges.id in
    let given = c.ranges.owner in
    let group = c.is_group-group.ensures in
    let own = simp to_z-of_z at group in
    let tested = sym c.is_id.ensures ∙ c.if-not-is_id.false in
    let test = simp to_z-of_z at tested in
    let found = c.in_ok-owner.ensures.found in
    let good = rw c.in-Ok.is at found in
    let there = c.in_ok-is_unused.ensures.found in
    let used = rw c.if-not-branch.true at there in
    given_there c.args.d.now.bytes c.owner_for.new.d.bytes c.is_unused.new.d.bytes c.as_slice.result.now
    (lowered c.args.name.now) c.args.id c.args.owner c.in-Ok.owner
    c.is_group-group.result _ (subst (λ (b : Bool). is_id b c.args.id ≡ true) own test) own (search rules) (simp to_z-of_z at good)
    c.owner_for.ensures.frame.same.bytes (simp to_z-of_z at used) refl
    (c.is_unused.ensures.frame.same.bytes ∙ c.owner_for.ensures.frame.same.bytes)

pub returns-in_err-max_user-clause-frame : goal.returns-in_err-max_user-clause-frame
returns-in_err-max_user-clause-frame g c =
    let p = err_from_is_err_and c.from_residual-in_err-max_user.result c.from_residual-in_err-max_user.ensures.1 in
    rw (p.1, p.2) (looked_thrice g.I.ImageRead c.args.d.now c.owner_for.new.d c.is_unused.new.d c.maxima.new.d _ _ _ _
    c.in_ok-owner.ensures.frame
    c.in_ok-is_unused.ensures.frame c.in_err-max_user.ensures.frame.looks (λ h. cc))

pub returns-in_err-end-clause-frame : goal.returns-in_err-end-clause-frame
returns-in_err-end-clause-frame g c =
    let p = err_from_is_err_and c.from_residual-in_err-end.result c.from_residual-in_err-end.ensures.1 in
    looked_thrice g.I.ImageRead c.args.d.now c.owner_for.new.d c.is_unused.new.d c.maxima.new.d _ _ _ _ c.in_ok-owner.ensures.frame
    c.in_ok-is_unused.ensures.frame c.in_ok-max_user.ensures.frame.looks (λ h. absurd (no_disk c.from_residual-in_err-end.result p.0 p.1 p.2 h))

pub enter-requires-clause-entry : goal.enter-requires-clause-entry
enter-requires-clause-entry g c =
    let id = c.ranges.id in
    let own : FitsSigned w32 c.in-Ok.owner = search rules in
    let so = c.made-e.ensures in
    let formed = c.in_ok-owner.ensures.form in
    let form = rw c.in-Ok.is at formed in
    let tested = sym c.is_id.ensures ∙ c.if-not-is_id.false in
    let name : c.as_slice.result.now ≡ c.new-name.result = search rules in
    made_record (seen c.made-e.result) c.is_group-group.result c.new-name.result c.args.id c.in-Ok.owner (simp to_z-of_z at so) id own
    (simp to_z-of_z at tested)
    (rw name at form)

pub enter-requires-clause-maxima : goal.enter-requires-clause-maxima
enter-requires-clause-maxima g c =
    let id = c.ranges.id in
    let user : FitsSigned w32 c.in_ok-max_user.max_user = search rules in
    let least : FitsSigned w32 c.in_ok-max_user.max_group = search rules in
    let first : FitsSigned w32 c.raised.result.0 = search rules in
    let second : FitsSigned w32 c.raised.result.1 = search rules in
    let group = c.is_group-group.ensures in
    let own = simp to_z-of_z at group in
    let tested = sym c.is_id.ensures ∙ c.if-not-is_id.false in
    let test = simp to_z-of_z at tested in
    let raises = c.raised.ensures in
    let same = simp to_z-of_z at raises in
    subst (λ (p : ℤ × ℤ). AreMaxima p.0 p.1) (sym same)
    (raised_are c.in_ok-max_user.max_user c.in_ok-max_user.max_group c.args.id c.in_ok-max_user.ensures.range id
    (subst (λ (b : Bool). is_id b c.args.id ≡ true) own test))

pub returns-in_err-enter-clause-fault : goal.returns-in_err-enter-clause-fault
returns-in_err-enter-clause-fault g c =
    let id = c.ranges.id in
    let given = c.ranges.owner in
    let p = err_from_is_err_and c.from_residual-in_err-enter.result c.from_residual-in_err-enter.ensures.1 in
    let own : FitsSigned w32 c.in-Ok.owner = search rules in
    let found = c.in_ok-owner.ensures.found in
    let good = rw c.in-Ok.is at found in
    let there = c.in_ok-is_unused.ensures.found in
    let free = rw c.if-not-branch.false at there in
    let so = c.made-e.ensures in
    let name : c.new-name.result ≡ lowered c.args.name.now = search rules in
    let named = rw name at so in
    rw (p.1, p.2) (given_cause c.args.d.now.bytes c.owner_for.new.d.bytes c.maxima.new.d.bytes c.as_slice.result.now
    (lowered c.args.name.now) c.args.id c.args.owner
    c.in-Ok.owner c.is_group-group.result (seen c.made-e.result) _ (search rules)
    (simp to_z-of_z at good) c.owner_for.ensures.frame.same.bytes (simp to_z-of_z at free)
    (simp to_z-of_z at named)
    (c.maxima.ensures.frame.looks.same.bytes ∙ c.is_unused.ensures.frame.same.bytes
    ∙ c.owner_for.ensures.frame.same.bytes) c.in_err-enter.ensures.fault)

pub returns-in_err-enter-clause-frame : goal.returns-in_err-enter-clause-frame
returns-in_err-enter-clause-frame g c =
    let p = err_from_is_err_and c.from_residual-in_err-enter.result c.from_residual-in_err-enter.ensures.1 in
    rw (p.1, p.2) (drafted_thrice g.I.ImageRead c.args.d.now c.owner_for.new.d c.is_unused.new.d c.maxima.new.d c.enter.new.d _ _ _ _ _
    c.in_ok-owner.ensures.frame
    c.in_ok-is_unused.ensures.frame c.in_ok-max_user.ensures.frame.looks c.in_err-enter.ensures.frame (λ h. cc))

pub returns-clause-meant : goal.returns-clause-meant
returns-clause-meant g c =
    let id = c.ranges.id in
    let given = c.ranges.owner in
    let own : FitsSigned w32 c.in-Ok.owner = search rules in
    let user : FitsSigned w32 c.in_ok-max_user.max_user = search rules in
    let least : FitsSigned w32 c.in_ok-max_user.max_group = search rules in
    let first : FitsSigned w32 c.raised.result.0 = search rules in
    let second : FitsSigned w32 c.raised.result.1 = search rules in
    let is_own = c.is_group-group.ensures in
    let group = simp to_z-of_z at is_own in
    let tested = sym c.is_id.ensures ∙ c.if-not-is_id.false in
    let test = simp to_z-of_z at tested in
    let found = c.in_ok-owner.ensures.found in
    let good = rw c.in-Ok.is at found in
    let there = c.in_ok-is_unused.ensures.found in
    let free = rw c.if-not-branch.false at there in
    let so = c.made-e.ensures in
    let name : c.new-name.result ≡ lowered c.args.name.now = search rules in
    let named = rw name at so in
    let raises = c.raised.ensures in
    given_comes c.args.d.now.bytes c.owner_for.new.d.bytes c.is_unused.new.d.bytes c.maxima.new.d.bytes c.enter.new.d.bytes
    c.as_slice.result.now
    (lowered c.args.name.now) c.args.id c.args.owner c.in-Ok.owner c.in_ok-max_user.max_user c.in_ok-max_user.max_group
    c.is_group-group.result (seen c.made-e.result)
    c.raised.result c.in_ok-end.end (subst (λ (b : Bool). is_id b c.args.id ≡ true) group test) group (search rules)
    (simp to_z-of_z at good)
    c.owner_for.ensures.frame.same.bytes (simp to_z-of_z at free)
    (c.is_unused.ensures.frame.same.bytes ∙ c.owner_for.ensures.frame.same.bytes) c.in_ok-max_user.ensures.found
    (simp to_z-of_z at named) (simp to_z-of_z at raises) c.in_ok-end.ensures.told
    (c.maxima.ensures.frame.looks.same.bytes ∙ c.is_unused.ensures.frame.same.bytes
    ∙ c.owner_for.ensures.frame.same.bytes) c.in_ok-enter.ensures.bytes

pub returns-clause-frame : goal.returns-clause-frame
returns-clause-frame g c =
    drafted_thrice g.I.ImageRead c.args.d.now c.owner_for.new.d c.is_unused.new.d c.maxima.new.d c.enter.new.d _ _ _ _ _
    c.in_ok-owner.ensures.frame
    c.in_ok-is_unused.ensures.frame c.in_ok-max_user.ensures.frame.looks c.in_ok-enter.ensures.frame (λ h. absurd cc)

pub returns-in-Err-clause-meant : goal.returns-in-Err-clause-meant
returns-in-Err-clause-meant g c =
    let id = c.ranges.id in
    let given = c.ranges.owner in
    let group = c.is_group-group.ensures in
    let own = simp to_z-of_z at group in
    let tested = sym c.is_id.ensures ∙ c.if-not-is_id.false in
    let test = simp to_z-of_z at tested in
    let found = c.in_ok-owner.ensures.found in
    let barred = rw c.in-Err.is at found in
    given_barred c.args.d.now.bytes c.owner_for.new.d.bytes c.as_slice.result.now (lowered c.args.name.now) c.args.id c.args.owner
    c.is_group-group.result c.in-Err.rule _ (subst (λ (b : Bool). is_id b c.args.id ≡ true) own test) own (search rules)
    (simp to_z-of_z at barred) refl c.owner_for.ensures.frame.same.bytes

pub returns-in_err-is_unused-clause-frame : goal.returns-in_err-is_unused-clause-frame
returns-in_err-is_unused-clause-frame g c =
    let p = err_from_is_err_and c.from_residual-in_err-is_unused.result c.from_residual-in_err-is_unused.ensures.1 in
    rw (p.1, p.2) (looked_twice g.I.ImageRead c.args.d.now c.owner_for.new.d c.is_unused.new.d _ _ _ c.in_ok-owner.ensures.frame
    c.in_err-is_unused.ensures.frame (λ h. cc))
