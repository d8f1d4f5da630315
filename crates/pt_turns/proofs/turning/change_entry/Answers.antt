use Rattle.std.proofs.Common.{ℕ, List, Ok, Err, subst, ◌∙◌, refl, rules, arith}
use Rattle.std.specs.Prelude.{FitsSigned}
use Rattle.std.specs.Int.{w32}
use Rattle.std.proofs.lemmas.Int.{to_z-of_z}
use Rattle.std.proofs.lemmas.Result.{err_from_is_err_and}
use Rattle.prdb_layout.specs.Names.{lowered}
use Rattle.prdb_layout.specs.RecordEnds.{seen}
use Rattle.pt_service.proofs.Frames.{drafted_thrice, looked_thrice, no_disk}
use Rattle.pt_turns.proofs.Decided.{Decides, maxima_cause, raised_good, turn_fault_cause, turn_made, turn_refused, turn_unknown}
use Rattle.pt_turns.proofs.Frames.{changed_then}
use Rattle.pt_turns.proofs.turning.change_entry.Goals as goal

pub returns-in_default-clause-meant : goal.returns-in_default-clause-meant
returns-in_default-clause-meant g c =
    let id = c.ranges.id in
    let owner = c.ranges.owner in
    let new = c.ranges.new_id in
    let found = c.in_ok-e.ensures.found in
    let none = rw c.in_default.is at found in
    turn_unknown c.args.d.now.bytes c.entry_of.new.d.bytes (lowered c.args.name.now) c.args.id c.args.owner c.args.new_id _
    (simp to_z-of_z at none) refl
    c.entry_of.ensures.frame.same.bytes

pub returns-in-Err-clause-meant : goal.returns-in-Err-clause-meant
returns-in-Err-clause-meant g c =
    let id = c.ranges.id in
    let owner = c.ranges.owner in
    let new = c.ranges.new_id in
    let own : FitsSigned w32 c.in-Some.e.id = search rules in
    let found = c.in_ok-e.ensures.found in
    let some = rw c.in-Some.is at found in
    let low = c.deref.ensures.value ∙ c.in_ok-name.ensures in
    let told = c.in_ok-decided.ensures.decided in
    let decided = rw c.in-Err.is at told in
    let ends = simp to_z-of_z at decided in
    turn_refused c.args.d.now.bytes c.entry_of.new.d.bytes c.decide.new.d.bytes
    (lowered c.args.name.now) c.args.id c.args.owner c.args.new_id (seen c.in-Some.e)
    c.in-Err.rule _ (simp to_z-of_z at some) c.entry_of.ensures.frame.same.bytes
    (subst (λ (n : List ℕ). Decides c.entry_of.new.d.bytes (seen c.in-Some.e) n c.args.owner c.args.new_id (Err c.in-Err.rule)) low ends)
    refl
    (c.decide.ensures.frame.same.bytes ∙ c.entry_of.ensures.frame.same.bytes)

pub set_maxima-requires-clause-len : goal.set_maxima-requires-clause-len
set_maxima-requires-clause-len g c =
    omega (arith, c.in_ok-turn.ensures.len, c.maxima.ensures.frame.looks.same.len, c.decide.ensures.frame.same.len, c.entry_of.ensures.frame.same.len, c.requires)

pub set_maxima-requires-clause-maxima : goal.set_maxima-requires-clause-maxima
set_maxima-requires-clause-maxima g c =
    let new = c.ranges.new_id in
    let own : FitsSigned w32 c.in-Some.e.id = search rules in
    let user : FitsSigned w32 c.in_ok-user.user = search rules in
    let group : FitsSigned w32 c.in_ok-user.group = search rules in
    let first : FitsSigned w32 c.raised-user.result.0 = search rules in
    let second : FitsSigned w32 c.raised-user.result.1 = search rules in
    let fits = c.in_ok-decided.ensures.id in
    let is = rw c.in-Ok.is at fits in
    let raises = c.raised-user.ensures in
    simp to_z-of_z (raised_good c.in_ok-user.user c.in_ok-user.group c.args.new_id c.in-Some.e.id c.raised-user.result
    c.in_ok-user.ensures.range new (simp to_z-of_z at is)
    (simp to_z-of_z at raises))

pub returns-in_err-turn-clause-fault : goal.returns-in_err-turn-clause-fault
returns-in_err-turn-clause-fault g c =
    let id = c.ranges.id in
    let owner = c.ranges.owner in
    let new = c.ranges.new_id in
    let own : FitsSigned w32 c.in-Some.e.id = search rules in
    let p = err_from_is_err_and c.from_residual-in_err-turn.result c.from_residual-in_err-turn.ensures.1 in
    let found = c.in_ok-e.ensures.found in
    let some = rw c.in-Some.is at found in
    let low = c.deref.ensures.value ∙ c.in_ok-name.ensures in
    let told = c.in_ok-decided.ensures.decided in
    let decided = rw c.in-Ok.is at told in
    let ends = simp to_z-of_z at decided in
    let to_owner : FitsSigned w32 c.in-Ok.decided.owner = search rules in
    let to_id : FitsSigned w32 c.in-Ok.decided.id = search rules in
    let text = c.deref-2.ensures.value in
    let called = c.in_err-turn.ensures.fault in
    let cause = rw text at called in
    rw (p.1, p.2) (turn_fault_cause c.args.d.now.bytes c.entry_of.new.d.bytes c.maxima.new.d.bytes
    (lowered c.args.name.now) c.args.id c.args.owner c.args.new_id
    (seen c.in-Some.e) c.in-Ok.decided c.in_err-turn.field-0.0 (simp to_z-of_z at some) c.entry_of.ensures.frame.same.bytes
    (subst (λ (n : List ℕ). Decides c.entry_of.new.d.bytes (seen c.in-Some.e) n c.args.owner c.args.new_id (Ok c.in-Ok.decided)) low
    ends) new own
    (c.maxima.ensures.frame.looks.same.bytes ∙ c.decide.ensures.frame.same.bytes
    ∙ c.entry_of.ensures.frame.same.bytes) (simp to_z-of_z at cause))

pub returns-in_err-set_maxima-clause-fault : goal.returns-in_err-set_maxima-clause-fault
returns-in_err-set_maxima-clause-fault g c =
    let id = c.ranges.id in
    let owner = c.ranges.owner in
    let new = c.ranges.new_id in
    let own : FitsSigned w32 c.in-Some.e.id = search rules in
    let p = err_from_is_err_and c.from_residual-in_err-set_maxima.result c.from_residual-in_err-set_maxima.ensures.1 in
    let found = c.in_ok-e.ensures.found in
    let some = rw c.in-Some.is at found in
    let low = c.deref.ensures.value ∙ c.in_ok-name.ensures in
    let told = c.in_ok-decided.ensures.decided in
    let decided = rw c.in-Ok.is at told in
    let ends = simp to_z-of_z at decided in
    let to_owner : FitsSigned w32 c.in-Ok.decided.owner = search rules in
    let to_id : FitsSigned w32 c.in-Ok.decided.id = search rules in
    let text = c.deref-2.ensures.value in
    let called = c.in_ok-turn.ensures.bytes in
    let turned = rw text at called in
    rw (p.1, p.2) (maxima_cause c.args.d.now.bytes c.entry_of.new.d.bytes c.maxima.new.d.bytes c.turn.new.d.bytes
    (lowered c.args.name.now) c.args.id
    c.args.owner c.args.new_id (seen c.in-Some.e) c.in-Ok.decided c.in_err-set_maxima.field-0.0
    (simp to_z-of_z at some) c.entry_of.ensures.frame.same.bytes
    (subst (λ (n : List ℕ). Decides c.entry_of.new.d.bytes (seen c.in-Some.e) n c.args.owner c.args.new_id (Ok c.in-Ok.decided)) low
    ends) new own
    (c.maxima.ensures.frame.looks.same.bytes ∙ c.decide.ensures.frame.same.bytes ∙ c.entry_of.ensures.frame.same.bytes) (simp to_z-of_z at turned)
    c.in_err-set_maxima.ensures.fault)

pub returns-clause-meant : goal.returns-clause-meant
returns-clause-meant g c =
    let id = c.ranges.id in
    let owner = c.ranges.owner in
    let new = c.ranges.new_id in
    let own : FitsSigned w32 c.in-Some.e.id = search rules in
    let user : FitsSigned w32 c.in_ok-user.user = search rules in
    let group : FitsSigned w32 c.in_ok-user.group = search rules in
    let first : FitsSigned w32 c.raised-user.result.0 = search rules in
    let second : FitsSigned w32 c.raised-user.result.1 = search rules in
    let found = c.in_ok-e.ensures.found in
    let some = rw c.in-Some.is at found in
    let low = c.deref.ensures.value ∙ c.in_ok-name.ensures in
    let told = c.in_ok-decided.ensures.decided in
    let decided = rw c.in-Ok.is at told in
    let ends = simp to_z-of_z at decided in
    let to_owner : FitsSigned w32 c.in-Ok.decided.owner = search rules in
    let to_id : FitsSigned w32 c.in-Ok.decided.id = search rules in
    let text = c.deref-2.ensures.value in
    let called = c.in_ok-turn.ensures.bytes in
    let turned = rw text at called in
    let raises = c.raised-user.ensures in
    let set = c.in_ok-set_maxima.ensures.bytes in
    turn_made c.args.d.now.bytes c.entry_of.new.d.bytes c.decide.new.d.bytes c.maxima.new.d.bytes c.turn.new.d.bytes
    c.set_maxima.new.d.bytes (lowered c.args.name.now)
    c.args.id c.args.owner c.args.new_id
    (seen c.in-Some.e) c.in-Ok.decided c.in_ok-user.user c.in_ok-user.group c.raised-user.result c.in_ok-end.end (simp to_z-of_z at some)
    c.entry_of.ensures.frame.same.bytes
    (subst (λ (n : List ℕ). Decides c.entry_of.new.d.bytes (seen c.in-Some.e) n c.args.owner c.args.new_id (Ok c.in-Ok.decided)) low
    ends) new own
    (c.decide.ensures.frame.same.bytes ∙ c.entry_of.ensures.frame.same.bytes) c.in_ok-user.ensures.found (simp to_z-of_z at raises)
    (c.maxima.ensures.frame.looks.same.bytes ∙ c.decide.ensures.frame.same.bytes
    ∙ c.entry_of.ensures.frame.same.bytes) (simp to_z-of_z at turned) (simp to_z-of_z at set)
    c.in_ok-end.ensures.told

pub returns-in_err-user-clause-frame : goal.returns-in_err-user-clause-frame
returns-in_err-user-clause-frame g c =
    let p = err_from_is_err_and c.from_residual-in_err-user.result c.from_residual-in_err-user.ensures.1 in
    rw (p.1, p.2) (looked_thrice g.I.ImageRead c.args.d.now c.entry_of.new.d c.decide.new.d c.maxima.new.d _ _ _ _
    c.entry_of.ensures.frame c.decide.ensures.frame c.in_err-user.ensures.frame.looks (λ h. cc))

pub returns-in_err-end-clause-frame : goal.returns-in_err-end-clause-frame
returns-in_err-end-clause-frame g c =
    let p = err_from_is_err_and c.from_residual-in_err-end.result c.from_residual-in_err-end.ensures.1 in
    looked_thrice g.I.ImageRead c.args.d.now c.entry_of.new.d c.decide.new.d c.maxima.new.d _ _ _ _
    c.entry_of.ensures.frame c.decide.ensures.frame c.maxima.ensures.frame.looks
    (λ h. absurd (no_disk c.from_residual-in_err-end.result p.0 p.1 p.2 h))

pub returns-in_err-turn-clause-frame : goal.returns-in_err-turn-clause-frame
returns-in_err-turn-clause-frame g c =
    let p = err_from_is_err_and c.from_residual-in_err-turn.result c.from_residual-in_err-turn.ensures.1 in
    rw (p.1, p.2) (drafted_thrice g.I.ImageRead c.args.d.now c.entry_of.new.d c.decide.new.d c.maxima.new.d c.turn.new.d _ _ _ _ _
    c.entry_of.ensures.frame c.decide.ensures.frame c.maxima.ensures.frame.looks c.in_err-turn.ensures.frame (λ h. cc))

pub returns-in_err-set_maxima-clause-frame : goal.returns-in_err-set_maxima-clause-frame
returns-in_err-set_maxima-clause-frame g c =
    let p = err_from_is_err_and c.from_residual-in_err-set_maxima.result c.from_residual-in_err-set_maxima.ensures.1 in
    rw (p.1, p.2) (changed_then g.I.ImageRead c.args.d.now c.turn.new.d c.set_maxima.new.d _ _ _
    (drafted_thrice g.I.ImageRead c.args.d.now c.entry_of.new.d c.decide.new.d c.maxima.new.d c.turn.new.d _ _ _ _ _
    c.entry_of.ensures.frame c.decide.ensures.frame c.maxima.ensures.frame.looks c.turn.ensures.frame (λ h. h))
    c.in_err-set_maxima.ensures.frame.drafts (λ h. cc))

pub returns-clause-frame : goal.returns-clause-frame
returns-clause-frame g c =
    changed_then g.I.ImageRead c.args.d.now c.turn.new.d c.set_maxima.new.d _ _ _
    (drafted_thrice g.I.ImageRead c.args.d.now c.entry_of.new.d c.decide.new.d c.maxima.new.d c.turn.new.d _ _ _ _ _
    c.entry_of.ensures.frame c.decide.ensures.frame c.maxima.ensures.frame.looks c.turn.ensures.frame (λ h. h))
    c.in_ok-set_maxima.ensures.frame.drafts (λ h. absurd cc)
