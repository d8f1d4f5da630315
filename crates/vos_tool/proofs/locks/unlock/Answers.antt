use Rattle.std.proofs.Common.{ℕ, Ok, codes, refl, ap}
use Rattle.tool_base.specs.Course.{◌>>=◌, gives}
use Rattle.tool_base.proofs.Walking.{ran_broken, ran_is, ran_lacks, ran_then}
use Rattle.vos_tool.specs.Locking.{unlock_text, releases_lock}
use Rattle.vos_tool.specs.Texts.{volume_line}
use Rattle.vos_tool.proofs.locks.unlock.Goals as goal

pub returns-in_err-id : goal.returns-in_err-id
unfolding unlock_text
returns-in_err-id g c =
    ran_broken (λ (id : ℕ). releases_lock id >>= λ (done : Unit {0}). gives
    (volume_line (codes "Released lock on vldb entry for volume ") c.args.volume.now)) c.in_err-id.field-0.0 c.from_residual.result
    c.from_residual.ensures.1 refl c.in_err-id.ensures

pub returns-in_err-release_lock : goal.returns-in_err-release_lock
unfolding unlock_text
returns-in_err-release_lock g c =
    ran_then (λ (id : ℕ). releases_lock id >>= λ (done : Unit {0}). gives
    (volume_line (codes "Released lock on vldb entry for volume ") c.args.volume.now)) c.in_ok-id.id refl c.in_ok-id.ensures
    (ran_broken (λ (done : Unit {0}). gives (volume_line (codes "Released lock on vldb entry for volume ") c.args.volume.now))
    c.in_err-release_lock.field-0.0 c.from_residual-in_err-release_lock.result c.from_residual-in_err-release_lock.ensures.1 refl
    c.in_err-release_lock.ensures)

pub returns-in_err-text : goal.returns-in_err-text
unfolding unlock_text
returns-in_err-text g c =
    ran_then (λ (id : ℕ). releases_lock id >>= λ (done : Unit {0}). gives
    (volume_line (codes "Released lock on vldb entry for volume ") c.args.volume.now)) c.in_ok-id.id refl c.in_ok-id.ensures
    (ran_lacks (λ (done : Unit {0}). gives (volume_line (codes "Released lock on vldb entry for volume ") c.args.volume.now)) tt
    c.from_residual-in_err-text.result c.from_residual-in_err-text.ensures.1 refl c.in_ok-release_lock.ensures)

pub returns : goal.returns
unfolding unlock_text
returns g c =
    ran_then (λ (id : ℕ). releases_lock id >>= λ (done : Unit {0}). gives
    (volume_line (codes "Released lock on vldb entry for volume ") c.args.volume.now)) c.in_ok-id.id refl c.in_ok-id.ensures
    (ran_then (λ (done : Unit {0}). gives (volume_line (codes "Released lock on vldb entry for volume ") c.args.volume.now)) tt refl
    c.in_ok-release_lock.ensures
    (ran_is _ _ (Ok (volume_line (codes "Released lock on vldb entry for volume ") c.args.volume.now)) _ tt
    (ap Ok (rw c.word.ensures at c.in_ok-text.ensures))))
