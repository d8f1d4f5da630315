use Rattle.std.proofs.Common.{ℕ, Ok, refl, ap}
use Rattle.tool_base.specs.Course.{◌>>=◌, gives}
use Rattle.tool_base.proofs.Walking.{ran_broken, ran_is, ran_lacks, ran_then}
use Rattle.vos_tool.specs.Changing.{change_text, changed_text, changes_sites}
use Rattle.vos_tool.proofs.changing.change.Goals as goal

pub returns-in_err-id : goal.returns-in_err-id
unfolding change_text
returns-in_err-id g c =
    ran_broken (λ (id : ℕ). changes_sites c.args.change c.args.place id >>= λ (done : Unit {0}). gives
    (changed_text c.args.change c.args.place c.args.volume.now)) c.in_err-id.field-0.0 c.from_residual.result c.from_residual.ensures.1
    refl c.in_err-id.ensures

pub returns-in_err-change_sites : goal.returns-in_err-change_sites
unfolding change_text
returns-in_err-change_sites g c =
    ran_then (λ (id : ℕ). changes_sites c.args.change c.args.place id >>= λ (done : Unit {0}). gives
    (changed_text c.args.change c.args.place c.args.volume.now)) c.in_ok-id.id refl c.in_ok-id.ensures
    (ran_broken (λ (done : Unit {0}). gives (changed_text c.args.change c.args.place c.args.volume.now)) c.in_err-change_sites.field-0.0
    c.from_residual-in_err-change_sites.result c.from_residual-in_err-change_sites.ensures.1 refl c.in_err-change_sites.ensures)

pub returns-in_err-text : goal.returns-in_err-text
unfolding change_text
returns-in_err-text g c =
    ran_then (λ (id : ℕ). changes_sites c.args.change c.args.place id >>= λ (done : Unit {0}). gives
    (changed_text c.args.change c.args.place c.args.volume.now)) c.in_ok-id.id refl c.in_ok-id.ensures
    (ran_lacks (λ (done : Unit {0}). gives (changed_text c.args.change c.args.place c.args.volume.now)) tt
    c.from_residual-in_err-text.result c.from_residual-in_err-text.ensures.1 refl c.in_ok-change_sites.ensures)

pub returns : goal.returns
unfolding change_text
returns g c =
    ran_then (λ (id : ℕ). changes_sites c.args.change c.args.place id >>= λ (done : Unit {0}). gives
    (changed_text c.args.change c.args.place c.args.volume.now)) c.in_ok-id.id refl c.in_ok-id.ensures
    (ran_then (λ (done : Unit {0}). gives (changed_text c.args.change c.args.place c.args.volume.now)) tt refl c.in_ok-change_sites.ensures
    (ran_is _ _ (Ok (changed_text c.args.change c.args.place c.args.volume.now)) _ tt (ap Ok (rw c.word.ensures at c.in_ok-text.ensures))))
