use Rattle.std.proofs.Common.{Ok, refl, ap}
use Rattle.tool_base.specs.Course.{◌>>=◌, gives}
use Rattle.tool_base.proofs.Walking.{ran_broken, ran_is, ran_lacks, ran_then}
use Rattle.vos_tool.specs.Addresses.{moved_text}
use Rattle.vos_tool.proofs.addresses.replace_address.Goals as goal

pub returns-in_err-ask : goal.returns-in_err-ask
returns-in_err-ask g c =
    ran_broken (λ (done : Unit {0}). gives (moved_text c.args.from c.args.to)) c.in_err-ask.field-0.0 c.from_residual.result
    c.from_residual.ensures.1 refl c.in_err-ask.ensures.ran

pub returns-in_err-text : goal.returns-in_err-text
returns-in_err-text g c =
    ran_lacks (λ (done : Unit {0}). gives (moved_text c.args.from c.args.to)) tt c.from_residual-in_err-text.result
    c.from_residual-in_err-text.ensures.1 refl c.in_ok-ask.ensures.ran

pub returns : goal.returns
returns g c =
    ran_then (λ (done : Unit {0}). gives (moved_text c.args.from c.args.to)) tt refl c.in_ok-ask.ensures.ran
    (ran_is _ _ (Ok (moved_text c.args.from c.args.to)) _ tt (ap Ok c.in_ok-text.ensures))
