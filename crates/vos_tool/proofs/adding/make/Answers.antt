use Rattle.std.proofs.Common.{Ok, refl, ap, subst, sym}
use Rattle.tool_base.specs.Course.{gives}
use Rattle.tool_base.proofs.Walking.{ran_broken, ran_is, ran_lacks, ran_then}
use Rattle.vl_calls.specs.Entries.{IsGiven}
use Rattle.vl_calls.specs.declared.calls.GivenEntry.{GivenEntry}
use Rattle.vl_calls.specs.declared.calls.VlCall.TheVariants as call
use Rattle.vos_tool.specs.Adding.{added_text, makes}
use Rattle.vos_tool.specs.Asking.{asks_done}
use Rattle.vos_tool.proofs.Args.{ran_arg}
use Rattle.vos_tool.proofs.Given.{new_fits}
use Rattle.vos_tool.proofs.adding.make.Goals as goal

pub ask-requires : goal.ask-requires
ask-requires g c = (
  subst (λ (e : GivenEntry). IsGiven e) (sym c.in_ok-entry.ensures)
      (new_fits c.args.name.now c.args.place c.args.id c.requires.name),
  tt,
)

pub returns-in_err-ask : goal.returns-in_err-ask
unfolding makes
returns-in_err-ask g c =
    ran_broken (λ (done : Unit {0}). gives (added_text c.args.name.now c.args.id)) c.in_err-ask.field-0.0
    c.from_residual-in_err-ask.result c.from_residual-in_err-ask.ensures.1 refl
    (ran_arg (λ (e : GivenEntry). asks_done (call.CreateEntry e)) _ _ c.in_ok-entry.ensures c.in_err-ask.ensures.ran)

pub returns-in_err-text : goal.returns-in_err-text
unfolding makes
returns-in_err-text g c =
    ran_lacks (λ (done : Unit {0}). gives (added_text c.args.name.now c.args.id)) tt c.from_residual-in_err-text.result
    c.from_residual-in_err-text.ensures.1 refl
    (ran_arg (λ (e : GivenEntry). asks_done (call.CreateEntry e)) _ _ c.in_ok-entry.ensures c.in_ok-ask.ensures.ran)

pub returns : goal.returns
unfolding makes
returns g c =
    ran_then (λ (done : Unit {0}). gives (added_text c.args.name.now c.args.id)) tt refl
    (ran_arg (λ (e : GivenEntry). asks_done (call.CreateEntry e)) _ _ c.in_ok-entry.ensures c.in_ok-ask.ensures.ran)
    (ran_is _ _ (Ok (added_text c.args.name.now c.args.id)) _ tt (ap Ok c.in_ok-text.ensures))
