use Rattle.std.proofs.Common.{ℕ, Option, Some, None, refl, arith}
use Rattle.tool_base.specs.Course.{◌>>=◌}
use Rattle.tool_base.proofs.Walking.{ran_broken, ran_then}
use Rattle.vos_tool.specs.Adding.{addentry_text, makes, makes_of}
use Rattle.vos_tool.proofs.Args.{ran_arg}
use Rattle.vos_tool.proofs.Short.{ran_long, ran_short}
use Rattle.vos_tool.proofs.adding.add_entry.Goals as goal
use Rattle.std.proofs.Common.{sym}

pub returns-then-name : goal.returns-then-name
unfolding addentry_text
returns-then-name g c = ran_long c.args.name.now _ _ _ (omega arith)

pub returns-in_err-id-in-None : goal.returns-in_err-id-in-None
unfolding addentry_text
returns-in_err-id-in-None g c =
    ran_short c.args.name.now (makes_of c.args.name.now c.args.place c.args.id) _ _ _ _ _ (omega arith)
    (ran_arg (λ (o : Option ℕ). makes_of c.args.name.now c.args.place o) None c.args.id (sym c.in-None.is)
    (ran_broken (λ (id : ℕ). makes c.args.name.now c.args.place id) c.in_err-id-in-None.field-0.0 c.from_residual.result
    c.from_residual.ensures.1 refl c.in_err-id-in-None.ensures.ran))

pub returns-in-Some : goal.returns-in-Some
unfolding addentry_text
returns-in-Some g c =
    ran_short c.args.name.now (makes_of c.args.name.now c.args.place c.args.id) _ _ _ _ _ (omega arith)
    (ran_arg (λ (o : Option ℕ). makes_of c.args.name.now c.args.place o) (Some c.in-Some.id) c.args.id (sym c.in-Some.is) c.make.ensures)

pub returns-in_ok-id-in-None : goal.returns-in_ok-id-in-None
unfolding addentry_text
returns-in_ok-id-in-None g c =
    ran_short c.args.name.now (makes_of c.args.name.now c.args.place c.args.id) _ _ _ _ _ (omega arith)
    (ran_arg (λ (o : Option ℕ). makes_of c.args.name.now c.args.place o) None c.args.id (sym c.in-None.is)
    (ran_then (λ (id : ℕ). makes c.args.name.now c.args.place id) c.in_ok-id-in-None.id refl c.in_ok-id-in-None.ensures.ran
    c.make-in-None.ensures))
