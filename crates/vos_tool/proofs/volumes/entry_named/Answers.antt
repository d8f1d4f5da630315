use Rattle.std.proofs.Common.{ℕ, List, arith}
use Rattle.vl_calls.specs.declared.calls.VlCall.TheVariants as call
use Rattle.vos_tool.specs.Asking.{asks_entry}
use Rattle.vos_tool.specs.Volumes.{entry_named}
use Rattle.vos_tool.proofs.Args.{ran_arg}
use Rattle.vos_tool.proofs.Short.{ran_long, ran_short}
use Rattle.vos_tool.proofs.volumes.entry_named.Goals as goal

pub returns-then-name : goal.returns-then-name
unfolding entry_named
returns-then-name g c = ran_long c.args.name.now _ _ _ (omega arith)

pub returns : goal.returns
unfolding entry_named
returns g c =
    ran_short c.args.name.now (asks_entry (call.GetEntryByName c.args.name.now)) _ _ _ _ _ (omega arith)
    (ran_arg (λ (name : List ℕ). asks_entry (call.GetEntryByName name)) _ _ c.in_ok-name.ensures c.ask.ensures.ran)
