use Rattle.std.proofs.Common.{rules, ◌≡◌, ◌+◌, ◌-◌, ◌∙◌, get_or, arith}
use Rattle.std.proofs.lemmas.Bool.Decides.{nat_tests}
use Rattle.ubik_types.proofs.HostOrder.{first_twice-at, first_twice-past, first_twice-end, lowest_repeated, ascending-from_none}
use Rattle.ubik_types.proofs.hosts.first_repeated.Goals as goal

pub returns-then-eq : goal.returns-then-eq
returns-then-eq c =
    lowest_repeated _ _ c.requires (c.loop-i.invariant ∙ first_twice-at c.args.sorted.now (c.loop-i.i - 1) c.loop-i.i (record { 0 = 0 }) (omega arith) (omega arith) (search rules))

pub loop-i-preserved : goal.loop-i-preserved
loop-i-preserved c =
    let apart : (get_or c.args.sorted.now (c.loop-i.i - 1) (record { 0 = 0 })).0 ≡ (get_or c.args.sorted.now c.loop-i.i (record { 0 = 0 })).0 → ⊥ = λ same. (grind (arith, nat_tests)) in
    let next : c.loop-i.i + 1 - 1 ≡ c.loop-i.i = omega arith in
    rw next (c.loop-i.invariant ∙ first_twice-past c.args.sorted.now (c.loop-i.i - 1) c.loop-i.i (record { 0 = 0 }) (omega arith) (omega arith) apart)

pub returns : goal.returns
returns c = ascending-from_none _ c.requires (c.loop-i.invariant ∙ first_twice-end c.args.sorted.now (c.loop-i.i - 1) (omega arith))
