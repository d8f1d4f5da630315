use Rattle.std.proofs.Common.{Ok, Err, refl, arith}
use Rattle.tool_base.proofs.Walking.{ran_err}
use Rattle.pts_tool.proofs.Translated.{names_all, names_next, names_short, names_start, names_stop}
use Rattle.pts_tool.proofs.names.names_of.Goals as goal

pub loop-init : goal.loop-init
loop-init g c =
    names_start c.args.ids.now _ _ _ _ refl c.new-names.ensures.items

pub returns-in_err-found : goal.returns-in_err-found
returns-in_err-found g c =
    ran_err c.in_err-found.field-0.0 c.from_residual.result c.from_residual.ensures.1
    (names_stop _ _ c.loop.counter c.loop.names.items c.loop.left.now _ _ _ _ _ _ _ c.in_err-found.field-0.0 c.loop-test.true
    c.split.ensures.now c.loop.invariant c.in_err-found.ensures)

pub returns-in_err-all : goal.returns-in_err-all
returns-in_err-all g c =
    ran_err _ c.from_residual-in_err-all.result c.from_residual-in_err-all.ensures.1
    (names_short _ _ c.loop.counter c.loop.names.items c.loop.left.now _ _ _ _ _ _ _ c.in_ok-found.found c.loop-test.true
    c.split.ensures.now c.loop.invariant c.in_ok-found.ensures)

pub loop-preserved : goal.loop-preserved
loop-preserved g c =
    names_next _ _ c.loop.counter c.loop.names.items _ c.loop.left.now _ _ _ _ _ _ _ _ c.in_ok-found.found c.loop-test.true
    c.split.ensures.now c.split.ensures.later c.in_ok-all.ensures c.loop.invariant c.in_ok-found.ensures

pub returns : goal.returns
returns g c =
    rw c.new.ensures (names_all _ _ c.loop.counter c.loop.names.items c.loop.left.now _ _ _ _ (omega arith) c.loop.invariant)
