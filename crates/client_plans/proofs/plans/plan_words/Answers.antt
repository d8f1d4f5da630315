use Rattle.std.proofs.Common.{List, Option, Result, Ok, IfOk, string_bytes, option_map, subst, String, Global}
use Rattle.cell_hosts.specs.Words.{hosts_of, words_left}
use Rattle.cell_hosts.specs.declared.faults.HostsFault.{HostsFault}
use Rattle.client_plans.specs.Plans.{PlansBehind}
use Rattle.client_plans.proofs.plans.plan_words.Goals as goal

pub returns-in-Ok : goal.returns-in-Ok
returns-in-Ok c =
    let found = hosts_of string_bytes c.args.words.items in
    let left = words_left string_bytes c.args.words.items in
    let variable = option_map string_bytes c.args.variable in
    subst (λ (h : Result (Option (String Global)) HostsFault).
    IfOk c.plan_left.result (λ plan. PlansBehind string_bytes c.args.tool h left variable c.args.file.now plan)) c.in-Ok.ensures.hosts
    (subst (λ (ws : List (String Global)). IfOk c.plan_left.result (λ plan.
    PlansBehind string_bytes c.args.tool (Ok c.in-Ok.given) ws variable c.args.file.now plan)) c.in-Ok.ensures.left c.plan_left.ensures)

pub returns-in-Err : goal.returns-in-Err
returns-in-Err c =
    let left = words_left string_bytes c.args.words.items in
    let variable = option_map string_bytes c.args.variable in
    subst (λ (h : Result (Option (String Global)) HostsFault).
    IfOk c.say_fault.result (λ plan. PlansBehind string_bytes c.args.tool h left variable c.args.file.now plan)) c.in-Err.ensures.hosts
    c.say_fault.ensures
