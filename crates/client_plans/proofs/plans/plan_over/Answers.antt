use Rattle.std.proofs.Common.{◌≡◌, ◌∙◌, ℕ, List, Option, Some, IfOk, map, string_bytes, ap, subst, String, Global}
use Rattle.client_plans.specs.Plans.{PlansAs, source_files}
use Rattle.client_plans.proofs.plans.plan_over.Goals as goal

pub returns-in-Some : goal.returns-in-Some
returns-in-Some c =
    let words = map string_bytes c.args.words.items in
    let found : Some (map string_bytes c.in-Some.files.now) ≡ source_files words =
    c.in-Some.ensures ∙ ap (λ (ws : List (String Global)). source_files (map string_bytes ws)) c.deref.ensures.value in
    subst (λ (o : Option (List (List ℕ))). IfOk c.plan_source.result (λ plan. PlansAs c.args.tool (string_bytes c.args.hosts) o words plan))
    found c.plan_source.ensures
