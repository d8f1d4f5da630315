use Rattle.std.proofs.Common.{◌≡◌, ◌∙◌, ℕ, List, Option, Some, None, IfOk, map, string_bytes, option_map, subst, sym, ap, String, Global}
use Rattle.client_plans.specs.Texts.{asked_text}
use Rattle.client_plans.specs.Plans.{PlansUnless}
use Rattle.client_plans.specs.declared.plans.Plan.TheVariants.{Say}
use Rattle.client_plans.proofs.plans.make_plan.Goals as goal

pub returns-in-Some : goal.returns-in-Some
returns-in-Some c =
    let some : Some (string_bytes c.in-Some.text) ≡ asked_text c.args.tool (map string_bytes c.args.words.items) =
    sym (ap (option_map string_bytes) c.in-Some.is) ∙ c.in_ok-text.ensures
    ∙ ap (λ (ws : List (String Global)). asked_text c.args.tool (map string_bytes ws)) c.deref.ensures.value in
    subst (λ (o : Option (List ℕ)). PlansUnless string_bytes c.args.tool o c.args.words.items (option_map string_bytes c.args.variable)
    c.args.file.now (Say c.told.result)) some c.told.ensures

pub returns-in-None : goal.returns-in-None
returns-in-None c =
    let none : None ≡ asked_text c.args.tool (map string_bytes c.args.words.items) =
    sym (ap (option_map string_bytes) c.in-None.is) ∙ c.in_ok-text.ensures
    ∙ ap (λ (ws : List (String Global)). asked_text c.args.tool (map string_bytes ws)) c.deref.ensures.value in
    subst (λ (o : Option (List ℕ)). IfOk c.plan_words.result (λ plan. PlansUnless string_bytes c.args.tool o c.args.words.items
    (option_map string_bytes c.args.variable) c.args.file.now plan)) none c.plan_words.ensures
