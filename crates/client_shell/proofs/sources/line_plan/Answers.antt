use Rattle.std.proofs.Common.{ℕ, List, [], Some, string_bytes, subst}
use Rattle.client_plans.specs.Plans.{Plans}
use Rattle.client_shell.proofs.sources.line_plan.Goals as goal

pub returns-clause-plan : goal.returns-clause-plan
returns-clause-plan c = record {
  words = c.in_ok-words.words.items;
  cut = c.in_ok-words.ensures.words;
  planned = subst (λ (hosts : List ℕ). Plans string_bytes c.args.shell.now.tool c.in_ok-words.words.items (Some hosts) [] c.in_ok-plan.plan)
      c.in_ok-hosts.ensures c.in_ok-plan.ensures;
}
