use Rattle.std.proofs.Common.{Option, None, IfOk, map, string_bytes, subst, refl}
use Rattle.afs_words.specs.declared.tables.Tool.{Tool}
use Rattle.client_plans.specs.Plans.{HelpsNamed}
use Rattle.client_plans.proofs.plans.help_named.Goals as goal

pub returns-in-Some : goal.returns-in-Some
returns-in-Some c = subst (λ (o : Option Tool). IfOk c.help_of.result (λ said. HelpsNamed o (map string_bytes c.args.words.now) said))
    c.in-Some.ensures c.help_of.ensures

pub returns-in-None : goal.returns-in-None
returns-in-None c = subst (λ (o : Option Tool). HelpsNamed o (map string_bytes c.args.words.now) None) c.in-None.ensures refl
