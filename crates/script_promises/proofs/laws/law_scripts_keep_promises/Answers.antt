use Rattle.script_promises.specs.Databases.{standings}
use Rattle.script_promises.specs.Lawful.{IsLawful}
use Rattle.script_promises.proofs.Worth.{by_kind, scripts_keep_promises}
use Rattle.script_promises.proofs.laws.law_scripts_keep_promises.Goals as goal

pub returns : goal.returns
returns c =
    scripts_keep_promises (record {
      lawful = by_kind (λ k. IsLawful (standings k)) c.law_protection_is_lawful.ensures c.law_location_is_lawful.ensures;
      names = c.law_words_are_calls.ensures;
      order = c.law_announcements_grow.ensures;
      stay = c.law_acknowledged_stay.ensures;
      acknowledged = c.law_ok_is_acknowledged.ensures;
      sites = c.law_sites_are_single.ensures;
      replies = c.law_replies_are_single.ensures.seen;
      runs = c.law_scripts_are_runs.ensures;
    })
