use Rattle.cell_promises.proofs.Worth.{scripts_have_order}
use Rattle.cell_promises.proofs.laws.law_scripts_have_order.Goals as goal

pub returns : goal.returns
returns c =
    scripts_have_order (record {
      order = c.law_announcements_grow.ensures;
      stay = c.law_acknowledged_stay.ensures;
      sites = c.law_sites_serve_the_order.ensures;
      single = c.law_replies.ensures.single;
      given = c.law_replies.ensures.given;
      asked = c.law_replies.ensures.asked;
      acknowledged = c.law_replies.ensures.acknowledged;
      prefixes = c.law_prefixes_stay.ensures;
    }) c.law_scripts_are_runs.ensures
