use Rattle.server_promises.proofs.Promising.{Laws, any_servers_keep_promises, running_servers_keep_promises}
use Rattle.server_promises.proofs.laws.law_running_servers_keep_promises.Given as given
use Rattle.server_promises.proofs.laws.law_running_servers_keep_promises.Goals as goal

laws : (g : given.Over) → goal.After-law_prefixes_stay g → Laws
laws g c = record {
  leases = c.law_leases_exclude.ensures;
  epochs = c.law_epochs_rise.ensures;
  label = c.law_one_label.ensures;
  order = c.law_announcements_grow.ensures;
  stay = c.law_acknowledged_stay.ensures;
  sites = c.law_sites_serve_the_order.ensures;
  single = c.law_replies.ensures.single;
  given = c.law_replies.ensures.given;
  asked = c.law_replies.ensures.asked;
  acknowledged = c.law_replies.ensures.acknowledged;
  prefixes = c.law_prefixes_stay.ensures;
}

pub returns-clause-service : goal.returns-clause-service
returns-clause-service g c =
    running_servers_keep_promises (laws g c) g.S.DraftService.standing c.law_servers_make_a_world.ensures.service

pub returns-clause-any : goal.returns-clause-any
returns-clause-any g c = any_servers_keep_promises (laws g c) c.law_servers_make_a_world.ensures.any
