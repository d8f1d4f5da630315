use Rattle.server_laws.proofs.Meant.{any_make_a_world, servers_make_a_world}
use Rattle.server_laws.proofs.laws.law_servers_make_a_world.Goals as goal

pub returns-clause-service : goal.returns-clause-service
returns-clause-service g c =
    servers_make_a_world g.S.DraftService.standing c.law_images_stand.ensures.service c.law_images_stand.ensures.stand c.law_writes_stand.ensures

pub returns-clause-any : goal.returns-clause-any
returns-clause-any g c = any_make_a_world
