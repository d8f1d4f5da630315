use Rattle.vl_service.proofs.Found.{hosts_meant}
use Rattle.vl_service.proofs.looks.all_addresses.Goals as goal

pub returns-clause-meant : goal.returns-clause-meant
returns-clause-meant g c =
    hosts_meant c.args.d.now.bytes c.in_ok-places.places c.in_ok-hosts.hosts c.in_ok-end.end c.in_ok-places.ensures.found
    c.in_ok-hosts.ensures.value c.in_ok-end.ensures.told
