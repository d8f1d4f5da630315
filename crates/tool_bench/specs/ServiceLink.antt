-- What went over a link to a database (own).
use Rattle.std.specs.Prelude.{List}
use Rattle.io_base.specs.declared.links.Exchange.{Exchange}
use Rattle.tool_bench.specs.declared.service_links.ServiceLink.{ServiceLink}

-- what was exchanged
abbrev pub exchanges_of : {S : Type 0} → ServiceLink S → List Exchange
exchanges_of link = link.exchanges.items
