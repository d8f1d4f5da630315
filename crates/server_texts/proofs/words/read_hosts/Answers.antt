use Rattle.std.proofs.Common.{map, string_bytes}
use Rattle.server_texts.specs.Words.{hosts_of}
use Rattle.server_texts.proofs.Cells.{hosts_named, hosts_refused}
use Rattle.server_texts.proofs.words.read_hosts.Goals as goal

pub returns-in-Ok-clause-meaning : goal.returns-in-Ok-clause-meaning
returns-in-Ok-clause-meaning c =
    hosts_named c.args.database c.args.own (map string_bytes c.args.words.now) (hosts_of c.args.text.now) c.in-Ok.cell c.read_end.result
    c.in-Ok.ensures c.read_end.ensures.meaning

pub returns-in-Err-clause-meaning : goal.returns-in-Err-clause-meaning
returns-in-Err-clause-meaning c =
    hosts_refused c.args.database c.args.own (map string_bytes c.args.words.now) (hosts_of c.args.text.now) c.in-Err.fault c.in-Err.ensures
