use Rattle.std.proofs.Common.{map, string_bytes}
use Rattle.server_texts.specs.Words.{meaning_of}
use Rattle.node_server.proofs.Explaining.{complete}
use Rattle.node_server.proofs.tops.server_over.Goals as goal

pub returns-clause-complete : goal.returns-clause-complete
returns-clause-complete g c =
    let e = c.read_and_serve-kind.ensures in complete g.D.Disk _ _
    (meaning_of (map string_bytes c.args.words.now)) _ e.words e.explained.disk_fault e.explained.bad_files
