use Rattle.std.proofs.Common.{◌≡◌, ◌++◌, arith}
use Rattle.std.proofs.lemmas.Grind.{common_steps}
use Rattle.ubik_log.specs.LogGrammar.{new_record}
use Rattle.ubik_log.proofs.Spelled.{records_of, is_committed}
use Rattle.ubik_log.proofs.codec.encode_log.Goals as goal

pub returns : goal.returns
returns c =
    let changes = c.args.changes.now in
    let version = c.args.version in
    let is : c.new.result ≡ new_record ++ records_of changes version = grind (arith, common_steps) in
    is_committed c.new.result changes version c.requires is
