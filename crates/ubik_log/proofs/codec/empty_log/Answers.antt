use Rattle.std.proofs.Common.{rules, []}
use Rattle.ubik_log.proofs.Spelled.{is_committed}
use Rattle.ubik_log.proofs.codec.empty_log.Goals as goal

pub returns : goal.returns
returns c =
    is_committed _ [] c.args.version (record { within_image = search rules; is_version = c.requires }) (search rules)
