use Rattle.std.proofs.Common.{◌≡◌, length, get_or, rules}
use Rattle.incoming_file.proofs.Reading.{read_open, read_ignored}
use Rattle.incoming_file.proofs.reads.open_version.Goals as goal

pub returns-clause-open : goal.returns-clause-open
returns-clause-open c =
    let gate : get_or c.args.head.now 63 0 ≡ 101 = search rules in
    let whole : length c.args.head.now ≡ 64 = search rules in
    read_open c.args.len c.args.head.now gate whole c.version_of_file.result c.version_of_file.ensures.version (search rules) (search rules)

pub returns-clause-ignored : goal.returns-clause-ignored
returns-clause-ignored c =
    let gate : get_or c.args.head.now 63 0 ≡ 101 = search rules in
    let whole : length c.args.head.now ≡ 64 = search rules in
    read_ignored c.args.len c.args.head.now gate whole c.version_of_file.result c.version_of_file.ensures.version
