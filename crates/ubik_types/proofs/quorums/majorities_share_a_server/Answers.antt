use Rattle.ubik_types.proofs.QuorumsShare.{majorities-share}
use Rattle.ubik_types.proofs.quorums.majorities_share_a_server.Goals as goal

pub returns : goal.returns
returns c = majorities-share
