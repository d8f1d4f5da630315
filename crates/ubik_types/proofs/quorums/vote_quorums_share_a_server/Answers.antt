use Rattle.ubik_types.proofs.QuorumsShare.{vote_quorums-share}
use Rattle.ubik_types.proofs.quorums.vote_quorums_share_a_server.Goals as goal

pub returns : goal.returns
returns c = vote_quorums-share
