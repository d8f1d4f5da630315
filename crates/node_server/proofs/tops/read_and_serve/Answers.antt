use Rattle.std.proofs.Common.{map, string_bytes}
use Rattle.server_texts.specs.Words.{meaning_of}
use Rattle.node_server.proofs.Explaining.{unread}
use Rattle.node_server.proofs.Replaying.{replays_named, replays_not}
use Rattle.node_server.proofs.Wording.{follows_read, follows_refused}
use Rattle.node_server.proofs.tops.read_and_serve.Goals as goal

pub returns-in-Ok-clause-words : goal.returns-in-Ok-clause-words
returns-in-Ok-clause-words g c =
    follows_read (meaning_of (map string_bytes c.args.words.now)) c.in-Ok.words c.serve.result.kind c.in-Ok.ensures.meaning
    c.serve.ensures.words

pub returns-in-Err-clause-words : goal.returns-in-Err-clause-words
returns-in-Err-clause-words g c =
    follows_refused (meaning_of (map string_bytes c.args.words.now)) c.in-Err.fault c.kind_of_words.result c.in-Err.ensures.meaning
    c.kind_of_words.ensures

pub returns-in-Err-clause-explained : goal.returns-in-Err-clause-explained
returns-in-Err-clause-explained g c =
    unread g.D.Disk g.J.Keeper.items g.J.Keeper.limits _ _ _ c.args.disk c.in-Err.fault _ c.requires.settled c.kind_of_words.ensures

pub returns-in-Ok-clause-replays : goal.returns-in-Ok-clause-replays
returns-in-Ok-clause-replays g c =
    replays_named g.D.Disk g.J.Keeper.items
    (meaning_of (map string_bytes c.args.words.now)) c.in-Ok.words c.args.disk c.serve.result.disk c.serve.result.run
    c.in-Ok.ensures.meaning c.serve.ensures.replays

pub returns-in-Err-clause-replays : goal.returns-in-Err-clause-replays
returns-in-Err-clause-replays g c =
    replays_not g.D.Disk g.J.Keeper.items (meaning_of (map string_bytes c.args.words.now)) c.args.disk c.args.disk
