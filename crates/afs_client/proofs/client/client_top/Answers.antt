use Rattle.std.proofs.Common.{map, string_bytes}
use Rattle.afs_client.specs.Requests.{request_of}
use Rattle.afs_client.proofs.Explaining.{is_explained}
use Rattle.afs_client.proofs.Running.{words_judged}
use Rattle.afs_client.proofs.client.client_top.Goals as goal

pub returns-clause-bad_words : goal.returns-clause-bad_words
returns-clause-bad_words g c = words_judged (request_of (map string_bytes c.args.words.now)) _ _ _ _ _ _ _ c.answer.ensures.ran

pub returns-clause-explained : goal.returns-clause-explained
returns-clause-explained g c = is_explained (map string_bytes c.args.words.now) _ _ _ _ _ _ _ c.answer.ensures.ran
