use Rattle.pt_calls.proofs.WordCalls.{named_has_spelling}
use Rattle.pt_calls.proofs.words.call_words.Goals as goal

pub spell_call-requires : goal.spell_call-requires
spell_call-requires c = named_has_spelling c.args.words.now c.in-Ok.call c.in-Ok.ensures
