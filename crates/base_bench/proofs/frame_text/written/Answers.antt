use Rattle.std.proofs.Common.{sym, subst}
use Rattle.ubik_calls.specs.WireGrammar.{HasSpelling}
use Rattle.base_bench.proofs.Asks.{has_spelling}
use Rattle.base_bench.proofs.frame_text.written.Goals as goal

pub encode-requires : goal.encode-requires
encode-requires c = subst HasSpelling (sym c.requires.ask) (has_spelling c.args.len c.requires.fits)
