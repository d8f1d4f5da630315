use Rattle.std.proofs.Common.{sym, subst, rules}
use Rattle.std.specs.List.{All}
use Rattle.ubik_log.specs.LogGrammar.{IsWithinImage}
use Rattle.base_bench.proofs.Puts.{puts-within}
use Rattle.base_bench.proofs.log_text.long_log.Goals as goal

pub encode_log-requires : goal.encode_log-requires
encode_log-requires c =
    record {
      within_image = subst (All IsWithinImage) (sym c.requires.puts) (puts-within c.args.count c.requires.fits);
      is_version = search rules;
    }
