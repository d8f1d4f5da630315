use Rattle.std.proofs.Common.{sym, subst, rules}
use Rattle.std.specs.List.{All}
use Rattle.ubik_log.specs.LogGrammar.{IsWithinImage}
use Rattle.base_bench.proofs.Blocks.{blocks-within}
use Rattle.base_bench.proofs.store_commits.long_log.Goals as goal

pub encode_log-requires : goal.encode_log-requires
encode_log-requires c = record {
  within_image = subst (All IsWithinImage) (sym c.in_ok-changes.ensures) (blocks-within c.args.count c.requires);
  is_version = search rules;
}
