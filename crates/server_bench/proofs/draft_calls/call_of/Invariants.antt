use Rattle.std.proofs.Common.{◌≡◌, map, take, string_bytes}
use Rattle.server_bench.proofs.draft_calls.call_of.Given as goal

abbrev pub invariant-loop-word : goal.invariant-loop-word
invariant-loop-word g l = l.given.items ≡ map string_bytes (take l.word-index l.words)
