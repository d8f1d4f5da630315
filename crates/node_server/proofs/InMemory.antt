-- When a journal in memory is full.
use Rattle.std.proofs.Common.{◌≡◌, ◌<◌, ℕ, true, Option, Some, None, IfSome, ap, subst, arith}
use Rattle.server_journal.specs.declared.counts.Limits.{Limits}
use Rattle.server_journal.specs.declared.journals.Journal.{Journal}
use Rattle.node_server.specs.declared.ends.ServerRun.{ServerRun}
use Rattle.node_server.specs.Causes.{IsFullIn, was_full}
use Rattle.node_server.proofs.Filling.{full_in}

full_of : (limits : Limits) (j : Journal) (entries bytes : ℕ) → limits.entries < 4294967295 → j.limits ≡ limits
    → was_full limits j.held.items entries bytes ≡ true
    → IsFullIn limits j.held.items entries bytes
full_of limits j entries bytes few is full =
    let same : j.limits.entries ≡ limits.entries = ap (λ (l : Limits). l.entries) is in
    full_in limits j.held.items entries bytes (omega (arith, j.few, j.entries, same)) few full

-- the journal of a run that is full has as many items as it may have, or would have had too many bytes
pub full_in_memory : (given limits : Limits) (run : Option (ServerRun Journal)) (entries bytes : ℕ) → given ≡ limits
    → limits.entries < 4294967295
    → IfSome run (λ r. r.journal.limits ≡ given) → IfSome run (λ r. was_full given r.journal.held.items entries bytes ≡ true)
    → IfSome run (λ r. IsFullIn limits r.journal.held.items entries bytes)
full_in_memory given limits None entries bytes is few kept full = tt
full_in_memory given limits (Some r) entries bytes is few kept full =
    let P : Limits → Type 0 = λ l. r.journal.limits ≡ l in
    let Q : Limits → Type 0 = λ l. was_full l r.journal.held.items entries bytes ≡ true in
    full_of limits r.journal entries bytes few (subst P is kept) (subst Q is full)
