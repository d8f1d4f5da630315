use Rattle.std.proofs.Common.{◌≡◌, sym, ◌∙◌}
use Rattle.ubik_log.specs.LogGrammar.{IsCommitted}
use Rattle.base_bench.specs.Puts.{puts}
use Rattle.base_bench.specs.declared.log_text.TheConstants.{VERSION}
use Rattle.base_bench.proofs.Puts.{committed_puts, never_true}
use Rattle.base_bench.proofs.log_text.says_puts.Goals as goal
use Rattle.base_bench.proofs.log_text.says_puts.Goals.{then-is_version, else-is_version}

pub returns-after-is_version : goal.returns-after-is_version
returns-after-is_version c =
    let said = rw c.in-Committed.is at c.in_ok-changes.ensures in
    let one : IsCommitted c.args.log.now (puts c.args.count) VERSION → (c.in-Committed.changes ≡ puts c.args.count) × (c.in-Committed.version ≡ VERSION) =
    λ is. c.log_has_one_reading.ensures c.args.log.now c.in-Committed.changes (puts c.args.count) c.in-Committed.version VERSION said is
    in
    elim c.if-is_version.branch [
      | then-is_version w ↦ (
        λ yes. committed_puts _ _ _ _ said (c.is_version.ensures.0 w.if-is_version.true)
            (sym w.as_slice.ensures ∙ w.are_puts.ensures.0 (sym w.result-is ∙ yes)),
        λ is. w.result-is ∙ w.are_puts.ensures.1 (w.as_slice.ensures ∙ (one is).0),
      )
      | else-is_version w ↦
          (λ yes. never_true (sym w.if-is_version.false ∙ sym w.result-is ∙ yes), λ is. never_true (sym w.if-is_version.false ∙ c.is_version.ensures.1 (one is).1))
    ]

pub returns-in-Discarded : goal.returns-in-Discarded
returns-in-Discarded c =
    let none = rw c.in-Discarded.is at c.in_ok-changes.ensures in
    (λ never. never_true never, λ is. absurd (none (puts c.args.count) VERSION is))
