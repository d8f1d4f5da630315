use Rattle.ubik_calls.proofs.Written.{wrote_last, wrote_then, wrote_no_more, wrote_before_rest}
use Rattle.ubik_calls.proofs.writing.put_reply.Goals as goal

pub returns-in-Ok : goal.returns-in-Ok
returns-in-Ok c = rw c.in-Ok.is (wrote_before_rest _ _ _ _ _ c.put_number.ensures)

pub returns-in_ok-put_phase-in-NoQuorum : goal.returns-in_ok-put_phase-in-NoQuorum
returns-in_ok-put_phase-in-NoQuorum c =
    let fields = wrote_then (wrote_then c.in_ok-put_tagged-in-NoQuorum.ensures c.in_ok-put_number-in-NoQuorum.ensures) c.in_ok-put_phase-in-NoQuorum.ensures in
    rw (c.in-NoQuorum.is, ← c.is_unknown.ensures) (wrote_no_more _ _ _ _ (wrote_last _ _ _ _ _ _ fields c.put_truth.ensures))

pub returns-in_ok-put_tagged-in-NotSync : goal.returns-in_ok-put_tagged-in-NotSync
returns-in_ok-put_tagged-in-NotSync c = rw c.in-NotSync.is (wrote_no_more _ _ _ _ (wrote_last _ _ _ _ _ _ c.in_ok-put_tagged-in-NotSync.ensures c.put_number-in-NotSync.ensures))

pub returns-in_ok-put_number-in-TooLarge : goal.returns-in_ok-put_number-in-TooLarge
returns-in_ok-put_number-in-TooLarge c = rw c.in-TooLarge.is (wrote_no_more _ _ _ _ (wrote_last _ _ _ _ _ _ c.in_ok-put_number-in-TooLarge.ensures c.put_long.ensures))
