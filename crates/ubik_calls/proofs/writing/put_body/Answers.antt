use Rattle.ubik_calls.proofs.Written.{wrote_last, wrote_then}
use Rattle.ubik_calls.proofs.writing.put_body.Goals as goal

pub returns-in_ok-put_truth-in-Beacon-2 : goal.returns-in_ok-put_truth-in-Beacon-2
returns-in_ok-put_truth-in-Beacon-2 c =
    rw c.in-Beacon.is (wrote_last _ _ _ _ _ _ (wrote_then (wrote_then c.in_ok-put_number-in-Beacon.ensures c.in_ok-put_truth-in-Beacon.ensures) c.in_ok-put_truth-in-Beacon-2.ensures) c.put_version.ensures)

pub returns-in_ok-put_number-in-Vote : goal.returns-in_ok-put_number-in-Vote
returns-in_ok-put_number-in-Vote c = rw c.in-Vote.is (wrote_last _ _ _ _ _ _ c.in_ok-put_number-in-Vote.ensures c.put_truth-in-Vote.ensures)

pub returns-in_ok-put_number-in-SetVersion : goal.returns-in_ok-put_number-in-SetVersion
returns-in_ok-put_number-in-SetVersion c = rw c.in-SetVersion.is (wrote_last _ _ _ _ _ _ c.in_ok-put_number-in-SetVersion.ensures c.put_versions.ensures)

pub returns-in_ok-put_number-in-Begin : goal.returns-in_ok-put_number-in-Begin
returns-in_ok-put_number-in-Begin c =
    rw c.in-Begin.is (wrote_last _ _ _ _ _ _ (wrote_then c.in_ok-put_versions-in-Begin.ensures c.in_ok-put_number-in-Begin.ensures) c.put_number-in-Begin-2.ensures)

pub returns-in_ok-put_version-in-PutPiece : goal.returns-in_ok-put_version-in-PutPiece
returns-in_ok-put_version-in-PutPiece c = rw c.in-PutPiece.is (wrote_last _ _ _ _ _ _ c.in_ok-put_version-in-PutPiece.ensures c.put_numbered.ensures)
