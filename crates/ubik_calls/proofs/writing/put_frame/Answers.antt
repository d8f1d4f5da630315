use Rattle.ubik_calls.proofs.Written.{wrote_last, wrote_then, wrote_no_more, wrote_before_rest}
use Rattle.ubik_calls.proofs.writing.put_frame.Goals as goal

pub returns-in_ok-put_number-in-Packet : goal.returns-in_ok-put_number-in-Packet
returns-in_ok-put_number-in-Packet c = rw c.in-Packet.is (wrote_no_more _ _ _ _ (wrote_last _ _ _ _ _ _ c.in_ok-put_number-in-Packet.ensures c.put_packet.ensures))

pub returns-in_ok-put_number-in-Ask : goal.returns-in_ok-put_number-in-Ask
returns-in_ok-put_number-in-Ask c =
    rw c.in-Ask.is (wrote_before_rest _ _ _ _ _ (wrote_last _ _ _ _ _ _ c.in_ok-put_number-in-Ask.ensures c.put_number-in-Ask-2.ensures))

pub returns-in_ok-put_number-in-Reply-2 : goal.returns-in_ok-put_number-in-Reply-2
returns-in_ok-put_number-in-Reply-2 c =
    rw c.in-Reply.is (wrote_last _ _ _ _ _ _ (wrote_then c.in_ok-put_number-in-Reply.ensures c.in_ok-put_number-in-Reply-2.ensures) c.put_reply.ensures)

pub returns-in_ok-put_number-in-Debug : goal.returns-in_ok-put_number-in-Debug
returns-in_ok-put_number-in-Debug c =
    rw c.in-Debug.is (wrote_no_more _ _ _ _ (wrote_last _ _ _ _ _ _ c.in_ok-put_number-in-Debug.ensures c.put_number-in-Debug-2.ensures))

pub returns-in_ok-put_number-in-DebugIs-2 : goal.returns-in_ok-put_number-in-DebugIs-2
returns-in_ok-put_number-in-DebugIs-2 c =
    rw c.in-DebugIs.is (wrote_no_more _ _ _ _ (wrote_last _ _ _ _ _ _ (wrote_then c.in_ok-put_number-in-DebugIs.ensures c.in_ok-put_number-in-DebugIs-2.ensures) c.put_debug.ensures))
