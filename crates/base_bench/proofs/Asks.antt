-- The long ask is a frame, and bytes that spell it are read as nothing else.
use Rattle.std.proofs.Common.{◌≡◌, ℕ, ◌+◌, ◌≤◌, length, Result, Ok, Err, arith}
use Rattle.std.proofs.lemmas.List.{length-append, length-replicate}
use Rattle.ubik_calls.specs.declared.frames.Frame.{Frame}
use Rattle.ubik_calls.specs.declared.frames.FrameFault.{FrameFault}
use Rattle.ubik_calls.specs.declared.frames.FrameFault.TheVariants as fault
use Rattle.ubik_calls.specs.Fields.{spelled, field_spelling}
use Rattle.ubik_calls.specs.Laws.{IsFrame}
use Rattle.ubik_calls.specs.Reading.{Gives}
use Rattle.ubik_calls.specs.WireGrammar.{behind_length, HasSpelling}
use Rattle.base_bench.specs.LongAsk.{long_ask}

length-long_ask : (len : ℕ) → length (behind_length (long_ask len)) ≤ len + 8
unfolding spelled field_spelling
length-long_ask len = simp length-append (omega (arith, length-replicate {A = ℕ} len 120))

pub has_spelling : (len : ℕ) → len ≤ 2097140 → HasSpelling (long_ask len)
has_spelling len fits = record { bounded = (tt, (tt, (tt, tt))); bound = omega (arith, fits, length-long_ask len) }

pub is_frame : (len : ℕ) → len ≤ 2097140 → IsFrame (long_ask len)
is_frame len fits = (has_spelling len fits, (omega arith, (omega arith, (tt, tt))))

-- what is read where a frame stands
pub same_frame : (read : Result Frame FrameFault) (stands found : Frame) → Gives read (Ok stands) → read ≡ Ok found → found ≡ stands
same_frame (Ok f) stands found gives is = cc
same_frame (Err fault.NoMemory) stands found gives is = cc
same_frame (Err (fault.Xdr e)) stands found gives is = cc
same_frame (Err (fault.Kind kind)) stands found gives is = cc
same_frame (Err (fault.Version value)) stands found gives is = cc
same_frame (Err (fault.Length said have)) stands found gives is = cc
