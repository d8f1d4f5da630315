-- What was written to a sink in memory.
use Rattle.std.specs.Prelude.{ℕ, List}
use Rattle.disk_base.specs.declared.memory_streams.MemSink.{MemSink}
use Rattle.disk_base.specs.declared.plans.Plan.{Plan}

-- the bytes of all writes that did not fail
abbrev pub written_of : MemSink → List ℕ
written_of sink = sink.bytes.items

-- which writes are to fail, and how many were made
abbrev pub plan_of : MemSink → Plan
plan_of sink = sink.plan

-- how often a write has failed
abbrev pub faults_of : MemSink → ℕ
faults_of sink = sink.faults
