-- What a source in memory has left, and how its reads end.
use Rattle.std.specs.Prelude.{ℕ, List, length, drop, min, ◌==◌, if◌then◌else◌}
use Rattle.disk_base.specs.declared.memory_streams.MemSource.{MemSource}
use Rattle.disk_base.specs.declared.sources.Got.{Got}
use Rattle.disk_base.specs.declared.sources.Got.TheVariants.{Bytes, End, Failed}
use Rattle.disk_base.specs.declared.plans.Plan.{Plan}
use Rattle.disk_base.specs.Plan.{fails_next}

-- the bytes that are left to read
abbrev pub left_of : MemSource → List ℕ
left_of source = drop source.at source.bytes.items

-- which reads are to fail, and how many were made
abbrev pub plan_of : MemSource → Plan
plan_of source = source.plan

-- how often a read has failed
abbrev pub faults_of : MemSource → ℕ
faults_of source = source.faults

-- how the next read ends, into a buffer of so many bytes
abbrev pub read_end : MemSource → ℕ → Got
read_end source room =
    if fails_next (plan_of source) then Failed
    else (if length (left_of source) == 0 then End else Bytes (min (length (left_of source)) room))
