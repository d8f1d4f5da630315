-- What a source over a reader and a sink over a writer hold.
use Rattle.std.specs.Prelude.{ℕ}
use Rattle.disk_base.specs.declared.adapters.ReaderSource.{ReaderSource}
use Rattle.disk_base.specs.declared.adapters.WriterSink.{WriterSink}

-- how often a read has failed
abbrev pub reader_faults : {R : Type 0} → ReaderSource R → ℕ
reader_faults source = source.faults

-- what the source reads from
abbrev pub reader_of : {R : Type 0} → ReaderSource R → R
reader_of source = source.reader

-- how often a write has failed
abbrev pub writer_faults : {W : Type 0} → WriterSink W → ℕ
writer_faults sink = sink.faults

-- what the sink writes to
abbrev pub writer_of : {W : Type 0} → WriterSink W → W
writer_of sink = sink.writer
