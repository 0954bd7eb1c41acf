-- What the objects that fail at listed calls keep. Calls are counted from 1.
use Rattle.std.specs.Prelude.{ℕ, List}
use Rattle.ras_edges.specs.declared.failing.FailingSource.{FailingSource}
use Rattle.ras_edges.specs.declared.failing.FailingSink.{FailingSink}
use Rattle.ras_edges.specs.declared.memory.MemorySource.{MemorySource}
use Rattle.ras_edges.specs.declared.memory.MemorySink.{MemorySink}

-- the source that answers where no fault is listed, the reads made, those that fail, and how many failed
abbrev pub source_of : FailingSource → MemorySource
source_of source = source.inner

abbrev pub reads_made : FailingSource → ℕ
reads_made source = source.calls.made

abbrev pub failing_reads : FailingSource → List ℕ
failing_reads source = source.calls.failing.items

abbrev pub failed_reads : FailingSource → ℕ
failed_reads source = source.calls.failed

-- the same of a sink, whose writes and flushes are counted together
abbrev pub sink_of : FailingSink → MemorySink
sink_of sink = sink.inner

abbrev pub calls_made : FailingSink → ℕ
calls_made sink = sink.calls.made

abbrev pub failing_calls : FailingSink → List ℕ
failing_calls sink = sink.calls.failing.items

abbrev pub failed_calls : FailingSink → ℕ
failed_calls sink = sink.calls.failed
