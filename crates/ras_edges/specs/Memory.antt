-- What the objects in memory keep.
use Rattle.std.specs.Prelude.{ℕ, List, drop}
use Rattle.ras_edges.specs.declared.memory.MemorySource.{MemorySource}
use Rattle.ras_edges.specs.declared.memory.MemorySink.{MemorySink}

-- the bytes that are left
abbrev pub left_of : MemorySource → List ℕ
left_of source = drop source.at source.bytes.items

-- at most how many bytes a read gives
abbrev pub step_of : MemorySource → ℕ
step_of source = source.step

-- the bytes taken, how many of them were flushed, and how many writes failed
abbrev pub taken_of : MemorySink → List ℕ
taken_of sink = sink.bytes.items

abbrev pub flushed_of : MemorySink → ℕ
flushed_of sink = sink.flushed

abbrev pub faults_of : MemorySink → ℕ
faults_of sink = sink.faults

-- how many bytes the sink takes altogether
abbrev pub room_of : MemorySink → ℕ
room_of sink = sink.room
