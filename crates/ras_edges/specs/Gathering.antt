-- What a sink over a writer keeps.
use Rattle.std.specs.Prelude.{ℕ, List, Option, None, drop}
use Rattle.std.specs.Io.KnownBytes.{append_known}
use Rattle.ras_edges.specs.declared.gathering.GatheringSink.{GatheringSink}

-- the bytes taken that are not written yet
abbrev pub gathered_in : {W : Type 0} → GatheringSink W → List ℕ
gathered_in sink = drop sink.written sink.gathered.items

-- the writer's bytes and then those not written yet, where the writer tells its own
abbrev pub taken_by : {W : Type 0} → (W → Option (List ℕ)) → GatheringSink W → Option (List ℕ)
taken_by contents sink = append_known (contents sink.writer) (gathered_in sink)

-- a sink over a writer counts no flushed bytes
abbrev pub flushed_by : {W : Type 0} → GatheringSink W → Option ℕ
flushed_by sink = None

-- how many writes and flushes failed
abbrev pub faults_in : {W : Type 0} → GatheringSink W → ℕ
faults_in sink = sink.faults
