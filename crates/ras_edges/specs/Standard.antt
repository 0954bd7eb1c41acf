-- What standard input keeps.
use Rattle.std.specs.Prelude.{ℕ}
use Rattle.ras_edges.specs.declared.standard.StdSource.{StdSource}

-- what gives the bytes, and how many reads of it failed
abbrev pub reader_of : {R T : Type 0} → StdSource R T → T
reader_of source = source.reader

abbrev pub failed_inputs : {R T : Type 0} → StdSource R T → ℕ
failed_inputs source = source.faults
