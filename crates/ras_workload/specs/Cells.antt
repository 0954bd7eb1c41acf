-- The cells of the code, as those of the definitions.
use Rattle.std.specs.Prelude.{◌≡◌, true, false, List, [], Option, Some, None}
use Rattle.ras_cells.specs.declared.cell.CellType.{CellType}
use Rattle.ras_cells.specs.declared.cell.CellType.TheVariants as types
use Rattle.spec_grammar.specs.Tokens.{Text}
use Rattle.spec_workloads.specs.TypeLines.{TypedCells, cells_of_components}
use Rattle.ras_workload.specs.declared.cells.CellsForm.{CellsForm}
use Rattle.ras_workload.specs.declared.cells.CellsForm.TheVariants.{One, Many}
use Rattle.ras_workload.specs.Kept.{are_cells}

abbrev pub cells_seen : CellsForm → TypedCells
cells_seen (One atom) = record { cell = types.Atom atom; names = [] }
cells_seen (Many components) = cells_of_components components

-- they are given exactly where they are such as may be declared
abbrev pub KeptCells : TypedCells → Option (CellType × List Text) → Type 0
KeptCells cells None = are_cells cells.cell cells.names ≡ false
KeptCells cells (Some kept) = (are_cells cells.cell cells.names ≡ true) × (kept.0 ≡ cells.cell) × (kept.1 ≡ cells.names)
