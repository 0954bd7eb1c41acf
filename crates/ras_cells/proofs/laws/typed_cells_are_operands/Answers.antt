use Rattle.ras_cells.specs.declared.cell.Cell.{Cell}
use Rattle.ras_cells.specs.declared.cell.Cell.TheVariants.{Null, Value}
use Rattle.ras_cells.specs.declared.cell.CellType.{CellType}
use Rattle.ras_cells.specs.Laws.{IsCellOf}
use Rattle.ras_cells.specs.Stored.{HasWidthOf, atoms_of}
use Rattle.ras_cells.proofs.Ranges.{length-AreInRange}
use Rattle.ras_cells.proofs.laws.typed_cells_are_operands.Goals as goal

stored : (of : CellType) (a : Cell) → IsCellOf (atoms_of of) a → HasWidthOf of a
stored of Null h = tt
stored of (Value numbers) h = length-AreInRange (atoms_of of) numbers.items h

pub returns-clause-stored : goal.returns-clause-stored
returns-clause-stored c = stored
