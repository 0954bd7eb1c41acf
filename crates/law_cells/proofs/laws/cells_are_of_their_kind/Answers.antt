use Rattle.law_cells.proofs.CellKinds.{tree-typed}
use Rattle.law_cells.proofs.laws.cells_are_of_their_kind.Goals as goal

pub returns : goal.returns
returns c = λ sources variables scope tree shape p cell typed members small. tree-typed sources variables scope tree members small typed shape p cell
