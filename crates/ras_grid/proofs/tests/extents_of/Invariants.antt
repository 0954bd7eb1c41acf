use Rattle.ras_grid.specs.Grid.{IsGrid}
use Rattle.ras_grid.proofs.tests.extents_of.Given as goal

abbrev pub invariant-loop-extent : goal.invariant-loop-extent
invariant-loop-extent g l = IsGrid l.extents.items
