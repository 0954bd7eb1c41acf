use Rattle.std.proofs.Common.{◌≡◌, ◌<◌, [], length, drop, Some}
use Rattle.std.specs.List.{slice_get}
use Rattle.ras_domain.specs.Region.{points_of}
use Rattle.ras_values.specs.Nodes.{cells_of_node}
use Rattle.ras_eval.specs.Cells.{stored_for}
use Rattle.ras_eval.proofs.CellsSoFar.{IsSoFar}
use Rattle.ras_eval.proofs.cells.cells_in.Given as goal

abbrev pub invariant-loop : goal.invariant-loop
invariant-loop g l = IsSoFar (stored_for l.purpose) (cells_of_node l.node (g.A.Arrays.members l.row) []) (points_of l.region) l.count l.width l.counter l.cells l.p.items l.scope
