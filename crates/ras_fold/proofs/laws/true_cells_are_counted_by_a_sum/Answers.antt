use Rattle.std.proofs.Common.{ap}
use Rattle.spec_expressions.specs.Fold.{wide_cell}
use Rattle.ras_fold.proofs.AnyOrder.{count-sum}
use Rattle.ras_fold.proofs.laws.true_cells_are_counted_by_a_sum.Goals as goal

pub returns : goal.returns
returns c = λ zs truth. ap wide_cell (count-sum zs truth)
