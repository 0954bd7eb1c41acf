use Rattle.std.proofs.Common.{arith}
use Rattle.ras_kinds.proofs.Axes.{kept_few}
use Rattle.ras_kinds.proofs.indexes.cut_kind.Goals as goal

pub overflow_cast-kept_of : goal.overflow_cast-kept_of
overflow_cast-kept_of c = omega (arith, kept_few c.args.axes.now, c.kept_of.ensures)
