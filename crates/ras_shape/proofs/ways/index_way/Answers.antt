use Rattle.std.proofs.Common.{sym}
use Rattle.spec_expressions.specs.Tree.{tree_of}
use Rattle.spec_expressions.specs.Check.{tree_of_axes}
use Rattle.ras_shape.proofs.Indexing.{way_of_other}
use Rattle.ras_shape.proofs.ways.index_way.Goals as goal

pub returns-in-None : goal.returns-in-None
returns-in-None c = sym (way_of_other (tree_of c.args.whole.now) (tree_of_axes c.args.axes.now) c.in-None.ensures)
