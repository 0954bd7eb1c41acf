use Rattle.spec_expressions.specs.Tree.{tree_of}
use Rattle.spec_expressions.specs.Check.{tree_of_axes}
use Rattle.ras_values.proofs.WaysSeen.{way_more}
use Rattle.ras_values.proofs.heads.index_way.Goals as goal

pub returns-in-Some : goal.returns-in-Some
returns-in-Some c =
    rw (rw c.in-Some.is at c.only_position.ensures)
    (c.way_between.ensures (tree_of c.in-Some.position.now) (tree_of c.args.whole.now) c.head_of.ensures c.head_of-in-Some.ensures)

pub returns-in-None : goal.returns-in-None
returns-in-None c = way_more (tree_of c.args.whole.now) (tree_of_axes c.args.axes.now) (rw c.in-None.is at c.only_position.ensures)
