use Rattle.std.proofs.Common.{sym}
use Rattle.spec_expressions.specs.Tree.{tree_of}
use Rattle.spec_expressions.specs.Check.{tree_of_axes}
use Rattle.ras_reach.proofs.FormsSeen.{told_as_cells}
use Rattle.ras_reach.proofs.forms.index_form.Goals as goal

pub returns-in-None : goal.returns-in-None
returns-in-None c = sym (told_as_cells (tree_of c.args.whole.now) (tree_of_axes c.args.axes.now) c.in-None.ensures)
