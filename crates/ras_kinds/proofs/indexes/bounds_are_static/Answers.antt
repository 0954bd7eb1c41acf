use Rattle.std.proofs.Common.{sym, ◌∙◌}
use Rattle.ras_kinds.proofs.Axes.{bounds_each}
use Rattle.ras_kinds.proofs.indexes.bounds_are_static.Goals as goal

pub returns : goal.returns
returns c = c.each_bound.ensures ∙ sym (bounds_each c.args.axes.now)
