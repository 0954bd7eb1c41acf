use Rattle.std.proofs.Common.{sym, ◌∙◌}
use Rattle.ras_kinds.proofs.Axes.{static_each}
use Rattle.ras_kinds.proofs.indexes.all_are_static.Goals as goal

pub returns : goal.returns
returns c = c.each_static.ensures ∙ sym (static_each c.args.axes.now)
